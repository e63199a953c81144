-- A run on a protected disk: the machine's disk after it is the one before.
use Rattle.std.proofs.Common.{◌≡◌, ℕ, zero, suc, Bool, true, false, List, [], ◌∷◌, ◌++◌, length, replicate, if◌then◌else◌, Option, Some, None, refl, sym, subst}
use Rattle.cbm_medium.specs.Content.{Content}
use Rattle.cbm_volume.specs.Holding.{HoldsDisk}
use Rattle.cbm_file.specs.Files.{Disk}
use Rattle.cbm_iec.specs.declared.machine.Act.{Act}
use Rattle.cbm_iec.specs.declared.machine.Act.TheVariants.{Pulled, Attention, Released, Heard, Said, Silent}
use Rattle.cbm_iec.specs.declared.pace.Pace.{Pace}
use Rattle.cbm_iec.specs.declared.pace.Pace.TheVariants.{Profile, Kernal}
use Rattle.cbm_iec.specs.declared.party.Party.{Party}
use Rattle.cbm_iec.specs.declared.party.Role.{Role}
use Rattle.cbm_iec.specs.declared.party.Role.TheVariants.{Absent, Listener, Talker}
use Rattle.cbm_machine.specs.Statuses.{status_line}
use Rattle.cbm_machine.specs.Talking.{peek, after_talk, taken}
use Rattle.cbm_drive.specs.Addressing.{secondary_of, channel_heard, channel_said, channel_ended}
use Rattle.cbm_drive.specs.Desks.{Desk, talked_to, listened_to, seconded, ending, put_to, taken_from, desk_step, desk_says}
use Rattle.cbm_machine.specs.Machines.{Machine}
use Rattle.cbm_drive.specs.declared.addressee.ended.Ended.{Ended}
use Rattle.cbm_drive.specs.declared.addressee.ended.Ended.TheVariants.{Name, Bytes}
use Rattle.cbm_drive.specs.declared.secondary.Secondary.{Secondary}
use Rattle.cbm_drive.specs.declared.secondary.Secondary.TheVariants.{Data, Close, Open}
use Rattle.cbm_talk.specs.Talks.{puts, says, TalkSaid}
use Rattle.cbm_host.specs.Served.{heard_at}
use Rattle.cbm_program.proofs.Along.{kept_along}
use Rattle.cbm_program.proofs.Guarded.{IsGuarded, guarded_start, if_both, closes, takes, talks, talks_keeping, listens, listens_keeping, puts_one, opens, ends_put}
use Rattle.cbm_program.specs.Outcome.{IsScriptServed}
use Rattle.cbm_program.proofs.TraceLemmas.{Left}
use Rattle.cbm_program.specs.Starts.{StartsOn}
use Rattle.cbm_program.specs.Running.{script_of}
use Rattle.cbm_program.specs.Scripts.{printed, printed_by}
use Rattle.cbm_program.specs.declared.request.ScriptRequest as asks
use Rattle.cbm_program.specs.declared.request.ScriptRequest.TheVariants as request

-- where a disk may be written, and where it may not
pub by_protection : {A : Type 0} (b : Bool) → (b ≡ false → A) → (b ≡ true → A) → A
by_protection true h k = k refl
by_protection false h k = h refl

module _ (d : Disk) where
  -- ---- requests

  puts_all : (ch : ℕ) (bytes : List ℕ) (m : Machine) → IsGuarded d m → IsGuarded d (puts ch bytes m)
  puts_all ch [] m g = g
  puts_all ch (b ∷ bytes) m g = puts_all ch bytes _ (puts_one d ch b m g)

  listens_at : (pace : Pace) (ch : ℕ) (m : Machine) → IsGuarded d m → IsGuarded d (listened_to pace ch m)
  listens_at Profile ch m g = listens d ch m g
  listens_at Kernal ch m g = listens_keeping d ch m g

  hears : (pace : Pace) (ch : ℕ) (bytes : List ℕ) (m : Machine) → IsGuarded d m → IsGuarded d (heard_at pace ch bytes m)
  hears pace ch bytes m g = ends_put d ch _ (puts_all ch bytes _ (listens_at pace ch m g))

  talks_at : (pace : Pace) (ch : ℕ) (m : Machine) → IsGuarded d m → IsGuarded d (talked_to pace ch m)
  talks_at Profile ch m g = talks d ch m g
  talks_at Kernal ch m g = talks_keeping d ch m g

  abbrev said_by : ℕ → ℕ → List ℕ → Machine → Option (ℕ × Bool) → TalkSaid
  said_by n ch so_far m None = record { bytes = so_far; marked = false; machine = m }
  said_by n ch so_far m (Some p) =
      if p.1 then record { bytes = so_far ++ p.0 ∷ []; marked = true; machine = taken ch m }
      else says n ch (so_far ++ p.0 ∷ []) (taken ch m)

  says_all : (n ch : ℕ) (so_far : List ℕ) (m : Machine) → IsGuarded d m → IsGuarded d (says n ch so_far m).machine
  says_all zero ch so_far m g = g
  says_all (suc n) ch so_far m g = by (peek ch m) (λ bytes. says_all n ch bytes (taken ch m) (takes d ch m g))
    where
      by : (o : Option (ℕ × Bool)) → ((bytes : List ℕ) → IsGuarded d (says n ch bytes (taken ch m)).machine) → IsGuarded d (said_by n ch so_far m o).machine
      by None on = g
      by (Some p) on = if_both (λ (s : TalkSaid). IsGuarded d s.machine) p.1 (record { bytes = so_far ++ p.0 ∷ []; marked = true; machine = taken ch m }) (says n ch (so_far ++ p.0 ∷ []) (taken ch m)) (takes d ch m g) (on (so_far ++ p.0 ∷ []))

  one : (pace : Pace) (r : asks.ScriptRequest) (m : Machine) → IsGuarded d m → IsGuarded d (printed_by pace r m).machine
  one pace (request.Open ch text) m g = opens d ch text.items m g
  one pace (request.Put ch text) m g = hears pace ch text.items m g
  one pace (request.Fill ch n b) m g = hears pace ch (replicate n b) m g
  one pace (request.Get ch most) m g = says_all most ch [] (talked_to pace ch m) (talks_at pace ch m g)
  one pace (request.Close ch) m g = closes d ch m g
  one pace request.Status m g = says_all (length (status_line m.status)) 15 [] (after_talk 15 m) (talks d 15 m g)

  all : (pace : Pace) (rs : List asks.ScriptRequest) (m : Machine) → IsGuarded d m → IsGuarded d (printed pace rs m).machine
  all pace [] m g = g
  all pace (r ∷ rs) m g = all pace rs (printed_by pace r m).machine (one pace r m g)

  -- ---- acts of the bus

  ends : (e : Option Ended) (name : List ℕ) (m : Machine) → IsGuarded d m → IsGuarded d (ending e name m)
  ends None name m g = g
  ends (Some (Name ch)) name m g = opens d ch name m g
  ends (Some (Bytes ch)) name m g = ends_put d ch m g

  seconds : (pace : Pace) (s : Option Secondary) (role : Role) (m : Machine) → IsGuarded d m → IsGuarded d (seconded pace s role m)
  seconds pace None role m g = g
  seconds pace (Some (Data ch)) Absent m g = g
  seconds pace (Some (Data ch)) Listener m g = listens_at pace ch m g
  seconds pace (Some (Data ch)) Talker m g = talks_at pace ch m g
  seconds pace (Some (Close ch)) Absent m g = g
  seconds pace (Some (Close ch)) Listener m g = closes d ch m g
  seconds pace (Some (Close ch)) Talker m g = g
  seconds pace (Some (Open ch)) role m g = g

  heard_on : (naming : Bool) (o : Option ℕ) (b : ℕ) (m : Machine) → IsGuarded d m → IsGuarded d (put_to naming o b m)
  heard_on true o b m g = g
  heard_on false None b m g = g
  heard_on false (Some ch) b m g = puts_one d ch b m g

  said_on : (o : Option ℕ) (m : Machine) → IsGuarded d m → IsGuarded d (taken_from o m)
  said_on None m g = g
  said_on (Some ch) m g = takes d ch m g

  steps : (k : Desk Machine) (act : Act) → IsGuarded d k.dos → IsGuarded d (desk_step k act).dos
  steps k Pulled g = ends (channel_ended k.addressed) k.addressed.name k.dos g
  steps k (Attention byte) g = seconds k.addressed.pace (secondary_of byte) k.addressed.role k.dos g
  steps k Released g = g
  steps k (Heard byte eoi) g = heard_on k.addressed.naming (channel_heard k.addressed.role k.addressed.channel) byte k.dos g
  steps k (Said byte last) g = said_on (channel_said k.addressed.role k.addressed.channel) k.dos g
  steps k Silent g = g

-- ---- from power up

module _ (tracks : ℕ) (content : Content) (protected : Bool) (is : protected ≡ true) where
  starts : (m : Machine) (s : StartsOn tracks content protected m) → IsGuarded s.0 m
  starts m s = subst (λ (x : Machine). IsGuarded s.0 x) (sym s.2) (guarded_start s.0 protected tracks is)

  holds : (m n : Machine) (s : StartsOn tracks content protected m) → IsGuarded s.0 n → HoldsDisk tracks content n.disk
  holds m n s g = subst (λ (x : Disk). HoldsDisk tracks content x) (sym g.1) s.1

  -- what was held before, is held after the script
  pub kept-afterwards : (pace : Pace) (checks : Bool) (a b x : Option (List ℕ)) (now : Machine → Type 0) → IsScriptServed pace checks x a b (StartsOn tracks content protected) now
      → IsScriptServed pace checks x a b (StartsOn tracks content protected) (λ m. HoldsDisk tracks content m.disk)
  kept-afterwards pace checks a b None now h = tt
  kept-afterwards pace checks a b (Some xs) now h = λ m s. ((h m s).0, holds m (printed pace (script_of xs).requests m).machine s (all s.0 pace (script_of xs).requests m (starts m s)))

  pub kept-trace : (text : List ℕ) (a b x : Option (List ℕ)) (now : Machine → Type 0) (drive : Party) → Left text a b x (StartsOn tracks content protected) now drive
      → Left text a b x (StartsOn tracks content protected) (λ m. HoldsDisk tracks content m.disk) drive
  kept-trace text a b None now drive h = tt
  kept-trace text a b (Some xs) now drive h = λ m s. (let r = h m s in (
    r.0,
    r.1,
    r.2,
    r.3,
    holds m r.1.machine.dos s (kept_along (Desk Machine) desk_step desk_says (λ (k : Desk Machine). IsGuarded s.0 k.dos) (steps s.0) r.2.plays (starts m s, tt)).0,
  ))
