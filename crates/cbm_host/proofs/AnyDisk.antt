-- A machine that plays back what a drive showed: it stands for a drive at rest, and its requests are short where their bounds are.
use Rattle.std.proofs.Common.{ℕ, ◌<◌, false, List, [], ◌∷◌, None, refl, arith}
use Rattle.std.specs.Prelude.{IfSome}
use Rattle.std.specs.List.{AllZip}
use Rattle.cbm_drive.specs.Cables.{Cabled}
use Rattle.cbm_drive.specs.Seats.{Seated, IsSeat, IsBusAt, wires_held_by}
use Rattle.cbm_host.specs.AnyDisk.{IsAtRestAnyway}
use Rattle.cbm_host.specs.CarriedOut.{IsShort}
use Rattle.cbm_drive.specs.Playback.{Shown, Playback, played_says, played_step, IsPlayedBack}
use Rattle.cbm_host.specs.Served.{IsModest}
use Rattle.cbm_host.specs.declared.request.Request.{Request}
use Rattle.cbm_host.specs.declared.request.Request.TheVariants.{Open, Put, Fill, Get, Close, Status}
use Rattle.cbm_iec.specs.declared.party.Party.{Party}
use Rattle.cbm_session.specs.Playing.{at_rest}

module _ {D : Type 0} (shows : D → Shown) (b : Party) where
  -- A machine plays back what it shows, and then this.
  pub rest_played : (bus : Cabled D) (trail : List Shown) → IsAtRestAnyway shows b bus → (p : Playback) × IsBusAt D Playback (IsPlayedBack shows trail) bus.host bus.drives (at_rest Playback played_step played_says (λ d. p) (b ∷ []))
  rest_played bus trail k = by_drives bus.drives k
    where
      by_drives : (xs : List (Seated D)) → AllZip (IsSeat D (Unit {0}) (λ x u. IfSome (shows x) (λ s. s.0 < 256)) (wires_held_by bus.host bus.drives)) xs (at_rest (Unit {0}) (λ u act. u) (λ u. None) (λ d. tt) (b ∷ []))
          → (p : Playback) × AllZip (IsSeat D Playback (IsPlayedBack shows trail) (wires_held_by bus.host bus.drives)) xs (at_rest Playback played_step played_says (λ d. p) (b ∷ []))
      by_drives [] k = elim k [ ]
      by_drives (x ∷ y ∷ xs) k = elim k.1 [ ]
      by_drives (x ∷ []) k = (
        record { shown = shows x.machine ∷ trail; owed = false },
        (record { port = k.0.port; machine = record { shown = refl; owed = λ e. absurd cc; byte = k.0.machine }; rest = k.0.rest }, tt),
      )

  -- What a machine plays back shows a byte, or nothing to say.
  pub rests_again : (bus : Cabled D) (trail : List Shown) (p : Playback) → IsBusAt D Playback (IsPlayedBack shows trail) bus.host bus.drives (at_rest Playback played_step played_says (λ d. p) (b ∷ [])) → IsAtRestAnyway shows b bus
  rests_again bus trail p k = by_drives bus.drives k
    where
      by_drives : (xs : List (Seated D)) → AllZip (IsSeat D Playback (IsPlayedBack shows trail) (wires_held_by bus.host bus.drives)) xs (at_rest Playback played_step played_says (λ d. p) (b ∷ []))
          → AllZip (IsSeat D (Unit {0}) (λ x u. IfSome (shows x) (λ s. s.0 < 256)) (wires_held_by bus.host bus.drives)) xs (at_rest (Unit {0}) (λ u act. u) (λ u. None) (λ d. tt) (b ∷ []))
      by_drives [] k = elim k [ ]
      by_drives (x ∷ y ∷ xs) k = elim k.1 [ ]
      by_drives (x ∷ []) k = (record { port = k.0.port; machine = k.0.machine.byte; rest = k.0.rest }, tt)

-- Its requests are short where their bounds are.
pub is_short : (d : ℕ) (p : Playback) (request : Request) → IsModest request → IsShort Playback played_step played_says d p request
is_short d p (Get channel most) h = (h.0, λ bytes says less. (let few = h.1 in omega (arith, few, less)))
is_short d p Status h = (omega arith, λ bytes says less. less)
is_short d p (Open channel text) h = h
is_short d p (Put channel bytes) h = h
is_short d p (Fill channel count byte) h = h
is_short d p (Close channel) h = h
