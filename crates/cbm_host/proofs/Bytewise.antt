-- A machine that has nothing but bytes to say: where it would say something else it says a last byte, 0 or 1. On a bus at work nobody can tell, as what is shown
-- there are bytes.
use Rattle.std.proofs.Common.{◌≡◌, ◌<◌, ℕ, suc, inl, inr, Bool, true, false, List, [], ◌∷◌, ◌++◌, map, Option, Some, None, refl, sym, ap, ◌∙◌, subst, arith}
use Rattle.std.proofs.lemmas.Bool.Decides.{leb_tells}
use Rattle.std.specs.Prelude.{if◌then◌else◌, nat_le}
use Rattle.cbm_iec.specs.Machines.{acted}
use Rattle.cbm_iec.specs.Ports.{reacted, reaction_act, reaction_changes}
use Rattle.cbm_iec.specs.declared.machine.Act.TheVariants.{Said}
use Rattle.cbm_iec.specs.declared.machine.Act.{Act}
use Rattle.cbm_iec.specs.declared.event.Event.{Event}
use Rattle.cbm_session.specs.Playing.{Station, drive_events, hear_all, IsByte, AllBytes, Plays, stays, change, reaction, IsMachine}

-- the byte that stands for what is no byte
abbrev pub stand_in : Bool → ℕ
stand_in true = 1
stand_in false = 0

small_one : (v : Bool) → stand_in v < 256
small_one true = omega arith
small_one false = omega arith

module _ (M : Type 0) (step : M → Act → M) (says : M → Option (ℕ × Bool)) (one : Bool) where
  abbrev pub as_byte : Option (ℕ × Bool) → Option (ℕ × Bool)
  as_byte None = None
  as_byte (Some x) = if nat_le 256 x.0 then Some (stand_in one, true) else Some x

  abbrev pub bytewise : M → Option (ℕ × Bool)
  bytewise m = as_byte (says m)

  pub byte_stays : (o : Option (ℕ × Bool)) → IsByte M step says o → as_byte o ≡ o
  byte_stays None h = refl
  byte_stays (Some x) h = elim (leb_tells 256 x.0) [
    | inl e ↦ (let late = e.1 in absurd (omega (arith, late, h)))
    | inr e ↦ ap (λ (v : Bool). if v then Some (stand_in one, true) else Some x) e.0
  ]

  pub are_bytes : (o : Option (ℕ × Bool)) → IsByte M step bytewise (as_byte o)
  are_bytes None = tt
  are_bytes (Some x) = elim (leb_tells 256 x.0) [
    | inl e ↦ subst (λ (v : Bool). IsByte M step bytewise (if v then Some (stand_in one, true) else Some x)) (sym e.0) (small_one one)
    | inr e ↦ subst (λ (v : Bool). IsByte M step bytewise (if v then Some (stand_in one, true) else Some x)) (sym e.0) (let few = e.1 in omega (arith, few))
  ]

  abbrev last_one : Option (ℕ × Bool) → Bool
  last_one None = true
  last_one (Some x) = x.1

  -- a byte that isn't its last is what the machine has to say
  pub byte_said : (o : Option (ℕ × Bool)) (n : ℕ) → as_byte o ≡ Some (n, false) → o ≡ Some (n, false)
  byte_said None n e = absurd cc
  byte_said (Some x) n e = elim (leb_tells 256 x.0) [
    | inl k ↦ never k.0 e
    | inr k ↦ sym (ap (λ (v : Bool). if v then Some (stand_in one, true) else Some x) k.0) ∙ e
  ]
    where
      never : {P : Type 0} → nat_le 256 x.0 ≡ true → (if nat_le 256 x.0 then Some (stand_in one, true) else Some x) ≡ Some (n, false) → P
      never k e = let same : true ≡ false = ap last_one (sym (ap (λ (v : Bool). if v then Some (stand_in one, true) else Some x) k) ∙ e) in absurd cc

  pub some_byte : (o : Option (ℕ × Bool)) (x : ℕ × Bool) → o ≡ Some x → (y : ℕ × Bool) × (as_byte o ≡ Some y)
  some_byte o x e = elim (leb_tells 256 x.0) [
    | inl k ↦ ((stand_in one, true), ap as_byte e ∙ ap (λ (v : Bool). if v then Some (stand_in one, true) else Some x) k.0)
    | inr k ↦ (x, ap as_byte e ∙ ap (λ (v : Bool). if v then Some (stand_in one, true) else Some x) k.0)
  ]

  pub byte_machine : IsMachine M step says → IsMachine M step bytewise
  byte_machine h = record { more = λ m n e. let k = h.more m n (byte_said (says m) n e) in some_byte (says (step m (Said n false))) k.0 k.1 }

  pub all_bytes : (ss : List (Station M)) → AllBytes M step bytewise ss
  all_bytes [] = tt
  all_bytes (s ∷ ss) = (are_bytes (says s.machine), all_bytes ss)

  byte_of : (before : List (Station M)) (o : Station M) (afterwards : List (Station M)) → AllBytes M step says (before ++ o ∷ afterwards) → IsByte M step says (says o.machine)
  byte_of [] o afterwards h = h.0
  byte_of (x ∷ before) o afterwards h = byte_of before o afterwards h.1

  -- what drives show and become, by what there is to say
  abbrev reacting_by : Option (ℕ × Bool) → ℕ → List (Station M) → Station M → List (Station M) → List (Station M)
  reacting_by peek t before o afterwards =
      map (λ s. hear_all M step says (reaction_changes t peek o.port) s) before ++ (record { port = reacted t peek o.port; rest = o.rest; machine = acted M step (reaction_act peek o.port) o.machine }) ∷ map (λ s. hear_all M step says (reaction_changes t peek o.port) s) afterwards

  -- a play of the one is a play of the other
  pub plays_bytes : {n n2 : ℕ} {ss ss2 : List (Station M)} {es : List Event} → Plays M step says n ss es n2 ss2 → Plays M step bytewise n ss es n2 ss2
  plays_bytes {ss} (stays y e k f) = stays (all_bytes ss) e k f
  plays_bytes {ss} (change c more y l i e p) = change c more (all_bytes ss) l i e (plays_bytes p)
  plays_bytes {n} {n2} {ss} {ss2} (reaction t before o afterwards more y u f e p) =
      let same : says o.machine ≡ bytewise o.machine = sym (byte_stays (says o.machine) (byte_of before o afterwards (subst (λ (v : List (Station M)). AllBytes M step says v) u y))) in
      reaction t before o afterwards more (all_bytes ss) u (record { due = f.due; later = f.later; in_time = f.in_time }) (e ∙ ap (λ (k : Option (ℕ × Bool)). drive_events o.port.party.device (reaction_changes t k o.port) ++ more) same)
      (subst (λ (k : Option (ℕ × Bool)). Plays M step bytewise (suc t) (reacting_by k t before o afterwards) more n2 ss2) same (plays_bytes p))
