-- What a desk does stands for what its machine does.
use Rattle.std.proofs.Common.{◌≡◌, ◌<◌, ℕ, Bool, true, false, Option, Some, None, IfSome, refl, sym, subst, ap, ◌∙◌}
use Rattle.std.specs.Prelude.{IsSome}
use Rattle.cbm_medium.specs.Seen.{Seen}
use Rattle.cbm_machine.specs.Machines.{Machine}
use Rattle.cbm_channel.specs.Shown.{shown_by}
use Rattle.cbm_channel.specs.Standing.{Kept, Stands, Leads}
use Rattle.cbm_iec.specs.Machines.{owes}
use Rattle.cbm_iec.specs.declared.machine.Act.TheVariants.{Pulled, Attention, Released, Heard, Said, Silent}
use Rattle.cbm_iec.specs.declared.machine.Act.{Act}
use Rattle.cbm_drive.specs.Addressing.{addressed_after}
use Rattle.cbm_drive.specs.Desks.{Desk, desk_asked, desk_step, desk_says, shown_from, IsAlike, DeskStands}

-- what is owed is another byte, after one that isn't the last
pub owes_next : (act : Act) (shown : Option (ℕ × Bool)) → owes act shown ≡ true → (n : ℕ) × (shown ≡ Some (n, false))
owes_next (Said byte true) shown e = absurd cc
owes_next (Said byte false) None e = absurd cc
owes_next (Said byte false) (Some (n, true)) e = absurd cc
owes_next (Said byte false) (Some (n, false)) e = (n, refl)
owes_next Pulled shown e = absurd cc
owes_next (Attention byte) shown e = absurd cc
owes_next Released shown e = absurd cc
owes_next (Heard byte eoi) shown e = absurd cc
owes_next Silent shown e = absurd cc

-- a talker's channel has another byte, so its desk does
pub next_from : {M : Type 0} (o : Option ℕ) (ch n : ℕ) (k now : Kept M) → Some ch ≡ o → ((m : ℕ) → shown_by ch k ≡ Some (m, false) → IsSome (shown_by ch now)) → shown_from o k ≡ Some (n, false) → IsSome (shown_from o now)
next_from o ch n k now is more e = subst (λ (p : Option ℕ). IsSome (shown_from p now)) is (more n (subst (λ (p : Option ℕ). shown_from p k ≡ Some (n, false)) (sym is) e))

-- no channel is talked from, and nothing is shown
pub none_from : {M : Type 0} (o : Option ℕ) (n : ℕ) (k : Kept M) (P : Type 0) → None ≡ o → shown_from o k ≡ Some (n, false) → P
none_from o n k P is e = absurd (let z = subst (λ (p : Option ℕ). shown_from p k ≡ Some (n, false)) (sym is) e in cc)

module _ {M : Type 0} (seen : M → Seen) (old new : Desk (Kept M)) (act : Act) where
  -- a call for an act leads to the desk's next state
  pub alike_after : Leads seen old.dos new.dos (desk_asked act old.addressed) → new.addressed ≡ addressed_after act old.addressed
      → (d : Desk Machine) → IsAlike seen old d → IsAlike seen new (desk_step d act)
  alike_after leads e d (stands, same) = (
    subst (λ a. Stands seen new.dos (desk_asked act a d.dos)) (sym same) (leads d.dos stands),
    ap (addressed_after act) same ∙ sym e,
  )

  -- and stands for it, where what it shows then are bytes
  pub stands_after : (shown : Option (ℕ × Bool)) → Leads seen old.dos new.dos (desk_asked act old.addressed) → new.addressed ≡ addressed_after act old.addressed
      → ((d : Desk Machine) → IsAlike seen new d → shown ≡ desk_says d) → IfSome shown (λ s. s.0 < 256)
      → (d : Desk Machine) → DeskStands seen old d → DeskStands seen new (desk_step d act)
  stands_after shown leads e says byte d stood =
      let alike = alike_after leads e d stood.0 in
      (alike, subst (λ (s : Option (ℕ × Bool)). IfSome s (λ x. x.0 < 256)) (says (desk_step d act) alike) byte)
