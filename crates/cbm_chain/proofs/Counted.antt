-- The bytes of a chain are counted: nothing is left to be counted at its end.
use Rattle.std.proofs.Common.{◌≡◌, ℕ, ◌+◌, length, arith, [], None, sym, ap, ◌∙◌}
use Rattle.cbm_medium.specs.Place.{Place}
use Rattle.cbm_medium.specs.Content.{Content}
use Rattle.cbm_medium.proofs.Walks.{follow_end}
use Rattle.cbm_chain.specs.Reading.{RestOfFile, held_in, held_from}

held_end : (tracks : ℕ) (c : Content) (left : ℕ) (at : Place) → at.track ≡ 0 → held_from tracks c left at ≡ (record { bytes = []; trouble = None })
unfolding held_from
held_end tracks c left at z = ap (held_in c) (follow_end tracks c left at z)

pub all_counted : (tracks : ℕ) (c : Content) (left count : ℕ) (at : Place) (whole : RestOfFile) → at.track ≡ 0 → count + length (held_from tracks c left at).bytes ≡ length whole.bytes → count ≡ length whole.bytes
all_counted tracks c left count at whole z e = omega (arith, e, ap (λ (r : RestOfFile). length r.bytes) (held_end tracks c left at z))

pub none_broken : (tracks : ℕ) (c : Content) (left : ℕ) (at : Place) (whole : RestOfFile) → at.track ≡ 0 → (held_from tracks c left at).trouble ≡ whole.trouble → whole.trouble ≡ None
none_broken tracks c left at whole z e = sym e ∙ ap (λ (r : RestOfFile). r.trouble) (held_end tracks c left at z)
