use Rattle.std.proofs.Common.{◌∙◌, sym, ap, ◌/◌, ◌%◌, ◌-◌, get_or, ℕ}
use Rattle.std.specs.Prelude.{◌==◌}
use Rattle.std.proofs.lemmas.Nat.Bits.{shr_and_one}
use Rattle.cbm_track.proofs.Bytes.{bit_at_place}
use Rattle.cbm_track.proofs.bits.bit_of.Goals as goal

pub returns : goal.returns
returns c = ap (λ (n : ℕ). n == 1) (shr_and_one (get_or c.args.bytes.now (c.args.place / 8) 0) (7 - c.args.place % 8)) ∙ sym (bit_at_place c.args.bytes.now c.args.place c.requires)
