use Rattle.std.proofs.Common.{◌≡◌, ◌∙◌, sym, ap, ℕ, ◌+◌, ◌-◌, ◌*◌, ◌%◌, ◌^◌, ◌<◌, arith}
use Rattle.cbm_track.proofs.Bytes.{bit_in}
use Rattle.cbm_track.proofs.Crossing.{alone}
use Rattle.cbm_track.proofs.Spliced.{back_of, back_worked, back_fits, back_kept, back_new}
use Rattle.cbm_track.proofs.stretches.ended.Goals as goal

worked : (y b s k : ℕ) → b < 256 → s < 8 → bit_in (b * 2 ^ (8 - s) % 4294967296 % 256 + y % (1 * 2 ^ (8 - s) % 4294967296)) k ≡ bit_in (back_of y b s) k
worked y b s k q l = ap (λ (n : ℕ). bit_in n k) (back_worked y b s q l)

pub overflow_cast-result-5 : goal.overflow_cast-result-5
overflow_cast-result-5 c = record { fits = omega (arith, back_worked c.args.old c.args.byte c.args.left (omega arith) c.requires, back_fits c.args.old c.args.byte c.args.left c.requires) }

pub returns-clause-written : goal.returns-clause-written
returns-clause-written c = λ k l.
    let h : k < 8 = omega (arith, c.requires) in
    alone _ k h
    ∙ worked c.args.old c.args.byte c.args.left k (omega arith) c.requires
    ∙ back_new c.args.old c.args.byte c.args.left k (omega arith) c.requires h l
    ∙ sym (alone c.args.byte (8 - c.args.left + k) (omega arith))

pub returns-clause-kept : goal.returns-clause-kept
returns-clause-kept c = λ k l h.
    alone _ k h
    ∙ worked c.args.old c.args.byte c.args.left k (omega arith) c.requires
    ∙ back_kept c.args.old c.args.byte c.args.left k (omega arith) c.requires h l
    ∙ sym (alone c.args.old k h)
