use Rattle.std.proofs.Common.{◌≡◌, ◌∙◌, sym, ap, ℕ, ◌+◌, ◌-◌, ◌*◌, ◌/◌, ◌%◌, ◌^◌, ◌<◌, arith}
use Rattle.cbm_track.proofs.Bytes.{bit_in}
use Rattle.cbm_track.proofs.Crossing.{alone}
use Rattle.cbm_track.proofs.Spliced.{front_of, front_worked, front_fits, front_kept, front_new}
use Rattle.cbm_track.proofs.stretches.begun.Goals as goal

worked : (x b s k : ℕ) → x < 256 → s < 8 → k < 8 → bit_in (x / 2 ^ (8 - s) * 2 ^ (8 - s) % 4294967296 + b / 2 ^ s) k ≡ bit_in (front_of x b s) k
worked x b s k q l h = ap (λ (n : ℕ). bit_in n k) (front_worked x b s q l)

pub overflow_cast-result-6 : goal.overflow_cast-result-6
overflow_cast-result-6 c = record { fits = omega (arith, front_worked c.args.old c.args.byte c.args.bit (omega arith) c.requires, front_fits c.args.old c.args.byte c.args.bit (omega arith) (omega arith) c.requires) }

pub returns-clause-kept : goal.returns-clause-kept
returns-clause-kept c = λ k l.
    let h : k < 8 = omega (arith, c.requires) in
    alone _ k h
    ∙ worked c.args.old c.args.byte c.args.bit k (omega arith) c.requires h
    ∙ front_kept c.args.old c.args.byte c.args.bit k (omega arith) c.requires h l
    ∙ sym (alone c.args.old k h)

pub returns-clause-written : goal.returns-clause-written
returns-clause-written c = λ k l h.
    alone _ k h
    ∙ worked c.args.old c.args.byte c.args.bit k (omega arith) c.requires h
    ∙ front_new c.args.old c.args.byte c.args.bit k (omega arith) c.requires h l
    ∙ sym (alone c.args.byte (k - c.args.bit) (omega arith))
