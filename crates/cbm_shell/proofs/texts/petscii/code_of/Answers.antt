use Rattle.std.proofs.Common.{◌+◌, ◌-◌, sym, ap, ◌∙◌, arith}
use Rattle.cbm_shell.specs.Petscii.{code_from}
use Rattle.cbm_shell.proofs.KeyLemmas.{code_from-none, code_from-here, code_from-later}
use Rattle.cbm_shell.proofs.texts.petscii.code_of.Goals as goal

pub loop-number-preserved : goal.loop-number-preserved
loop-number-preserved c =
    sym (code_from-later c.args.charset c.typed-key.result (256 - c.loop-number.number) (256 - (c.loop-number.number + 1)) c.loop-number.number (omega arith)
    (λ e. c.if-key_of-key.false (c.key_of.ensures ∙ e))) ∙ c.loop-number.invariant

pub returns-then-key_of-key : goal.returns-then-key_of-key
returns-then-key_of-key c =
    sym (code_from-here c.args.charset c.typed-key.result (256 - c.loop-number.number) (256 - (c.loop-number.number + 1)) c.loop-number.number (omega arith)
    (sym c.key_of.ensures ∙ c.if-key_of-key.true)) ∙ (c.loop-number.invariant ∙ ap (λ key. code_from c.args.charset key 256 0) c.typed-key.ensures)

pub returns : goal.returns
returns c =
    sym (code_from-none c.args.charset c.typed-key.result (256 - c.loop-number.number) c.loop-number.number (omega arith))
    ∙ (c.loop-number.invariant ∙ ap (λ key. code_from c.args.charset key 256 0) c.typed-key.ensures)
