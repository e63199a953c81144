use Rattle.std.proofs.Common.{◌≡◌, rules}
use Rattle.cbm_command.specs.Texts.{after_byte}
use Rattle.cbm_command.proofs.Parts.{after_short, after_shorter}
use Rattle.cbm_command.proofs.text.after_the_first.Goals as goal

pub returns-then-first-byte-clause-short : goal.returns-then-first-byte-clause-short
returns-then-first-byte-clause-short c =
    let e : c.in-Some.more.now ≡ after_byte c.args.byte c.args.text.now = search rules in
    rw e (after_short _ _)

pub returns-then-first-byte-clause-shorter : goal.returns-then-first-byte-clause-shorter
returns-then-first-byte-clause-shorter c =
    let e : c.in-Some.more.now ≡ after_byte c.args.byte c.args.text.now = search rules in
    λ h. rw e (after_shorter _ _ h)
