use Rattle.std.proofs.Common.{sym}
use Rattle.cbm_shell.proofs.GetLemmas.{never_broken, not_found, unclosed, got, shown_found, shown_somewhere, shown_closed, shown_got}
use Rattle.cbm_shell.proofs.looking.reading.get.Goals as goal

pub returns-in_err-entry-clause-means : goal.returns-in_err-entry-clause-means
returns-in_err-entry-clause-means g c = λ d h. absurd (never_broken c.args.pattern.now d _ _ (c.find.ensures.means d h) c.in_err-entry.ensures.finds)

pub returns-in_default-clause-means : goal.returns-in_default-clause-means
returns-in_default-clause-means g c = λ d h. not_found c.args.pattern.now d _ c.in_ok-entry.field-0 (c.find.ensures.means d h) c.in_ok-entry.ensures.finds c.in_default.is

pub returns-then-not-is_closed-clause-means : goal.returns-then-not-is_closed-clause-means
returns-then-not-is_closed-clause-means g c = λ d h.
    unclosed c.args.pattern.now d _ c.in_ok-entry.field-0 _ c.in-Some.entry (c.find.ensures.means d h) c.in_ok-entry.ensures.finds c.in-Some.is (sym c.if-not-is_closed.ensures)

pub returns-clause-means : goal.returns-clause-means
returns-clause-means g c = λ d h.
    got (λ v. v.items) (g.M.Medium.seen c.args.volume.now).tracks (g.M.Medium.seen c.args.volume.now).content c.args.pattern.now d c.in_ok-entry.field-0 _ c.in-Some.entry (c.find.ensures.means d h) c.in_ok-entry.ensures.finds c.in-Some.is
    (sym c.if-not-is_closed.ensures) c.read_file.result _ c.read_file.ensures.err (λ n bytes s b. c.read_file.ensures.means d n bytes h s b)

pub returns-in_err-entry-clause-shown : goal.returns-in_err-entry-clause-shown
returns-in_err-entry-clause-shown g c = λ bytes s. absurd (shown_found c.args.pattern.now _ bytes s c.in_err-entry.ensures.finds.0)

pub returns-in_default-clause-shown : goal.returns-in_default-clause-shown
returns-in_default-clause-shown g c = λ bytes s. absurd (shown_somewhere c.args.pattern.now (g.M.Medium.seen c.args.volume.now) bytes c.in_ok-entry.field-0 s c.in_ok-entry.ensures.finds c.in_default.is)

pub returns-then-not-is_closed-clause-shown : goal.returns-then-not-is_closed-clause-shown
returns-then-not-is_closed-clause-shown g c = λ bytes s.
    absurd (shown_closed c.args.pattern.now (g.M.Medium.seen c.args.volume.now) bytes c.in_ok-entry.field-0 _ c.in-Some.entry s c.in_ok-entry.ensures.finds c.in-Some.is (sym c.if-not-is_closed.ensures))

pub returns-clause-shown : goal.returns-clause-shown
returns-clause-shown g c = λ bytes s.
    shown_got (λ v. v.items) c.args.pattern.now (g.M.Medium.seen c.args.volume.now) bytes c.in_ok-entry.field-0 _ c.in-Some.entry s c.in_ok-entry.ensures.finds c.in-Some.is
    c.read_file.result c.read_file.ensures.ok c.read_file.ensures.err
