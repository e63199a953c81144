use Rattle.std.proofs.Common.{ℕ, ◌<◌, ◌∙◌, sym, ap, subst, arith}
use Rattle.std.specs.Prelude.{not, slice_index}
use Rattle.cbm_track.proofs.Firsts.{each_from, each_not}
use Rattle.cbm_shell.specs.Converting.{is_plain_table}
use Rattle.cbm_shell.proofs.images.converting.has_more_tracks.Goals as goal

pub returns-then-not-is_plain : goal.returns-then-not-is_plain
returns-then-not-is_plain c =
    sym (ap not (each_not (is_plain_table c.args.file.now) (slice_index c.args.file.now 9) c.loop-entry.entry
    (subst (λ (n : ℕ). c.loop-entry.entry < n) c.byte-entry-end.ensures c.loop-entry-test.true) (sym c.is_plain.ensures ∙ c.if-not-is_plain.true)))

pub returns : goal.returns
returns c =
    sym (ap not (each_from (is_plain_table c.args.file.now) (slice_index c.args.file.now 9)
    (λ k h. c.loop-entry.invariant k (omega (arith, c.byte-entry-end.ensures, c.loop-entry-test.false, h)))))
