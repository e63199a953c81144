use Rattle.std.proofs.Common.{ap, ◌∙◌, rules}
use Rattle.cbm_chain.specs.Reading.{Reading, rest_of, one_less, held_from}
use Rattle.cbm_chain.proofs.Showing.{held_end, taken_last}
use Rattle.cbm_chain.proofs.reader.ChainReader.taken.Goals as goal

pub returns-then-is_end-clause-ok : goal.returns-then-is_end-clause-ok
unfolding rest_of
returns-then-is_end-clause-ok g c =
    taken_last c.self.inside.waiting c.first_of-waiting.result.0 c.self.inside.sector c.self.inside.from c.first_of-waiting.result.1 c.self.inside.to
    (held_from c.self.inside.geometry (g.M.Medium.seen c.args.medium.now).content c.self.inside.left c.self.inside.next)
    (held_end c.self.inside.geometry (g.M.Medium.seen c.args.medium.now).content c.self.inside.left c.self.inside.next (c.is_end.ensures.0 (search rules)))
    c.self.invariant.3 c.first_of-waiting.ensures.bytes
    ∙ ap (λ (r : Reading). one_less (rest_of (g.M.Medium.seen c.args.medium.now).content r)) c.self.view_is
