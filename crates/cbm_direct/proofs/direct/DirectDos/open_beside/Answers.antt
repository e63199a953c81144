use Rattle.std.proofs.Common.{refl, inl, inr}
use Rattle.cbm_direct.proofs.Handed.{handed_beside, taken_back}
use Rattle.cbm_direct.proofs.direct.DirectDos.open_beside.Goals as goal

-- more buffers were taken than there are
pub returns-then-cost-count-gt-MOST_BUFFERS-clause-opened : goal.returns-then-cost-count-gt-MOST_BUFFERS-clause-opened
returns-then-cost-count-gt-MOST_BUFFERS-clause-opened g c =
    taken_back g.M.Medium.seen c.args.channel c.args.text.now _ _ _ c.self.view_is c.open.new.self c.close.new.self c.open.ensures.goes c.close.ensures.goes c.say-then-cost-count-gt-MOST_BUFFERS.ensures.done

pub returns-else-cost-count-gt-MOST_BUFFERS-clause-opened : goal.returns-else-cost-count-gt-MOST_BUFFERS-clause-opened
returns-else-cost-count-gt-MOST_BUFFERS-clause-opened g c =
    inr (inl (handed_beside _ _ _ _ c.self.view_is (record { call = c.open.ensures.goes; buffers = refl; reply = refl })))
