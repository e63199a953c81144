use Rattle.std.proofs.Common.{◌≡◌, false, Some, sym, subst}
use Rattle.cbm_drive.specs.Addressing.{channel_said}
use Rattle.cbm_direct_desk.specs.DirectDesks.{DirectAddressed, direct_desk_shows}
use Rattle.cbm_direct_desk.proofs.Following.{next_shown_from, none_shown_from}
use Rattle.cbm_direct_desk.proofs.desk.DirectDesk.said.Goals as goal

-- the channel that is talked from has another byte
pub returns-in-Some-clause-next : goal.returns-in-Some-clause-next
returns-in-Some-clause-next g c = λ n e.
    next_shown_from (channel_said c.self.inside.addressee.role c.self.inside.addressee.channel) c.in-Some.channel n c.self.inside.dos c.taken.new.self c.in-Some.ensures.value c.taken.ensures.next
    (subst (λ (d : DirectAddressed _). direct_desk_shows d ≡ Some (n, false)) (sym c.self.view_is) e)

-- nothing was shown
pub returns-in_default-clause-next : goal.returns-in_default-clause-next
returns-in_default-clause-next g c = λ n e.
    none_shown_from (channel_said c.self.inside.addressee.role c.self.inside.addressee.channel) n c.self.inside.dos _ c.in_default.ensures.value (subst (λ (d : DirectAddressed _). direct_desk_shows d ≡ Some (n, false)) (sym c.self.view_is) e)
