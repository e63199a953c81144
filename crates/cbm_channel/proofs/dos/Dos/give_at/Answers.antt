use Rattle.std.proofs.Common.{sym, subst}
use Rattle.cbm_bam.specs.Marks.{is_marked}
use Rattle.cbm_channel.specs.Standing.{Kept}
use Rattle.cbm_channel.specs.Loosely.{GivesAt}
use Rattle.cbm_channel.proofs.Loosely.{Spares, MarksOnly, given_call}
use Rattle.cbm_channel.proofs.dos.Dos.give_at.Goals as goal

pub returns : goal.returns
returns g c =
    let seen = g.M.Medium.seen in
    let before : Kept _ = record { medium = c.self.inside.volume; channels = c.self.inside.channels.items; told = c.self.inside.telling; text = c.self.inside.text } in
    let spares = subst (λ (k : Kept _). Spares (seen k.medium).content (is_marked c.spared-spared.result) k.channels) (sym c.self.view_is) c.spared-spared.ensures.spares in
    let marks = subst (λ (k : Kept _). MarksOnly (seen k.medium).content (is_marked c.spared-spared.result) k.channels) (sym c.self.view_is) c.spared-spared.ensures.only in
    subst (λ (k : Kept _). GivesAt seen c.args.at c.give_at.result k (record before { medium = c.give_at.new.self })) c.self.view_is
    (given_call seen before c.give_at.new.self c.args.at c.give_at.result c.give_at.ensures.only (is_marked c.spared-spared.result) spares marks
    c.give_at.ensures.done c.give_at.ensures.freed c.give_at.ensures.already c.give_at.ensures.refused c.give_at.ensures.holds c.give_at.ensures.err)
