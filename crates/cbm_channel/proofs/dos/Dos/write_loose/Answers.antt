use Rattle.std.proofs.Common.{sym, subst}
use Rattle.cbm_bam.specs.Marks.{is_marked}
use Rattle.cbm_channel.specs.Standing.{Kept}
use Rattle.cbm_channel.specs.Loosely.{WritesLoose}
use Rattle.cbm_channel.proofs.Loosely.{Spares, MarksOnly, written_call}
use Rattle.cbm_channel.proofs.dos.Dos.write_loose.Goals as goal

pub returns : goal.returns
returns g c =
    let seen = g.M.Medium.seen in
    let before : Kept _ = record { medium = c.self.inside.volume; channels = c.self.inside.channels.items; told = c.self.inside.telling; text = c.self.inside.text } in
    let spares = subst (λ (k : Kept _). Spares (seen k.medium).content (is_marked c.spared-spared.result) k.channels) (sym c.self.view_is) c.spared-spared.ensures.spares in
    let marks = subst (λ (k : Kept _). MarksOnly (seen k.medium).content (is_marked c.spared-spared.result) k.channels) (sym c.self.view_is) c.spared-spared.ensures.only in
    subst (λ (k : Kept _). WritesLoose seen c.args.at c.args.bytes.now c.write_loose.result k (record before { medium = c.write_loose.new.self })) c.self.view_is
    (written_call seen before c.write_loose.new.self c.args.at c.write_loose.result c.write_loose.ensures.only (is_marked c.spared-spared.result) c.args.bytes.now spares marks
    c.write_loose.ensures.done c.write_loose.ensures.refused c.write_loose.ensures.holds c.write_loose.ensures.err c.write_loose.ensures.place)
