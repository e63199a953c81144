use Rattle.std.proofs.Common.{subst}
use Rattle.std.specs.Prelude.{OnOk}
use Rattle.std.specs.List.{All}
use Rattle.cbm_channel.specs.Saved.{MayBeKept, MayStand}
use Rattle.cbm_channel.specs.Standing.{FitsTracks, Kept}
use Rattle.cbm_channel.proofs.KeptParts.{kept_of}
use Rattle.cbm_channel.proofs.dos.Dos.save.Goals as goal

pub returns-clause-again : goal.returns-clause-again
returns-clause-again g c =
    let parts : Kept g.row.M.Denot = record { medium = c.self.inside.volume; channels = c.self.inside.channels.items; told = c.self.inside.telling; text = c.self.inside.text } in
    subst (λ (k : Kept g.row.M.Denot). OnOk c.save_all.result (MayBeKept (g.M.Medium.seen k.medium).tracks k)) c.self.view_is
    (kept_of (g.M.Medium.seen c.self.inside.volume).tracks parts c.save_all.result c.self.invariant.count c.save_told.ensures.again c.in_ok-save_gathered.ensures.again
    (subst (λ xs. All (FitsTracks (g.M.Medium.seen c.self.inside.volume).tracks) xs → OnOk c.save_all.result (All (MayStand (g.M.Medium.seen c.self.inside.volume).tracks) xs)) c.as_slice.ensures.value (c.save_all.ensures.again (g.M.Medium.seen c.self.inside.volume).tracks) c.self.invariant.each))
