use Rattle.std.proofs.Common.{sym, ap, subst, ◌∙◌}
use Rattle.std.specs.Prelude.{None, replicate}
use Rattle.cbm_channel.specs.declared.channel.Channel.TheVariants.{Closed}
use Rattle.cbm_machine.specs.Machines.{start}
use Rattle.cbm_machine.specs.Told.{ToldStatus}
use Rattle.cbm_channel.specs.Standing.{StandsBy}
use Rattle.cbm_channel.specs.Exchanged.{still_telling}
use Rattle.cbm_channel.proofs.Stands.{stands_telling}
use Rattle.cbm_channel.proofs.dos.Dos.insert.Goals as goal

-- the status is the one from before
pub returns-clause-stands : goal.returns-clause-stands
returns-clause-stands g c = λ d h.
    let seen = g.M.Medium.seen in
    let new = seen c.args.medium in
    let told : ToldStatus = c.self.inside.telling in
    let stands = stands_telling new.content new.tracks new.protected d c.close_all.new.channels.items told (c.close_all.ensures ∙ ap (λ n. replicate n Closed) c.self.invariant.count) h in
    subst (λ (t : ToldStatus). StandsBy (seen c.open.result).content (seen c.open.result).tracks (seen c.open.result).protected c.close_all.new.channels.items told None (still_telling t (start d new.protected new.tracks))) (ap (λ k. k.told) c.self.view_is)
    (subst (λ x. StandsBy (seen x).content (seen x).tracks (seen x).protected c.close_all.new.channels.items told None (still_telling told (start d new.protected new.tracks))) (sym c.open.ensures) stands)
