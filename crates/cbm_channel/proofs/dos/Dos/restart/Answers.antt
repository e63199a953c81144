use Rattle.std.proofs.Common.{ap, sym, subst, ◌∙◌}
use Rattle.std.specs.Prelude.{None, replicate}
use Rattle.cbm_channel.specs.declared.channel.Channel.TheVariants.{Closed}
use Rattle.cbm_machine.specs.Machines.{start}
use Rattle.cbm_channel.specs.Standing.{StandsBy}
use Rattle.cbm_channel.proofs.Stands.{stands_at_first}
use Rattle.cbm_channel.proofs.dos.Dos.restart.Goals as goal

-- the disk is the one from before
pub returns-clause-stands : goal.returns-clause-stands
returns-clause-stands g c = λ d h.
    let seen = g.M.Medium.seen in
    let old = seen c.args.self.now.medium in
    let told = c.new-self-inside.result in
    let stands = stands_at_first old.content old.tracks old.protected d c.close_all.new.channels.items told (c.close_all.ensures ∙ ap (λ n. replicate n Closed) c.self.invariant.count) (c.new-self-inside.ensures ∙ ap (λ x. record { status = x; told = 0 }) c.plain.ensures) h in
    subst (λ v. StandsBy (seen v).content (seen v).tracks (seen v).protected c.close_all.new.channels.items told None (start d old.protected old.tracks)) (sym (ap (λ k. k.medium) c.self.view_is)) stands
