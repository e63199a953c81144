use Rattle.std.proofs.Common.{ap, sym, subst, ◌∙◌}
use Rattle.std.specs.Prelude.{None}
use Rattle.cbm_machine.specs.Machines.{start}
use Rattle.cbm_channel.specs.Standing.{StandsBy}
use Rattle.cbm_channel.proofs.Stands.{stands_at_first}
use Rattle.cbm_channel.proofs.dos.Dos.new.Goals as goal

pub returns-clause-stands : goal.returns-clause-stands
returns-clause-stands g c = λ d h.
    subst (λ x. StandsBy (g.M.Medium.seen x).content (g.M.Medium.seen x).tracks (g.M.Medium.seen x).protected c.into_items.result.items c.new.result None (start d (g.M.Medium.seen c.args.medium).protected (g.M.Medium.seen c.args.medium).tracks))
    (sym c.open.ensures)
    (stands_at_first _ _ _ d _ _ c.into_items.ensures (c.new.ensures ∙ ap (λ x. record { status = x; told = 0 }) c.plain.ensures) h)
