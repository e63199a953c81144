use Rattle.std.proofs.Common.{◌∙◌, sym}
use Rattle.cbm_bam.specs.Marks.{is_marked}
use Rattle.cbm_shell.proofs.GeosLemmas.{any_here, any_later, any_none}
use Rattle.cbm_shell.proofs.looking.freeing.is_any.Goals as goal

pub sectors-preserved : goal.sectors-preserved
sectors-preserved c =
    any_later (is_marked c.args.held.now) _ c.in-Some.first.now c.in-Some.afterwards.now c.sectors.rest.now c.in-Some.ensures.cases.0 (sym c.if-has.ensures) c.sectors.invariant

pub returns-then-has : goal.returns-then-has
returns-then-has c =
    sym (any_here (is_marked c.args.held.now) c.in-Some.first.now c.in-Some.afterwards.now c.sectors.rest.now c.in-Some.ensures.cases.0 (sym c.if-has.ensures)) ∙ c.sectors.invariant

pub returns : goal.returns
returns c = sym (any_none (is_marked c.args.held.now) c.sectors.rest.now c.in_default.ensures.cases) ∙ c.sectors.invariant
