use Rattle.std.proofs.Common.{rules, ◌≡◌, ◌∙◌, sym, ap, subst, arith}
use Rattle.cbm_medium.specs.Place.{Place}
use Rattle.cbm_bam.specs.Map.{at, IsGiven}
use Rattle.cbm_bam.specs.Marks.{is_marked}
use Rattle.cbm_bam.proofs.WholeMaps.{step_used, step_free, step_track}
use Rattle.cbm_bam.proofs.whole_map.free_unused.Goals as goal

pub loop-sector-preserved-then-has : goal.loop-sector-preserved-then-has
loop-sector-preserved-then-has c tracks old on most h = step_used tracks old c.loop-sector.map (is_marked c.args.used.now) c.args.track c.loop-sector.sector (let e : c.unwrap-at.result ≡ at c.args.track c.loop-sector.sector = search rules in ap (is_marked c.args.used.now) (sym e) ∙ sym c.if-has.ensures) (c.loop-sector.invariant tracks old on most h)

pub loop-sector-preserved : goal.loop-sector-preserved
loop-sector-preserved c tracks old on most h =
    step_free tracks old c.loop-sector.map c.give.new.map (is_marked c.args.used.now) c.args.track c.loop-sector.sector
    (let e : c.unwrap-at.result ≡ at c.args.track c.loop-sector.sector = search rules in ap (is_marked c.args.used.now) (sym e) ∙ sym c.if-has.ensures)
    (let e : c.unwrap-at.result ≡ at c.args.track c.loop-sector.sector = search rules in subst (λ (p : Place). IsGiven tracks c.loop-sector.map c.give.new.map p) e (c.give.ensures tracks (omega (arith, ap (λ (p : Place). p.track) e)) most)) (c.loop-sector.invariant tracks old on most h)

pub returns : goal.returns
returns c tracks old on most h = step_track tracks old c.loop-sector.map (is_marked c.args.used.now) c.args.track c.loop-sector.sector (omega arith) (c.loop-sector.invariant tracks old on most h)
