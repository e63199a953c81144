use Rattle.std.proofs.Common.{ap, sym, ◌∙◌}
use Rattle.cbm_sources.specs.Sectors.{image_content}
use Rattle.cbm_sources.specs.Chains.{Way}
use Rattle.cbm_sources.proofs.ChainLemmas.{met_end}
use Rattle.cbm_sources.proofs.trail.Trail.next.Goals as goal

pub returns-then-is_end : goal.returns-then-is_end
returns-then-is_end c = record {
  meets = met_end (image_content c.args.disk.now) c.args.self.now.left c.args.self.now.blocks c.args.self.now.next
      (ap (λ (w : Way). w.next.track) (sym c.self.view_is) ∙ c.is_end.ensures.0 c.if-is_end.true);
  blocks = ap (λ (w : Way). w.blocks) c.self.view_is;
}
