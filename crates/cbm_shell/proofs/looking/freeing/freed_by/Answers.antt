use Rattle.std.proofs.Common.{ap, ◌∙◌, rules}
use Rattle.cbm_bam.specs.Marks.{is_marked}
use Rattle.cbm_shell.specs.Freeing.{is_any}
use Rattle.cbm_shell.proofs.looking.freeing.freed_by.Goals as goal

pub returns-clause-ok : goal.returns-clause-ok
returns-clause-ok g c = record {
  all = search rules;
  geos = c.is_any-takes_geos.ensures ∙ ap (is_any (is_marked c.geos_sectors-held.result)) c.as_slice-2.ensures.value
      ∙ ap (λ h. is_any h c.in_ok-blocks.blocks.items) (search rules);
}
