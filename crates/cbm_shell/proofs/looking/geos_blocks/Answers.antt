use Rattle.cbm_shell.proofs.looking.geos_blocks.Goals as goal
