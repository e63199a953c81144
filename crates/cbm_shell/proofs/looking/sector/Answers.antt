use Rattle.cbm_shell.proofs.looking.sector.Goals as goal
