use Rattle.cbm_shell.proofs.looking.file_blocks.Goals as goal
