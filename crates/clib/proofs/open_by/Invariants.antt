use Rattle.clib.proofs.open_by.Given as goal

abbrev pub ghosts-open : goal.ghosts-open
ghosts-open a = record { name = a.words.ghost_name }
