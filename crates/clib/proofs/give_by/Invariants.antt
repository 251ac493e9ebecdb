use Rattle.clib.proofs.give_by.Given as goal

abbrev pub ghosts-give : goal.ghosts-give
ghosts-give a = record { name = a.words.ghost_name }
