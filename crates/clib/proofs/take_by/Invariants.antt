use Rattle.clib.proofs.take_by.Given as goal

abbrev pub ghosts-take : goal.ghosts-take
ghosts-take a = record { name = a.words.ghost_name }
