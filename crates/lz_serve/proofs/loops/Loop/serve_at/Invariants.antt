use Rattle.lz_serve.proofs.loops.Loop.serve_at.Given as goal

abbrev pub ghosts-serve_in : goal.ghosts-serve_in
ghosts-serve_in g a = record { before = 0; sessions = a.bounds.sessions }
