use Rattle.lz_serve.proofs.serving.serve_among.Given as goal

abbrev pub ghosts-serve_in : goal.ghosts-serve_in
ghosts-serve_in g a = record { before = g.P.Poller.came a.poller; sessions = a.bounds.sessions }
