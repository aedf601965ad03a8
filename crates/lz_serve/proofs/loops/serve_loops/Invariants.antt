use Rattle.lz_serve.proofs.loops.serve_loops.Given as goal
use Rattle.lz_serve.specs.Services.{parts_of}

abbrev pub ghosts-serve_several : goal.ghosts-serve_several
ghosts-serve_several g a = record { parts = parts_of a.passes.items }
