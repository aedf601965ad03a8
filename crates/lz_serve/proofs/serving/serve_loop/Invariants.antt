use Rattle.lz_serve.proofs.serving.serve_loop.Given as goal
use Rattle.lz_serve.specs.Services.{parts_of}

abbrev pub ghosts-serve_among : goal.ghosts-serve_among
ghosts-serve_among g a = record { parts = parts_of a.passes.items }
