use Rattle.lz_serve.proofs.server.serve.Given as goal
use Rattle.lz_serve.specs.Services.{parts_of}

abbrev pub ghosts-serve_hosts : goal.ghosts-serve_hosts
ghosts-serve_hosts g a = record { parts = parts_of a.passes.items }
