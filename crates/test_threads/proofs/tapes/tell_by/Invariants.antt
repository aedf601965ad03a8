use Rattle.test_threads.proofs.tapes.tell_by.Given as goal
use Rattle.std.specs.Prelude.{[], ◌∷◌}
use Rattle.lz_board.specs.Seats.{part}

abbrev pub ghosts-serve_tape : goal.ghosts-serve_tape
ghosts-serve_tape g a = record { parts = part a.pass ∷ [] }
