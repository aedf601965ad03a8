use Rattle.test_threads.proofs.tapes.serve_tape.Goals as goal
use Rattle.lz_serve.proofs.InTurn.{granted_promises}

pub serve_stream-requires-clause-promised : goal.serve_stream-requires-clause-promised
serve_stream-requires-clause-promised g c = granted_promises g.N.Named.board g.N.Named.format
