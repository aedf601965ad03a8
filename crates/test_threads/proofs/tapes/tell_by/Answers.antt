use Rattle.test_threads.proofs.tapes.tell_by.Goals as goal
use Rattle.std.proofs.{Common.{[]}, lemmas.List.Elements.{All-head}}
use Rattle.lz_serve.specs.Halts.{IsCalm}

pub serve_tape-pass-requires-clause-calm : goal.serve_tape-pass-requires-clause-calm
serve_tape-pass-requires-clause-calm g c = λ calm. All-head IsCalm _ [] calm
