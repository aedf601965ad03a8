use Rattle.lz_serve.proofs.loops.serve_loops.Goals as goal
use Rattle.lz_serve.proofs.JoinedPasses.{calm_after}

pub serve_several-requires-clause-calm : goal.serve_several-requires-clause-calm
serve_several-requires-clause-calm g c = λ κs lives. calm_after c.args.passes.items
