use Rattle.lz_serve.proofs.server.serve.Goals as goal
use Rattle.lz_serve.proofs.JoinedPasses.{calm_after}

pub serve_hosts-requires-clause-calm : goal.serve_hosts-requires-clause-calm
serve_hosts-requires-clause-calm g c = λ κs lives. calm_after c.args.passes.items
