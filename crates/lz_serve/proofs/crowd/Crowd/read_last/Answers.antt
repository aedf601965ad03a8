use Rattle.lz_serve.proofs.crowd.Crowd.read_last.Goals as goal
use Rattle.lz_serve.proofs.Crowds.{keeps_at, lines_heard, lines_own, lines_seen}

pub returns : goal.returns
returns g c =
    keeps_at (λ place. place.client) c.args.self.now c.self.inside.admitted c.self.inside.places.items c.args.token c.in-Some.place.now c.self.view_is
    c.in-Some.ensures.item.3.0 c.in-Some.ensures.value c.read_last.new.self (lines_own _ _ c.read_last.ensures) (lines_heard _ _ c.read_last.ensures)
    (lines_seen _ _ c.read_last.ensures)
