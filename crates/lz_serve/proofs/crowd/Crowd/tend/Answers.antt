use Rattle.lz_serve.proofs.crowd.Crowd.tend.Goals as goal
use Rattle.lz_serve.proofs.Crowds.{keeps_at, keeps_then, leave_keeps}

pub returns-in-Nothing-clause-kept : goal.returns-in-Nothing-clause-kept
returns-in-Nothing-clause-kept g c =
    keeps_at (λ place. place.client) c.args.self.now c.self.inside.admitted c.self.inside.places.items c.args.token c.in-Some.place.now c.self.view_is
    c.in-Some.ensures.item.3.0 c.in-Some.ensures.value c.tend-wish.new.self c.tend-wish.ensures.kept c.tend-wish.ensures.heard c.tend-wish.ensures.seen

pub returns-in-Turn-clause-kept : goal.returns-in-Turn-clause-kept
returns-in-Turn-clause-kept g c =
    keeps_then c.args.self.now _ c.put.new.self
    (keeps_at (λ place. place.client) c.args.self.now c.self.inside.admitted c.self.inside.places.items c.args.token c.in-Some.place.now c.self.view_is
    c.in-Some.ensures.item.3.0 c.in-Some.ensures.value c.tend-wish.new.self c.tend-wish.ensures.kept c.tend-wish.ensures.heard c.tend-wish.ensures.seen) (leave_keeps _ c.put.new.self c.put.ensures.leave)

pub returns-in-Close-clause-kept : goal.returns-in-Close-clause-kept
returns-in-Close-clause-kept g c =
    keeps_then c.args.self.now _ c.close.new.self
    (keeps_at (λ place. place.client) c.args.self.now c.self.inside.admitted c.self.inside.places.items c.args.token c.in-Some.place.now c.self.view_is
    c.in-Some.ensures.item.3.0 c.in-Some.ensures.value c.tend-wish.new.self c.tend-wish.ensures.kept c.tend-wish.ensures.heard c.tend-wish.ensures.seen) (leave_keeps _ c.close.new.self c.close.ensures.leave)

pub returns-in-Page-clause-kept : goal.returns-in-Page-clause-kept
returns-in-Page-clause-kept g c =
    keeps_then c.args.self.now _ c.put_scan.new.self
    (keeps_at (λ place. place.client) c.args.self.now c.self.inside.admitted c.self.inside.places.items c.args.token c.in-Some.place.now c.self.view_is
    c.in-Some.ensures.item.3.0 c.in-Some.ensures.value c.tend-wish.new.self c.tend-wish.ensures.kept c.tend-wish.ensures.heard c.tend-wish.ensures.seen) (leave_keeps _ c.put_scan.new.self c.put_scan.ensures)

pub returns-in-Again-clause-kept : goal.returns-in-Again-clause-kept
returns-in-Again-clause-kept g c =
    keeps_then c.args.self.now _ c.put_back.new.self
    (keeps_at (λ place. place.client) c.args.self.now c.self.inside.admitted c.self.inside.places.items c.args.token c.in-Some.place.now c.self.view_is
    c.in-Some.ensures.item.3.0 c.in-Some.ensures.value c.tend-wish.new.self c.tend-wish.ensures.kept c.tend-wish.ensures.heard c.tend-wish.ensures.seen) (leave_keeps _ c.put_back.new.self c.put_back.ensures.leave)
