use Rattle.lz_serve.proofs.crowd.Crowd.stop.Goals as goal
use Rattle.std.proofs.{Common.{refl, ap, sym, ◌∙◌, arith, length}, lemmas.List.{length-map}}
use Rattle.lz_serve.{specs.Clients.{Askers}, proofs.RefusedCrowds.{refused_all, refused_none, refused_one}}

pub loop-token-init : goal.loop-token-init
loop-token-init g c = refused_none c.args.self.now c.args.self.now refl

pub loop-token-preserved : goal.loop-token-preserved
loop-token-preserved g c =
    refused_one c.loop-token.token c.args.self.now c.loop-token.self c.refuse.new.self c.loop-token.invariant c.refuse.ensures.kept c.refuse.ensures.refused c.refuse.ensures.others

pub returns-clause-refused : goal.returns-clause-refused
returns-clause-refused g c =
    let many = ap (λ (a : Askers). length a.clients) (sym c.self.view_is) ∙ length-map c.self.inside.places.items (λ place. place.client) in
    refused_all c.loop-token.token c.args.self.now c.loop-token.self c.loop-token.invariant (omega (arith, many, c.loop-token-test.false))
