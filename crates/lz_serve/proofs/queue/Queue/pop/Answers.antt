use Rattle.lz_serve.proofs.queue.Queue.pop.Goals as goal
use Rattle.std.proofs.{Common.{◌≡◌, ◌<◌, ◌==◌, true, length, refl, ap, ◌∙◌, arith}, lemmas.Bool.{eq-eqb, or_left}}
use Rattle.lz_serve.{specs.Queues.{is_in}, proofs.Queues.{flagged_within}}

pub index_mut-requires : goal.index_mut-requires
index_mut-requires c =
    let token = c.in_ok-token.token in
    let rest = c.pop_front.new.self.items in
    let flags = c.self.inside.flags in
    let long = flags.ok.0 in
    let stood = c.in_ok-token.ensures.items in
    let stands : is_in token c.self.inside.tokens.items ≡ true = ap (is_in token) stood ∙ or_left (token == token) (is_in token rest) (eq-eqb token token refl) in
    let within : token < length flags.items = flagged_within c.self.inside.tokens.items flags.items token c.self.invariant stands in
    omega (arith, within, long)
