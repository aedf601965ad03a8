use Rattle.lz_serve.proofs.queue.Queue.put.Goals as goal
use Rattle.std.proofs.Common.{◌≡◌, ◌<◌, ℕ, List, false, true, length, slice_set, sym, subst, arith}
use Rattle.lz_serve.{specs.Queues.{IsQueue, is_in}, proofs.Queues.{is_put}}

pub invariant_of-self-2 : goal.invariant_of-self-2
invariant_of-self-2 c =
    let tokens = c.self.inside.tokens.items in
    let flags = c.self.inside.flags in
    let token = c.args.token in
    let long = flags.ok.0 in
    let within : token < length flags.items = omega (arith, long, c.if-token-len.false, c.len.ensures) in
    let out : is_in token tokens ≡ false = cc in
    subst (λ (q : List ℕ). IsQueue q (slice_set flags.items token true)) (sym c.in-Ok.ensures.items) (is_put tokens flags.items token c.self.invariant out within)
