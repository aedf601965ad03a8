use Rattle.lz_serve.specs.declared.turn.Turn.TheVariants as turn
use Rattle.lz_serve.proofs.client.Client.tell_figures.Goals as goal
use Rattle.std.proofs.Common.{◌≡◌, ◌-◌, ℕ, zero, IsSome, Option, drop, sym, ap, ◌∙◌, subst, arith}
use Rattle.lz_serve.{specs.{declared.reader.Reader.{Reader}, Clients.{passes_of, seen_by}, Conversations.{Talk}}, proofs.HeldUp.{held_same, told_ended}}
use Rattle.lz_serve.proofs.TalksOnStreams.{told_or_not}

pub invariant_of-self : goal.invariant_of-self
invariant_of-self g c =
    let was = c.self.inside.talk in
    let new = c.tell_query.new.self in
    let puts = passes_of c.self.inside.puts.items in
    let others = c.tell_query.ensures.others in
    let same : new.told ≡ was.told = ap (λ (t : Talk). t.told) c.tell_query.ensures.others in
    let none : zero ≡ new.told - was.told = omega (arith, same) in
    let to : puts ≡ drop (new.told - was.told) puts = ap (λ (n : ℕ). drop n puts) none in
    let s = told_or_not g.S.Stream.promised g.S.Stream.listed (seen_by c.self.inside.seen) c.self.inside.connection (g.S.Stream.traffic c.self.inside.stream) c.in-Ok.told was new puts puts to
    (λ so. let q = c.in-Ok.ensures.told so in (turn.Tells q.0, q.1, q.2, (c.args.figures.now, q.3))) c.in-Ok.ensures.none c.self.invariant.1 in (
      λ going. subst (λ (r : Option Reader). IsSome r) (sym s.reader) (c.self.invariant.0 going),
      s.earned,
      λ kept. s.talk (c.self.invariant.2 kept),
      λ held kept.
          held_same was new (ap (λ (t : Talk). t.waiting) others) same (ap (λ (t : Talk). t.under) others)
          (told_ended c.in-Ok.told was new (λ so. let q = c.in-Ok.ensures.told so in (turn.Tells q.0, q.1, q.2, (c.args.figures.now, q.3))) c.in-Ok.ensures.none) (c.self.invariant.3 held kept),
      λ stops. c.self.invariant.4 (sym s.stops ∙ stops),
    )
