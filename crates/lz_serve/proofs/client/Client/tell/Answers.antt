use Rattle.lz_serve.proofs.client.Client.tell.Goals as goal
use Rattle.std.proofs.Common.{◌≡◌, ◌+◌, ◌-◌, ◌<◌, ℕ, suc, List, IsSome, Option, slice_get, drop, sym, ap, ◌∙◌, subst, arith}
use Rattle.std.specs.declared.snapshot.Snapshot.{Snapshot}
use Rattle.lz_board.specs.declared.pass.Pass.{Pass}
use Rattle.lz_serve.specs.{declared.{reader.Reader.{Reader}, line.Line.{Line}}, Clients.{Asker, IsHeard, IsOwn, passes_of, seen_by}}
use Rattle.lz_serve.proofs.{LinesUnderWay.{get_rest, puts_after}, TalksOnStreams.{told_or_not}}

rest : (now before a b : ℕ) (old new : List (Snapshot Pass)) → a ≡ now → b ≡ before → new ≡ drop (a - b) old → passes_of new ≡ drop (now - before) (passes_of old)
rest now before a b old new now_is before_is is =
    puts_after (a - b) old new is ∙ ap (λ (n : ℕ). drop (n - b) (passes_of old)) now_is ∙ ap (λ (n : ℕ). drop (now - n) (passes_of old)) before_is

pub invariant_of-self : goal.invariant_of-self
invariant_of-self g c =
    let was = c.self.inside.talk in
    let puts = passes_of c.self.inside.puts.items in
    let its = passes_of c.pass_over.new.queue.items in
    let to = rest c.tell.new.self.told c.self.inside.talk.told c.told.result c.told-before.result c.self.inside.puts.items c.pass_over.new.queue.items c.told.ensures c.told-before.ensures c.pass_over.ensures in
    let s = told_or_not g.S.Stream.promised g.S.Stream.listed (seen_by c.self.inside.seen) c.self.inside.connection (g.S.Stream.traffic c.self.inside.stream) c.in-Ok.told was c.tell.new.self puts its to c.in-Ok.ensures.told c.in-Ok.ensures.none c.self.invariant.1 in (
      λ going. subst (λ (r : Option Reader). IsSome r) (sym s.reader) (c.self.invariant.0 going),
      s.earned,
      λ kept. s.talk (c.self.invariant.2 kept),
      λ held. absurd (cc),
      λ stops. c.self.invariant.4 (sym s.stops ∙ stops),
    )

pub returns-in-Ok-clause-kept : goal.returns-in-Ok-clause-kept
returns-in-Ok-clause-kept g c q own same =
    let was = c.self.inside.talk in
    let new = c.tell.new.self in
    let puts = passes_of c.self.inside.puts.items in
    let its = passes_of c.pass_over.new.queue.items in
    let to = rest c.tell.new.self.told c.self.inside.talk.told c.told.result c.told-before.result c.self.inside.puts.items c.pass_over.new.queue.items c.told.ensures c.told-before.ensures c.pass_over.ensures in
    let s = told_or_not g.S.Stream.promised g.S.Stream.listed (seen_by c.self.inside.seen) c.self.inside.connection (g.S.Stream.traffic c.self.inside.stream) c.in-Ok.told was new puts its to c.in-Ok.ensures.told c.in-Ok.ensures.none c.self.invariant.1 in
    let before = subst (λ (a : Asker). IsOwn a q) (sym c.self.view_is) own same in
    let low = before.0 in
    let lines = s.lines in
    let more = s.more in (
      omega (arith, low, lines),
      λ less.
          let early : was.told < q.line = omega (arith, less, more) in
          let at : (new.told - was.told) + (q.line - suc new.told) ≡ q.line - suc was.told = omega (arith, less, more) in
          ap (λ (l : List Pass). slice_get l (q.line - suc new.told)) to ∙ get_rest (new.told - was.told) (q.line - suc new.told) puts ∙ ap (λ (n : ℕ). slice_get puts n) at ∙ before.1 early,
    )

pub returns-in-Ok-clause-heard : goal.returns-in-Ok-clause-heard
returns-in-Ok-clause-heard g c q heard same stands =
    let was = c.self.inside.talk in
    let new = c.tell.new.self in
    let puts = passes_of c.self.inside.puts.items in
    let its = passes_of c.pass_over.new.queue.items in
    let to = rest c.tell.new.self.told c.self.inside.talk.told c.told.result c.told-before.result c.self.inside.puts.items c.pass_over.new.queue.items c.told.ensures c.told-before.ensures c.pass_over.ensures in
    let s = told_or_not g.S.Stream.promised g.S.Stream.listed (seen_by c.self.inside.seen) c.self.inside.connection (g.S.Stream.traffic c.self.inside.stream) c.in-Ok.told was new puts its to c.in-Ok.ensures.told c.in-Ok.ensures.none c.self.invariant.1 in
    let before = subst (λ (a : Asker). IsHeard a q) (sym c.self.view_is) heard in
    let more = s.more in
    let less = stands.0 in
    let early : was.told < q.line = omega (arith, less, more) in
    let at : q.line - suc was.told ≡ (new.told - was.told) + (q.line - suc new.told) = omega (arith, less, more) in
    before same (early, ap (λ (n : ℕ). slice_get was.under n) at ∙ sym (get_rest (new.told - was.told) (q.line - suc new.told) was.under) ∙ ap (λ (l : List Line). slice_get l (q.line - suc new.told)) (sym s.under) ∙ stands.1)
