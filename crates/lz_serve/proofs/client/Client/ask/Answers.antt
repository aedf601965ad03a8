use Rattle.lz_serve.proofs.client.Client.ask.Goals as goal
use Rattle.std.proofs.Common.{◌≡◌, ◌<◌, ◌-◌, ◌+◌, ◌++◌, [], ◌∷◌, List, IsSome, Option, Some, IfSome, ℕ, suc, slice_get, length, sym, ap, ◌∙◌, subst, arith}
use Rattle.std.{proofs.Common.{length-append}, specs.declared.snapshot.Snapshot.{Snapshot}}
use Rattle.lz_list.specs.Traces.{Begins}
use Rattle.lz_proto.specs.declared.request.Request.{Request}
use Rattle.lz_board.specs.{declared.pass.Pass.{Pass}, Seats.{part}}
use Rattle.lz_serve.specs.{declared.{line.Line.{Line}, reader.Reader.{Reader}}, Clients.{Asker, IsHeard, IsOwn, passes_of, seen_by}, Conversations.{Talk}}
use Rattle.lz_serve.specs.{Grants.{Posed, key_asked}, Lines.{AreBefore, IsFree, awaited}}
use Rattle.lz_serve.proofs.LinesUnderWay.{as_many, before_more, before_same, earned_more, earned_same, get_before, get_last, get_more, puts_more}
use Rattle.lz_serve.proofs.TalksOnStreams.{handed_out, known_so}

pub invariant_of-self-in-Ok-Some : goal.invariant_of-self-in-Ok-Some
invariant_of-self-in-Ok-Some g c =
    let was = c.self.invariant in
    let from = c.self.inside in
    let old = from.talk in
    let new = c.next.new.self in
    let P = g.S.Stream.promised in
    let connection = from.connection in
    let traffic = g.S.Stream.traffic from.stream in
    let seen = seen_by from.seen in
    let puts = passes_of from.puts.items in
    let its = passes_of c.push_back_reserved.new.self.items in
    let request = c.in-Ok-Some.request in
    let put = c.of.result.value in
    let more : Begins seen (part put).known =
    subst (λ (p : Pass). Begins seen (part p).known) (sym c.of.ensures) (subst (λ (a : Asker). Begins a.seen (part c.args.pass.now).known) (sym c.self.view_is) c.requires) in
    let is : its ≡ puts ++ put ∷ [] =
    puts_more from.puts.items c.push_back_reserved.new.self.items c.of.result (c.push_back_reserved.ensures.items ∙ ap (λ (l : List (Snapshot Pass)). l ++ c.of.result ∷ []) c.reserve.ensures.items) in
    let asked = rw c.in-Ok-Some.field-0-is at c.in-Ok-Some.ensures.asked in
    let under : new.under ≡ old.under ++ awaited request ∷ [] = ap (λ (t : Talk). t.under) asked.1 in
    let free : IsFree old.under (key_asked request) = subst (λ (r : Option Request). IfSome r (λ asked. IsFree old.under (key_asked asked))) c.in-Ok-Some.field-0-is c.in-Ok-Some.ensures.free in
    let told : new.told ≡ old.told = ap (λ (t : Talk). t.told) asked.1 in (
      λ going. subst (λ (r : Option Reader). IsSome r) (sym (ap (λ (t : Talk). t.reader) asked.1)) (was.0 going),
      earned_same P connection seen old.told new.told (old.under ++ awaited request ∷ []) new.under (puts ++ put ∷ []) its told under is (earned_more P connection seen old.told old.under puts request put free more was.1),
      λ kept.
          handed_out (AreBefore P seen new.under its) g.S.Stream.listed connection traffic request old new asked.0 asked.1
          (known_so (AreBefore P seen old.under puts) g.S.Stream.listed connection (AreBefore P seen new.under its) traffic old
          (λ grants so. before_same P seen (old.under ++ awaited request ∷ []) new.under (puts ++ put ∷ []) its grants under is (before_more P seen old.under puts (awaited request) put grants more so)) (was.2 kept)),
      λ held. absurd (cc),
      λ stops. was.4 (sym (ap (λ (t : Talk). t.stops) asked.1) ∙ stops),
    )

pub returns-in-Ok-Some-clause-own : goal.returns-in-Ok-Some-clause-own
returns-in-Ok-Some-clause-own g c =
    let from = c.self.inside in
    let old = from.talk in
    let new = c.next.new.self in
    let P = g.S.Stream.promised in
    let puts = passes_of from.puts.items in
    let its = passes_of c.push_back_reserved.new.self.items in
    let put = c.of.result.value in
    let is : its ≡ puts ++ put ∷ [] =
    puts_more from.puts.items c.push_back_reserved.new.self.items c.of.result (c.push_back_reserved.ensures.items ∙ ap (λ (l : List (Snapshot Pass)). l ++ c.of.result ∷ []) c.reserve.ensures.items) in
    let line : c.new.result.line ≡ new.told + length new.under = ap (λ (q : Posed). q.line) c.new.ensures ∙ c.lines-line.ensures in
    let before : Some put ≡ Some c.new.result.before = ap (λ (p : Pass). Some p) (c.of.ensures ∙ sym (ap (λ (q : Posed). q.before) c.new.ensures)) in
    let asked = rw c.in-Ok-Some.field-0-is at c.in-Ok-Some.ensures.asked in
    let told : new.told ≡ old.told = ap (λ (t : Talk). t.told) asked.1 in
    let longer : length new.under ≡ suc (length old.under) =
    ap (λ (t : Talk). length t.under) asked.1 ∙ length-append old.under (awaited c.in-Ok-Some.request ∷ []) ∙ omega arith in
    let many : length puts ≡ length old.under = as_many P from.connection (seen_by from.seen) old.told old.under puts c.self.invariant.1 in
    λ same. (
      omega (arith, line),
      λ less.
          let at : c.new.result.line - suc new.told ≡ length puts = omega (arith, line, longer, many) in
          subst (λ (l : List Pass). slice_get l (c.new.result.line - suc new.told) ≡ Some c.new.result.before) (sym is) (get_last puts (c.new.result.line - suc new.told) put at ∙ before),
    )

pub returns-in-Ok-Some-clause-kept : goal.returns-in-Ok-Some-clause-kept
returns-in-Ok-Some-clause-kept g c =
    let from = c.self.inside in
    let old = from.talk in
    let new = c.next.new.self in
    let puts = passes_of from.puts.items in
    let its = passes_of c.push_back_reserved.new.self.items in
    let put = c.of.result.value in
    let is : its ≡ puts ++ put ∷ [] =
    puts_more from.puts.items c.push_back_reserved.new.self.items c.of.result (c.push_back_reserved.ensures.items ∙ ap (λ (l : List (Snapshot Pass)). l ++ c.of.result ∷ []) c.reserve.ensures.items) in
    let asked = rw c.in-Ok-Some.field-0-is at c.in-Ok-Some.ensures.asked in
    let told : new.told ≡ old.told = ap (λ (t : Talk). t.told) asked.1 in
    let longer : length new.under ≡ suc (length old.under) =
    ap (λ (t : Talk). length t.under) asked.1 ∙ length-append old.under (awaited c.in-Ok-Some.request ∷ []) ∙ omega arith in
    λ q own same.
    let was = subst (λ (a : Asker). IsOwn a q) (sym c.self.view_is) own same in
    let low = was.0 in (
      omega (arith, low, told, longer),
      λ less.
          let early : old.told < q.line = subst (λ (n : ℕ). n < q.line) told less in
          let there = subst (λ (n : ℕ). slice_get puts (q.line - suc n) ≡ Some q.before) (sym told) (was.1 early) in
          subst (λ (l : List Pass). slice_get l (q.line - suc new.told) ≡ Some q.before) (sym is) (get_more puts (put ∷ []) (q.line - suc new.told) q.before there),
    )

pub returns-in-Ok-Some-clause-heard : goal.returns-in-Ok-Some-clause-heard
returns-in-Ok-Some-clause-heard g c =
    let old = c.self.inside.talk in
    let new = c.next.new.self in
    let line = awaited c.in-Ok-Some.request ∷ [] in
    let asked = rw c.in-Ok-Some.field-0-is at c.in-Ok-Some.ensures.asked in
    let told : new.told ≡ old.told = ap (λ (t : Talk). t.told) asked.1 in
    let under : new.under ≡ old.under ++ line = ap (λ (t : Talk). t.under) asked.1 in
    λ q own heard same stands.
    let was = subst (λ (a : Asker). IsOwn a q) (sym c.self.view_is) own same in
    let low = was.0 in
    let less = stands.0 in
    let early : old.told < q.line = subst (λ (n : ℕ). n < q.line) told less in
    let within : q.line - suc old.told < length old.under = omega (arith, low, early) in
    subst (λ (a : Asker). IsHeard a q) (sym c.self.view_is) heard same
    (early, sym (get_before old.under line (q.line - suc old.told) within) ∙ ap (λ (l : List Line). slice_get l (q.line - suc old.told)) (sym under) ∙ ap (λ (n : ℕ). slice_get new.under (q.line - suc n)) (sym told) ∙ stands.1)
