use Rattle.lz_serve.proofs.client.Client.receive.Goals as goal
use Rattle.std.proofs.Common.{refl, ap, sym, ◌∙◌}
use mathlib.Core.Bool.{true≢false}
use Rattle.lz_serve.{specs.{Clients.{passes_of, seen_by}, Conversations.{Talk}, Exchanges.{requests_in, taken}, Lines.{AreBefore}}, proofs.HeldUp.{held_more}}
use Rattle.lz_serve.proofs.{LinesUnderWay.{earned_same}, TalksOnStreams.{fed, finished, same_lines}}

pub invariant_of-self : goal.invariant_of-self
invariant_of-self g c =
    let was = c.self.invariant in
    let old = c.self.inside.talk in
    let new = c.feed.new.self in
    let others = c.feed.ensures.others in
    let P = g.S.Stream.promised in
    let connection = c.self.inside.connection in
    let seen = seen_by c.self.inside.seen in
    let puts = passes_of c.self.inside.puts.items in
    let after = g.S.Stream.traffic c.receive.new.self in
    let under = ap (λ (t : Talk). t.under) others in (
      λ going. c.feed.ensures.goes,
      earned_same P connection seen old.told new.told old.under new.under puts puts (ap (λ (t : Talk). t.told) others) under refl was.1,
      λ kept.
          same_lines P g.S.Stream.listed seen connection after new old.under new.under puts under
          (fed (AreBefore P seen old.under puts) g.S.Stream.listed connection (g.S.Stream.traffic c.self.inside.stream) after c.in-Count.count c.receive.new.buffer old new c.in-Count.ensures.received c.in-Ok.ensures.ok (was.2 kept)),
      λ held kept.
          let step = c.in-Ok.ensures.ok in
          held_more old new (requests_in (taken old.stops step.2)) (ap (λ (t : Talk). t.waiting) step.5) (ap (λ (t : Talk). t.told) step.5) under (ap (λ (t : Talk). t.ended) step.5) (was.3 held kept),
      λ stops. was.4 (sym (ap (λ (t : Talk). t.stops) others) ∙ stops),
    )

pub invariant_of-self-in-Ok-finish : goal.invariant_of-self-in-Ok-finish
invariant_of-self-in-Ok-finish g c =
    let was = c.self.invariant in
    let old = c.self.inside.talk in
    let new = c.finish.new.self in
    let others = c.finish.ensures.others in
    let P = g.S.Stream.promised in
    let connection = c.self.inside.connection in
    let seen = seen_by c.self.inside.seen in
    let puts = passes_of c.self.inside.puts.items in
    let after = g.S.Stream.traffic c.receive.new.self in
    let under = ap (λ (t : Talk). t.under) others in (
      λ never. absurd (true≢false never),
      earned_same P connection seen old.told new.told old.under new.under puts puts (ap (λ (t : Talk). t.told) others) under refl was.1,
      λ kept.
          same_lines P g.S.Stream.listed seen connection after new old.under new.under puts under
          (finished (AreBefore P seen old.under puts) g.S.Stream.listed connection (g.S.Stream.traffic c.self.inside.stream) after c.receive.new.buffer old new c.in-Over.ensures.received c.in-Ok-finish.ensures.ok (was.2 kept)),
      λ held kept.
          let step = c.in-Ok-finish.ensures.ok in
          held_more old new (requests_in (taken old.stops step.1)) (ap (λ (t : Talk). t.waiting) step.4) (ap (λ (t : Talk). t.told) step.4) under (ap (λ (t : Talk). t.ended) step.4) (was.3 held kept),
      λ stops. was.4 (sym (ap (λ (t : Talk). t.stops) others) ∙ stops),
    )
