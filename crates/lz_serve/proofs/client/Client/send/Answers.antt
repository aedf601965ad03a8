use Rattle.lz_serve.specs.declared.stream.Taken.TheVariants as taken
use Rattle.lz_serve.proofs.client.Client.send.Goals as goal
use Rattle.std.proofs.Common.{IsSome, Option, refl, sym, ap, ◌∙◌, subst}
use Rattle.lz_serve.specs.{declared.reader.Reader.{Reader}, Clients.{passes_of, seen_by}, Conversations.{Talk}, Lines.{AreBefore}, Streams.{MayTake, Takes}}
use Rattle.lz_serve.proofs.{HeldUp.{held_same}, LinesUnderWay.{earned_same}, TalksOnStreams.{known_so, may_take, same_lines, sent}}

pub take-requires : goal.take-requires
take-requires g c =
    let P = g.S.Stream.promised in
    let from = c.self.inside in
    let seen = seen_by from.seen in
    let puts = passes_of from.puts.items in
    let traffic = g.S.Stream.traffic from.stream in
    subst (MayTake P g.S.Stream.listed g.S.Stream.asked traffic) (sym c.unsent-2.ensures)
    (may_take P g.S.Stream.listed from.connection g.S.Stream.asked traffic from.talk c.self.invariant.4 (known_so (AreBefore P seen from.talk.under puts) g.S.Stream.listed from.connection P traffic from.talk (λ grants so. so.0) (c.self.invariant.2 c.if-self.false)))

pub invariant_of-self : goal.invariant_of-self
invariant_of-self g c =
    let was = c.self.invariant in
    let from = c.self.inside in
    let old = from.talk in
    let new = c.sent.new.self in
    let others = c.sent.ensures in
    let P = g.S.Stream.promised in
    let seen = seen_by from.seen in
    let puts = passes_of from.puts.items in
    let after = g.S.Stream.traffic c.take.new.self in
    let under = ap (λ (t : Talk). t.under) others in (
      λ going. subst (λ (r : Option Reader). IsSome r) (sym (ap (λ (t : Talk). t.reader) others)) (was.0 going),
      earned_same P from.connection seen old.told new.told old.under new.under puts puts (ap (λ (t : Talk). t.told) others) under refl was.1,
      λ kept.
          same_lines P g.S.Stream.listed seen from.connection after new old.under new.under puts under
          (sent (AreBefore P seen old.under puts) g.S.Stream.listed from.connection (g.S.Stream.traffic from.stream) after c.in-Count.count old new (subst (Takes (g.S.Stream.traffic from.stream) after (taken.Count c.in-Count.count)) c.unsent-2.ensures c.in-Count.ensures.taken) others
          (was.2 c.if-self.false)),
      λ held kept. held_same old new (ap (λ (t : Talk). t.waiting) others) (ap (λ (t : Talk). t.told) others) under (λ goes. sym (ap (λ (t : Talk). t.ended) others) ∙ goes) (was.3 held kept),
      λ stops. was.4 (sym (ap (λ (t : Talk). t.stops) others) ∙ stops),
    )
