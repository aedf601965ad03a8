use Rattle.lz_serve.proofs.client.Client.stop.Goals as goal
use Rattle.std.proofs.Common.{IsSome, Option, refl, sym, ap, subst}
use Rattle.lz_serve.{specs.{declared.reader.Reader.{Reader}, Clients.{passes_of, seen_by}, Conversations.{Talk}, Lines.{AreBefore}}, proofs.LinesUnderWay.{earned_same}}
use Rattle.lz_serve.proofs.TalksOnStreams.{refusing, same_lines}

pub invariant_of-self : goal.invariant_of-self
invariant_of-self g c =
    let was = c.self.invariant in
    let from = c.self.inside in
    let old = from.talk in
    let new = c.stop.new.self in
    let others = c.stop.ensures.others in
    let P = g.S.Stream.promised in
    let seen = seen_by from.seen in
    let puts = passes_of from.puts.items in
    let traffic = g.S.Stream.traffic from.stream in
    let under = ap (λ (t : Talk). t.under) others in (
      λ going. subst (λ (r : Option Reader). IsSome r) (sym (ap (λ (t : Talk). t.reader) others)) (was.0 going),
      earned_same P from.connection seen old.told new.told old.under new.under puts puts (ap (λ (t : Talk). t.told) others) under refl was.1,
      λ kept. same_lines P g.S.Stream.listed seen from.connection traffic new old.under new.under puts under (refusing (AreBefore P seen old.under puts) g.S.Stream.listed from.connection traffic old new c.in-Ok.ensures.ok (was.2 kept)),
      λ held. absurd (cc),
      λ stops. c.requires,
    )
