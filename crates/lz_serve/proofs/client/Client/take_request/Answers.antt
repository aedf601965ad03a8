use Rattle.lz_serve.proofs.client.Client.take_request.Goals as goal
use Rattle.std.proofs.Common.{IsSome, Option, List, [], ◌∷◌, refl, sym, ap, ◌∙◌, subst}
use Rattle.lz_serve.{specs.{declared.reader.Reader.{Reader}, Clients.{passes_of, seen_by}, Conversations.{Talk}, Exchanges.{asked_alone, requests_in, taken}, Lines.{AreBefore}}, proofs.HeldUp.{held_more}}
use Rattle.lz_serve.proofs.{LinesUnderWay.{earned_same}, TalksOnStreams.{asked_beside}}

pub invariant_of-self-in-Ok : goal.invariant_of-self-in-Ok
invariant_of-self-in-Ok g c =
    let was = c.self.invariant in
    let old = c.self.inside.talk in
    let new = c.ask_alone.new.self in
    let others = c.ask_alone.ensures.others in
    let P = g.S.Stream.promised in
    let connection = c.self.inside.connection in
    let seen = seen_by c.self.inside.seen in
    let puts = passes_of c.self.inside.puts.items in
    let before = g.S.Stream.traffic c.self.inside.stream in
    let after = g.S.Stream.traffic c.next_request.new.self in
    let told = ap (λ (t : Talk). t.told) others in
    let under = ap (λ (t : Talk). t.under) others in (
      λ going. subst (λ (r : Option Reader). IsSome r) (sym (ap (λ (t : Talk). t.reader) others)) (was.0 going),
      earned_same P connection seen old.told new.told old.under new.under puts puts told under refl was.1,
      λ kept. asked_beside (AreBefore P seen new.under puts) g.S.Stream.listed connection before after c.in-Some.request new c.in-Some.ensures.known c.next_request.ensures.traffic,
      λ held kept.
          let step = c.in-Ok.ensures.ok in
          held_more old new (requests_in (taken old.stops (asked_alone c.in-Some.request ∷ []))) (ap (λ (t : Talk). t.waiting) step) told under (ap (λ (t : Talk). t.ended) others) (was.3 held kept),
      λ stops. was.4 (sym (ap (λ (t : Talk). t.stops) others) ∙ stops),
    )
