use Rattle.lz_serve.proofs.client.Client.put_page.Goals as goal
use Rattle.std.proofs.Common.{◌<◌, IsSome, Option, length, refl, sym, ap, ◌∙◌, subst}
use Rattle.lz_list.specs.Traces.{Begins}
use Rattle.lz_board.specs.Seats.{part}
use Rattle.lz_serve.specs.{declared.reader.Reader.{Reader}, Clients.{Asker, AwaitsPage, passes_of, seen_by}, Conversations.{Talk}}
use Rattle.lz_serve.proofs.{HeldUp.{held_same, page_ended}, LinesUnderWay.{earned_same}, PagesTold.{page_told}, TalksOnStreams.{page_or_not, same_lines}}

pub invariant_of-self : goal.invariant_of-self
invariant_of-self g c =
    let from = c.self.inside in
    let was = from.talk in
    let new = c.tell_page.new.self in
    let l = c.args.listed.now in
    let P = g.S.Stream.promised in
    let L = g.S.Stream.listed in
    let seen = seen_by from.seen in
    let puts = passes_of from.puts.items in
    let traffic = g.S.Stream.traffic from.stream in
    let others = c.tell_page.ensures.others in
    let told = ap (λ (t : Talk). t.told) others in
    let under = ap (λ (t : Talk). t.under) others in
    let so = c.requires.promised l c.tell_page.ensures.listed in
    let late : Begins seen (part l.before).known = subst (λ (a : Asker). Begins a.seen (part l.before).known) (sym c.self.view_is) c.requires.seen in (
      λ going. subst (λ (r : Option Reader). IsSome r) (sym (ap (λ (t : Talk). t.reader) others)) (c.self.invariant.0 going),
      earned_same P from.connection seen was.told new.told was.under new.under puts puts told under refl c.self.invariant.1,
      λ kept.
          same_lines P L seen from.connection traffic new was.under new.under puts under
          (page_or_not P L seen from.connection traffic c.in-Ok.told l was new puts so late c.in-Ok.ensures.told c.in-Ok.ensures.none (c.self.invariant.2 kept)),
      λ held kept. held_same was new (ap (λ (t : Talk). t.waiting) others) told under (page_ended c.in-Ok.told l was new c.in-Ok.ensures.told c.in-Ok.ensures.none) (c.self.invariant.3 held kept),
      λ stops. c.self.invariant.4 (sym (ap (λ (t : Talk). t.stops) others) ∙ stops),
    )

pub returns-in-Ok-clause-paged : goal.returns-in-Ok-clause-paged
returns-in-Ok-clause-paged g c = λ awaits there.
    let was = c.self.inside.talk in
    let new = c.tell_page.new.self in
    let l = c.args.listed.now in
    let first = subst (λ (a : Asker). AwaitsPage a l.scan) (sym c.self.view_is) awaits in
    subst (λ (a : Asker). length new.turns < length a.turns) c.self.view_is (page_told c.in-Ok.told l was new c.in-Ok.ensures.told c.in-Ok.ensures.rests first.1 first.2)
