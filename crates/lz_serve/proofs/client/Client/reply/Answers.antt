use Rattle.lz_serve.proofs.client.Client.reply.Goals as goal
use Rattle.std.proofs.Common.{◌≡◌, ◌-◌, false, true, ℕ, ◌<◌, IsSome, Option, Some, suc, List, slice_get, slice_set, refl, rules, ap, sym, subst, ◌∙◌, arith}
use Rattle.lz_list.specs.Traces.{Begins}
use Rattle.lz_board.specs.{declared.pass.Pass.{Pass}, Seats.{part}}
use Rattle.lz_serve.specs.{declared.{line.Line.{Line}, reader.Reader.{Reader}}, Clients.{Asker, IsOwn, passes_of, seen_by}, Conversations.{IsHeldUp, Talk}}
use Rattle.lz_serve.specs.{Grants.{IsOfLine, Posed}, Lines.{AreBefore, AreEarned, replied}, Streams.{IsTalkOf}}
use Rattle.lz_serve.proofs.LinesUnderWay.{before_noted, before_same, before_seen, earned_same, earned_seen, earned_there, noted_heard}
use Rattle.lz_serve.proofs.TalksOnStreams.{known_so, noted as noted_there}

pub invariant_of-self : goal.invariant_of-self
invariant_of-self g c =
    let was = c.self.invariant in
    let from = c.self.inside in
    let t = from.talk in
    let P = g.S.Stream.promised in
    let seen = seen_by from.seen in
    let now = (part c.of.result.value).known in
    let puts = passes_of from.puts.items in
    let more : Begins seen now = subst (λ (p : Pass). Begins seen (part p).known) (sym c.of.ensures) (subst (λ (a : Asker). Begins a.seen (part c.args.pass.now).known) (sym c.self.view_is) c.requires.seen) in (
      was.0,
      earned_seen P from.connection seen now t.told t.under puts more was.1,
      λ kept.
          known_so (AreBefore P seen t.under puts) g.S.Stream.listed from.connection (AreBefore P now t.under puts) (g.S.Stream.traffic from.stream) t (λ grants so. before_seen P seen now t.under puts grants more so) (was.2 kept),
      was.3,
      was.4,
    )

pub invariant_of-self-else-note : goal.invariant_of-self-else-note
invariant_of-self-else-note g c =
    let was = c.self.invariant in
    let from = c.self.inside in
    let old = from.talk in
    let P = g.S.Stream.promised in
    let seen = seen_by from.seen in
    let now = (part c.of.result.value).known in
    let puts = passes_of from.puts.items in
    let traffic = g.S.Stream.traffic from.stream in
    let more : Begins seen now = subst (λ (p : Pass). Begins seen (part p).known) (sym c.of.ensures) (subst (λ (a : Asker). Begins a.seen (part c.args.pass.now).known) (sym c.self.view_is) c.requires.seen) in
    let Holds : Talk → Type 0 = λ t. (from.ended ≡ false → IsSome t.reader) × AreEarned P now from.connection t.told t.under puts ×
    (from.lost ≡ false → IsTalkOf (AreBefore P now t.under puts) g.S.Stream.listed from.connection traffic t) × (from.held ≡ true → from.lost ≡ false → IsHeldUp t) ×
    (t.stops ≡ true → g.S.Stream.asked) in
    subst Holds (sym (c.note.ensures.none c.if-note.false)) (
      was.0,
      earned_seen P from.connection seen now old.told old.under puts more was.1,
      λ kept. known_so (AreBefore P seen old.under puts) g.S.Stream.listed from.connection (AreBefore P now old.under puts) traffic old (λ grants so. before_seen P seen now old.under puts grants more so) (was.2 kept),
      was.3,
      was.4,
    )

pub invariant_of-self-then-note : goal.invariant_of-self-then-note
invariant_of-self-then-note g c =
    let was = c.self.invariant in
    let from = c.self.inside in
    let old = from.talk in
    let new = c.note.new.self in
    let P = g.S.Stream.promised in
    let connection = from.connection in
    let traffic = g.S.Stream.traffic from.stream in
    let seen = seen_by from.seen in
    let now = (part c.of.result.value).known in
    let puts = passes_of from.puts.items in
    let granted = c.args.granted in
    let number = c.line.result in
    let request = c.request.result in
    let reply = c.reply-reply.result in
    let noted = c.note.ensures.noted c.if-note.true in
    let asked = c.question-question.ensures in
    let more : Begins seen now = subst (λ (p : Pass). Begins seen (part p).known) (sym c.of.ensures) (subst (λ (a : Asker). Begins a.seen (part c.args.pass.now).known) (sym c.self.view_is) c.requires.seen) in
    let after : Begins (part granted.after).known now = subst (λ (p : Pass). Begins (part granted.after).known (part p).known) (sym c.of.ensures) c.requires.after in
    let of : IsOfLine connection number request reply granted =
    record {
      of_connection = search (rules, asked, c.connection.ensures, c.if-connection-self.false);
      of_number = ap (λ (q : Posed). q.line) (sym asked) ∙ sym c.line.ensures;
      of_request = ap (λ (q : Posed). q.request) (sym asked) ∙ sym c.request.ensures.request;
      of_reply = sym c.reply-reply.ensures.reply;
    } in
    let own = subst (λ (a : Asker). IsOwn a granted.question) (sym c.self.view_is) c.requires.own of.of_connection in
    let to : slice_get puts (number - suc old.told) ≡ Some granted.question.before =
    subst (λ (n : ℕ). slice_get puts (n - suc old.told) ≡ Some granted.question.before) of.of_number (own.1 (subst (λ (n : ℕ). old.told < n) (sym of.of_number) noted.0.0)) in
    let under : new.under ≡ slice_set old.under (number - suc old.told) (replied request reply) = ap (λ (t : Talk). t.under) noted.1 in (
      λ going. subst (λ (r : Option Reader). IsSome r) (sym (ap (λ (t : Talk). t.reader) noted.1)) (was.0 going),
      earned_same P connection now old.told new.told (slice_set old.under (number - suc old.told) (replied request reply)) new.under puts puts (ap (λ (t : Talk). t.told) noted.1) under refl
          (earned_there P connection now request reply granted after (λ grants so later. c.requires.promised grants so c.reply-reply.ensures.granted later) old.told number old.under puts noted.0.0 of noted.0.1 to
          (earned_seen P connection seen now old.told old.under puts more was.1)),
      λ kept.
          noted_there (AreBefore P now new.under puts) g.S.Stream.listed connection traffic number request reply old new noted
          (known_so (AreBefore P seen old.under puts) g.S.Stream.listed connection (AreBefore P now new.under puts) traffic old
          (λ grants so.
          before_same P now (slice_set old.under (number - suc old.told) (replied request reply)) new.under puts puts grants under refl
          (before_noted P seen now old.under puts (number - suc old.told) request reply grants more noted.0.1 so)) (was.2 kept)),
      λ held. absurd (cc),
      λ stops. was.4 (sym (ap (λ (t : Talk). t.stops) noted.1) ∙ stops),
    )

pub returns-then-note-clause-heard : goal.returns-then-note-clause-heard
returns-then-note-clause-heard g c =
    let from = c.self.inside in
    let old = from.talk in
    let new = c.note.new.self in
    let granted = c.args.granted in
    let number = c.line.result in
    let noted = c.note.ensures.noted c.if-note.true in
    let line : granted.question.line ≡ number = ap (λ (q : Posed). q.line) (sym c.question-question.ensures) ∙ sym c.line.ensures in
    let told : new.told ≡ old.told = ap (λ (t : Talk). t.told) noted.1 in
    let under : new.under ≡ slice_set old.under (number - suc old.told) (replied c.request.result c.reply-reply.result) = ap (λ (t : Talk). t.under) noted.1 in
    let at : granted.question.line - suc new.told ≡ number - suc old.told = omega (arith, line, told) in
    c.tell_all.ensures.heard granted.question (λ same stands.
    noted_heard old.under (number - suc old.told) c.request.result granted.question.request c.reply-reply.result
    (ap (λ (l : List Line). slice_get l (number - suc old.told)) (sym under) ∙ ap (λ (n : ℕ). slice_get new.under n) (sym at) ∙ stands.1))
