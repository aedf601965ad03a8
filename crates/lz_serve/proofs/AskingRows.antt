-- Worked rows of what a pass of a loop is about, most of which must not hold.
use Rattle.lz_slot.specs.declared.command.Command.TheVariants as command
use Rattle.lz_set.specs.declared.fault.Fault.TheVariants as fault
use Rattle.std.proofs.Common.{◌≡◌, ◌≢◌, ◌↔◌, ◌&&◌, inl, inr, ℕ, zero, suc, Bool, true, false, List, [], ◌∷◌, IsSomeAnd, IsTrue, Option, Some, None, Result, Ok}
use Rattle.std.proofs.{Common.{Err, refl, sym, ap, ◌∙◌, subst, arith, lit<}, lemmas.List.Elements.{All-cons, All-nil}}
use mathlib.Core.Bool.{true≢false}
use Rattle.lz_slot.specs.declared.format.Format.{Format}
use Rattle.lz_machine.specs.{Orders.{Calling}, Yards.{Yard}}
use Rattle.lz_proto.specs.declared.{request.Request.TheVariants.{Add, Has, Quit}, reply.Reply.{Reply, TheVariants.{Yes, Full}}}
use Rattle.lz_board.specs.{declared.{pass.Pass.{Pass}, view.Part.{Part}}, Seats.{BoardId}}
use Rattle.lz_set.specs.{declared.{fault.Fault.{Fault}, underway.Blocked.{Blocked, TheVariants.{Answers}}}, Stages.{StandsBefore}}
use Rattle.lz_serve.specs.{Clients.{Askers, AwaitsBeforeAt}, Desks.{AnswersOneOf}, Grants.{Posed}, Halts.{SawHalt}, Lines.{awaited, replied as has_reply}}
use Rattle.lz_serve.specs.{Replies.{AreAskedAgain, IsCallAnswered, command_of, told_of}, Askings.{AnswersNoOther, Asked, HasAnswered, IsAnsweredWith}}
use Rattle.lz_serve.specs.Askings.{IsAnswering, IsAsking, IsCounting, IsMadeAgain, IsSameQuestion, IsStopped, StillAwaits, WaitsForSlots}
use Rattle.lz_serve.{specs.declared.line.Line.{Line}, proofs.{Seats.{alone_once, told_full}, Askings.{resting}}}
use Rattle.lz_serve.proofs.ClientRows.{asks, before_the_first_line, before_the_second, posed, two}
use Rattle.lz_serve.proofs.ReplyRows.{never_full, silent_again, silent_alone, silent_at_last, silent_beside_a_removal, silent_while_one_waits}

module _ (b : BoardId) (F : Format) (given : List Part) (q : Posed) (pass : Pass) (call : Option Calling) (tries : ℕ) (is : IsAnswering b F given q pass call tries) where
  -- `quit` is answered by no call
  no_quit : q.request ≡ Quit → ⊥
  no_quit quits = let asked = ap command_of (sym quits) ∙ is.asked in absurd (cc)

  -- the call under way is for the request
  other_call : (k : Calling) → call ≡ Some k → q.request ≡ Add 7 → k.command ≡ command.Has 7 → ⊥
  other_call k begun adds looks = grind arith

  -- a first call is made by the pass as it was before
  first_is_made_at_once : tries ≡ 0 → is.middle ≡ q.before
  first_is_made_at_once none = subst (λ (n : ℕ). AreAskedAgain b F q.earlier is.c n q.before is.middle) none is.earlier

  -- while a call is yet to begin the pass has moved no further
  waits_outside : call ≡ None → pass ≡ is.middle
  waits_outside none = (subst (λ (k : Option Calling). IsCounting b F is.c is.middle k pass) none is.counts).0

  -- a set of one pass is asked once
  alone_twice : b.sizes.passes ≡ 1 → tries ≡ 1 → ⊥
  alone_twice one twice = grind (arith, alone_once)

module _ (b : BoardId) (F : Format) (given : List Part) (a : Asked) (is : IsAsking b F given a) (rests : a.question ≡ None) where
  -- a pass that rests and whose reply told of a halt has seen it
  has_seen : a.halted ≡ true → SawHalt a.pass
  has_seen = (resting b F given a.question a.pass a.halted a.call a.tries rests is.0).seen

  -- it has no call under way
  has_no_call : (k : Calling) → a.call ≡ Some k → ⊥
  has_no_call k begun = let none = (resting b F given a.question a.pass a.halted a.call a.tries rests is.0).none in absurd (cc)

-- a question is no other
other_request : (old new : Asked) (p q : Posed) → IsSameQuestion old new → old.question ≡ Some p → new.question ≡ Some q → p.request ≡ Has 7 → q.request ≡ Has 8 → ⊥
other_request old new p q same first second seven eight = let kept = same.question in absurd (cc)

-- one waits for slots that may be made again, and wasn't answered since
waits_on : (b : BoardId) (F : Format) (clients : Askers) (a : Asked) → WaitsForSlots b F clients true a a → ⊥
waits_on b F clients a (waits, inl never) = true≢false never
waits_on b F clients a (waits, inr again) = let more = again.more in absurd (omega (arith, more))

-- one is stopped that wasn't played on, or has its reply
unplayed : (y : Yard) (a : Asked) → a.stage ≡ None → IsStopped y a → ⊥
unplayed y a none stops = subst (λ (o : Option Blocked). IsSomeAnd o (λ stage. IsSomeAnd a.call (λ k. StandsBefore y stage k))) none stops

replied : (y : Yard) (a : Asked) (k : Calling) → a.stage ≡ Some Answers → a.call ≡ Some k → IsStopped y a → ⊥
replied y a k answers begun stops = grind arith

-- a pass at the first client's place that answers this question, after so many calls that were made again
abbrev answers : Posed → Pass → ℕ → Asked
answers q pass tries = record { question = Some q; token = 0; pass = pass; halted = false; call = None; tries = tries; stage = None }

-- a second line of that client, which was put while the first one awaited its reply, or once it had it
abbrev second : Pass → Bool → Posed
second p earlier = record (posed 1 p) { line = 2; earlier = earlier }

-- a slot waits for calls that end, or all have members
abbrev one_waits : Result Bool Fault
one_waits = Err (fault.Full (record { free = 0; taken = 7; limbo = 1 }))

abbrev members : Result Bool Fault
members = Err (fault.Full (record { free = 0; taken = 8; limbo = 0 }))

-- the first line awaits its reply, as it did when the second was put
awaits_still : (p : Pass) → StillAwaits (two p []) (answers (second p true) p 0)
awaits_still p = (refl, before_the_second p)

-- it didn't when that was put, or is that line itself, has its reply now, or its client has left
not_when_put : (p : Pass) → StillAwaits (two p []) (answers (second p false) p 0) → ⊥
not_when_put p still = true≢false (sym still.0)

first_line : (p : Pass) → StillAwaits (two p []) (answers (record (posed 1 p) { earlier = true }) p 0) → ⊥
first_line p still = still.1 (before_the_first_line p)

answered_since : (p : Pass) → StillAwaits (record (two p []) { clients = Some (record (asks p []) { under = has_reply (Add 5) Yes ∷ awaited (Has 6) ∷ [] }) ∷ [] }) (answers (second p true) p 0) → ⊥
answered_since p still = still.1 (All-cons (λ (l : Line). l.reply ≢ None) (has_reply (Add 5) Yes) [] (λ none. absurd (cc)) (All-nil (λ (l : Line). l.reply ≢ None)))

client_left : (p : Pass) → StillAwaits (two p []) (record (answers (second p true) p 0) { token = 1 }) → ⊥
client_left p still = still.1

-- nor does one of a pass that rests
rests_alone : (clients : Askers) (a : Asked) → a.question ≡ None → StillAwaits clients a → ⊥
rests_alone clients a none still = subst (λ (o : Option Posed). IsSomeAnd o (λ q. (q.earlier ≡ true) × AwaitsBeforeAt clients a.token q.line)) none still

-- it answers the same question still, or rests now
still_answers : (p after : Pass) → AnswersNoOther (answers (second p true) p 0) (answers (second p true) after 1)
still_answers p after = inr (refl, refl)

rests_now : (p after : Pass) → AnswersNoOther (answers (second p true) p 0) (record (answers (second p true) after 0) { question = None })
rests_now p after = inl refl

-- it has begun the next line, or one that asks the same at another place
abbrev number : Option Posed → ℕ
number None = 0
number (Some q) = q.line

next_begun : (p after : Pass) → AnswersNoOther (answers (posed 1 p) p 0) (answers (second p true) after 0) → ⊥
next_begun p after (inl none) = absurd (cc)
next_begun p after (inr (same, place)) = let line = ap number same in absurd (omega (arith, line))

another_place : (p after : Pass) → AnswersNoOther (answers (posed 1 p) p 0) (record (answers (posed 1 p) after 0) { token = 1 }) → ⊥
another_place p after (inl none) = absurd (cc)
another_place p after (inr (same, place)) = absurd (omega (arith, place))

-- it answers the second question of two, and no question where none was asked, or where only the first one was
second_of : (p after : Pass) → AnswersOneOf (answers (posed 1 p) p 0 ∷ answers (second p true) p 0 ∷ []) (answers (second p true) after 1)
second_of p after = (1, answers (second p true) p 0, lit< tt, refl, refl)

one_of_none : (a : Asked) → AnswersOneOf [] a → ⊥
one_of_none a (k, x, low, is, same) = omega (arith, low)

only_the_first : (p : Pass) → AnswersOneOf (answers (posed 1 p) p 0 ∷ []) (answers (second p true) p 0) → ⊥
only_the_first p (zero, x, low, is, same) = let line = ap number (ap (λ (a : Asked). a.question) is ∙ same) in absurd (omega (arith, line))
only_the_first p (suc k, x, low, is, same) = absurd (omega (arith, low))

module _ (b : BoardId) (F : Format) (p after : Pass) where
  -- its first call was answered yes, which is told
  yes_told : IsCallAnswered b F (command.Add 5) (Ok true) p after → IsAnsweredWith b F true (answers (second p true) p 0) (Some Yes) after
  yes_told last = record { question = second p true; asks = refl; c = command.Add 5; asks_for = refl; middle = p; before = refl; answer = Ok true; last = last; told = refl }

  -- there are three passes, and a slot waits: nothing is told
  waits_silent : b.sizes.passes ≡ 3 → IsCallAnswered b F (command.Add 5) one_waits p after → IsAnsweredWith b F false (answers (second p true) p 0) None after
  waits_silent three last = record { question = second p true; asks = refl; c = command.Add 5; asks_for = refl; middle = p; before = refl; answer = one_waits; last = last; told = sym (silent_while_one_waits b three) }

  -- all slots have members, and the first line awaits its reply: one more call is made
  beside_again : b.sizes.passes ≡ 3 → IsCallAnswered b F (command.Add 5) members p after → IsMadeAgain b F (two p []) (answers (second p true) p 0) (answers (second p true) after 1)
  beside_again three last = record {
    question = refl;
    token = refl;
    more = refl;
    answered = (
      true,
      (λ is. awaits_still p, λ still. refl),
      record { question = second p true; asks = refl; c = command.Add 5; asks_for = refl; middle = p; before = refl; answer = members; last = last; told = sym (silent_beside_a_removal b three) },
    );
  }

  -- where that one had its reply, or the answer is yes, it is told
  full_told : IsCallAnswered b F (command.Add 5) members p after → HasAnswered b F (two p []) (answers (second p false) p 0)
  full_told last = (
    Full,
    after,
    (
      false,
      (λ is. absurd (true≢false (sym is)), λ still. absurd (not_when_put p still)),
      record { question = second p false; asks = refl; c = command.Add 5; asks_for = refl; middle = p; before = refl; answer = members; last = last; told = refl },
    ),
  )

  has_answered : IsCallAnswered b F (command.Add 5) (Ok true) p after → HasAnswered b F (two p []) (answers (second p true) p 0)
  has_answered last = (Yes, after, (true, (λ is. awaits_still p, λ still. refl), yes_told last))

-- What must not be told of an answer.

module _ (b : BoardId) (F : Format) (earlier : Bool) (asked : Asked) (reply : Option Reply) (after : Pass) (is : IsAnsweredWith b F earlier asked reply after) where
  -- that of a pass that rests, or of a line that ends a session, which have no call
  unasked : asked.question ≡ None → ⊥
  unasked none = let asks = is.asks in absurd (cc)

  quits : is.question.request ≡ Quit → ⊥
  quits ends = let c = ap command_of (sym ends) ∙ is.asks_for in absurd (cc)

  -- that of a call for something else
  another_command : is.question.request ≡ Add 5 → is.c ≡ command.Remove 5 → ⊥
  another_command adds removes = let c = ap command_of (sym adds) ∙ is.asks_for in absurd (cc)

  -- nothing, after yes, in a set of one pass, after a thousand calls, or of a lookup
  silent_yes : reply ≡ None → is.answer ≡ Ok true → ⊥
  silent_yes silent is_yes = let told = subst (λ (a : Result Bool Fault). reply ≡ told_of b asked.tries (earlier && is.question.earlier) a) is_yes is.told in absurd (cc)

  kept_back_alone : reply ≡ None → b.sizes.passes ≡ 1 → ⊥
  kept_back_alone silent one = silent_alone b asked.tries (earlier && is.question.earlier) is.answer one (sym silent ∙ is.told)

  many_more : reply ≡ None → asked.tries ≡ 1_000 → ⊥
  many_more silent all = silent_at_last b (earlier && is.question.earlier) is.answer (subst (λ (n : ℕ). None ≡ told_of b n (earlier && is.question.earlier) is.answer) all (sym silent ∙ is.told))

  silent_lookup : reply ≡ None → is.c ≡ command.Has 7 → ⊥
  silent_lookup silent looks = grind (arith, never_full, told_full, silent_again)

  -- another answer's reply
  yes_as_full : reply ≡ Some Full → is.answer ≡ Ok true → ⊥
  yes_as_full full is_yes = let told = subst (λ (a : Result Bool Fault). reply ≡ told_of b asked.tries (earlier && is.question.earlier) a) is_yes is.told in absurd (cc)

-- `full`, of three passes, while a slot waits, or while the first line awaits its reply
module _ (b : BoardId) (F : Format) (p after : Pass) (three : b.sizes.passes ≡ 3) where
  full_at_once : (is : IsAnsweredWith b F false (answers (second p true) p 0) (Some Full) after) → is.answer ≡ one_waits → ⊥
  full_at_once is waits = grind (arith, silent_while_one_waits)

  full_beside : (earlier : Bool) (so : IsTrue earlier ↔ StillAwaits (two p []) (answers (second p true) p 0)) (is : IsAnsweredWith b F earlier (answers (second p true) p 0) (Some Full) after) → is.answer ≡ members → ⊥
  full_beside earlier so is full =
      let asks = is.asks in
      let same : second p true ≡ is.question = cc in
      let was : is.question.earlier ≡ true = sym (ap (λ (q : Posed). q.earlier) same) in
      let told = subst (λ (e : Bool). Some Full ≡ told_of b 0 (earlier && e) is.answer) was is.told in
      let beside = subst (λ (e : Bool). Some Full ≡ told_of b 0 (e && true) is.answer) (so.1 (awaits_still p)) told in
      let here = subst (λ (a : Result Bool Fault). Some Full ≡ told_of b 0 true a) full beside in
      let silent = silent_beside_a_removal b three in
      absurd (cc)

-- no call is made again, and none has its reply, for a pass that rests
module _ (b : BoardId) (F : Format) (clients : Askers) where
  rests_again : (old new : Asked) → old.question ≡ None → IsMadeAgain b F clients old new → ⊥
  rests_again old new none again = let (earlier, so, is) = again.answered in unasked b F earlier old None new.pass is none

  rests_answered : (asked : Asked) → asked.question ≡ None → HasAnswered b F clients asked → ⊥
  rests_answered asked none (reply, after, (earlier, so, is)) = unasked b F earlier asked (Some reply) after is none

  -- one is that isn't counted, or that is the only pass's
  uncounted : (old new : Asked) → new.tries ≡ old.tries → IsMadeAgain b F clients old new → ⊥
  uncounted old new same again = let more = again.more in absurd (omega (arith, same, more))

  -- one is for another line, or for one at another place
  for_another_line : (p after : Pass) → IsMadeAgain b F clients (answers (posed 1 p) p 0) (answers (second p true) after 1) → ⊥
  for_another_line p after again = let line = ap number again.question in absurd (omega (arith, line))

  for_another_place : (p after : Pass) → IsMadeAgain b F clients (answers (posed 1 p) p 0) (record (answers (posed 1 p) after 1) { token = 1 }) → ⊥
  for_another_place p after again = let place = again.token in absurd (omega (arith, place))

  alone_again : (old new : Asked) → b.sizes.passes ≡ 1 → IsMadeAgain b F clients old new → ⊥
  alone_again old new one again = let (earlier, so, is) = again.answered in kept_back_alone b F earlier old None new.pass is refl one

-- one is made again where no slot waits, beside an earlier line that had its reply when it was put
again_for_nothing : (b : BoardId) (F : Format) (p : Pass) (new : Asked) (earlier : Bool) (is : IsAnsweredWith b F earlier (answers (second p false) p 0) None new.pass) → is.answer ≡ members → ⊥
again_for_nothing b F p new earlier is full =
    let asks = is.asks in
    let same : second p false ≡ is.question = cc in
    let was : is.question.earlier ≡ false = sym (ap (λ (q : Posed). q.earlier) same) in
    let told = subst (λ (e : Bool). None ≡ told_of b 0 (earlier && e) is.answer) was is.told in
    let none = subst (λ (e : Bool). None ≡ told_of b 0 e is.answer) (and_false earlier) told in
    let here = subst (λ (a : Result Bool Fault). None ≡ told_of b 0 false a) full none in
    absurd (cc)
  where
    and_false : (x : Bool) → (x && false) ≡ false
    and_false true = refl
    and_false false = refl
