-- Worked rows of turns, and of what a client has told and keeps, most of which must not hold.
use Rattle.lz_serve.specs.declared.turn.Turn.TheVariants as turn
use Rattle.std.proofs.Common.{◌≡◌, ◌≢◌, ◌∷◌, ℕ, zero, suc, false, List, [], inl, inr, Some, None, refl, sym, subst, arith, lit≤}
use Rattle.lz_proto.specs.declared.{request.Request.TheVariants.{Add, Has}, reply.Reply.TheVariants.{Yes}}
use Rattle.lz_resp.specs.{Queries.{IsClear}, declared.{query.Query.{Query, TheVariants.{Clear}}, scan.Scan.{Scan}}}
use Rattle.lz_slot.specs.declared.format.Format.{Format}
use Rattle.lz_board.specs.{declared.pass.Pass.{Pass}, Seats.{BoardId}}
use Rattle.lz_serve.specs.{Askings.{Asked}, Clients.{Asker, Askers, ComesAfter, HasNoneAt, HasTold, HasToldTexts, IsInTurn, KeepsLinesOf, Remains, Turned}}
use Rattle.lz_serve.specs.{Desks.{GoesAnew}, Grants.{Posed}, Conversations.{IsReady, IsText}, Lines.{awaited, replied}, Queues.{is_in}}
use Rattle.lz_serve.{specs.declared.turn.{Turn.{Turn}, Wording.TheVariants.{Line}}, proofs.ClientRows.{asks, asks_on, has_line, its_own, posed, two}}

-- the first client has no line left
abbrev one : Pass → Askers
one p = record { admitted = 2; clients = Some (asks p []) ∷ None ∷ []; queue = 1 ∷ []; scans = []; begun = 0 }

no_line : (p : Pass) → HasNoneAt (one p) 0
no_line p line = let none = line.waits in absurd (cc)

-- who has a line waits for its turn, and one that has none doesn't have to
waits : (p : Pass) → IsInTurn (two p (1 ∷ 0 ∷ [])) 0
waits p line = refl

waits_for_nothing : (p : Pass) → IsInTurn (one p) 0
waits_for_nothing p line = absurd (no_line p line)

-- the first has had its turn, and has no more
turned : (p : Pass) → Turned (two p (0 ∷ 1 ∷ [])) (one p) 0 (Some (posed 1 p))
turned p = record {
  rest = 1 ∷ [];
  stood = refl;
  once = refl;
  others = same;
  behind = inl refl;
  waits = waits_for_nothing p;
  none = λ unasked. absurd (cc);
}
  where
    same : (t : ℕ) → t ≢ 0 → HasNoneAt (two p (0 ∷ 1 ∷ [])) t → HasNoneAt (one p) t
    same zero other has = absurd (other refl)
    same (suc t) other has = has

-- it has one more, and stands behind the other
turned_behind : (p : Pass) → Turned (two p (0 ∷ 1 ∷ [])) (two p (1 ∷ 0 ∷ [])) 0 (Some (posed 1 p))
turned_behind p = record {
  rest = 1 ∷ [];
  stood = refl;
  once = refl;
  others = λ t other has. has;
  behind = inr refl;
  waits = waits p;
  none = λ unasked. absurd (cc);
}

-- its exchange waits for the reply to its line
abbrev waiting : Pass → Asker
waiting p = record (asks p []) { turns = turn.Asks Line 1 ∷ [] }

has_told : (p : Pass) → HasTold (waiting p)
has_told p there = (λ goes first is ready. unready first is ready, λ goes query is. absurd (cc))
  where
    unready : (first : Turn) → turn.Asks Line 1 ∷ [] ≡ first ∷ [] → IsReady first (awaited (Add 5) ∷ []) → ⊥
    unready first is ready = let asks : turn.Asks Line 1 ≡ first = cc in let (replies, many, none) = subst (λ (t : Turn). IsReady t (awaited (Add 5) ∷ [])) (sym asks) ready in absurd (cc)

-- a page is told once it was listed
page_to_come : (p : Pass) (scan : Scan) → HasTold (record (asks p []) { turns = turn.Lists scan ∷ [] })
page_to_come p scan there = (λ goes first is ready. unready first is ready, λ goes query is. absurd (cc))
  where
    unready : (first : Turn) → turn.Lists scan ∷ [] ≡ first ∷ [] → IsReady first (awaited (Add 5) ∷ []) → ⊥
    unready first is ready = let lists : turn.Lists scan ≡ first = cc in subst (λ (t : Turn). IsReady t (awaited (Add 5) ∷ [])) (sym lists) ready

-- a client waits for a room to be cleared
room_to_clear : (p : Pass) → HasTold (record (asks p []) { turns = turn.Tells (Clear 3) ∷ [] })
room_to_clear p there = (λ goes first is ready. unready first is ready, λ goes query is. clears query is)
  where
    unready : (first : Turn) → turn.Tells (Clear 3) ∷ [] ≡ first ∷ [] → IsReady first (awaited (Add 5) ∷ []) → ⊥
    unready first is ready = let tells : turn.Tells (Clear 3) ≡ first = cc in subst (λ (t : Turn). IsReady t (awaited (Add 5) ∷ [])) (sym tells) ready

    clears : (query : Query) → turn.Tells (Clear 3) ∷ [] ≡ turn.Tells query ∷ [] → IsClear query
    clears query is = let same : Clear 3 ≡ query = cc in subst IsClear same tt

-- its texts were told where a page or a line is in front of the next one
texts_told : (p : Pass) (scan : Scan) → HasToldTexts (record (asks p []) { turns = turn.Lists scan ∷ turn.Says [] ∷ [] })
texts_told p scan there = (λ goes first is text. none first is text, λ goes query is. absurd (cc))
  where
    none : (first : Turn) → turn.Lists scan ∷ turn.Says [] ∷ [] ≡ first ∷ turn.Says [] ∷ [] → IsText first → ⊥
    none first is text = let lists : turn.Lists scan ≡ first = cc in subst IsText (sym lists) text

lines_first : (p : Pass) → HasToldTexts (record (asks p []) { turns = turn.Asks Line 1 ∷ turn.Says [] ∷ [] })
lines_first p there = (λ goes first is text. none first is text, λ goes query is. absurd (cc))
  where
    none : (first : Turn) → turn.Asks Line 1 ∷ turn.Says [] ∷ [] ≡ first ∷ turn.Says [] ∷ [] → IsText first → ⊥
    none first is text = let asks : turn.Asks Line 1 ≡ first = cc in subst IsText (sym asks) text

-- its next line comes after its first one
abbrev second : Pass → Posed
second p = record (posed 1 p) { line = 2 }

comes_after : (p : Pass) → ComesAfter (Some (asks p [])) (second p)
comes_after p q own same = let low = (own same).0 in omega (arith, low)

-- it has one more line, and is the same client
keeps_lines : (p : Pass) → KeepsLinesOf (Some (asks p [])) (Some (asks_on p (Has 6)))
keeps_lines p = refl

-- What must not hold.

-- a client with a line is in turn that doesn't wait
forgotten : (p : Pass) → IsInTurn (two p (1 ∷ [])) 0 → ⊥
forgotten p waits = let is = waits (has_line p) in absurd (cc)

-- the second has had its turn
not_the_first : (p : Pass) (new : Askers) → Turned (two p (0 ∷ 1 ∷ [])) new 1 (Some (posed 1 p)) → ⊥
not_the_first p new turn = let stood = turn.stood in let is : ◌≡◌ {A = ℕ} 0 1 = cc in absurd (omega (arith, is))

-- one that stood there twice
twice : (p : Pass) (new : Askers) → Turned (two p (0 ∷ 0 ∷ [])) new 0 (Some (posed 1 p)) → ⊥
twice p new turn = let stood = turn.stood in let rest : turn.rest ≡ 0 ∷ [] = cc in let once : is_in 0 (0 ∷ []) ≡ false = subst (λ (r : List ℕ). is_in 0 r ≡ false) rest turn.once in absurd (cc)

-- the other is dropped
dropped : (p : Pass) → Turned (two p (0 ∷ 1 ∷ [])) (record (one p) { queue = [] }) 0 (Some (posed 1 p)) → ⊥
dropped p turn = elim turn.behind as (λ _. ⊥) [ inl is ↦ let stood = turn.stood in absurd (cc) | inr is ↦ let stood = turn.stood in absurd (cc) ]

-- it has one more, and doesn't wait
not_behind : (p : Pass) → Turned (two p (0 ∷ 1 ∷ [])) (two p (1 ∷ [])) 0 (Some (posed 1 p)) → ⊥
not_behind p turn = forgotten p turn.waits

-- it asked nothing, though it has a line
unasked : (p : Pass) → Turned (two p (0 ∷ [])) (two p []) 0 None → ⊥
unasked p turn = (turn.none refl).1 (has_line p)

-- another has a line that had none
other_has : (p : Pass) → Turned (one p) (two p []) 1 (Some (posed 1 p)) → ⊥
other_has p turn = turn.others 0 (λ same. absurd (omega (arith, same))) (no_line p) (has_line p)

-- it has its reply, or was asked for what the service itself knows, and wasn't told
untold : (p : Pass) → HasTold (record (waiting p) { under = replied (Add 5) Yes ∷ [] }) → ⊥
untold p told = (told refl).0 refl (turn.Asks Line 1) refl (Yes ∷ [], lit≤ tt, refl)

unanswered : (p : Pass) (query : Query) → (IsClear query → ⊥) → HasTold (record (asks p []) { turns = turn.Tells query ∷ [] }) → ⊥
unanswered p query now told = now ((told refl).1 refl query refl)

-- a text is in front, or what ends the session, or what the service itself knows is asked for
unsaid : (p : Pass) → HasToldTexts (record (asks p []) { turns = turn.Says [] ∷ [] }) → ⊥
unsaid p told = (told refl).0 refl (turn.Says []) refl tt

not_ended : (p : Pass) → HasToldTexts (record (asks p []) { turns = turn.Ends [] ∷ [] }) → ⊥
not_ended p told = (told refl).0 refl (turn.Ends []) refl tt

query_waits : (p : Pass) (query : Query) → (IsClear query → ⊥) → HasToldTexts (record (asks p []) { turns = turn.Tells query ∷ [] }) → ⊥
query_waits p query now told = now ((told refl).1 refl query refl)

-- a line comes after itself
again : (p : Pass) → ComesAfter (Some (asks p [])) (posed 1 p) → ⊥
again p after = let low = after (posed 1 p) (its_own p) refl in absurd (omega (arith, low))

-- a client has left, has come, or has a line more
gone : (p : Pass) → KeepsLinesOf (Some (asks p [])) None → ⊥
gone p keeps = keeps

gone_away : (p : Pass) → Remains (Some (asks p [])) None → ⊥
gone_away p remains = remains

come : (p : Pass) → KeepsLinesOf None (Some (asks p [])) → ⊥
come p keeps = keeps

one_more : (p : Pass) → KeepsLinesOf (Some (asks p [])) (Some (record (asks p []) { lines = 2 })) → ⊥
one_more p keeps = let is : ◌≡◌ {A = ℕ} 2 1 = cc in absurd (omega (arith, is))

-- a call goes on that stands where it stood
stands_still : (b : BoardId) (F : Format) (was now : Askers) (a : Asked) (q : Posed) → a.question ≡ Some q → GoesAnew b F was now a a → ⊥
stands_still b F was now a q is (inl again) = let more = again.more in absurd (omega (arith, more))
stands_still b F was now a q is (inr both) = grind arith
