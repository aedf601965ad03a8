-- Where one pass alone makes calls, the history that the notes show is that of its own calls.
use Rattle.std.proofs.Common.{arith, ◌≡◌, ◌⊎◌, inl, inr, ℕ, suc, List, [], ◌∷◌, ◌++◌, length, refl, sym, ap, ◌∙◌, subst, eq-eqb, if◌then◌else◌, Option, Some}
use Rattle.std.proofs.{Common.{None}, lemmas.{Bool.{cases_eq, Decides.{nat_tests}}, Option.{none-some}}}
use Rattle.lz_refinement.proofs.Vocabulary.{Command, Format, Publishing, Progress, Event, Outcome, Reply, progress_after, mark_of_turn, reply_at, Shape, Moment, What}
use Rattle.lz_refinement.{proofs.Vocabulary.{Note, unless_replied, place, placed, steps_of}, specs.Marks.{calls_in, last_call_number, reply_in, marks_with, marks_in}}
use Rattle.lz_refinement.specs.{OwnCalls.{replied, told_with, told}, Sessions.{marks_alone}}
use Rattle.lz_slot.specs.declared.history.HistoryEvent.TheVariants.{Call}
use Rattle.lz_board.{specs.declared.view.What.TheVariants.{Called, Played, Found}, proofs.Upkeep.Splice.{own_step, other_step}}

-- the step is one of this pass, or of none
abbrev pub IsSole : ℕ → Note → Type 0
IsSole p n = (n.by ≡ p) ⊎ ((q : ℕ) × (v : ℕ) × (n.what ≡ Found q v))

abbrev pub AreSole : ℕ → List Note → Type 0
AreSole p [] = Unit {0}
AreSole p (n ∷ ns) = IsSole p n × AreSole p ns

-- the newest call has no reply yet
abbrev IsOpen : List (Command × Option Reply) → Type 0
IsOpen calls = (c : Command) × (rest : List (Command × Option Reply)) × (calls ≡ (c, None) ∷ rest)

module _ (shape : Shape) (p : ℕ) where
  abbrev told_at : List Note → List (Command × Option Reply)
  told_at ns = told shape (steps_of p ns)

  abbrev place_at : List Note → Option (Command × Progress)
  place_at ns = place shape (steps_of p ns)

  record Alone (ns : List Note) : Type 0 where
    marks : marks_in shape ns ≡ marks_alone p (told_at ns)
    count : calls_in ns ≡ length (told_at ns)
    number : last_call_number p ns ≡ length (told_at ns)
    opens : (call : Command × Progress) → place_at ns ≡ Some call → IsOpen (told_at ns)

  -- what a reply of the open call shows
  shows : (ns : List Note) (h : Alone ns) (reply : Reply) → IsOpen (told_at ns) → mark_of_turn (last_call_number p ns) (Some reply) ++ marks_in shape ns ≡ marks_alone p (replied reply (told_at ns))
  shows ns h reply (c, rest, is) = grind (arith, nat_tests, mark_of_turn)

  same_length : (reply : Reply) (calls : List (Command × Option Reply)) → length calls ≡ length (replied reply calls)
  same_length reply [] = refl
  same_length reply (call ∷ calls) = refl

  module _ (published : Option Publishing) (moment : Moment) (ns : List Note) (h : Alone ns) where
    abbrev note_of : ℕ → What → Note
    note_of by what = record { by = by; what = what; published = published; moment = moment }

    own_steps : (what : What) → steps_of p (note_of p what ∷ ns) ≡ note_of p what ∷ steps_of p ns
    own_steps what = own_step [] p (note_of p what) ns refl

    -- from what its own steps are
    alone_from : (what : What) → marks_with shape p what ns ++ marks_in shape ns ≡ marks_alone p (told_with what (reply_in (place_at ns)) (told_at ns))
        → calls_in (note_of p what ∷ ns) ≡ length (told_with what (reply_in (place_at ns)) (told_at ns)) → last_call_number p (note_of p what ∷ ns) ≡ length (told_with what (reply_in (place_at ns)) (told_at ns))
        → ((call : Command × Progress) → placed shape what (place_at ns) ≡ Some call → IsOpen (told_with what (reply_in (place_at ns)) (told_at ns))) → Alone (note_of p what ∷ ns)
    alone_from what marks count number opens = grind (arith, nat_tests, own_steps, place)

    -- a new call
    called : (c : Command) (format : Format) → Alone (note_of p (Called c format) ∷ ns)
    called c format = alone_from (Called c format) (λ i. Call (suc (h.count i)) p c ∷ h.marks i) (ap suc h.count) (ap (λ b. if b then suc (calls_in ns) else last_call_number p ns) (eq-eqb p p refl) ∙ ap suc h.count)
        (λ call at. (c, told_at ns, refl))

    -- what an event makes of it, by the place of the call before it
    module _ (e : Event) (o : Outcome) where
      abbrev event : What
      event = Played e o

      record After (r : Option Reply) (at : Option (Command × Progress)) : Type 0 where
        marks : mark_of_turn (last_call_number p ns) r ++ marks_in shape ns ≡ marks_alone p (told_with event r (told_at ns))
        long : length (told_at ns) ≡ length (told_with event r (told_at ns))
        opens : (call : Command × Progress) → at ≡ Some call → IsOpen (told_with event r (told_at ns))

      answering : (c : Command) (at : Progress) (r : Option Reply) → IsOpen (told_at ns) → After r (unless_replied r c (progress_after shape c at o))
      answering c at None opens = record { marks = h.marks; long = refl; opens = λ call is. opens }
      answering c at (Some reply) opens = record { marks = shows ns h reply opens; long = same_length reply (told_at ns); opens = λ call is. absurd (none-some call is) }

      after : (at : Option (Command × Progress)) → ((call : Command × Progress) → at ≡ Some call → IsOpen (told_at ns)) → After (reply_in at) (placed shape event at)
      after None opens = record { marks = h.marks; long = refl; opens = λ call is. absurd (none-some call is) }
      after (Some call) opens = answering call.0 call.1 (reply_at call.1) (opens call refl)

      played : Alone (note_of p event ∷ ns)
      played = let r = after (place_at ns) h.opens in alone_from event r.marks (h.count ∙ r.long) (h.number ∙ r.long) r.opens

    own_found : (q v : ℕ) → Alone (note_of p (Found q v) ∷ ns)
    own_found q v = alone_from (Found q v) h.marks h.count h.number h.opens

    other_found : (by q v : ℕ) → ¬ (by ≡ p) → Alone (note_of by (Found q v) ∷ ns)
    other_found by q v away = grind (arith, nat_tests, other_step, place)

    own_alone : (what : What) → Alone (note_of p what ∷ ns)
    own_alone (Called c format) = called c format
    own_alone (Played e o) = played e o
    own_alone (Found q v) = own_found q v

    found_alone : (by q v : ℕ) → Alone (note_of by (Found q v) ∷ ns)
    found_alone by q v = grind (arith, nat_tests, own_found, other_found, cases_eq)

  step_alone : (n : Note) (ns : List Note) → IsSole p n → Alone ns → Alone (n ∷ ns)
  step_alone n ns (inl own) h = subst (λ b. Alone (record { by = b; what = n.what; published = n.published; moment = n.moment } ∷ ns)) (sym own) (own_alone n.published n.moment ns h n.what)
  step_alone n ns (inr (q, v, found)) h = subst (λ w. Alone (record { by = n.by; what = w; published = n.published; moment = n.moment } ∷ ns)) (sym found) (found_alone n.published n.moment ns h n.by q v)

  alone : (ns : List Note) → AreSole p ns → Alone ns
  alone [] are = record { marks = refl; count = refl; number = refl; opens = λ call at. absurd (none-some call at) }
  alone (n ∷ ns) are = step_alone n ns are.0 (alone ns are.1)

  pub alone_marks : (ns : List Note) → AreSole p ns → marks_in shape ns ≡ marks_alone p (told shape (steps_of p ns))
  alone_marks ns are = (alone ns are).marks
