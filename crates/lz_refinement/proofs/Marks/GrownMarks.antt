-- What notes show grows: loads that are put among them show nothing, and a hold's step puts its mark before all others.
use Rattle.std.proofs.Common.{arith, ◌≡◌, ◌≢◌, ℕ, suc, ◌≤◌, List, [], ◌∷◌, ◌++◌, length, refl, sym, ap, ◌∙◌, subst, Option, Some, None}
use Rattle.std.proofs.lemmas.Bool.Decides.{nat_tests}
use Rattle.lz_refinement.proofs.Vocabulary.{Command, Format, Publishing, Trace, Event, Outcome, Progress, Calling, mark_of_turn, reply_at, Shape, What, Note, Load}
use Rattle.lz_refinement.proofs.Vocabulary.{Part, steps_of, note_by, load_note, insert_load, splice, Quiet, InOrder, place, shape_of_sizes, Knows, BoardId}
use Rattle.lz_refinement.specs.{NotedRuns.{AreNext, IsHopAt}, Holds.{HasCall, HoldNotes}}
use Rattle.lz_refinement.specs.Marks.{calls_with, calls_in, number_with, last_call_number, reply_in, marks_with, marks_in, Shows}
use Rattle.lz_slot.specs.declared.history.HistoryEvent.TheVariants.{Call}
use Rattle.lz_machine.specs.declared.caller.Progress.TheVariants.{Answering}
use Rattle.lz_board.specs.declared.view.What.TheVariants.{Called, Played, Found}
use Rattle.lz_board.proofs.Upkeep.Splice.{at_place, other_step, steps_insert_other, steps_splice, quiet_splice}

-- a call that loads next isn't about to reply
load_replies : (shape : Shape) (h : Load) (at : Option (Command × Progress)) → IsHopAt shape h at → reply_in at ≡ None
load_replies shape h None is = absurd is
load_replies shape h (Some (c, Answering reply)) is = absurd cc
load_replies shape h (Some (c, at)) is = refl

module _ (opened : Trace) (shape : Shape) (p : ℕ) where
  calls_insert : (h : Load) (ns : List Note) → calls_in (insert_load opened p h ns) ≡ calls_in ns
  calls_insert h [] = refl
  calls_insert h (x ∷ xs) = at_place opened (λ r. calls_in r ≡ calls_in (x ∷ xs)) p h x xs (λ _. ap (calls_with x.what) (calls_insert h xs)) (λ _. refl)

  number_insert : (q : ℕ) (h : Load) (ns : List Note) → last_call_number q (insert_load opened p h ns) ≡ last_call_number q ns
  number_insert q h [] = refl
  number_insert q h (x ∷ xs) = at_place opened (λ r. last_call_number q r ≡ last_call_number q (x ∷ xs)) p h x xs
      (λ _ i. number_with q x.by x.what (calls_insert h xs i) (number_insert q h xs i)) (λ _. refl)

  -- another pass's step shows the same after the load
  with_insert : (by : ℕ) (what : What) (h : Load) (ns : List Note) → p ≢ by → marks_with shape by what (insert_load opened p h ns) ≡ marks_with shape by what ns
  with_insert by (Called c format) h ns other = ap (λ k. Call (suc k) by c ∷ []) (calls_insert h ns)
  with_insert by (Played e o) h ns other = λ i. mark_of_turn (number_insert by h ns i) (reply_in (place shape (steps_insert_other opened by p h ns other i)))
  with_insert by (Found q v) h ns other = refl

  shows_no_load : (h : Load) (ns : List Note) → IsHopAt shape h (place shape (steps_of p ns)) → marks_in shape (load_note p h ∷ ns) ≡ marks_in shape ns
  shows_no_load h ns next = ap (λ r. mark_of_turn (last_call_number p ns) r ++ marks_in shape ns) (load_replies shape h (place shape (steps_of p ns)) next)

  -- a step of another pass that stands above the load shows the same
  pub marks_above : (h : Load) (x : Note) (xs : List Note) → x.by ≢ p → marks_in shape (insert_load opened p h xs) ≡ marks_in shape xs → marks_in shape (x ∷ insert_load opened p h xs) ≡ marks_in shape (x ∷ xs)
  marks_above h x xs away rest = λ i. with_insert x.by x.what h xs (λ same. away (sym same)) i ++ rest i

  pub marks_insert : (h : Load) (ns : List Note) → Quiet opened p h.at ns → IsHopAt shape h (place shape (steps_of p ns)) → marks_in shape (insert_load opened p h ns) ≡ marks_in shape ns
  marks_insert h [] quiet next = absurd next
  marks_insert h (x ∷ xs) quiet next = at_place opened (λ r. marks_in shape r ≡ marks_in shape (x ∷ xs)) p h x xs
      (λ over.
      let away = quiet.0 over in
      marks_above h x xs away (marks_insert h xs quiet.1 (subst (λ l. IsHopAt shape h (place shape l)) (other_step opened p x xs away) next)))
      (λ _. shows_no_load h (x ∷ xs) next)

  pub number_splice : (q : ℕ) (hs : List Load) (ns : List Note) → last_call_number q (splice opened p hs ns) ≡ last_call_number q ns
  number_splice q [] ns = refl
  number_splice q (h ∷ hs) ns = number_insert q h (splice opened p hs ns) ∙ number_splice q hs ns

  pub marks_splice : (base top : ℕ) (hs : List Load) (ns : List Note) → Quiet opened p base ns → length opened ≤ base → InOrder base hs top → AreNext shape p hs (steps_of p ns)
      → marks_in shape (splice opened p hs ns) ≡ marks_in shape ns
  marks_splice base top [] ns quiet low order next = refl
  marks_splice base top (h ∷ hs) ns quiet low order next = grind (arith, nat_tests, steps_splice, marks_insert, splice, quiet_splice, place, marks_splice base h.at hs ns quiet low order.1 next.1)

-- a hold of a pass whose loads come next
module _ (b : BoardId) (was is : List Note) (h h' : Part) (knows : Knows b.sizes b.opened was h) where
  abbrev shape : Shape
  shape = shape_of_sizes b.sizes

  abbrev spliced : List Note
  spliced = splice b.opened h.number h.loads was

  -- it puts the reply that was next before all that was shown
  pub turn_shows : (c : Calling) (e : Event) (o : Outcome) (x : Option Publishing) → HasCall h c → HoldNotes b.opened was is (note_by h.number (Played e o) x) h h'
      → Shows shape was is (mark_of_turn (last_call_number h.number was) (reply_at c.progress))
  turn_shows c e o x call holds = grind (arith, nat_tests, mark_of_turn, number_splice, steps_of, shape_of_sizes, marks_splice, place, steps_splice, load_note)

  -- and the hold that makes a call puts that call there
  pub call_shows : (c : Command) (format : Format) → h.loads ≡ [] → HoldNotes b.opened was is (note_by h.number (Called c format) None) h h'
      → Shows shape was is (Call (suc (calls_in was)) h.number c ∷ [])
  call_shows c format none holds = grind (arith, nat_tests, note_by, splice)
