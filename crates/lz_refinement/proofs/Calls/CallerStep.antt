-- The steps of a call under way, in the words of the caller that counts them.
use Rattle.std.proofs.{Common.{arith, ◌≡◌, ℕ, List, sym, ap, ◌∙◌, subst, Option, None}, lemmas.Bool.Decides.{nat_tests}}
use Rattle.lz_refinement.proofs.Vocabulary.{Command, Format, Publishing, Word, Trace, word_after, Event, Outcome, Progress, event_at, progress_after, hop_of, Calling}
use Rattle.lz_refinement.proofs.Vocabulary.{shape_with, reply_at, Sizes, Note, Part, note_by, shape_of_sizes, IsShared, index, loading, IsShownTo, BoardId}
use Rattle.lz_refinement.{proofs.Calls.{CallLoad.{loaded}, CallTurn.{turned}}, specs.{Holds.{HasCall, HoldNotes, Turned}, UnderWay.{UnderWay}}}
use Rattle.lz_machine.{specs.declared.event.{Event.TheVariants.{Hop}, Outcome.TheVariants.{Value}}, proofs.Runs.EventOrder.{shaped, same_event, same_follows}}
use Rattle.lz_board.specs.declared.view.What.TheVariants.{Played}

-- the caller of a call of command c on this board
abbrev pub IsCallerOn : BoardId → Command → Calling → Type 0
IsCallerOn b c k = (k.command ≡ c) × (k.buckets ≡ b.sizes.buckets) × (k.passes ≡ b.sizes.passes)

module _ (b : BoardId) (c : Command) (format : Format) (before : Part) (k : Calling) (on : IsCallerOn b c k) (h : Part) (U : UnderWay b c format before k.progress h) where
  -- the pass has its call open
  pub has_call : HasCall h k
  has_call = grind (arith, nat_tests, event_at, shape_of_sizes)

  -- how many slots there are plays no part in it
  same_shape : shaped 0 h.sizes.buckets h.sizes.passes ≡ shape_with k
  same_shape = λ i. shaped 0 ((ap (λ (z : Sizes). z.buckets) U.sizes ∙ sym on.1) i) ((ap (λ (z : Sizes). z.passes) U.sizes ∙ sym on.2) i)

  next_is : (o : Outcome) → progress_after (shape_of_sizes h.sizes) c k.progress o ≡ progress_after (shape_with k) k.command k.progress o
  next_is o = same_follows h.sizes.slots 0 h.sizes.buckets h.sizes.passes c k.progress o ∙ (λ i. progress_after (same_shape i) (sym on.0 i) k.progress o)

  pub event_is : event_at (shape_of_sizes h.sizes) c k.progress ≡ event_at (shape_with k) k.command k.progress
  event_is = same_event h.sizes.slots 0 h.sizes.buckets h.sizes.passes c k.progress ∙ (λ i. event_at (same_shape i) (sym on.0 i) k.progress)

  -- after it has taken the outcome of a turn, or the value of a load
  pub caller_turned : (opened : Trace) (was is : List Note) (e : Event) (o : Outcome) (x : Option Publishing) (h' : Part) → HoldNotes opened was is (note_by h.number (Played e o) x) h h' → Turned opened was h k.command k.progress e o x → hop_of e ≡ None → reply_at k.progress ≡ None
      → UnderWay b c format before (progress_after (shape_with k) k.command k.progress o) h'
  caller_turned opened was is e o x h' H T no_load going =
      subst (λ (at : Progress). UnderWay b c format before at h') (next_is o)
      (turned b c format before k.progress h U opened was is e o x h' H (subst (λ (q : Command). Turned opened was h q k.progress e o x) on.0 T) no_load going)

  pub caller_loaded : (w : Word) → event_at (shape_with k) k.command k.progress ≡ Hop w → IsShared b.sizes w → (seen : Trace) (value : ℕ) → IsShownTo seen h → value ≡ word_after b.sizes.buckets seen w → (h' : Part) → h' ≡ loading seen (index b.sizes w) value h
      → UnderWay b c format before (progress_after (shape_with k) k.command k.progress (Value value)) h'
  caller_loaded w event shared seen value shown found h' is =
      subst (λ (at : Progress). UnderWay b c format before at h') (next_is (Value value)) (loaded b c format before k.progress h U w (event_is ∙ event) shared seen value shown found h' is)
