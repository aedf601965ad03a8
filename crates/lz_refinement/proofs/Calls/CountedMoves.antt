-- A call that a caller counts goes on by each of its moves.
use Rattle.std.proofs.Common.{◌≡◌, ◌≢◌, ℕ, ◌==◌, Bool, true, false, List, [], ◌∷◌, refl, sym, ap, ◌∙◌, subst, if◌then◌else◌, is_some, Option, Some, None}
use Rattle.std.{proofs.lemmas.Bool.{cond_both}, specs.List.{list_any}}
use mathlib.Core.Bool.{false≢true}
use Rattle.lz_refinement.proofs.Vocabulary.{Command, Format, key_of, Place, Met, Word, LeadsOn, Trace, word_after, Hopped, More, End, wants, hopped, Need, may_answer}
use Rattle.lz_refinement.proofs.Vocabulary.{Event, Outcome, Reply, Sequence, Progress, Shape, IsInside, begun, event_at, events_of, first_progress, goes_on, hops_on}
use Rattle.lz_refinement.proofs.Vocabulary.{walked, rests, halt_loaded, progress_after, is_before_pin, side_of, hop_of, Calling, MayTake, shape_with, mark_of}
use Rattle.lz_refinement.proofs.Vocabulary.{mark_of_turn, reply_at, is_old, begun_after, Sizes, Note, Part, index, IsWalkable, Extends, note_by, pin_after}
use Rattle.lz_refinement.proofs.{Vocabulary.{shape_of_sizes, IsShared, loading, IsShownTo, BoardId, Walked}, Calls.{CallOpening.{called}, InnerEvents.{none_at}}}
use Rattle.lz_refinement.proofs.Calls.{CallLoad.{load_place, value_in}, CallerStep.{IsCallerOn, has_call, event_is, caller_turned, caller_loaded}}
use Rattle.lz_refinement.{proofs.Replies.{AnsweredCall.{answered, idle_again}, OneCaller.{one_caller}}, specs.{declared.playing.Turn.{Turn}, Answers.{Answers}}}
use Rattle.lz_refinement.specs.{OneCaller.{keys_in, IsPlainAnswer}, NotedRuns.{seen_event}, Holds.{HoldNotes, Turned, IsIdle, begins_with}}
use Rattle.lz_refinement.specs.{Held.{IsNextOf, Advanced, WentOn}, Marks.{Shows, last_call_number}, UnderWay.{UnderWay}, Counting.{OnWalk, Counts}}
use Rattle.lz_slot.specs.declared.command.Command.TheVariants.{Add, Remove, Has}
use Rattle.lz_list.specs.declared.walk.Met.TheVariants.{Absent, Unmarked, Marked as met_marked}
use Rattle.lz_flush.specs.declared.need.Need.TheVariants.{Now, Sync as asks_sync}
use Rattle.lz_machine.specs.declared.event.{Event.TheVariants.{Hop, Invoke, Answer}, Outcome.TheVariants.{Value}}
use Rattle.lz_machine.specs.declared.{event.Reply.TheVariants.{Yes, No, OldFile as SaysOldFile}, caller.Sequence.TheVariants.{Pinning, Writing, Releasing}}
use Rattle.lz_machine.specs.declared.caller.Progress.TheVariants.{Playing, LoadsHalt, Walking, Answering}
use Rattle.lz_machine.proofs.{Runs.FlowChart.{Edge, again, past, begins as starts, hops, next_edge}, Theorem.Readiness.{is_invoke}}
use Rattle.lz_yard.proofs.BegunCall.{begins}
use Rattle.lz_board.{specs.declared.view.What.TheVariants.{Called, Played}, proofs.Walk.WalkerLemma.{first_look, hop_shown}}

-- a call that was just made stands on no walk
begun_walk : (z : Sizes) (c : Command) (P0 Q : Trace) (old : Bool) → OnWalk z c (if old then Answering SaysOldFile else first_progress) P0 Q
begun_walk z c P0 Q true = tt
begun_walk z c P0 Q false = tt

pub counted_new : (b : BoardId) (c : Command) (format : Format) (before : Part) (opened : Trace) (was is : List Note) (after : Part) → before.sizes ≡ b.sizes → IsIdle b.sizes before → Extends before.known b.opened
    → HoldNotes opened was is (note_by before.number (Called c format) None) before after → (o : Outcome) → o ≡ begins_with format c
    → (buckets passes : ℕ) → buckets ≡ b.sizes.buckets → passes ≡ b.sizes.passes → (k : Calling) → k ≡ record { command = c; buckets = buckets; passes = passes; progress = begun_after o } → Counts b c format before k after
counted_new b c format before opened was is after sized idle from H o is_o buckets passes same_buckets same_passes k is_k =
    let at : begun format c ≡ k.progress = begins (is_old format c) ∙ ap begun_after (sym is_o) ∙ ap (λ (q : Calling). q.progress) (sym is_k) in
    let command : k.command ≡ c = ap (λ (q : Calling). q.command) is_k in
    record {
      command = command;
      buckets = ap (λ (q : Calling). q.buckets) is_k ∙ same_buckets;
      passes = ap (λ (q : Calling). q.passes) is_k ∙ same_passes;
      under = subst (λ (q : Progress). UnderWay b c format before q after) at (called b c format before opened was is after sized idle from H);
      walk = subst (λ (q : Command × Progress). OnWalk b.sizes q.0 q.1 after.begun after.known) (λ i. (sym command i, at i)) (begun_walk b.sizes c after.begun after.known (is_old format c));
    }

-- the next event of a call is no Invoke
no_invokes : (c : Command) (sequence : Sequence) → list_any is_invoke (events_of c sequence) ≡ false
no_invokes c Pinning = refl
no_invokes c _ = refl

goes_on_with : (shape : Shape) (c : Command) (at : Progress) → is_invoke (event_at shape c at) ≡ false
goes_on_with shape c (Playing sequence i) = none_at is_invoke refl (events_of c sequence) i (no_invokes c sequence)
goes_on_with shape c _ = refl

-- A walk begins with its first look.
module _ (z : Sizes) (walkable : IsWalkable z) (P0 Q : Trace) where
  on_walk : (c : Command) (sequence : Sequence) → OnWalk z c (goes_on sequence) P0 Q
  on_walk c (Writing s) = first_look z walkable (key_of c) P0 Q
  on_walk c (Releasing aim) = first_look z walkable (key_of c) P0 Q
  on_walk c _ = tt

  next_walk : {shape : Shape} {c : Command} {at : Progress} {o : Outcome} {next : Progress} → Edge shape c at o next → hop_of (event_at shape c at) ≡ None → OnWalk z c next P0 Q
  next_walk (again c (Walking aim look) o) none = absurd (false≢true (sym (ap is_some none)))
  next_walk (again c at o) none = tt
  next_walk (past c q i o) none = on_walk c q
  next_walk (starts c value) none = absurd (false≢true (sym (ap is_some none)))
  next_walk (hops c aim look next value) none = absurd (false≢true (sym (ap is_some none)))
  next_walk _ none = tt

module _ (z : Sizes) (walkable : IsWalkable z) (c : Command) (P0 Q : Trace) where
  rests_walk : (s : ℕ) (need : Need) (reply : Reply) → OnWalk z c (rests s need reply) P0 Q
  rests_walk s Now reply = tt
  rests_walk s asks_sync reply = tt

  walked_walk : (d : Command) (aim : Option ℕ) (pred : Place) (curr : Option ℕ) (met : Met) → OnWalk z c (walked d aim pred curr met) P0 Q
  walked_walk (Has k) aim pred curr (Unmarked s flags) = rests_walk s (may_answer flags) Yes
  walked_walk (Add k) aim pred curr (Unmarked s flags) = rests_walk s (may_answer flags) No
  walked_walk (Add k) None pred curr _ = tt
  walked_walk (Add k) (Some t) pred curr _ = tt
  walked_walk (Remove k) aim pred curr (Unmarked s flags) = tt
  walked_walk _ aim pred curr Absent = tt
  walked_walk _ aim pred curr (met_marked s flags) = rests_walk s (may_answer flags) No

  hop_walk : (aim : Option ℕ) (x : Hopped) → Walked z (key_of c) P0 Q x → OnWalk z c (hops_on c aim x) P0 Q
  hop_walk aim (More look) h = h
  hop_walk aim (End pred curr met) h = walked_walk c aim pred curr met

  halt_walk : (value : ℕ) → OnWalk z c (halt_loaded value) P0 Q
  halt_walk value = cond_both (value == 1) _ _ (λ (at : Progress). OnWalk z c at P0 Q) (λ _. tt) (λ _. first_look z walkable (key_of c) P0 Q)

-- The hold of its next event.
module _ (b : BoardId) (c : Command) (format : Format) (before : Part) (k : Calling) (h : Part) (C : Counts b c format before k h) where
  on_board : IsCallerOn b c k
  on_board = (C.command, C.buckets, C.passes)

  event_here : event_at (shape_of_sizes h.sizes) k.command k.progress ≡ event_at (shape_with k) k.command k.progress
  event_here = (λ i. event_at (shape_of_sizes h.sizes) (C.command i) k.progress) ∙ event_is b c format before k on_board h C.under

  pub is_next : (e : Event) → e ≡ event_at (shape_with k) k.command k.progress → hop_of (event_at (shape_with k) k.command k.progress) ≡ None → IsNextOf h k e
  is_next e is no_load = record { call = has_call b c format before k on_board h C.under; event = is ∙ sym event_here; load = ap hop_of is ∙ no_load }

  pub no_invoke : (e : Event) → e ≡ event_at (shape_with k) k.command k.progress → (d : Command) → e ≢ Invoke d
  no_invoke e is d call = false≢true (sym (goes_on_with (shape_with k) k.command k.progress) ∙ ap is_invoke (sym is ∙ call))

  pub counted_on : IsWalkable b.sizes → (was is : List Note) (t : Turn) (h' : Part) → Advanced b was is k t h h' → hop_of (event_at (shape_with k) k.command k.progress) ≡ None → reply_at k.progress ≡ None
      → (k' : Calling) → k' ≡ record k { progress = progress_after (shape_with k) k.command k.progress t.outcome } → Counts b c format before k' h'
  counted_on walkable was is t h' A no_load going k' is_k = subst (λ (q : Calling). Counts b c format before q h') (sym is_k)
      (record {
        command = C.command;
        buckets = C.buckets;
        passes = C.passes;
        under = caller_turned b c format before k on_board h C.under b.opened A.found is A.event t.outcome t.published.value h' A.holds A.turned A.turn.load going;
        walk = next_walk b.sizes walkable h'.begun h'.known (next_edge (shape_with k) k.command k.progress t.outcome) no_load;
      })

  pub no_end_shows : (was is : List Note) (t : Turn) (h' : Part) → WentOn b was is k t h h' → reply_at k.progress ≡ None → Shows (shape_of_sizes b.sizes) was is []
  no_end_shows was is t h' went going = subst (λ (r : Option Reply). Shows (shape_of_sizes b.sizes) was is (mark_of_turn (last_call_number h.number was) r)) going went.shows

  -- its last hold
  module _ (reply : Reply) (answering : k.progress ≡ Answering reply) where
    answers_next : Answer ≡ event_at (shape_with k) k.command k.progress
    answers_next = ap (event_at (shape_with k) k.command) (sym answering)

    pub next_answer : IsNextOf h k Answer
    next_answer = is_next Answer answers_next (ap hop_of (sym answers_next))

    under_now : UnderWay b c format before (Answering reply) h
    under_now = subst (λ (at : Progress). UnderWay b c format before at h) answering C.under

    module _ (was is : List Note) (t : Turn) (h' : Part) (went : WentOn b was is k t h h') where
      abbrev A : Advanced b was is k t h h'
      A = went.advanced

      pub end_shows : Shows (shape_of_sizes b.sizes) was is (mark_of (last_call_number h.number was) reply ∷ [])
      end_shows = subst (λ (at : Progress). Shows (shape_of_sizes b.sizes) was is (mark_of_turn (last_call_number h.number was) (reply_at at))) answering went.shows

      -- the event that was played is the Answer
      event_now : A.event ≡ Answer
      event_now = A.turn.event ∙ ap (seen_event (λ q. pin_after q A.found)) (event_here ∙ sym answers_next)

      holds_now : HoldNotes b.opened A.found is (note_by h.number (Played Answer t.outcome) t.published.value) h h'
      holds_now = subst (λ (e : Event). HoldNotes b.opened A.found is (note_by h.number (Played e t.outcome) t.published.value) h h') event_now A.holds

      turned_now : Turned b.opened A.found h c (Answering reply) Answer t.outcome t.published.value
      turned_now = subst (λ (q : Command × Progress × Event). Turned b.opened A.found h q.0 q.1 q.2 t.outcome t.published.value) (λ i. (C.command i, answering i, event_now i)) A.turned

      module _ (same : before.sizes ≡ b.sizes) where
        pub answers_so : Answers format c reply before h'
        answers_so = answered b c format before reply h A.found is t.outcome t.published.value h' under_now holds_now turned_now same A.alone A.own

        -- in a set of one pass that of the plain set
        pub plain_so : b.sizes.passes ≡ 1 → IsPlainAnswer format b.sizes.slots c reply (keys_in before.known) (keys_in h'.known)
        plain_so one = subst (λ (z : Sizes). IsPlainAnswer format z.slots c reply (keys_in before.known) (keys_in h'.known)) same
            (one_caller format c reply before h' answers_so (ap (λ (z : Sizes). z.passes) same ∙ one))

      pub then_idle : IsIdle b.sizes h'
      then_idle = idle_again b c format before reply h A.found is t.outcome t.published.value h' under_now holds_now turned_now

-- A load.
abbrev SharedIn : Sizes → Option Word → Type 0
SharedIn z None = ⊥
SharedIn z (Some w) = IsShared z w

shared_at : (z : Sizes) (shape : Shape) → shape.buckets ≡ z.buckets → (c : Command) (at : Progress) (P0 Q : Trace) → OnWalk z c at P0 Q → (w : Word) → event_at shape c at ≡ Hop w → IsShared z w
shared_at z shape same c LoadsHalt P0 Q walk w event = subst (SharedIn z) (ap hop_of event) tt
shared_at z shape same c (Walking aim look) P0 Q walk w event = subst (SharedIn z) (ap (λ (n : ℕ). Some (wants n (key_of c) look)) (sym same) ∙ ap hop_of event) walk.shared
shared_at z shape same c at P0 Q walk w event = absurd (load_place shape c at w event)

record Takes (z : Sizes) (shape : Shape) (c : Command) (at : Progress) (P0 Q : Trace) (value : ℕ) : Type 0 where
  takes : MayTake at (Value value)
  walk : OnWalk z c (progress_after shape c at (Value value)) P0 Q

load_takes : (z : Sizes) (walkable : IsWalkable z) (shape : Shape) → shape.buckets ≡ z.buckets → (c : Command) (at : Progress) (h : Part) → h.sizes ≡ z → IsInside h.pin → OnWalk z c at h.begun h.known → (w : Word) → event_at shape c at ≡ Hop w
    → (seen : Trace) → IsShownTo seen h → (value : ℕ) → value ≡ word_after z.buckets seen w → Takes z shape c at h.begun seen value
load_takes z walkable shape same c LoadsHalt h sized inside walk w event seen shown value is = record { takes = tt; walk = halt_walk z walkable c h.begun seen value }
load_takes z walkable shape same c (Walking aim look) h sized inside walk w event seen shown value is =
    let hop = hop_shown z walkable h sized inside (key_of c) look seen walk shown in
    let found : word_after z.buckets seen (wants z.buckets (key_of c) look) ≡ value =
    ap (λ (n : ℕ). word_after z.buckets seen (wants n (key_of c) look)) (sym same) ∙ ap (value_in z.buckets seen) (ap hop_of event) ∙ sym is in
    record {
      takes = subst (LeadsOn look) found hop.leads;
      walk = hop_walk z walkable c h.begun seen aim (hopped shape.buckets (key_of c) look value)
          (subst (λ (q : ℕ × ℕ). Walked z (key_of c) h.begun seen (hopped q.0 (key_of c) look q.1)) (λ i. (sym same i, found i)) hop.walked);
    }
load_takes z walkable shape same c at h sized inside walk w event seen shown value is = absurd (load_place shape c at w event)

loads_inside : (shape : Shape) (c : Command) (at : Progress) (w : Word) → event_at shape c at ≡ Hop w → is_before_pin at ≡ false
loads_inside shape c LoadsHalt w event = refl
loads_inside shape c (Walking aim look) w event = refl
loads_inside shape c at w event = absurd (load_place shape c at w event)

module _ (b : BoardId) (c : Command) (format : Format) (before : Part) (k : Calling) (h : Part) (C : Counts b c format before k h) (w : Word) (event : event_at (shape_with k) k.command k.progress ≡ Hop w) where
  pub shared_word : IsShared b.sizes w
  shared_word = shared_at b.sizes (shape_with k) C.buckets k.command k.progress h.begun h.known C.walk w event

  inside_now : IsInside h.pin
  inside_now = C.under.side ∙ ap side_of (loads_inside (shape_with k) k.command k.progress w event)

  module _ (walkable : IsWalkable b.sizes) (seen : Trace) (shown : IsShownTo seen h) (value : ℕ) (is : value ≡ word_after b.sizes.buckets seen w) where
    there : Takes b.sizes (shape_with k) k.command k.progress h.begun seen value
    there = load_takes b.sizes walkable (shape_with k) C.buckets k.command k.progress h C.under.sizes inside_now C.walk w event seen shown value is

    pub takes_value : MayTake k.progress (Value value)
    takes_value = there.takes

    pub counted_load : (h' : Part) → h' ≡ loading seen (index b.sizes w) value h → (k' : Calling) → k' ≡ record k { progress = progress_after (shape_with k) k.command k.progress (Value value) } → Counts b c format before k' h'
    counted_load h' is_h k' is_k = subst (λ (q : Calling). Counts b c format before q h') (sym is_k)
        (record {
          command = C.command;
          buckets = C.buckets;
          passes = C.passes;
          under = caller_loaded b c format before k (C.command, C.buckets, C.passes) h C.under w event shared_word seen value shown is h' is_h;
          walk = subst (λ (q : Part). OnWalk b.sizes k.command (progress_after (shape_with k) k.command k.progress (Value value)) q.begun q.known) (sym is_h) there.walk;
        })
