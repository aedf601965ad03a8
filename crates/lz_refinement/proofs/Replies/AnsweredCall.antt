-- What a pass has when its call has answered: its steps are that call, its reply keeps what the table promises, and the pass
-- may make the next call.
use Rattle.std.proofs.Common.{arith, ◌≡◌, ℕ, ◌%◌, ◌==◌, if◌then◌else◌, suc, true, false, List, [], ◌∷◌, ◌++◌, map, length, refl, sym, ap, ◌∙◌, subst}
use Rattle.std.proofs.{Common.{append_assoc, Option, Some, None, is_some}, lemmas.{Bool.Decides.{nat_tests}, List.Elements.{filter-append}}}
use Rattle.lz_refinement.proofs.Vocabulary.{Command, Format, HasMembers, Counts, Publishing, Trace, Begins, Lawful, member, Outcome, Reply, Shape, is_old, last_pin}
use Rattle.lz_refinement.proofs.Vocabulary.{View, Relies, is_before_pin, side_of, own_change, Sizes, Note, Part, as_list, trace_of, note_by, stamped, load_note, own}
use Rattle.lz_refinement.proofs.{Vocabulary.{is_for, splice, place, placed, shape_of_sizes, pin_after_what, Changes, BoardId}, Reading.OwnTraces.{own_since}}
use Rattle.lz_refinement.proofs.Replies.CallSteps.{call_steps, one_call, steps_since, same_reserve}
use Rattle.lz_refinement.proofs.Replies.LastTurn.{answer_done, answer_silent, answer_pin, stays_outside, goes_outside, worn_pin, their_view, answer_relies}
use Rattle.lz_refinement.{proofs.Replies.ReplyRows.{yes_since, no_since, added, removed}, specs.{OnePass.{OnlyOwn}, Answers.{Promises, WasFull, IsOneCall, Answers}}}
use Rattle.lz_refinement.specs.{Holds.{HoldNotes, Turned, IsIdle}, UnderWay.{UnderWay, OwnAt, FoundFull}}
use Rattle.lz_slot.specs.declared.command.Command.TheVariants.{Add, Remove, Has}
use Rattle.lz_list.proofs.Traces.WalkEnd.{begins_before}
use Rattle.lz_machine.specs.declared.event.{Event.TheVariants.{Answer}, Outcome.TheVariants.{Done}}
use Rattle.lz_machine.specs.declared.{event.Reply.TheVariants.{Yes, No, Full, Worn, OldFile, Halted, Device}, caller.Progress.TheVariants.{Answering}}
use Rattle.lz_board.{specs.declared.view.What.TheVariants.{Played}, proofs.Upkeep.Splice.{trace_splice}}

-- what stands of a pass that is inside as it answers
record Stands (v : View) (p : ℕ) (c : Command) (reply : Reply) (P P0 Q : Trace) : Type 0 where
  from : Begins P P0
  to : Begins P0 Q
  relies : Relies v c (Answering reply) P0 Q (own_change p (length P0) Q)

-- the table, row by row
module _ (slots buckets passes p : ℕ) (v : View) (format : Format) (pin : ℕ) (new : List Note) (P P0 Q : Trace) (law : Lawful buckets slots Q) where
  abbrev shape : Shape
  shape = record { slots = slots; buckets = buckets; passes = passes }

  full_row : (k : ℕ) (counts : Counts) → Stands v p (Add k) (Full counts) P P0 Q → Changes p P Q [] → FoundFull slots passes counts new Q → WasFull shape p k counts new P Q
  full_row k counts s none f = grind (arith, nat_tests, begins_before)

  rows : (c : Command) (reply : Reply) (changes : Trace) → (is_before_pin (Answering reply) ≡ false → Stands v p c reply P P0 Q)
      → Changes p P Q changes → OwnAt p c (Answering reply) changes → (reply ≡ Worn → pin ≡ last_pin) → (reply ≡ OldFile → is_old format c ≡ true)
      → ((counts : Counts) → reply ≡ Full counts → FoundFull slots passes counts new Q)
      → Promises shape p format c reply pin new P Q
  rows (Has k) Yes changes stands made is worn old full = let s = stands refl in (yes_since k P P0 Q s.from s.relies.0.1, subst (Changes p P Q) is made)
  rows (Has k) No changes stands made is worn old full = let s = stands refl in (no_since k P P0 Q s.from s.relies.0.1, subst (Changes p P Q) is made)
  rows (Add k) Yes changes stands made is worn old full = let s = stands refl in added k p P P0 Q changes made is s.from s.to s.relies.0
  rows (Add k) No changes stands made is worn old full = let s = stands refl in (yes_since k P P0 Q s.from s.relies.0.1, subst (Changes p P Q) is made)
  rows (Add k) (Full counts) changes stands made is worn old full = full_row k counts (stands refl) (subst (Changes p P Q) is made) (full counts refl)
  rows (Remove k) Yes changes stands made is worn old full = let s = stands refl in removed k p buckets slots P P0 Q changes law made is s.from s.to s.relies.0
  rows (Remove k) No changes stands made is worn old full = let s = stands refl in (no_since k P P0 Q s.from s.relies.0.1, subst (Changes p P Q) is made)
  rows _ (Full counts) changes stands made is worn old full = absurd (stands refl).relies.0.2
  rows (Has k) Worn changes stands made is worn old full = (worn refl, subst (Changes p P Q) is made)
  rows _ Worn changes stands made is worn old full = (worn refl, subst (Changes p P Q) is made)
  rows (Has k) OldFile changes stands made is worn old full = (old refl, subst (Changes p P Q) is made)
  rows _ OldFile changes stands made is worn old full = (old refl, subst (Changes p P Q) is made)
  rows (Has k) Halted changes stands made is worn old full = record { halted = (stands refl).relies.0; own = changes; changes = made; may = is }
  rows _ Halted changes stands made is worn old full = record { halted = (stands refl).relies.0; own = changes; changes = made; may = is }
  rows (Has k) Device changes stands made is worn old full = record { halted = (stands refl).relies.0; own = changes; changes = made; may = is }
  rows _ Device changes stands made is worn old full = record { halted = (stands refl).relies.0; own = changes; changes = made; may = is }

-- where its reply is that the pass is worn, the pass is outside
worn_side : (pin : ℕ) (reply : Reply) → pin % 2 ≡ side_of (is_before_pin (Answering reply)) → reply ≡ Worn → pin % 2 ≡ 0
worn_side pin reply side is = side ∙ ap (λ r. side_of (is_before_pin (Answering r))) is

module _ (b : BoardId) (c : Command) (format : Format) (before : Part) (reply : Reply) (h : Part) (was is : List Note) (o : Outcome) (x : Option Publishing) (after : Part)
    (under : UnderWay b c format before (Answering reply) h) (holds : HoldNotes b.opened was is (note_by h.number (Played Answer o) x) h after) (turned : Turned b.opened was h c (Answering reply) Answer o x) where
  -- the trace is as it was
  abbrev now : Trace
  now = trace_of b.opened was

  is_done : o ≡ Done
  is_done = answer_done b.opened was h c reply o x turned

  is_silent : x ≡ None
  is_silent = answer_silent b.opened was h c reply o x turned

  knows_now : after.known ≡ now
  knows_now = holds.known ∙ ap (trace_of b.opened) holds.notes ∙ ap (λ l. as_list l ++ trace_of b.opened (splice b.opened h.number h.loads was)) is_silent ∙ trace_splice b.opened h.number h.loads was

  pin_now : after.pin ≡ (if h.pin % 2 == 0 then h.pin else suc h.pin)
  pin_now = holds.pin ∙ ap (λ o. pin_after_what h.number h.number (Played Answer o) h.pin) is_done ∙ answer_pin h.number h.pin

  abbrev new : List Note
  new = call_steps h.number format c holds.moment h.loads under.within

  steps_now : after.steps ≡ new ++ before.steps
  steps_now =
      holds.steps ∙ ap (λ (q : Outcome × Option Publishing). stamped holds.moment (note_by h.number (Played Answer q.0) q.1) ∷ (map (load_note h.number) h.loads ++ h.steps)) (λ i. (is_done i, is_silent i))
      ∙ ap (λ l. stamped holds.moment (note_by h.number (Played Answer Done) None) ∷ (map (load_note h.number) h.loads ++ l)) under.steps ∙ steps_since h.number format c holds.moment h.loads under.within before.steps

  at_answer : place (shape_of_sizes b.sizes) (map (load_note h.number) h.loads ++ h.steps) ≡ Some (c, Answering reply)
  at_answer = subst (λ (z : Sizes). place (shape_of_sizes z) (map (load_note h.number) h.loads ++ h.steps) ≡ Some (c, Answering reply)) under.sizes under.call.at

  is_call : IsOneCall (shape_of_sizes b.sizes) h.number format c reply new
  is_call = one_call h.number format c (shape_of_sizes b.sizes) reply holds.moment h.loads under.within before.steps under.only (subst (λ l. place (shape_of_sizes b.sizes) (map (load_note h.number) h.loads ++ l) ≡ Some (c, Answering reply)) under.steps at_answer)

  made : Changes h.number before.known now under.own
  made =
      let since = holds.since in
      record {
        since = since.0 ++ under.changes.since;
        goes_on = since.1 ∙ ap (λ l. since.0 ++ l) under.changes.goes_on ∙ sym (append_assoc since.0 under.changes.since before.known);
        own = filter-append (is_for h.number) since.0 under.changes.since ∙ ap (λ l. l ++ own h.number under.changes.since) since.2 ∙ under.changes.own;
      }

  law : Lawful b.sizes.buckets b.sizes.slots now
  law = subst (λ (q : Sizes × Trace). Lawful q.0.buckets q.0.slots q.1) (λ i. ((holds.sizes ∙ under.sizes) i, knows_now i)) holds.lawful

  stands : is_before_pin (Answering reply) ≡ false → Stands (their_view b.opened was h c reply o x turned) h.number c reply before.known h.begun now
  stands inside = grind (arith, nat_tests, side_of, answer_relies)

  found : (b.sizes.passes ≡ 1 → now ≡ h.known) → (counts : Counts) → reply ≡ Full counts → FoundFull b.sizes.slots b.sizes.passes counts new now
  found alone counts full =
      let f = under.full counts (ap Answering full) in
      record {
        reserve = same_reserve h.number format c holds.moment h.loads under.within ∙ f.reserve;
        free = f.free;
        sum = f.sum;
        alone = λ one. subst (λ R. HasMembers (λ j. member j R) b.sizes.slots) (sym (alone one)) (f.alone one);
      }

  kept : (b.sizes.passes ≡ 1 → now ≡ h.known) → Promises (shape_of_sizes b.sizes) h.number format c reply after.pin new before.known now
  kept alone =
      rows b.sizes.slots b.sizes.buckets b.sizes.passes h.number (their_view b.opened was h c reply o x turned) format after.pin new before.known h.begun now law c reply under.own stands made under.is_own
      (λ worn. pin_now ∙ stays_outside h.pin (worn_side h.pin reply under.side worn) ∙ worn_pin b.opened was h c reply o x turned worn) (λ old. under.old (ap Answering old)) (found alone)

  -- where each change of the life was its own, so is each since the call was made
  changed_alone : OnlyOwn h.number b.opened now → OnlyOwn h.number before.known now
  changed_alone own = own_since h.number b.opened before.known now own under.opened (made.since, made.goes_on)

  -- The answer keeps what the table promises, on a file of the format with which the call began. In a set of one pass the trace
  -- is what the pass has seen, and each change its own.
  pub answered : before.sizes ≡ b.sizes → (b.sizes.passes ≡ 1 → trace_of b.opened was ≡ h.known) → (b.sizes.passes ≡ 1 → OnlyOwn h.number b.opened now) → Answers format c reply before after
  answered same alone own =
      record {
        number = holds.number ∙ under.number;
        new = new;
        steps = steps_now;
        one_call = subst (λ (q : Sizes × ℕ). IsOneCall (shape_of_sizes q.0) q.1 format c reply new) (λ i. (sym same i, under.number i)) is_call;
        promises = subst (λ (q : Sizes × ℕ × Trace). Promises (shape_of_sizes q.0) q.1 format c reply after.pin new before.known q.2) (λ i. (sym same i, under.number i, sym knows_now i)) (kept alone);
        lawful = subst (λ (q : Sizes × Trace). Lawful q.0.buckets q.0.slots q.1) (λ i. (sym same i, sym knows_now i)) law;
        alone = λ one. subst (λ (q : ℕ × Trace). OnlyOwn q.0 before.known q.1) (λ i. (under.number i, sym knows_now i)) (changed_alone (own (sym (ap (λ (z : Sizes). z.passes) same) ∙ one)));
        late = under.late;
      }

  -- and the pass may make the next call
  pub idle_again : IsIdle b.sizes after
  idle_again = grind (arith, nat_tests, is_some, place, shape_of_sizes, placed, at_answer, pin_now, goes_outside)
