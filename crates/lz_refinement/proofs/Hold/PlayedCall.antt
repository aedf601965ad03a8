-- The Invoke of a pass that has joined the pen, and the call that its note tells.
use Rattle.lz_refinement.proofs.Hold.CallStart as starting
use Rattle.std.proofs.Common.{◌≡◌, ◌≢◌, ℕ, ◌%◌, ◌≤◌, ◌==◌, false, List, [], ◌∷◌, refl, sym, ap, ◌∙◌, subst, arith, eq-eqb, Some, None, IsTrue}
use Rattle.lz_refinement.proofs.Vocabulary.{Command, Device, medium_after, get, set, Lawful, Course, Outcome, Yard, actor_at, changed_on, course, line_on, call_on}
use Rattle.lz_refinement.proofs.Vocabulary.{pin_of, published_on, MayPlay, with_words, invoked, Told, Sizes, Note, Part, note_by, trace_of, steps_of, splice}
use Rattle.lz_refinement.proofs.{Vocabulary.{pin_after, is_calling, MayNote, Writes, noted, BoardId}, Hold.{Exchanges.{Exchange, IsExchange}, NotedStep.{NotedStep}}}
use Rattle.lz_refinement.proofs.{Hold.NoteCondition.{listed_is, listed_none, alike_tied, tied_lawful, noting_nothing}, Reuse.EventUpkeep.{silent_told, hands_after}}
use Rattle.lz_refinement.specs.{NotedRuns.{SameButAllPins, IsTied}, Holds.{sizes_of, IsLocked, InHold, MayTurn, begins_with}, Reuse.{ReuseTold}}
use Rattle.lz_slot.proofs.Counted.{of_pass_same, length-set_of_pass}
use Rattle.lz_list.specs.declared.word.Word.TheVariants.{Link as link_at, Pin as pin_at}
use Rattle.lz_machine.specs.declared.{course.Course.TheVariants.{Plays}, event.{Event.TheVariants.{Invoke}, Outcome.TheVariants.{Fault}}}
use Rattle.lz_machine.proofs.Runs.Course.{invoke_plays}
use Rattle.lz_yard.specs.Steps.{Played as PlayedOver}
use Rattle.lz_board.specs.declared.view.What.TheVariants.{Called}

module _ (b : BoardId) (ns : List Note) (y : Yard) (dev : Device) (h : Part) (hold : InHold b ns y dev h) (c : Command) (may : MayTurn b.sizes ns h (Invoke c)) where
  abbrev a : ℕ
  a = h.number

  abbrev z : Yard
  z = with_words y (set y.words (pin_at a) h.pin)

  alike : SameButAllPins z y
  alike = record { shape = refl; heads = refl; links = refl; keys = refl; halt = refl; locks = refl; vault = refl; uses = refl; actors = refl }

  z_tied : IsTied b.opened ns z dev.honest dev.medium
  z_tied = alike_tied b.opened ns y z dev hold.locked.tied alike

  in_range : (1 ≤ a) × (a ≤ y.shape.passes)
  in_range = let high = hold.knows.numbered.1 in let passes = ap (λ (s : Sizes). s.passes) hold.locked.sizes in (hold.knows.numbered.0, omega (arith, high, passes))

  pin_same : pin_of z a ≡ pin_after a ns
  pin_same = let high = in_range.1 in let pins = hold.locked.pins in of_pass_same y.words.pins a h.pin 0 in_range.0 (omega (arith, high, pins)) ∙ sym may.1

  not_calling : is_calling (sizes_of y.shape) (steps_of a ns) ≡ false
  not_calling = subst (λ (x : Sizes × List Note). is_calling x.0 x.1 ≡ false) (λ i. (hold.locked.sizes i, sym hold.knows.noted i)) may.0.idle

  pub plays : MayPlay z dev.honest dev.medium a (Invoke c)
  plays = starting.may_invoke b.opened ns z dev.honest dev.medium z_tied a c in_range.0 in_range.1 not_calling pin_same

  module _ (o : Outcome) (z' : Yard) (told : Told) (dev' : Device) (gave : PlayedOver z a (Invoke c) o z' told dev dev') where
    in_play : course z a (Invoke c) ≡ Plays
    in_play = invoke_plays z a c

    -- its Invoke makes no call of the device
    no_fault : o ≢ Fault
    no_fault bad = absurd ((gave.failed bad).asked (ap (λ (k : Course). call_on k z (actor_at z a) (Invoke c)) in_play))

    yard_is : z' ≡ invoked z a c
    yard_is = (gave.done no_fault).yard ∙ ap (λ (k : Course). (line_on k z (actor_at z a) a (Invoke c)).0) in_play

    pub outcome_is : o ≡ begins_with y.vault.format c
    outcome_is = (gave.done no_fault).answer ∙ ap (λ (k : Course). (line_on k z (actor_at z a) a (Invoke c)).1) in_play

    pub same_format : z'.vault.format ≡ y.vault.format
    same_format = ap (λ (q : Yard). q.vault.format) yard_is

    pub nothing : told.published ≡ None
    nothing = listed_none told.published (listed_is told.published ∙ (gave.done no_fault).published ∙ ap (λ (k : Course). published_on k z (actor_at z a) a (Invoke c)) in_play)

    unchanged : told.changed ≡ None
    unchanged = (gave.done no_fault).word ∙ ap (λ (k : Course). changed_on k z (actor_at z a) a (Invoke c)) in_play

    abbrev n : Note
    n = note_by a (Called c y.vault.format) None

    notes_are : noted b.opened ns h n ≡ n ∷ ns
    notes_are = ap (λ hs. n ∷ splice b.opened a hs ns) may.0.no_loads

    tied : IsTied b.opened (n ∷ ns) z' dev'.honest dev'.medium
    tied =
        let t = starting.called_tied b.opened ns z dev.honest dev.medium z_tied a c in_range.0 in_range.1 not_calling (subst (λ (m : ℕ). IsTrue (m % 2 == 0)) (sym may.1) (eq-eqb (h.pin % 2) 0 may.0.outside)) may.2 in
        let d = (gave.done no_fault).call in
        let call = ap (λ (k : Course). call_on k z (actor_at z a) (Invoke c)) in_play in
        subst (λ (q : Yard). IsTied b.opened (n ∷ ns) q dev'.honest dev'.medium) (sym yard_is) record {
          start = t.start;
          steps = t.steps;
          service = t.service;
          medium = t.medium;
          starts = t.starts;
          runs = t.runs;
          reads = t.reads;
          begins = t.begins;
          state = t.state;
          yard = t.yard;
          device = λ honest. let before = subst IsTrue d.honest honest in d.medium before ∙ ap (λ k. medium_after k dev.medium) call ∙ t.device before;
        }

    -- no use changes, and no hand
    reuse : ReuseTold b.sizes b.opened (n ∷ ns) (invoked z a c).uses (invoked z a c).actors
    reuse = let silent = silent_told b.sizes b.opened a [] ns n z hold.locked.reuse refl in record { each = silent.each; hands = λ d s is. silent.hands d s (hands_after z a (Invoke c) (λ same. absurd cc) d s is) }

    shape : z'.shape ≡ y.shape
    shape = ap (λ (q : Yard). q.shape) yard_is

    locked : IsLocked b (noted b.opened ns h n) z' dev'
    locked = grind (arith, notes_are, yard_is, length-set_of_pass, tied, reuse)

    lawful : Lawful b.sizes.buckets b.sizes.slots (trace_of b.opened ns)
    lawful = subst (λ (s : Sizes). Lawful s.buckets s.slots (trace_of b.opened ns)) (sym hold.locked.sizes) (tied_lawful b.opened ns y dev.honest dev.medium hold.locked.tied)

    may_note : MayNote b.sizes b.opened ns h n
    may_note = record { by = refl; step = tt; pin = may.1; inside = λ inside. let even = may.0.outside in absurd (omega (arith, even, inside)); lawful = lawful; made = λ q away. refl; prepares = tt }

    link_writes : Writes b.sizes (trace_of b.opened ns) (link_at 0) 2 2 None
    link_writes = subst (λ (s : Sizes). Writes s (trace_of b.opened ns) (link_at 0) 2 2 None) (sym hold.locked.sizes)
        (noting_nothing b.opened ns z z' dev.honest dev'.honest dev.medium dev'.medium a [] n 2 z_tied tied shape (λ v shared. ap (λ (q : Yard). get q.words v) yard_is))

    writes : (x : Exchange) → IsExchange z'.words told.changed told.before (Some x) → Writes b.sizes (trace_of b.opened ns) x.word x.before x.after None
    writes x is = grind (arith, unchanged, link_writes)

    pub noted_call : NotedStep b ns h z' told dev' (note_by a (Called c y.vault.format) told.published)
    noted_call = grind (arith, note_by, nothing, may_note, locked, writes, unchanged)
