-- Worked rows of one caller's session, computed on small cases.
use Rattle.std.proofs.{Common.{◌≡◌, true, false, inl, inr, List, [], ◌∷◌, ◌++◌, Some, None, refl, arith}, lemmas.Bool.Decides.{nat_tests}}
use mathlib.Core.Bool.{false≢true, true≢false}
use Rattle.lz_slot.specs.declared.{command.Command.TheVariants.{Add, Remove, Has}, format.Format.TheVariants.{Two}}
use Rattle.lz_slot.specs.declared.history.HistoryEvent.TheVariants.{Call, Answer as answer}
use Rattle.lz_list.specs.declared.word.Word.TheVariants.{Head, Link, Key, Halt}
use Rattle.lz_refinement.{proofs.Vocabulary.{Trace, Lawful, opening, Part, Note, Sizes, note_by, load_note, fresh, BoardId}, specs.Answers.{Answers}}
use Rattle.lz_refinement.specs.{Holds.{no_board}, OneCaller.{keys_in}, Sessions.{PlainRun, CutLast, marks_alone, IsSession, MayHaveNext}}
use Rattle.lz_machine.specs.declared.event.{Event.TheVariants.{Pin, Answer}, Outcome.TheVariants.{Done}, Reply.TheVariants.{Yes, No, Halted}}
use Rattle.lz_board.specs.declared.view.What.TheVariants.{Called, Played, Found}

-- key 9 was found in slot 0
abbrev P0 : Trace
P0 = opening 1 ((9, 0) ∷ [])

abbrev sizes : Sizes
sizes = record { slots = 2; buckets = 1; passes = 1 }

abbrev pub board : BoardId
board = record { table = no_board.table; sizes = sizes; opened = P0 }

-- the steps of a `has` that walks over the one member
abbrev steps : List Note
steps =
    note_by 1 (Played Answer Done) None
    ∷ load_note 1 (record { word = Link 0; value = 8589934592; at = 4 }) ∷ load_note 1 (record { word = Key 0; value = 9; at = 4 })
    ∷ load_note 1 (record { word = Head 0; value = 1; at = 4 }) ∷ load_note 1 (record { word = Halt; value = 0; at = 4 })
    ∷ note_by 1 (Played Pin Done) None ∷ note_by 1 (Called (Has 9) Two) None ∷ []

abbrev pub before : Part
before = fresh sizes P0 1

abbrev pub after : Part
after = record { sizes = sizes; number = 1; pin = 2; begun = P0; known = P0; steps = steps; base = 4; loads = [] }

lawful : Lawful 1 2 P0
lawful = grind arith

pub answers : Answers Two (Has 9) Yes before after
answers = record {
  number = refl;
  new = steps;
  steps = refl;
  one_call = record {
    moment = 0;
    within =
        load_note 1 (record { word = Link 0; value = 8589934592; at = 4 }) ∷ load_note 1 (record { word = Key 0; value = 9; at = 4 })
        ∷ load_note 1 (record { word = Head 0; value = 1; at = 4 }) ∷ load_note 1 (record { word = Halt; value = 0; at = 4 })
        ∷ note_by 1 (Played Pin Done) None ∷ [];
    steps = refl;
    only = (tt, (tt, (tt, (tt, (tt, tt)))));
    answers = refl;
  };
  promises = (
    record { then = P0; between = record { from = inl refl; upto = inl refl }; settled = record { begins = inl refl; member = refl; settled = refl } },
    record { since = []; goes_on = refl; own = refl },
  );
  lawful = lawful;
  alone = λ one. record { since = []; goes_on = refl; own = tt };
  late = λ halted. absurd cc;
}

-- a session of that one call, in the history of the pen's notes
session : IsSession board Two (steps ++ note_by 0 (Found 1 0) None ∷ []) ((Has 9, Yes) ∷ []) before after
session = record {
  alone = refl;
  known = refl;
  no_steps = refl;
  served = (refl, (after, answers, refl));
  cut = tt;
  tells = refl;
}

-- no call of another pass may stand in that history
not_alone : IsSession board Two (note_by 2 (Called (Add 12) Two) None ∷ steps) ((Has 9, Yes) ∷ []) before after → ⊥
not_alone h = let tells = h.tells in absurd cc

-- what is shown of a call that was answered, and of the next one
marks_are : marks_alone 1 ((Add 12, None) ∷ (Has 9, Some Yes) ∷ []) ≡ Call 2 1 (Add 12) ∷ answer 1 true ∷ Call 1 1 (Has 9) ∷ []
marks_are = refl

-- the plain set of key 9
run_of_two : PlainRun Two 2 ((Has 9, Yes) ∷ (Has 8, No) ∷ []) (keys_in P0) (keys_in P0)
run_of_two = (
  keys_in P0,
  record { old = refl; row = (refl, λ j. refl) },
  (keys_in P0, record { old = refl; row = (refl, λ j. refl) }, λ j. refl),
)

not_a_run : PlainRun Two 2 ((Has 9, No) ∷ []) (keys_in P0) (keys_in P0) → ⊥
not_a_run h = true≢false h.1.row.0

-- only the last call may be cut off
cut_at_the_end : CutLast ((Add 12, Yes) ∷ (Remove 9, Halted) ∷ [])
cut_at_the_end = (refl, tt)

not_before : CutLast ((Remove 9, Halted) ∷ (Add 12, Yes) ∷ []) → ⊥
not_before h = true≢false h.0

-- a removing that is under way may be done; where no call is, the set stands
under_way : MayHaveNext ((Remove 9, Yes) ∷ []) (keys_in P0) (λ j. false)
under_way = inr (λ j. grind (arith, nat_tests))

no_call : MayHaveNext [] (keys_in P0) (λ j. false) → ⊥
no_call h = false≢true (h 9)
