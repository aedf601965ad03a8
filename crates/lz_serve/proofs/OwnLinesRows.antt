-- Worked rows of grants that come in turn and of what they tell, most of which must not hold.
use Rattle.std.proofs.{Common.{◌≡◌, [], ◌∷◌, ◌++◌, ap, sym, ◌∙◌, subst}, lemmas.List.Elements.{All-cons, All-nil}}
use Rattle.lz_slot.specs.declared.command.Command.{Command}
use Rattle.lz_list.specs.{declared.publishing.Publishing.{Publishing}, Traces.{Trace, Begins}}
use Rattle.lz_proto.specs.declared.request.Request.TheVariants.{Add, Has}
use Rattle.lz_machine.specs.declared.event.Reply.{Reply}
use Rattle.lz_board.specs.Seats.{part}
use Rattle.lz_refinement.specs.Sessions.{AnsweredCalls}
use Rattle.lz_set.specs.Answers.{reply_of}
use Rattle.lz_serve.specs.{Grants.{AreInTurn, Grant, IsAfter, key_asked}, OwnLines.{TellOf}}

module _ (e g : Grant) where
  -- those for other keys come in any order
  other_keys : e.question.request ≡ Add 1 → g.question.request ≡ Has 2 → AreInTurn (e ∷ g ∷ [])
  other_keys one two =
      let apart : IsAfter e g = λ same. let asked = sym (ap key_asked one) ∙ same ∙ ap key_asked two in absurd (cc) in
      (All-cons (λ h. IsAfter e h) g [] apart (All-nil (λ h. IsAfter e h)), (All-nil (λ h. IsAfter g h), tt))

  -- what was put to a pass that had seen nothing came after the answer of one that had
  put_before : (x : Publishing) (P : Trace) → e.question.request ≡ g.question.request → (part e.after).known ≡ x ∷ P → (part g.question.before).known ≡ [] → IsAfter e g → ⊥
  put_before x P same some none after =
      let there : Begins (part e.after).known [] = subst (Begins (part e.after).known) none (after (ap key_asked same)) in
      let nothing = sym some ∙ there in
      absurd (cc)

  -- a grant tells of no call
  tells_of_none : TellOf (g ∷ []) [] → ⊥
  tells_of_none told = none_there (told.0, reply_of told.2) told.1 told.3 told.4
    where
      none_there : (call : Command × Reply) (full rest : AnsweredCalls) → [] ≡ full ++ call ∷ rest → ⊥
      none_there call [] rest is = absurd (cc)
      none_there call (first ∷ full) rest is = absurd (cc)
