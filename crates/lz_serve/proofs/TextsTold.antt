-- Texts that ask for nothing are told at once.
use Rattle.lz_serve.specs.declared.turn.Turn.TheVariants as turn
use Rattle.std.proofs.Common.{◌≡◌, Bool, false, List, ◌∷◌, IfOk, Result, Ok, Err, drop}
use Rattle.lz_proto.specs.declared.end.End.TheVariants.{Done}
use Rattle.lz_serve.specs.{declared.{line.Line.{Line}, turn.Turn.{Turn}}, Conversations.{IsReady, IsText, Talk}}

text_ready : (t : Turn) (under : List Line) → IsText t → IsReady t under
text_ready (turn.Asks wording count) under text = absurd text
text_ready (turn.Says said) under text = tt
text_ready (turn.Lists scan) under text = absurd text
text_ready (turn.Tells query) under text = absurd text
text_ready (turn.Ends said) under text = tt

-- where nothing was told that was ready, no text is in front
pub texts_rest : {E : Type 0} (r : Result Bool E) (old : Talk) → IfOk r (λ told. told ≡ false → old.ended ≡ Done → (t : Turn) → old.turns ≡ t ∷ drop 1 old.turns → IsReady t old.under → ⊥)
    → IfOk r (λ told. told ≡ false → old.ended ≡ Done → (t : Turn) → old.turns ≡ t ∷ drop 1 old.turns → IsText t → ⊥)
texts_rest (Ok told) old rests = λ none goes t is text. rests none goes t is (text_ready t old.under text)
texts_rest (Err e) old rests = tt
