-- Lines of marks, one after another.
use Rattle.std.proofs.Common.{◌≡◌, ℕ, List, [], ◌∷◌, ◌++◌, refl, sym, ap, ◌∙◌, append_assoc}
use Rattle.lz_slot.specs.{MarkTexts.{mark_text, marks_text}, declared.history.HistoryEvent.{HistoryEvent}}

pub marks_join : (ms ns : List HistoryEvent) → marks_text (ms ++ ns) ≡ marks_text ms ++ marks_text ns
marks_join [] ns = refl
marks_join (m ∷ ms) ns =
    ap (λ (t : List ℕ). mark_text m ++ 10 ∷ t) (marks_join ms ns) ∙ sym (append_assoc (mark_text m) (10 ∷ marks_text ms) (marks_text ns))
