-- Lines that are written a part at a time.
use Rattle.std.proofs.Common.{◌≡◌, ℕ, ◌+◌, ◌<◌, List, [], ◌∷◌, ◌++◌, length, take, get_or, codes, Option, refl, sym, ap, subst, ◌∙◌, append_assoc}
use Rattle.std.{proofs.{lemmas.List.{take_more}, KnownBytes.{Appends-trans}}, specs.Io.KnownBytes.{Appends}}
use Rattle.lz_slot.{specs.{declared.history.HistoryEvent.{HistoryEvent}, Texts.{key_text}, MarkTexts.{keys_text, marks_text}}, proofs.Texts.MarkTexts.{marks_join}}
use Rattle.lz_rehearsal.specs.Tellings.{mark_line}

keys_join : (ks js : List ℕ) → keys_text (ks ++ js) ≡ keys_text ks ++ keys_text js
keys_join [] js = refl
keys_join (k ∷ ks) js =
    ap (λ (t : List ℕ). codes " " ++ key_text k ++ t) (keys_join ks js) ∙ sym (append_assoc (codes " ") (key_text k ++ keys_text ks) (keys_text js) ∙ ap (λ (t : List ℕ). codes " " ++ t) (append_assoc (key_text k) (keys_text ks) (keys_text js)))

-- one key more was written
pub keys_next : (a b d : Option (List ℕ)) (keys : List ℕ) (i k : ℕ) → i < length keys → get_or keys i k ≡ k → Appends a b (keys_text (take i keys))
    → Appends b d (keys_text (k ∷ [])) → Appends a d (keys_text (take (i + 1) keys))
keys_next a b d keys i k h is p q =
    let next : take (i + 1) keys ≡ take i keys ++ k ∷ [] = take_more keys i k h ∙ ap (λ (x : ℕ). take i keys ++ x ∷ []) is in
    subst (Appends a d) (sym (ap keys_text next ∙ keys_join (take i keys) (k ∷ []))) (Appends-trans a b d (keys_text (take i keys)) (keys_text (k ∷ [])) p q)

-- one mark more was written
pub marks_next : (a b d : Option (List ℕ)) (marks : List HistoryEvent) (i : ℕ) (m : HistoryEvent) → i < length marks → get_or marks i m ≡ m → Appends a b (marks_text (take i marks))
    → Appends b d (mark_line m) → Appends a d (marks_text (take (i + 1) marks))
marks_next a b d marks i m h is p q =
    let next : take (i + 1) marks ≡ take i marks ++ m ∷ [] = take_more marks i m h ∙ ap (λ (x : HistoryEvent). take i marks ++ x ∷ []) is in
    let more : Appends b d (marks_text (m ∷ [])) = q in
    subst (Appends a d) (sym (ap marks_text next ∙ marks_join (take i marks) (m ∷ []))) (Appends-trans a b d (marks_text (take i marks)) (marks_text (m ∷ [])) p more)
