-- The exchange on the board that goes with a turn's note.
use Rattle.std.proofs.{Common.{arith, ◌≡◌, ◌≢◌, ℕ, refl, sym, ap, ◌∙◌, subst, Option, Some, None}, lemmas.Bool.Decides.{nat_tests}}
use Rattle.lz_refinement.proofs.Vocabulary.{Word, Words, get}
use Rattle.lz_list.specs.declared.word.Word.TheVariants.{Link, Pin as pin_at}

-- the word, what it was, and what it becomes
pub record Exchange : Type 0 where
  pub word : Word
  pub before : ℕ
  pub after : ℕ

-- That of the word that the turn changed, or of slot 0's link word from 2 to 2 where it changed none. There is none where the
-- pass's own pin word was changed.
abbrev pub IsExchange : Words → Option Word → ℕ → Option Exchange → Type 0
IsExchange words None before None = ⊥
IsExchange words None before (Some x) = (x.word ≡ Link 0) × (x.before ≡ 2) × (x.after ≡ 2)
IsExchange words (Some (pin_at q)) before None = Unit {0}
IsExchange words (Some (pin_at q)) before (Some x) = ⊥
IsExchange words (Some w) before None = ⊥
IsExchange words (Some w) before (Some x) = (x.word ≡ w) × (x.before ≡ before) × (x.after ≡ get words w)

-- that of a word that is no pin word
word_exchange : (words : Words) (w : Word) (before : ℕ) → ((q : ℕ) → w ≢ pin_at q) → IsExchange words (Some w) before (Some (record { word = w; before = before; after = get words w }))
word_exchange words (pin_at q) before other = absurd (other q refl)
word_exchange words _ before other = (refl, refl, refl)

module _ (words : Words) (changed : Option Word) (before : ℕ) where
  pub of_word : (seen : Words) (w : Word) (after : ℕ) → changed ≡ Some w → ((q : ℕ) → w ≢ pin_at q) → after ≡ get seen w → seen ≡ words → IsExchange words changed before (Some (record { word = w; before = before; after = after }))
  of_word seen w after is other reads same = grind (arith, nat_tests, get, word_exchange)

  pub of_none : changed ≡ None → (s : ℕ) → s ≡ 0 → IsExchange words changed before (Some (record { word = Link s; before = 2; after = 2 }))
  of_none is s first = subst (λ (o : Option Word). IsExchange words o before (Some (record { word = Link s; before = 2; after = 2 }))) (sym is) (ap Link first, refl, refl)

  pub of_pin : (w : Word) (q : ℕ) → changed ≡ Some w → w ≡ pin_at q → IsExchange words changed before None
  of_pin w q is pin = subst (λ (o : Option Word). IsExchange words o before None) (sym (is ∙ ap (λ (v : Word). Some v) pin)) tt
