-- Words and the end of a line.
use Rattle.std.proofs.Common.{◌≡◌, ℕ, ◌+◌, ◌-◌, ◌≤◌, false, ◌==◌, List, [], ◌∷◌, ◌++◌, length, take, drop, All, Option, Some, None, sym, refl, ap, ◌∙◌, arith}
use Rattle.std.proofs.lemmas.{Bool.Decides.{nat_tests}, List.{take_rest, Elements.{All-nil}, Splits.{length-slice_split, slice_split_at, slice_split_none}}}
use Rattle.std.specs.List.{join_with_byte}
use Rattle.memchr.specs.Find.{IsFirstByte, is_byte}
use Rattle.lz_slot.proofs.Texts.{Cuts.{Lacks, cut_at, lacks_all, lacks_first, lacks_more}, Spellings.{lacks_join}}
use Rattle.lz_judge.specs.{declared.line.Line.{Line}, LinesRead.{at_end, kind_read, line_read, words_of}, TextsRead.{IsClear}}

no_end : (line : Line) (words : List (List ℕ)) → 1 ≤ length words → at_end line words ≡ None
no_end line [] some = absurd (omega (arith, some))
no_end line (word ∷ words) some = refl

-- after a space there is a word
pub some_words : (line : Line) (text : List ℕ) → None ≡ at_end line (words_of text)
some_words line text = sym (no_end line (words_of text) (omega (arith, length-slice_split (λ b. b == 32) text)))

-- no byte of a word is this one
pub none_of : (c : ℕ) (word : List ℕ) → Lacks c word → All (λ b. b == c ≡ false) word
none_of c [] h = All-nil (λ b. b == c ≡ false)
none_of c (b ∷ word) h = grind (arith, nat_tests, lacks_more, none_of c word)

first_word : (word rest : List ℕ) → Lacks 32 word → words_of (word ++ 32 ∷ rest) ≡ word ∷ words_of rest
first_word word rest h = slice_split_at (λ b. b == 32) word 32 rest (none_of 32 word h) refl

last_word : (word : List ℕ) → Lacks 32 word → words_of word ≡ word ∷ []
last_word word h = slice_split_none (λ b. b == 32) word (none_of 32 word h)

pub word_and_rest : (text : List ℕ) (end : ℕ) → IsFirstByte (is_byte 32) text (Some end) → words_of text ≡ take end text ∷ words_of (take (length text - (end + 1)) (drop (end + 1) text))
word_and_rest text end is =
    ap words_of (cut_at 32 text end is) ∙ first_word (take end text) (drop (end + 1) text) (lacks_first 32 text end is)
    ∙ ap (λ (t : List ℕ). take end text ∷ words_of t) (sym (take_rest text (end + 1)))

pub one_word : (text : List ℕ) → IsFirstByte (is_byte 32) text None → words_of text ≡ text ∷ []
one_word text nowhere = last_word text (lacks_all 32 text nowhere)

-- a word of a line that is written
pub record IsWord (word : List ℕ) : Type 0 where
  pub space : Lacks 32 word
  pub feed : Lacks 10 word

abbrev pub AreWords : List (List ℕ) → Type 0
AreWords [] = Unit {0}
AreWords (word ∷ words) = IsWord word × AreWords words

words_joined : (word : List ℕ) (words : List (List ℕ)) → AreWords (word ∷ words) → words_of (join_with_byte 32 (word ∷ words)) ≡ word ∷ words
words_joined word [] (is, are) = last_word word is.space
words_joined word (next ∷ words) (is, are) = first_word word (join_with_byte 32 (next ∷ words)) is.space ∙ ap (λ (ws : List (List ℕ)). word ∷ ws) (words_joined next words are)

joined_lacks : (words : List (List ℕ)) → AreWords words → Lacks 10 (join_with_byte 32 words)
joined_lacks [] are = refl
joined_lacks (word ∷ []) (is, are) = is.feed
joined_lacks (word ∷ next ∷ words) (is, are) = lacks_join 10 word (32 ∷ join_with_byte 32 (next ∷ words)) is.feed (joined_lacks (next ∷ words) are)

-- the text is the words of a line that says this
pub record IsWritten (text : List ℕ) (l : Line) : Type 0 where
  pub kind : List ℕ
  pub words : List (List ℕ)
  pub joined : text ≡ join_with_byte 32 (kind ∷ words)
  pub are : AreWords (kind ∷ words)
  pub reads : kind_read kind words ≡ Some l

pub written_reads : {text : List ℕ} {l : Line} → IsWritten text l → line_read text ≡ Some l
written_reads w = grind (arith, words_joined)

pub written_clear : {text : List ℕ} {l : Line} → IsWritten text l → IsClear text
written_clear {text = text} w = none_of 10 text (rw (w.joined) (joined_lacks (w.kind ∷ w.words) w.are))

-- a word that is written is read as this
pub record IsField {A : Type 0} (read : List ℕ → Option A) (word : List ℕ) (a : A) : Type 0 where
  pub is : IsWord word
  pub reads : read word ≡ Some a

pub plain : (word : List ℕ) → Lacks 32 word → Lacks 10 word → IsWord word
plain word space feed = record { space = space; feed = feed }
