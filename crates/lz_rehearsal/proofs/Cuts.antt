-- Texts that are cut at a space.
use Rattle.std.proofs.{Common.{◌≡◌, ℕ, ◌+◌, ◌-◌, List, length, take, drop, Some, sym, ap, ◌∙◌}, lemmas.List.{drop_more, take_rest}}
use Rattle.memchr.specs.Find.{IsFirstByte, is_byte}
use Rattle.lz_slot.{specs.Texts.{parted}, proofs.Texts.Cuts.{parted_at}}

pub word_parted : (text word ended : List ℕ) (e : ℕ) → IsFirstByte (is_byte 32) text (Some e) → word ≡ take e text → ended ≡ drop e text
    → Some (word, take (length ended - 1) (drop 1 ended)) ≡ parted 32 text
word_parted text word ended e first front back =
    let after : take (length ended - 1) (drop 1 ended) ≡ drop (e + 1) text = take_rest ended 1 ∙ ap (λ (x : List ℕ). drop 1 x) (back ∙ drop_more text e 0 first.0.high) in
    rw (after, front) (sym (parted_at 32 text e first))
