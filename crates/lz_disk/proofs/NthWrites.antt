-- How the writes of one place are counted, one change after another, and the picked byte is found.
use Rattle.std.proofs.Common.{◌≡◌, ℕ, ◌+◌, ◌-◌, ◌≤◌, ◌<◌, nat_le, Bool, true, false, List, [], ◌∷◌, length, get_or, take, if◌then◌else◌, sym, refl, ◌∙◌, ap}
use Rattle.std.proofs.{Common.{arith}, lemmas.Bool.{cases_Bool}}
use Rattle.lz_disk.specs.{Images.{Medium}, Picks.{covers, nth_written, times_written}, Records.{after, after_record}, declared.memory.Record.{Record}}
use Rattle.lz_disk.{specs.declared.memory.Record.TheVariants.{Synced}, proofs.ByteImages.{last_change}}

-- up to some change the writes of a place are counted, and the byte is found that those are to leave
pub record IsChoosing (changes : List Record) (number at byte index times found : ℕ) : Type 0 where
  pub within : index ≤ length changes
  pub few : times ≤ index
  pub counted : (b : Bool) (start : List ℕ) → times ≡ times_written (after b start (take index changes)).loose at
  pub picked : (b : Bool) (start : List ℕ) → found ≡ nth_written (after b start (take index changes)).loose number at byte

module _ (changes : List Record) (number at byte index times found times' found' : ℕ) (r : Record) (lt : index < length changes) (is : r ≡ get_or changes index r) (held : IsChoosing changes number at byte index times found) where
  abbrev so_far : Bool → List ℕ → Medium
  so_far b start = after b start (take index changes)

  now : (b : Bool) (start : List ℕ) → after b start (take (index + 1) changes) ≡ after_record (so_far b start) r
  now = last_change changes (index + 1) index r refl (omega arith) is

  module _ (s : ℕ) (bytes : List ℕ) (loosens : (disk : Medium) → (after_record disk r).loose ≡ (s, bytes) ∷ disk.loose) where
    loose_is : (b : Bool) (start : List ℕ) → (after b start (take (index + 1) changes)).loose ≡ (s, bytes) ∷ (so_far b start).loose
    loose_is b start = ap (λ (d : Medium). d.loose) (now b start) ∙ loosens (so_far b start)

    counts : covers (s, bytes) at ≡ true → times' ≡ times + 1 → found' ≡ (if nat_le times number then get_or bytes (at - s) 0 else found) → IsChoosing changes number at byte (index + 1) times' found'
    counts here more choice = record {
      within = omega arith;
      few = omega (arith, held.few);
      counted = λ b start. grind (arith, more, here, held.counted b start, loose_is b start) steps 100000;
      picked = λ b start. grind (arith, choice, here, held.counted b start, held.picked b start, loose_is b start) steps 100000;
    }

    passes : covers (s, bytes) at ≡ false → times' ≡ times → found' ≡ found → IsChoosing changes number at byte (index + 1) times' found'
    passes not_here same kept = record {
      within = omega arith;
      few = omega (arith, held.few);
      counted = λ b start. grind (arith, same, not_here, held.counted b start, loose_is b start) steps 100000;
      picked = λ b start. grind (arith, kept, not_here, held.picked b start, loose_is b start) steps 100000;
    }

    -- a write is added
    pub choosing_adds : (covers (s, bytes) at ≡ false → (times' ≡ times) × (found' ≡ found)) → (covers (s, bytes) at ≡ true → times' ≡ times + 1)
        → (covers (s, bytes) at ≡ true → found' ≡ (if nat_le times number then get_or bytes (at - s) 0 else found)) → IsChoosing changes number at byte (index + 1) times' found'
    choosing_adds passed counted picked = grind (arith, cases_Bool, counts, counted, picked, passes)

  -- after a sync none counts
  pub choosing_syncs : r ≡ Synced → times' ≡ 0 → found' ≡ byte → IsChoosing changes number at byte (index + 1) times' found'
  choosing_syncs sync none given =
      let loose_is : (b : Bool) (start : List ℕ) → (after b start (take (index + 1) changes)).loose ≡ [] =
      λ b start. ap (λ (d : Medium). d.loose) (now b start ∙ ap (after_record (so_far b start)) sync) in
      record {
        within = omega arith;
        few = omega arith;
        counted = λ b start. none ∙ sym (ap (λ (l : List (ℕ × List ℕ)). times_written l at) (loose_is b start));
        picked = λ b start. given ∙ sym (ap (λ (l : List (ℕ × List ℕ)). nth_written l number at byte) (loose_is b start));
      }

-- up to some position the text is done, and the rest is as read
pub record IsNumbering (changes : List Record) (number at : ℕ) (seen text : List ℕ) : Type 0 where
  pub size : length text ≡ length seen
  pub within : at ≤ length seen
  pub done : (b : Bool) (start : List ℕ) (k : ℕ) → k < at → get_or text k 0 ≡ nth_written (after b start changes).loose number k (get_or seen k 0)
  pub rest : (k : ℕ) → at ≤ k → get_or text k 0 ≡ get_or seen k 0
