-- Worked rows: how often a rewriting calls its device, what it leaves of a file at rest, and what is none.
use Rattle.std.proofs.{Common.{◌≡◌, ℕ, true, List, [], ◌∷◌, get_or, IsTrue, refl, sym, ◌∙◌, ap, subst, arith}, lemmas.Bool.{false≢true}}
use Rattle.lz_slot.specs.{Bytes.{format_of}, declared.format.Format.{Format, TheVariants.{Two, Four}}}
use Rattle.lz_disk.{specs.{Images.{Medium, IsImage, at_rest}, Devices.{Device}}, proofs.Writes.{loose_inside, synced_image}}
use Rattle.lazyset_file_commands.specs.Rewritings.{IsRewrittenTo, IsWholeFour, KeepsImages, calls_of_rewriting}

-- a sync, the size, the head, and a sync; and for each piece of 4,096 slots a read and a write. The head is in the first piece.
one_slot : calls_of_rewriting 1 ≡ 6
one_slot = refl

one_piece : calls_of_rewriting 4_095 ≡ 6
one_piece = refl

two_pieces : calls_of_rewriting 4_096 ≡ 8
two_pieces = refl

most : calls_of_rewriting 16_777_216 ≡ 8_198
most = refl

-- a file of format 2 is no whole one of format 4, whatever its head says besides
of_two : (t : List ℕ) (n : ℕ) → format_of t ≡ Two → IsWholeFour t n → ⊥
of_two t n two whole = let other : ◌≡◌ {A = Format} Two Four = sym two ∙ whole.1 in absurd cc

-- a text of two bytes at rest, and a medium that is read so after these writes
abbrev two_bytes : Medium
two_bytes = at_rest true (1 ∷ 2 ∷ [])

abbrev after_writes : List ℕ → List (ℕ × List ℕ) → Medium
after_writes seen writes = record { bytewise = true; sure = 1 ∷ 2 ∷ []; seen = seen; loose = writes }

-- it is written anew by one write of what is read
by_one : IsRewrittenTo two_bytes 2 (after_writes (1 ∷ 2 ∷ []) ((0, 1 ∷ 2 ∷ []) ∷ []))
by_one = record { bytewise = refl; sure = refl; seen = refl; loose = λ i lt. loose_inside 0 (1 ∷ 2 ∷ []) [] i (omega arith) lt }

-- and not where nothing was written, or the last byte wasn't, or another byte is read
none_written : IsRewrittenTo two_bytes 1 two_bytes → ⊥
none_written so = false≢true (so.loose 0 (omega arith))

part_written : IsRewrittenTo two_bytes 2 (after_writes (1 ∷ 2 ∷ []) ((0, 1 ∷ []) ∷ [])) → ⊥
part_written so = false≢true (so.loose 1 (omega arith))

other_byte : IsRewrittenTo two_bytes 2 (after_writes (1 ∷ 3 ∷ []) ((0, 1 ∷ 3 ∷ []) ∷ [])) → ⊥
other_byte so = let second : ◌≡◌ {A = ℕ} 3 2 = ap (λ (t : List ℕ). get_or t 1 0) so.seen in absurd (omega (arith, second))

-- where nothing was loose a crash leaves the very bytes that were there
very_bytes : (old new : Device) (t c : List ℕ) → IsTrue old.honest → old.medium ≡ at_rest true t → KeepsImages (old.medium.bytewise ≡ true) old new → IsImage new.medium c → c ≡ t
very_bytes old new t c honest rests keeps image =
    let before = keeps.images honest (ap (λ (m : Medium). m.bytewise) rests) c image in
    synced_image (at_rest true t) c (subst (λ (m : Medium). IsImage m c) rests before)
