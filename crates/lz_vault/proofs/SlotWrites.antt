-- What the writes that put a key, open a slot and close it leave of what the cells say, done or failed.
use Rattle.std.proofs.Common.{◌≡◌, ◌⊎◌, inl, inr, ⊎_elim, ℕ, zero, suc, ◌+◌, ◌*◌, ◌≤◌, ◌<◌, Bool, true, false, List, [], ◌∷◌, length, get_or, drop, replicate}
use Rattle.std.proofs.{Common.{sym, refl, ◌∙◌, ap, subst, arith, Some}, lemmas.{Bool.{true≢false}, List.{get_or-replicate}}}
use Rattle.std.{proofs.lemmas.{List.Edits.{length-between, get_or-between}, Option.{slice_get_within}}, specs.Prelude.{slice_get, slice_set}}
use Rattle.lz_slot.specs.{Rooms.{largest_of}, declared.format.Format.{Format, TheVariants.{Four}}, Bytes.{slot_bytes, slot_body, open_byte, closed_byte}}
use Rattle.lz_slot.{specs.Whole.{whole_slot, is_shut, IsPartOf}, proofs.{Files.ExactBytes.{key_of_format}, Whole.{shut_stays_shut, whole_bytes}}}
use Rattle.lz_disk.specs.Images.{Medium, IsImage, AgreeOutside, AreBytes, Mixes, WriteFailed, overwritten, written}
use Rattle.lz_disk.proofs.Writes.{written_loosens, failed_loosens}
use Rattle.lz_vault.specs.Stages.{Cell, Says, SaysWhole, Reads, Keeps, IsFree, IsOpened, stage_put}
use Rattle.lz_vault.specs.{Vaults.{DeviceCall, NoCall, WriteAt, MayFail, medium_after, key_call, opening_call, closing_call}, declared.vault.Stage.{Stage}}
use Rattle.lz_vault.specs.declared.vault.Stage.TheVariants.{Closed, Torn, KeyLoose, Keyed, Opening, Open, Closing}
use Rattle.lz_vault.proofs.Changes.{Leaves, change_keeps, cell_keeps}
use Rattle.lz_vault.proofs.{Gates.{gate_bytes, body_bytes, shut_stays, body_stays, free_says_shut, opened_says_body}, MakingTexts.{slot_written}}
use Rattle.lz_vault.proofs.Slots.{body_written, gate_written}

-- with this cell the disk is as the cells say after the device call, whether it is done or fails
abbrev Kept : Format → List Cell → Medium → ℕ → Cell → DeviceCall → Type 0
Kept F cells disk s cell call =
    Keeps F (slice_set cells s cell) false (medium_after call disk) × ((new : Medium) → MayFail call disk new → Keeps F (slice_set cells s cell) true new)

-- the text as read has room for a slot
pub fits : (F : Format) (cells : List Cell) {dead : Bool} (disk : Medium) (s : ℕ) → Keeps F cells dead disk → s < length cells → 32 + 16 * s ≤ length disk.seen
fits F cells disk s keeps within = let size = keeps.vouches.size disk.seen keeps.sound.seen in omega arith

module _ (F : Format) (cells : List Cell) (disk : Medium) (s : ℕ) (keeps : Keeps F cells false disk) (within : s < length cells) (cell : Cell) where
  seen_fits : 32 + 16 * s ≤ length disk.seen
  seen_fits = fits F cells disk s keeps within

  -- a write of a slot's bytes; one that failed may have done nothing
  by_write : (at : ℕ) (bytes : List ℕ) → AreBytes bytes → 16 + 16 * s ≤ at → at + length bytes ≤ 32 + 16 * s → Leaves F disk at bytes s cell
      → Reads F cell.stage cell.key (slot_bytes (overwritten disk.seen at bytes) s) → Kept F cells disk s cell (WriteAt at bytes)
  by_write at bytes small low high says reads = (
    change_keeps F cells false false disk (written disk at bytes) at bytes s cell keeps (written_loosens disk at bytes small keeps.sound.seen.bytes (omega (arith, seen_fits))) within low high (λ live. refl) says (λ live. reads),
    failed,
  )
    where
      failed : (new : Medium) → (new ≡ disk) ⊎ WriteFailed disk at bytes new → Keeps F (slice_set cells s cell) true new
      failed new (inl same) =
          subst (Keeps F (slice_set cells s cell) true) (sym same)
          (cell_keeps F cells false true disk s cell keeps (λ live. refl)
          (λ t image. says t t image (record { size = refl; same = λ i out. refl }) (λ on i low high lt. inl refl) (let size = keeps.vouches.size t image in omega arith))
          (λ live. absurd (true≢false live)))
      failed new (inr partly) =
          change_keeps F cells false true disk new at bytes s cell keeps (failed_loosens disk at bytes new (omega (arith, seen_fits)) partly) within low high (λ live. refl) says (λ live. absurd (true≢false live))

  by_no_call : ((t : List ℕ) → IsImage disk t → Says F cell.stage cell.key (slot_bytes t s)) → Reads F cell.stage cell.key (slot_bytes disk.seen s) → Kept F cells disk s cell NoCall
  by_no_call says reads = (cell_keeps F cells false false disk s cell keeps (λ live. refl) says (λ live. reads), λ new failed. absurd failed)

-- zeros are bytes
zero_bytes : (n : ℕ) → AreBytes (replicate n 0)
zero_bytes zero i = omega arith
zero_bytes (suc n) zero = omega arith
zero_bytes (suc n) (suc i) = zero_bytes n i

-- where all of a slot was written, each of its bytes is an older one or the write's
module _ (s : ℕ) (bytes c d : List ℕ) (is_slot : length bytes ≡ 16) (agree : AgreeOutside (16 + 16 * s) (length bytes) c d) (mixes : Mixes (16 + 16 * s) bytes c d) (long : 32 + 16 * s ≤ length c) where
  size_of : length (slot_bytes c s) ≡ 16
  size_of = omega (arith, length-between c (16 + 16 * s) (32 + 16 * s) long)

  older_size : length (slot_bytes d s) ≡ 16
  older_size = omega (arith, length-between d (16 + 16 * s) (32 + 16 * s) (omega (arith, long, agree.size)))

  slot_mixes : (i : ℕ) → i < 16 → (get_or (slot_bytes c s) i 0 ≡ get_or (slot_bytes d s) i 0) ⊎ (get_or (slot_bytes c s) i 0 ≡ get_or bytes i 0)
  slot_mixes i lt = grind (arith, get_or-between, get_or)

-- zeros over a part of a slot leave a part of it
zeros_part : (s : ℕ) (c d whole : List ℕ) → length whole ≡ 16 → AgreeOutside (16 + 16 * s) 16 c d → Mixes (16 + 16 * s) (replicate 16 0) c d → 32 + 16 * s ≤ length c → IsPartOf (slot_bytes d s) whole → IsPartOf (slot_bytes c s) whole
zeros_part s c d whole count agree mixes long part = (
  size_of s (replicate 16 0) c d refl agree mixes long ∙ sym count,
  λ i lt.
      let small : i < 16 = omega (arith, lt, count) in
      ⊎_elim (λ older. ⊎_elim (λ none. inl (older ∙ none)) (λ same. inr (older ∙ same)) (part.1 i lt)) (λ wrote. inl (wrote ∙ get_or-replicate 16 i 0 0 small))
      (slot_mixes s (replicate 16 0) c d refl agree mixes long i small),
)

-- zeros over a slot that isn't open leave one
zeros_shut : (s : ℕ) (c d : List ℕ) → AgreeOutside (16 + 16 * s) 16 c d → Mixes (16 + 16 * s) (replicate 16 0) c d → 32 + 16 * s ≤ length c → is_shut (slot_bytes d s) ≡ true → is_shut (slot_bytes c s) ≡ true
zeros_shut s c d agree mixes long shut =
    shut_stays_shut (slot_bytes d s) (slot_bytes c s)
    (zeros_part s c d (slot_bytes d s) (older_size s (replicate 16 0) c d refl agree mixes long) agree mixes long (refl, λ i lt. inr refl)) shut

-- a slot over zeros leaves a part of it
slot_part : (s : ℕ) (c d whole : List ℕ) → length whole ≡ 16 → AgreeOutside (16 + 16 * s) (length whole) c d → Mixes (16 + 16 * s) whole c d → 32 + 16 * s ≤ length c → slot_bytes d s ≡ replicate 16 0 → IsPartOf (slot_bytes c s) whole
slot_part s c d whole count agree mixes long none = (
  size_of s whole c d count agree mixes long ∙ sym count,
  λ i lt.
      let small : i < 16 = omega (arith, lt, count) in
      ⊎_elim (λ older. inl (older ∙ ap (λ (l : List ℕ). get_or l i 0) none ∙ get_or-replicate 16 i 0 0 small)) inr
      (slot_mixes s whole c d count agree mixes long i small),
)

opened_says_part : (stage : Stage) (key : ℕ) (bytes : List ℕ) → IsOpened stage → SaysWhole stage key bytes → IsPartOf bytes (whole_slot key)
opened_says_part Opening key bytes opened says = says
opened_says_part Open key bytes opened says = (ap length says, λ i lt. inr (ap (λ (l : List ℕ). get_or l i 0) says))
opened_says_part _ key bytes opened says = absurd opened

-- what is put into a slot of format 4
whole_key : (cells : List Cell) (disk : Medium) (s k : ℕ) (stage : Stage) (key : ℕ) → Keeps Four cells false disk → slice_get cells s ≡ Some (record { stage = stage; key = key }) → IsFree stage
    → Kept Four cells disk s (record { stage = stage_put Four stage; key = k }) (key_call Four stage s k)
whole_key cells disk s k Closed key keeps there free =
    by_no_call Four cells disk s keeps (slice_get_within cells s _ there) (record { stage = Keyed; key = k }) (λ t image. keeps.vouches.each t s _ image there) tt
whole_key cells disk s k Torn key keeps there free =
    let within = slice_get_within cells s _ there in
    by_write Four cells disk s keeps within (record { stage = KeyLoose; key = k }) (16 + 16 * s) (replicate 16 0) (zero_bytes 16) (omega arith) (omega arith)
    (λ c d image agree mixes long. zeros_shut s c d agree (mixes (keeps.suits refl)) long (keeps.vouches.each d s _ image there))
    (slot_written disk.seen s (replicate 16 0) refl (let size = fits Four cells disk s keeps within in omega arith))
whole_key cells disk s k KeyLoose key keeps there free =
    by_no_call Four cells disk s keeps (slice_get_within cells s _ there) (record { stage = KeyLoose; key = k }) (λ t image. keeps.vouches.each t s _ image there) (keeps.reads refl s _ there)
whole_key cells disk s k Keyed key keeps there free =
    by_no_call Four cells disk s keeps (slice_get_within cells s _ there) (record { stage = Keyed; key = k }) (λ t image. keeps.vouches.each t s _ image there) tt
whole_key cells disk s k _ key keeps there free = absurd free

key_kept : (F : Format) (cells : List Cell) (disk : Medium) (s k : ℕ) (cell : Cell) → Keeps F cells false disk → slice_get cells s ≡ Some cell → IsFree cell.stage → k ≤ largest_of F
    → Kept F cells disk s (record { stage = stage_put F cell.stage; key = k }) (key_call F cell.stage s k)
key_kept Four cells disk s k cell keeps there free range = whole_key cells disk s k cell.stage cell.key keeps there free
key_kept F cells disk s k cell keeps there free range =
    let within = slice_get_within cells s cell there in
    let new : Cell = record { stage = KeyLoose; key = k } in
    by_write F cells disk s keeps within new (17 + 16 * s) (slot_body k) (body_bytes k (key_of_format F k range)) (omega arith) (omega arith)
    (λ c d image agree mixes long. shut_stays (17 + 16 * s) 15 c d agree s long (omega arith) (free_says_shut cell.stage cell.key _ free (keeps.vouches.each d s cell image there)))
    (let here : 16 + 16 * s + 1 ≡ 17 + 16 * s = omega arith in
    subst (λ (a : ℕ). drop 1 (slot_bytes (overwritten disk.seen a (slot_body k)) s) ≡ slot_body k) here (body_written disk.seen s (fits F cells disk s keeps within) (slot_body k) refl))

opening_kept : (F : Format) (cells : List Cell) (disk : Medium) (s : ℕ) (cell : Cell) → Keeps F cells false disk → slice_get cells s ≡ Some cell → cell.stage ≡ Keyed
    → Kept F cells disk s (record { stage = Opening; key = cell.key }) (opening_call F s cell.key)
opening_kept Four cells disk s cell keeps there keyed =
    let within = slice_get_within cells s cell there in
    let new : Cell = record { stage = Opening; key = cell.key } in
    by_write Four cells disk s keeps within new (16 + 16 * s) (whole_slot cell.key) (whole_bytes cell.key) (omega arith) (omega arith)
    (λ c d image agree mixes long.
    slot_part s c d (whole_slot cell.key) refl agree (mixes (keeps.suits refl)) long (subst (λ (stage : Stage). SaysWhole stage cell.key (slot_bytes d s)) keyed (keeps.vouches.each d s cell image there)))
    (slot_written disk.seen s (whole_slot cell.key) refl (let size = fits Four cells disk s keeps within in omega arith))
opening_kept F cells disk s cell keeps there keyed =
    let within = slice_get_within cells s cell there in
    let new : Cell = record { stage = Opening; key = cell.key } in
    by_write F cells disk s keeps within new (16 + 16 * s) (open_byte ∷ []) (gate_bytes open_byte (omega arith)) (omega arith) (omega arith)
    (λ c d image agree mixes long. body_stays (16 + 16 * s) 1 c d agree s long (omega arith) cell.key (subst (λ (stage : Stage). Says F stage cell.key (slot_bytes d s)) keyed (keeps.vouches.each d s cell image there)).1)
    (gate_written disk.seen s (fits F cells disk s keeps within) open_byte)

closing_kept : (F : Format) (cells : List Cell) (disk : Medium) (s : ℕ) (cell : Cell) → Keeps F cells false disk → slice_get cells s ≡ Some cell → IsOpened cell.stage
    → Kept F cells disk s (record { stage = Closing; key = cell.key }) (closing_call F s)
closing_kept Four cells disk s cell keeps there opened =
    let within = slice_get_within cells s cell there in
    let new : Cell = record { stage = Closing; key = cell.key } in
    by_write Four cells disk s keeps within new (16 + 16 * s) (replicate 16 0) (zero_bytes 16) (omega arith) (omega arith)
    (λ c d image agree mixes long.
    zeros_part s c d (whole_slot cell.key) refl agree (mixes (keeps.suits refl)) long (opened_says_part cell.stage cell.key (slot_bytes d s) opened (keeps.vouches.each d s cell image there)))
    (slot_written disk.seen s (replicate 16 0) refl (let size = fits Four cells disk s keeps within in omega arith))
closing_kept F cells disk s cell keeps there opened =
    let within = slice_get_within cells s cell there in
    let new : Cell = record { stage = Closing; key = cell.key } in
    let shut = gate_written disk.seen s (fits F cells disk s keeps within) closed_byte in
    let never : closed_byte ≡ open_byte → ⊥ = λ e. absurd (omega (arith, e)) in
    by_write F cells disk s keeps within new (16 + 16 * s) (closed_byte ∷ []) (gate_bytes closed_byte (omega arith)) (omega arith) (omega arith)
    (λ c d image agree mixes long. body_stays (16 + 16 * s) 1 c d agree s long (omega arith) cell.key (opened_says_body cell.stage cell.key _ opened (keeps.vouches.each d s cell image there)))
    (λ is. never (sym shut ∙ is))

-- a key is put into a slot that is surely closed
module _ (F : Format) (cells : List Cell) (disk : Medium) (s k : ℕ) (cell : Cell) (keeps : Keeps F cells false disk) (there : slice_get cells s ≡ Some cell) (free : IsFree cell.stage) (range : k ≤ largest_of F) where
  pub key_put : Keeps F (slice_set cells s (record { stage = stage_put F cell.stage; key = k })) false (medium_after (key_call F cell.stage s k) disk)
  key_put = (key_kept F cells disk s k cell keeps there free range).0

  pub key_put_failed : (new : Medium) → MayFail (key_call F cell.stage s k) disk new → Keeps F (slice_set cells s (record { stage = stage_put F cell.stage; key = k })) true new
  key_put_failed new failed = (key_kept F cells disk s k cell keeps there free range).1 new failed

module _ (F : Format) (cells : List Cell) (disk : Medium) (s : ℕ) (cell : Cell) (keeps : Keeps F cells false disk) (there : slice_get cells s ≡ Some cell) where
  pub opening_written : cell.stage ≡ Keyed → cell.key ≤ largest_of F → Keeps F (slice_set cells s (record { stage = Opening; key = cell.key })) false (medium_after (opening_call F s cell.key) disk)
  opening_written keyed range = (opening_kept F cells disk s cell keeps there keyed).0

  pub opening_failed : cell.stage ≡ Keyed → cell.key ≤ largest_of F → (new : Medium) → MayFail (opening_call F s cell.key) disk new → Keeps F (slice_set cells s (record { stage = Opening; key = cell.key })) true new
  opening_failed keyed range new failed = (opening_kept F cells disk s cell keeps there keyed).1 new failed

  pub closing_written : IsOpened cell.stage → cell.key ≤ largest_of F → Keeps F (slice_set cells s (record { stage = Closing; key = cell.key })) false (medium_after (closing_call F s) disk)
  closing_written opened range = (closing_kept F cells disk s cell keeps there opened).0

  pub closing_failed : IsOpened cell.stage → cell.key ≤ largest_of F → (new : Medium) → MayFail (closing_call F s) disk new → Keeps F (slice_set cells s (record { stage = Closing; key = cell.key })) true new
  closing_failed opened range new failed = (closing_kept F cells disk s cell keeps there opened).1 new failed
