-- A list of keys that is read a line at a time.
use Rattle.std.proofs.Common.{◌≡◌, ℕ, zero, suc, ◌<◌, ◌≤◌, List, [], ◌∷◌, ◌++◌, length, get_or, false, Ok, Err, Option, inl, inr, refl, sym, ap, subst, ◌∙◌, ⊎_elim}
use Rattle.std.{proofs.{Common.{arith, append_assoc}, lemmas.{Bool.{cases_lt}, Map.Keys.{apart_from_distinct}}}, specs.{Prelude.{nat_eq}, List.{IsDistinct}}}
use Rattle.lz_slot.specs.{Limits.{largest_key, last_room}, Rooms.{largest_of, last_room_of}, Texts.{key_read}, declared.format.Format.{Format}}
use Rattle.lz_slot.{specs.declared.{format.Format.TheVariants.{One, Two, Three, Four}, spelling.KeyFault.{KeyFault}}, proofs.Files.ExactBytes.{key_of_format}}
use Rattle.lz_slot.proofs.Texts.Spellings.{read_spelled, spelled_read}
use Rattle.lz_resp.specs.Keys.{prefix_of, text_number}
use Rattle.lz_scan_client.{specs.Told.{AddsOnce, AreOnce}, proofs.OneEach.{told_more}}
use Rattle.lz_proto.specs.Lines.{has_line_feed, line_feed, without_return}
use Rattle.lz_vault.specs.Makes.{MayBeMembers}
use Rattle.lazyset_file_commands.specs.Lists.{Adds, AddsKey, AreApart, AreKeysOf, HasPlaceFor, Lists, Named, keys, texts, NamesKey, Spelled, nothing, more}
use Rattle.lazyset_file_commands.specs.{Lists.{named_by}, ListParts.{AreSoFar, Reads}, Marks.{marks_of}, declared.lines.Lines.{Lines}}
use Rattle.lazyset_file_commands.specs.declared.lines.Lines.TheVariants.{Keys, Texts}

-- a line spells the key that is read of it
pub spelled_by : (format : Format) (line : List ℕ) (k : ℕ) → key_read (without_return line) ≡ Ok k → k ≤ largest_of format → NamesKey (keys format) line k
spelled_by format line k is fits = (fits, (read_spelled (without_return line) k is).1)

pub read_of : (format : Format) (line : List ℕ) (k : ℕ) → NamesKey (keys format) line k → key_read (without_return line) ≡ Ok k
read_of format line k spells = spelled_read (without_return line) k (key_of_format format k spells.0) spells.1

pub spelled_not : (format : Format) (line : List ℕ) (fault : KeyFault) → key_read (without_return line) ≡ Err fault → (k : ℕ) → ¬ NamesKey (keys format) line k
spelled_not format line fault is k spells = let read = read_of format line k spells in absurd cc

pub spelled_other : (format : Format) (line : List ℕ) (j : ℕ) → key_read (without_return line) ≡ Ok j → (j ≤ largest_of format → ⊥) → (k : ℕ) → ¬ NamesKey (keys format) line k
spelled_other format line j is high k spells =
    let read = read_of format line k spells in
    let same : k ≡ j = cc in
    high (subst (λ (n : ℕ). n ≤ largest_of format) same spells.0)

-- one line more
pub spelled_more : (named : Named) (text ks line : List ℕ) (k : ℕ) → Spelled named text ks → has_line_feed line ≡ false → NamesKey named line k
    → Spelled named (text ++ (line ++ line_feed ∷ [])) (ks ++ k ∷ [])
spelled_more named _ _ line k nothing clear names = more line [] k [] clear names nothing
spelled_more named _ _ line k (more first rest j js clear_first names_first spelled) clear names =
    subst (λ (x : List ℕ). Spelled named x (j ∷ js ++ k ∷ [])) (sym (append_assoc first (line_feed ∷ rest) (line ++ line_feed ∷ [])))
    (more first (rest ++ (line ++ line_feed ∷ [])) j (js ++ k ∷ []) clear_first names_first (spelled_more named rest js line k spelled clear names))

-- the key of a text is one of room 0
text_fits : (prefix name line : List ℕ) (k : ℕ) → k ≡ text_number prefix name line → k ≤ largest_key
text_fits prefix name line k is = omega (arith, is)

module _ (secret : Option (List ℕ)) (name : List ℕ) where
  adds_once : (line : List ℕ) (k : ℕ) (old new : List ℕ) → k ≡ text_number (prefix_of secret) name line → Adds (texts secret name) k old new → AddsOnce k old new
  adds_once line k old new is (inl (here, same)) = inl (here, same)
  adds_once line k old new is (inr (apart, added)) = inr (apart, text_fits (prefix_of secret) name line k is, added)

  still_first : (k : ℕ) (old new rest : List ℕ) → old ≡ marks_of secret ++ rest → Adds (texts secret name) k old new → (more : List ℕ) × (new ≡ marks_of secret ++ more)
  still_first k old new rest first (inl (here, same)) = (rest, same ∙ first)
  still_first k old new rest first (inr (apart, added)) =
      (rest ++ k ∷ [], added ∙ ap (λ (ks : List ℕ). ks ++ k ∷ []) first ∙ append_assoc (marks_of secret) rest (k ∷ []))

  one_text_more : (told line old new : List ℕ) (k : ℕ) → AreOnce (marks_of secret ++ told) old → k ≡ text_number (prefix_of secret) name line → Adds (texts secret name) k old new
      → AreOnce (marks_of secret ++ (told ++ k ∷ [])) new
  one_text_more told line old new k are is adds =
      subst (λ (ts : List ℕ). AreOnce ts new) (append_assoc (marks_of secret) told (k ∷ [])) (told_more (marks_of secret ++ told) old new k are (adds_once line k old new is adds))

pub all_more : (named : Named) (told line old new : List ℕ) (k : ℕ) → AreSoFar named told old → NamesKey named line k → Adds named k old new → AreSoFar named (told ++ k ∷ []) new
all_more (keys format) told line old new k same names added = ap (λ (ks : List ℕ). ks ++ k ∷ []) same ∙ sym added
all_more (texts secret name) told line old new k (are, (rest, first)) names adds =
    (one_text_more secret name told line old new k are names.1 adds, still_first secret name k old new rest first adds)

-- a text that is a line more of a list
abbrev pub one_more : (named : Named) (text line : List ℕ) (old new : List ℕ) → Reads named text old → has_line_feed line ≡ false → AddsKey named line old new → Reads named (text ++ (line ++ line_feed ∷ [])) new
one_more named text line old new lists clear adds = record {
  told = lists.told ++ adds.key ∷ [];
  spelled = spelled_more named text lists.told line adds.key lists.spelled clear adds.names;
  all = all_more named lists.told line old new adds.key lists.all adds.names adds.adds;
}

-- lines are a list where no key stands in two
pub all_listed : (named : Named) (told ks : List ℕ) → AreSoFar named told ks → AreApart named ks → AreKeysOf named told ks
all_listed (keys format) told ks all apart = (all, apart)
all_listed (texts secret name) told ks all apart = all

abbrev pub is_listed : (named : Named) (text ks : List ℕ) → Reads named text ks → AreApart named ks → Lists named text ks
is_listed named text ks lines apart = record { told = lines.told; spelled = lines.spelled; all = all_listed named lines.told ks lines.all apart }

-- keys that are listed can be the members of a file
spelled_fit : (format : Format) (text ks : List ℕ) → Spelled (keys format) text ks → (i : ℕ) → i < length ks → get_or ks i 0 ≤ largest_of format
spelled_fit format _ _ nothing i lt = absurd (omega arith)
spelled_fit format _ _ (more line rest k ks clear names spelled) zero lt = names.0
spelled_fit format _ _ (more line rest k ks clear names spelled) (suc i) lt = spelled_fit format rest ks spelled i (omega arith)

unequal : (a b : ℕ) → nat_eq a b ≡ false → a ≡ b → ⊥
unequal a b other same = grind arith

pub same_place : (ks : List ℕ) (i j : ℕ) → IsDistinct nat_eq ks → i < length ks → j < length ks → get_or ks i 0 ≡ get_or ks j 0 → i ≡ j
same_place ks i j once low high same = ⊎_elim
    (λ (below : i < j). absurd (unequal _ _ (apart_from_distinct nat_eq ks i j 0 once below high) same))
    (λ (le : j ≤ i). ⊎_elim
    (λ (below : j < i). absurd (unequal _ _ (apart_from_distinct nat_eq ks j i 0 once below low) (sym same)))
    (λ (ge : i ≤ j). omega arith)
    (cases_lt j i))
    (cases_lt i j)

-- a format with all rooms has all keys
all_keys : (format : Format) → last_room_of format ≡ last_room → largest_of format ≡ largest_key
all_keys One rooms = absurd (cc)
all_keys Two rooms = refl
all_keys Three rooms = refl
all_keys Four rooms = refl

-- keys that were told, each once, can be the members of a file with room for them
pub once_members : (format : Format) (slots : ℕ) (told ks : List ℕ) → last_room_of format ≡ last_room → AreOnce told ks → length ks ≤ slots → MayBeMembers format slots ks
once_members format slots told ks rooms are few = record {
  few = few;
  fit = λ i low. subst (λ (most : ℕ). get_or ks i 0 ≤ most) (sym (all_keys format rooms)) (are.fit i 0 low);
  apart = λ i j low high same. same_place ks i j are.once low high same;
}

-- what lines of keys spell are all the keys
pub spelled_keys : (format : Format) (text ks : List ℕ) → Lists (keys format) text ks → Spelled (keys format) text ks
spelled_keys format text ks lists = subst (Spelled (keys format) text) lists.all.0 lists.spelled

pub are_members : (format : Format) (lines : Lines) (text ks : List ℕ) → HasPlaceFor format lines → Lists (named_by format lines) text ks → MayBeMembers format (length ks) ks
are_members format Keys text ks place lists =
    let spelled = spelled_keys format text ks lists in
    record { few = omega arith; fit = λ i low. spelled_fit format text ks spelled i low; apart = λ i j low high same. same_place ks i j lists.all.1 low high same }
are_members format (Texts secret name) text ks place lists = once_members format (length ks) _ ks place lists.all.0 (omega arith)
