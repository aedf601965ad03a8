-- The keys that are shown of a file are a list just where the file holds a set.
use Rattle.lz_slot.specs.declared.header.HeaderFault.TheVariants as head
use Rattle.lz_slot.specs.declared.slot.SlotRead.TheVariants as read
use Rattle.lz_judge.specs.declared.finding.Survey.TheVariants as survey
use Rattle.std.proofs.Common.{◌≡◌, ℕ, ◌≤◌, Bool, true, false, List, [], ◌∷◌, ◌++◌, length, codes, nat_eq, IsTrue, Ok, Err, refl, sym, ap, subst, ◌∙◌, arith}
use Rattle.std.proofs.{Common.{append_assoc}, lemmas.{Bool.{and_parts, cond_both, eq-eqb, Decides.{nat_tests}}, List.{append-nil}}}
use Rattle.std.{proofs.lemmas.List.{Elements.{All-head, All-tail, All-weaker}, Folds.{list_any_at}}, specs.{Prelude.{All, map}, Fmt.{digits}, List.{flat_map}}}
use Rattle.lz_slot.specs.{Rooms.{largest_of, last_room_of}, Sets.{Keys as SetOf, members}}
use Rattle.lz_slot.specs.{Bytes.{Holds, format_of, header_fault_number, header_read, held, slot_at, slot_bytes}, Texts.{key_read, key_text}}
use Rattle.lz_slot.specs.declared.{format.Format.{Format}, header.HeaderFault.{HeaderFault}, spelling.KeyFault.TheVariants.{NoNumber}}
use Rattle.lz_slot.proofs.{Files.{ExactBytes.{key_of_format, read_fits}, HeldSets.{same_key}}, Texts.Cuts.{Lacks}}
use Rattle.lz_slot.proofs.Texts.Spellings.{key_text_lacks, written_keys_are_spelled}
use Rattle.lz_proto.specs.Lines.{has_line_feed, line_feed, without_return}
use Rattle.lz_judge.specs.{Surveys.{AreFindings, IsFinding, IsSurveyed, is_good, is_sound, slot_of}, declared.finding.Finding.{Finding}}
use Rattle.lz_judge.{specs.declared.finding.{Finding.TheVariants.{Key, BadKey, Twice}, Survey.{Survey}}, proofs.Surveys.SlotFinding.{sound_where}}
use Rattle.lz_judge.proofs.Surveys.SoundFile.{held_head}
use Rattle.lz_vault.specs.Renewals.{AreHeldBy}
use Rattle.lazyset_file_commands.specs.{Checks.{end_text, line_of, shown_text}, Lists.{Lists, keys as of_keys, Spelled, nothing, more, NamesKey}}
use Rattle.lazyset_file_commands.specs.{Makings.{refused_text}, ShownLists.{ShownKeysAreListed}, declared.shown.Shown.TheVariants.{Keys}}
use Rattle.lazyset_file_commands.proofs.{HeldKeys.{IsNodeBelow, are_held, fit, keys, nodes, once, slots}, Listed.{spelled_keys, spelled_not}}
use Rattle.lazyset_file_commands.proofs.OneList.{begun, one_list}

-- a key on a line of its own
abbrev key_line : ℕ → List ℕ
key_line k = key_text k ++ line_feed ∷ []

-- the text of a key has no carriage return at its end
kept : (line : List ℕ) → Lacks 13 line → without_return line ≡ line
kept line lacks = grind (arith, nat_tests, cond_both, and_parts, nat_eq, list_any_at, eq-eqb)

module _ (format : Format) where
  line_clear : (k : ℕ) → k ≤ largest_of format → has_line_feed (key_text k) ≡ false
  line_clear k fits = key_text_lacks 10 k refl refl (key_of_format format k fits)

  line_spells : (k : ℕ) → k ≤ largest_of format → NamesKey (of_keys format) (key_text k) k
  line_spells k fits = grind (arith, nat_tests, kept, key_text_lacks, key_of_format, written_keys_are_spelled)

  -- keys that are written one a line are read again
  written_lines : (ks : List ℕ) → All (λ k. k ≤ largest_of format) ks → Spelled (of_keys format) (flat_map key_line ks) ks
  written_lines [] fits = nothing
  written_lines (k ∷ ks) fits =
      let first : k ≤ largest_of format = All-head (λ (k : ℕ). k ≤ largest_of format) k ks fits in
      subst (λ (text : List ℕ). Spelled (of_keys format) text (k ∷ ks)) (sym (append_assoc (key_text k) (line_feed ∷ []) (flat_map key_line ks)))
      (more (key_text k) (flat_map key_line ks) k ks (line_clear k first) (line_spells k first) (written_lines ks (All-tail (λ (k : ℕ). k ≤ largest_of format) k ks fits)))

-- how many slots a file has is told by its head
module _ (t : List ℕ) where
  pub same_slots : (N M : ℕ) (S : SetOf) → header_read t (length t) ≡ Ok N → Holds t M S → M ≡ N
  same_slots N M S head holds = let both : Ok M ≡ Ok N = sym (held_head t M S holds) ∙ head in cc

-- a format that has the rooms of a file
module _ (t : List ℕ) (F : Format) (rooms : last_room_of (format_of t) ≤ last_room_of F) where
  fits : (k : ℕ) → k ≤ largest_of (format_of t) → k ≤ largest_of F
  fits k low = grind (arith, nat_tests)

  -- what is shown of the findings of a file without damage
  shown_nodes : (found : List Finding) (nodes : List (ℕ × ℕ)) → All (IsFinding (slot_at t)) found → All (λ f. IsTrue (is_sound f)) found → All (λ node. slot_at t node.1 ≡ read.Member node.0) nodes
      → map slot_of found ≡ map (λ (node : ℕ × ℕ). node.1) nodes → flat_map (line_of Keys) found ≡ flat_map key_line (map (λ (node : ℕ × ℕ). node.0) nodes)
  shown_nodes [] [] each sound says same = refl
  shown_nodes [] (node ∷ nodes) each sound says same = absurd cc
  shown_nodes (f ∷ found) [] each sound says same = absurd cc
  shown_nodes (Key i k ∷ found) (node ∷ nodes) each sound says same =
      let first = All-head (IsFinding (slot_at t)) (Key i k) found each in
      let at : slot_at t node.1 ≡ read.Member node.0 = All-head (λ (node : ℕ × ℕ). slot_at t node.1 ≡ read.Member node.0) node nodes says in
      let slot : i ≡ node.1 = cc in
      let key : k ≡ node.0 = same_key k node.0 (sym first.holds ∙ ap (slot_at t) slot ∙ at) in
      let rest = shown_nodes found nodes (All-tail (IsFinding (slot_at t)) (Key i k) found each) (All-tail (λ (f : Finding). IsTrue (is_sound f)) (Key i k) found sound)
      (All-tail (λ (node : ℕ × ℕ). slot_at t node.1 ≡ read.Member node.0) node nodes says) cc in
      (λ j. key_line (key j) ++ rest j)
  shown_nodes (BadKey i ∷ found) (node ∷ nodes) each sound says same = let bad : IsTrue (is_sound (BadKey i)) = All-head (λ (f : Finding). IsTrue (is_sound f)) (BadKey i) found sound in absurd cc
  shown_nodes (Twice i first ∷ found) (node ∷ nodes) each sound says same = let bad : IsTrue (is_sound (Twice i first)) = All-head (λ (f : Finding). IsTrue (is_sound f)) (Twice i first) found sound in absurd cc

  -- a file that holds a set
  module _ (N : ℕ) (S : SetOf) (holds : Holds t N S) (found : List Finding) (findings : AreFindings (slot_at t) N found) where
    pub listed : Lists (of_keys F) (flat_map (line_of Keys) found) (keys t N)
    listed =
        let says = All-weaker (IsNodeBelow t N) (λ node. slot_at t node.1 ≡ read.Member node.0) (λ node (low, is). is) (held t N) (nodes t N) in
        let sound = sound_where (slot_at t) N found findings holds.no_bad_key holds.no_key_twice in
        let text = shown_nodes found (held t N) findings.each sound says (findings.slots ∙ sym (slots t N holds.no_bad_key)) in
        record {
          told = keys t N;
          spelled = subst (λ (text : List ℕ). Spelled (of_keys F) text (keys t N)) (sym text)
              (written_lines F (keys t N) (All-weaker (λ k. k ≤ largest_of (format_of t)) (λ k. k ≤ largest_of F) fits (keys t N) (fit t N S holds)));
          all = (refl, once t N S holds);
        }

  -- a last line that spells no key, after lines of keys
  last_line : (found : List Finding) (line ks : List ℕ) → All (IsFinding (slot_at t)) found → has_line_feed line ≡ false → Spelled (of_keys F) (flat_map (line_of Keys) found ++ (line ++ line_feed ∷ [])) ks
      → (k : ℕ) × NamesKey (of_keys F) line k
  last_line [] line ks each clear spelled = let h = begun (of_keys F) (line ++ line_feed ∷ []) ks line [] spelled refl clear in (h.key, h.names)
  last_line (Key i k ∷ found) line ks each clear spelled =
      let first = All-head (IsFinding (slot_at t)) (Key i k) found each in
      let low : k ≤ largest_of F = fits k (read_fits (format_of t) (slot_bytes t i) k first.holds) in
      let rest = flat_map (line_of Keys) found ++ (line ++ line_feed ∷ []) in
      let joined : flat_map (line_of Keys) (Key i k ∷ found) ++ (line ++ line_feed ∷ []) ≡ key_text k ++ line_feed ∷ rest =
      ap (λ (x : List ℕ). x ++ (line ++ line_feed ∷ [])) (append_assoc (key_text k) (line_feed ∷ []) (flat_map (line_of Keys) found)) ∙ append_assoc (key_text k) (line_feed ∷ flat_map (line_of Keys) found) (line ++ line_feed ∷ []) in
      let h = begun (of_keys F) _ ks (key_text k) rest spelled joined (line_clear F k low) in
      last_line found line h.others (All-tail (IsFinding (slot_at t)) (Key i k) found each) clear h.spelled
  last_line (BadKey i ∷ found) line ks each clear spelled = last_line found line ks (All-tail (IsFinding (slot_at t)) (BadKey i) found each) clear spelled
  last_line (Twice i first ∷ found) line ks each clear spelled = last_line found line ks (All-tail (IsFinding (slot_at t)) (Twice i first) found each) clear spelled

  damaged_none : (found : List Finding) (ks : List ℕ) → All (IsFinding (slot_at t)) found → Spelled (of_keys F) (flat_map (line_of Keys) found ++ (codes "damaged" ++ 10 ∷ [])) ks → ⊥
  damaged_none found ks each spelled =
      let h = last_line found (codes "damaged") ks each refl spelled in spelled_not F (codes "damaged") NoNumber refl h.0 h.1

  refused_none : (line ks : List ℕ) → has_line_feed line ≡ false → key_read (without_return line) ≡ Err NoNumber → Spelled (of_keys F) (line ++ line_feed ∷ []) ks → ⊥
  refused_none line ks clear none spelled =
      let h = begun (of_keys F) (line ++ line_feed ∷ []) ks line [] spelled refl clear in spelled_not F line NoNumber none h.key h.names

  head_none : (fault : HeaderFault) (ks : List ℕ) → Spelled (of_keys F) (refused_text (header_fault_number fault)) ks → ⊥
  unfolding digits
  head_none head.NotMade ks spelled = refused_none (codes "refused 1") ks refl refl spelled
  head_none head.WrongMagic ks spelled = refused_none (codes "refused 2") ks refl refl spelled
  head_none head.WrongLength ks spelled = refused_none (codes "refused 3") ks refl refl spelled
  head_none head.BadCount ks spelled = refused_none (codes "refused 4") ks refl refl spelled

  of_slots : (N M : ℕ) (S : SetOf) → M ≡ N → Holds t M S → Holds t N S
  of_slots N M S same holds = subst (λ (n : ℕ). Holds t n S) same holds

  to : (told : Survey) → IsSurveyed t told → (good : Bool) → is_good told ≡ good → (ks : List ℕ) → Lists (of_keys F) (shown_text Keys told) ks → AreHeldBy t ks
  to (survey.Refused fault) surveyed good is ks lists = absurd (head_none fault ks (spelled_keys F _ ks lists))
  to (survey.Found header found) surveyed false is ks lists =
      let text : shown_text Keys (survey.Found header found) ≡ flat_map (line_of Keys) found.items ++ (codes "damaged" ++ 10 ∷ []) = ap (λ (b : Bool). flat_map (line_of Keys) found.items ++ end_text Keys b) is in
      absurd (damaged_none found.items ks surveyed.told.2.each (subst (λ (x : List ℕ). Spelled (of_keys F) x ks) text (spelled_keys F _ ks lists)))
  to (survey.Found header found) surveyed true is ks lists =
      let (M, S, holds) = surveyed.good.0 is in
      let here = of_slots header.slots M S (same_slots t header.slots M S surveyed.told.0 holds) holds in
      let text : shown_text Keys (survey.Found header found) ≡ flat_map (line_of Keys) found.items = ap (λ (b : Bool). flat_map (line_of Keys) found.items ++ end_text Keys b) is ∙ append-nil (flat_map (line_of Keys) found.items) in
      let read = listed header.slots S here found.items surveyed.told.2 in
      let same : keys t header.slots ≡ ks = one_list (of_keys F) (flat_map (line_of Keys) found.items) (keys t header.slots) ks (spelled_keys F _ _ read) (subst (λ (x : List ℕ). Spelled (of_keys F) x ks) text (spelled_keys F _ ks lists)) in
      subst (AreHeldBy t) same (are_held t header.slots S here)

  from : (told : Survey) → IsSurveyed t told → (ks : List ℕ) → AreHeldBy t ks → Lists (of_keys F) (shown_text Keys told) ks
  from (survey.Refused fault) surveyed ks (M, holds, is) = absurd (let never : false ≡ true = surveyed.good.1 (M, members ks, holds) in cc)
  from (survey.Found header found) surveyed ks (M, holds, is) =
      let good : is_good (survey.Found header found) ≡ true = surveyed.good.1 (M, members ks, holds) in
      let slots : M ≡ header.slots = same_slots t header.slots M (members ks) surveyed.told.0 holds in
      let here = of_slots header.slots M (members ks) slots holds in
      let text : shown_text Keys (survey.Found header found) ≡ flat_map (line_of Keys) found.items = ap (λ (b : Bool). flat_map (line_of Keys) found.items ++ end_text Keys b) good ∙ append-nil (flat_map (line_of Keys) found.items) in
      let same : keys t header.slots ≡ ks = ap (keys t) (sym slots) ∙ sym is in
      subst (λ (x : List ℕ). Lists (of_keys F) x ks) (sym text) (subst (Lists (of_keys F) (flat_map (line_of Keys) found.items)) same (listed header.slots (members ks) here found.items surveyed.told.2))

pub shown_keys_are_listed : ShownKeysAreListed
shown_keys_are_listed t told surveyed F rooms ks = (to t F rooms told surveyed (is_good told) refl ks, from t F rooms told surveyed ks)
