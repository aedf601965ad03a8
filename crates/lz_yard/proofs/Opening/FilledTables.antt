-- What an open makes of the members that it found fits, and is what the yard of the text read has.
use Rattle.std.proofs.Common.{◌≡◌, ℕ, zero, suc, ◌<◌, ◌≤◌, true, List, [], ◌∷◌, length, map, refl, sym, ap, ◌∙◌, subst, arith}
use Rattle.std.proofs.lemmas.List.{length-map, length-replicate, get_or-replicate, FromFn.{length-range_with_len}}
use Rattle.std.{proofs.lemmas.Option.{slice_get_within, get_or_from_slice_get}, specs.Prelude.{All, Some, replicate, slice_get, slice_index_or, if◌then◌else◌}}
use Rattle.std.specs.List.{range_with_len}
use Rattle.lz_slot.specs.{Limits.{most_passes, most_slots}, Nodes.{has_node}}
use Rattle.lz_vault.{specs.{Stages.{Cell}, Vaults.{Vaulted}, Members.{AreMembers}}, proofs.Members.{node_first, node_later}}
use Rattle.lz_allot.specs.{Uses.{Free, Taken}, Rows.{first_row}, Allots.{Allotted, first_uses}}
use Rattle.lz_list.specs.{Words.{Words}, Lists.{Listed, IsSorted, new_words, free_locks}, declared.word.Word.TheVariants.{Head, Link, Key}}
use Rattle.lz_list.{specs.Traces.{Chain, IsFound, has_slot, word_after, words_of_trace, opening}, proofs.Traces.OpeningTrace.{opening_lawful}}
use Rattle.lz_list.proofs.{Traces.TraceWords.{sorted_after}, Tables.WordTable.{length-table}}
use Rattle.lz_machine.specs.{declared.actor.Actor.{Actor}, Yards.{Yard, idle_actor}}
use Rattle.lz_yard.{specs.{Parts.{PartsFit, HasInRange}, Filling.{AreTables, taken_among, with_members}}, proofs.Opening.MemberNodes.{are_found}}
use Rattle.lz_yard.proofs.Opening.{LinkedMembers.{filled_words}, TakenSlots.{taken_low, has_taken}}

-- each entry of a list is a node of it
node_at : (es : Chain) (i : ℕ) (d : ℕ × ℕ) → i < length es → has_node (slice_index_or es i d).0 (slice_index_or es i d).1 es ≡ true
node_at [] i d low = absurd (omega (arith, low))
node_at (f ∷ es) zero d low = node_first f es
node_at (f ∷ es) (suc i) d low = node_later (slice_index_or es i d).0 (slice_index_or es i d).1 f es (node_at es i d (omega (arith, low)))

same_map : {X : Type 0} (f g : ℕ → X) (xs : List ℕ) → ((x : ℕ) → f x ≡ g x) → map f xs ≡ map g xs
same_map f g [] same = refl
same_map f g (x ∷ xs) same = cc (same x, same_map f g xs same)

module _ (cells : List Cell) (B S : ℕ) (few : length cells ≤ most_slots) (some : 1 ≤ B) (es : Chain) (are : AreMembers cells (length cells) es) where
  abbrev N : ℕ
  N = length cells

  pub found : IsFound N es
  found = are_found cells N es are.ascend are.each

  pub slots_ranged : (w : Words) → w ≡ new_words N B S → All (λ f. f.1 < length w.links) es
  slots_ranged w new i d low =
      let node = are.each (slice_index_or es i d).0 (slice_index_or es i d).1 (node_at es i d low) in
      let size : length w.links ≡ N = ap (λ (v : Words). length v.links) new ∙ length-replicate N 0 in
      omega (arith, node.0, size)

  pub words_filled : (w v : Words) → v ≡ new_words N B S → w ≡ with_members es v → w ≡ words_of_trace N B S (opening B es)
  words_filled w v new is = is ∙ ap (with_members es) new ∙ filled_words N B S few some es found are.ascend

  pub words_sorted : (w v : Words) → v ≡ new_words N B S → w ≡ with_members es v → IsSorted w
  words_sorted w v new is = subst IsSorted (sym (words_filled w v new is)) (sorted_after N B (opening B es) few (opening_lawful B N es found) (words_of_trace N B S (opening B es)) refl refl refl)

  pub low_taken : (taken : List ℕ) → taken ≡ taken_among cells N → All (λ s. s < N) taken
  low_taken taken is = subst (All (λ s. s < N)) (sym is) (taken_low cells N)

  taken_uses : (taken : List ℕ) → taken ≡ taken_among cells N → first_uses N taken ≡ map (λ s. if has_slot s es then Taken else Free) (range_with_len 0 N)
  taken_uses taken is = grind (arith, same_map, has_taken)

  pub tables_are : (w v : Words) (list : Listed) (allot : Allotted) (taken : List ℕ) (actors : List Actor) → v ≡ new_words N B S → w ≡ with_members es v
      → list ≡ record { words = w; locks = free_locks w } → taken ≡ taken_among cells N → allot.uses ≡ first_uses N taken → allot.rows ≡ replicate S first_row → actors ≡ replicate S idle_actor
      → AreTables cells B S list allot actors
  tables_are w v list allot taken actors new is list_is taken_is uses rows idle = record {
    members = es;
    found = are;
    words = ap (λ (l : Listed). l.words) list_is ∙ words_filled w v new is;
    locks = ap (λ (l : Listed). l.locks) list_is ∙ ap (λ (l : Listed). free_locks l.words) (sym list_is);
    uses = uses ∙ taken_uses taken taken_is;
    rows = ap length rows ∙ length-replicate S first_row;
    idle = idle;
  }

-- idle actors have nothing in hand
idle_hands : (slots S i : ℕ) (actor : Actor) → slice_get (replicate S idle_actor) i ≡ Some actor → HasInRange slots actor
idle_hands slots S i actor there =
    let low : i < S = omega (arith, slice_get_within (replicate S idle_actor) i actor there, length-replicate S idle_actor) in
    let is : idle_actor ≡ actor = sym (get_or-replicate S i idle_actor idle_actor low) ∙ get_or_from_slice_get (replicate S idle_actor) i actor idle_actor there in
    subst (HasInRange slots) is (record { slot = tt; curr = tt })

module _ (vault : Vaulted) (B S slots : ℕ) (list : Listed) (allot : Allotted) (actors : List Actor) (are : AreTables vault.cells B S list allot actors) (count : slots ≡ length vault.cells) where
  abbrev pub opened : Yard
  opened = record { shape = record { slots = slots; buckets = B; passes = S }; words = list.words; locks = list.locks; vault = vault; uses = allot.uses; actors = actors }

  -- the parts of a yard that was opened fit
  pub opened_fits : vault.syncs ≡ 0 → S ≤ most_passes → PartsFit opened (length allot.rows)
  opened_fits fresh few = record {
    cells = sym count;
    heads = ap (λ (w : Words). length w.heads) are.words ∙ length-table B (λ b. word_after B (opening B are.members) (Head b));
    links = ap (λ (w : Words). length w.links) are.words ∙ length-table (length vault.cells) (λ s. word_after B (opening B are.members) (Link s)) ∙ sym count;
    keys = ap (λ (w : Words). length w.keys) are.words ∙ length-table (length vault.cells) (λ s. word_after B (opening B are.members) (Key s)) ∙ sym count;
    pins = ap (λ (w : Words). length w.pins) are.words ∙ length-replicate S 0;
    uses = ap length are.uses ∙ length-map (range_with_len 0 (length vault.cells)) (λ s. if has_slot s are.members then Taken else Free) ∙ length-range_with_len 0 (length vault.cells) ∙ sym count;
    rows = are.rows;
    passes = few;
    actors = ap length are.idle ∙ length-replicate S idle_actor;
    syncs = omega (arith, fresh);
    hands = λ i actor there. idle_hands slots S i actor (subst (λ (l : List Actor). slice_get l i ≡ Some actor) are.idle there);
  }
