-- A node is linked after a place, or unlinked from it.
use Rattle.std.proofs.Common.{◌≡◌, ◌≢◌, ◌⊎◌, ◌↔◌, inl, inr, ℕ, zero, suc, ◌<◌, ◌^◌, true, false, [], ◌∷◌, length, refl, sym, ap, ◌∙◌, subst, arith}
use Rattle.std.{proofs.lemmas.Bool.{cases_eq}, specs.Prelude.{slice_index, List}}
use Rattle.lz_list.specs.declared.{place.Place.{Place, TheVariants.{Node}}, word.Word.TheVariants.{Key}}
use Rattle.lz_list.specs.Words.{Words, get, redirect, place_number, next_at, is_marked_at}
use Rattle.lz_list.specs.Traces.{Chain, insert, has_key, on, place_before, link_above, rank_at, WordsShow, Adjacent, KeysBelong, bucket_of}
use Rattle.lz_list.specs.Lists.{next_in, home, AreSlots, ShowsChain, IsSorted, IsNodeIn, IsMember, IsTable, IsPlace, IsPredecessor, MayLinkAt, OthersStay}
use Rattle.lz_list.proofs.Chains.{PlaceRank.{adjacent, adjacent_none, shows_insert}, TraceChain.{bucket_on, within_insert}}
use Rattle.lz_list.proofs.{Chains.SortedChain.{slot_on, slots_insert, bucket_below, same_node, next_of_place}, Traces.NodeBits.{on_insert_other}}
use Rattle.lz_list.proofs.{Traces.WalkEnd.{on_insert}, Changes.{CheckedPlace.{place_between}, ChainMove.{Moved, moved_sorted, members_stay, frame_moved}}}
use Rattle.lz_list.proofs.Tables.Redirect.{heads_redirect, links_redirect, keys_redirect, next_at_place, next_off_place, head_elsewhere, mark_stays}

-- a place before a key is one of the table
pub place_in : (w : Words) (k : ℕ) → IsTable w → (place : Place) → IsPredecessor w place k → IsPlace w place
place_in w k table place h = grind (arith, bucket_below, slot_on)

-- what stands on the chain into which a node is put
pub inserted_on : (k s x : ℕ) (c : Chain) → on x (insert k s c) (suc s) ≡ true
inserted_on k s x [] = grind arith
inserted_on k s x (n ∷ c) = grind (arith, inserted_on k s (suc n.1) c)

module _ (w : Words) (k n : ℕ) (pred : Place) (in_it : IsPlace w pred) (small : n < 2 ^ 32) (h : IsPredecessor w pred k) where
  same_key : (t : ℕ) → get (redirect w pred n) (Key t) ≡ get w (Key t)
  same_key t = ap (λ (ks : List ℕ). slice_index ks t) (keys_redirect w n pred)

  -- the chain of another bucket stays
  elsewhere : (b : ℕ) → b ≢ home w k → (c : Chain) → ShowsChain w b c → Moved (λ j. j ≢ k) w (redirect w pred n) b
  elsewhere b other c g = frame_moved (λ j. j ≢ k) w (redirect w pred n) b c g (heads_redirect w n pred) (links_redirect w n pred) nexts (λ t there. same_key t) (λ t there stays. mark_stays w n t pred in_it small)
    where
      apart : (t : ℕ) → on 0 c (suc t) ≡ true → suc t ≢ place_number pred
      apart t there same =
          let mine = bucket_on (length w.heads) (next_in w b) (λ r. get w (Key r)) b 0 c g.shows g.within t there (λ e. grind arith) in
          let on_it : on 0 h.chain (suc t) ≡ true = ap (on 0 h.chain) same ∙ h.stands in
          let theirs = bucket_on (length w.heads) (next_in w (home w k)) (λ r. get w (Key r)) (home w k) 0 h.chain h.shown.shows h.shown.within t on_it (λ e. grind arith) in
          other (sym mine ∙ theirs)

      nexts : (y : ℕ) → on 0 c y ≡ true → next_in (redirect w pred n) b y ≡ next_in w b y
      nexts zero there = head_elsewhere w n b (home w k) pred h.bucket other
      nexts (suc t) there = next_off_place w n b (suc t) pred (apart t there)

  -- what is shown in the key's own bucket
  pub shown_there : (d : Chain) → WordsShow (next_in (redirect w pred n) (home w k)) (λ t. get w (Key t)) 0 d → KeysBelong (length w.heads) (home w k) d → AreSlots (length w.links) d → ShowsChain (redirect w pred n) (home w k) d
  shown_there d shows within slots = record {
    shows = subst (λ (ks : List ℕ). WordsShow (next_in (redirect w pred n) (home w k)) (λ t. slice_index ks t) 0 d) (sym (keys_redirect w n pred)) shows;
    within = subst (λ (m : ℕ). KeysBelong m (home w k) d) (sym (heads_redirect w n pred)) within;
    in_range = subst (λ (m : ℕ). AreSlots m d) (sym (links_redirect w n pred)) slots;
  }

  pub moved_there : (d : Chain) → ShowsChain (redirect w pred n) (home w k) d
      → ((t : ℕ) → on 0 h.chain (suc t) ≡ true → get w (Key t) ≢ k → on 0 d (suc t) ≡ true)
      → ((t : ℕ) → on 0 d (suc t) ≡ true → get w (Key t) ≢ k → on 0 h.chain (suc t) ≡ true)
      → IsSorted w → (b : ℕ) → b < length w.heads → Moved (λ j. j ≢ k) w (redirect w pred n) b
  moved_there d shown there back sorted b lt = elim (cases_eq b (home w k)) [
    | inl same ↦ subst (λ (c : ℕ). Moved (λ j. j ≢ k) w (redirect w pred n) c) (sym same) (record {
      before = h.chain;
      after = d;
      was_shown = h.shown;
      is_shown = shown;
      there = λ t on_it stays. (there t on_it stays, same_key t, mark_stays w n t pred in_it small);
      back = λ t on_it stays. (back t on_it (λ e. stays (same_key t ∙ e)), same_key t, mark_stays w n t pred in_it small);
    })
    | inr other ↦ let c = sorted b lt in elsewhere b other c.0 c.1
  ]

-- linking
module _ (w : Words) (pred : Place) (s : ℕ) (table : IsTable w) (sorted : IsSorted w) (may : MayLinkAt w pred s) where
  abbrev key : ℕ
  key = get w (Key s)

  abbrev keys : ℕ → ℕ
  keys t = get w (Key t)

  abbrev nexts : ℕ → ℕ
  nexts = next_in w (home w key)

  pub link_place : IsPlace w pred
  link_place = place_in w key table pred may.before

  small : suc s < 2 ^ 32
  small = omega (arith, table.slots, may.slot)

  leads : next_at w pred ≡ nexts (place_number pred)
  leads = next_of_place w (home w key) pred may.before.bucket

  stands_behind : Adjacent 0 may.before.chain (place_number pred) (nexts (place_number pred))
  stands_behind = adjacent nexts keys 0 may.before.chain may.before.shown.shows (place_number pred) may.before.stands

  high : (nexts (place_number pred) ≡ 0) ⊎ (suc key < rank_at keys (nexts (place_number pred)))
  high = subst (λ (m : ℕ). (m ≡ 0) ⊎ (suc key < rank_at keys m)) leads may.above

  none : has_key key may.before.chain ≡ false
  none = adjacent_none nexts keys key 0 may.before.chain may.before.shown.shows (place_number pred) (nexts (place_number pred)) stands_behind may.before.below high

  between : (place_before key 0 may.before.chain ≡ place_number pred) × (link_above key may.before.chain ≡ nexts (place_number pred))
  between = place_between nexts keys key 0 may.before.chain may.before.shown.shows (place_number pred) (nexts (place_number pred)) stands_behind may.before.below high

  link_shown : ShowsChain (redirect w pred (suc s)) (home w key) (insert key s may.before.chain)
  link_shown = shown_there w key (suc s) pred link_place small may.before (insert key s may.before.chain)
      (shows_insert nexts (next_in (redirect w pred (suc s)) (home w key)) keys key s 0 may.before.chain refl may.before.shown.shows (omega arith) none
      (may.next ∙ leads ∙ sym between.1) (place_number pred) (sym between.0) (next_at_place w (suc s) (home w key) pred link_place may.before.bucket small)
      (λ y off. next_off_place w (suc s) (home w key) y pred off))
      (within_insert (length w.heads) (home w key) key s may.before.chain refl may.before.shown.within)
      (slots_insert (length w.links) key s may.before.chain may.slot may.before.shown.in_range)

  pub link_moved : (b : ℕ) → b < length w.heads → Moved (λ j. j ≢ key) w (redirect w pred (suc s)) b
  link_moved = moved_there w key (suc s) pred link_place small may.before (insert key s may.before.chain) link_shown
      (λ t there stays. on_insert key s 0 (suc t) may.before.chain there)
      (λ t there stays. on_insert_other key s 0 (suc t) may.before.chain there (λ same. stays (ap keys (omega (arith, same)))))
      sorted

  heads : length (redirect w pred (suc s)).heads ≡ length w.heads
  heads = heads_redirect w (suc s) pred

  pub link_sorted : IsSorted (redirect w pred (suc s))
  link_sorted = moved_sorted (λ j. j ≢ key) w (redirect w pred (suc s)) table heads link_moved

  pub link_others : OthersStay key w (redirect w pred (suc s))
  link_others = members_stay (λ j. j ≢ key) w (redirect w pred (suc s)) table heads link_moved

  linked_node : IsNodeIn (redirect w pred (suc s)) (home w key) key s
  linked_node = record { chain = insert key s may.before.chain; shown = link_shown; stands = inserted_on key s 0 may.before.chain; key = same_key w key (suc s) pred link_place small may.before s }

  pub link_member : IsMember (redirect w pred (suc s)) key ↔ (is_marked_at w (Node s) ≡ false)
  link_member = (
    (λ is.
        let node : IsNodeIn (redirect w pred (suc s)) (home w key) key is.0 = subst (λ (b : ℕ). IsNodeIn (redirect w pred (suc s)) b key is.0) (ap (λ (m : ℕ). bucket_of m key) heads) is.1 in
        let same = same_node (redirect w pred (suc s)) (home w key) key is.0 s node linked_node in
        sym (mark_stays w (suc s) s pred link_place small) ∙ ap (λ (r : ℕ). is_marked_at (redirect w pred (suc s)) (Node r)) (sym same) ∙ is.2),
    (λ bare. (s, subst (λ (b : ℕ). IsNodeIn (redirect w pred (suc s)) b key s) (ap (λ (m : ℕ). bucket_of m key) (sym heads)) linked_node, mark_stays w (suc s) s pred link_place small ∙ bare)),
  )
