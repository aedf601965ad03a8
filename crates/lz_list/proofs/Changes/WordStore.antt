-- A word is stored: one that changes no chain, or the mark of a node.
use Rattle.std.proofs.Common.{◌≡◌, ◌≢◌, ℕ, suc, ◌<◌, true, length, refl, sym, ap, subst, arith, length-set, get_or-set_same, get_or-set_other}
use Rattle.std.proofs.lemmas.Bool.Decides.{nat_tests}
use Rattle.lz_list.specs.declared.{place.Place.TheVariants.{Node}, word.Word.{Word, TheVariants.{Key}}}
use Rattle.lz_list.specs.{Words.{Words, get, set, is_marked_at, change_flags, marked_flags}, Traces.{Chain, on}}
use Rattle.lz_list.specs.Lists.{next_in, home, ShowsChain, IsSorted, IsNodeOf, IsNodeIn, IsMember, IsTable, IsWord, KeepsList, AllStay, OthersStay}
use Rattle.lz_list.proofs.{Chains.SortedChain.{node_home, same_node}, Changes.ChainMove.{Moved, moved_sorted, members_stay, frame_shown, frame_moved}}

-- a node of a bucket's chain stands in the bucket of its key
linked : (w : Words) (b : ℕ) (c : Chain) → ShowsChain w b c → (t : ℕ) → on 0 c (suc t) ≡ true → IsNodeOf w (get w (Key t)) t
linked w b c h t there =
    let node : IsNodeIn w b (get w (Key t)) t = record { chain = c; shown = h; stands = there; key = refl } in
    subst (λ (d : ℕ). IsNodeIn w d (get w (Key t)) t) (sym (node_home w b (get w (Key t)) t node)) node

abbrev Any : ℕ → Type 0
Any j = Unit {0}

pub heads_set : (w : Words) (word : Word) (value : ℕ) → length (set w word value).heads ≡ length w.heads
heads_set w word value = grind (arith, length-set)

pub links_set : (w : Words) (word : Word) (value : ℕ) → length (set w word value).links ≡ length w.links
links_set w word value = grind (arith, length-set)

module _ (w : Words) (word : Word) (value : ℕ) (in_it : IsWord w word) (keeps : KeepsList w word value) (b : ℕ) (c : Chain) (h : ShowsChain w b c) where
  nexts_kept : (y : ℕ) → on 0 c y ≡ true → next_in (set w word value) b y ≡ next_in w b y
  nexts_kept y there = grind (arith, linked w b c h, get_or-set_same, get_or-set_other)

  keys_kept : (t : ℕ) → on 0 c (suc t) ≡ true → get (set w word value) (Key t) ≡ get w (Key t)
  keys_kept t there = grind (arith, linked w b c h t there, get_or-set_same, get_or-set_other)

  marks_kept : (t : ℕ) → on 0 c (suc t) ≡ true → is_marked_at (set w word value) (Node t) ≡ is_marked_at w (Node t)
  marks_kept t there = grind (arith, linked w b c h t there, get_or-set_same, get_or-set_other)

module _ (w : Words) (table : IsTable w) (sorted : IsSorted w) where
  set_moved : (word : Word) (value : ℕ) → IsWord w word → KeepsList w word value → (b : ℕ) → b < length w.heads → Moved Any w (set w word value) b
  set_moved word value in_it keeps b lt =
      let (c, h) = sorted b lt in
      frame_moved Any w (set w word value) b c h (heads_set w word value) (links_set w word value) (nexts_kept w word value in_it keeps b c h) (keys_kept w word value in_it keeps b c h)
      (λ t there any. marks_kept w word value in_it keeps b c h t there)

  pub set_table : (word : Word) (value : ℕ) → IsTable (set w word value)
  set_table word value = grind (arith, length-set)

  pub set_sorted : (word : Word) (value : ℕ) → IsWord w word → KeepsList w word value → IsSorted (set w word value)
  set_sorted word value in_it keeps = moved_sorted Any w (set w word value) table (heads_set w word value) (set_moved word value in_it keeps)

  pub set_members : (word : Word) (value : ℕ) → IsWord w word → KeepsList w word value → AllStay w (set w word value)
  set_members word value in_it keeps j = members_stay Any w (set w word value) table (heads_set w word value) (set_moved word value in_it keeps) j tt

  -- marking a node
  module _ (s : ℕ) (lt : s < length w.links) where
    abbrev new : Words
    new = change_flags marked_flags w s

    nexts_stay : (b y : ℕ) → next_in new b y ≡ next_in w b y
    nexts_stay b y = grind (arith, get_or-set_same, get_or-set_other)

    marks_stay : (t : ℕ) → t ≢ s → is_marked_at new (Node t) ≡ is_marked_at w (Node t)
    marks_stay t other = grind (arith, get_or-set_other)

    is_marked : is_marked_at new (Node s) ≡ true
    is_marked = grind (arith, get_or-set_same)

    mark_moved : (b : ℕ) → b < length w.heads → Moved (λ j. j ≢ get w (Key s)) w new b
    mark_moved b in_it = frame_moved (λ j. j ≢ get w (Key s)) w new b (sorted b in_it).0 (sorted b in_it).1 refl (length-set w.links s _) (λ y there. nexts_stay b y) (λ t there. refl)
        (λ t there stays. marks_stay t (λ same. stays (ap (λ (r : ℕ). get w (Key r)) same)))

    pub mark_sorted : IsSorted new
    mark_sorted = moved_sorted (λ j. j ≢ get w (Key s)) w new table refl mark_moved

    pub mark_others : OthersStay (get w (Key s)) w new
    mark_others = members_stay (λ j. j ≢ get w (Key s)) w new table refl mark_moved

    pub mark_member : IsNodeOf w (get w (Key s)) s → IsMember new (get w (Key s)) → ⊥
    mark_member node is =
        let shown = frame_shown Any w new (home w (get w (Key s))) node.chain node.shown refl (length-set w.links s _) (λ y there. nexts_stay (home w (get w (Key s))) y) (λ t there. refl) in
        let same = same_node new (home w (get w (Key s))) (get w (Key s)) is.0 s is.1 (record { chain = node.chain; shown = shown; stands = node.stands; key = refl }) in
        grind (arith, nat_tests, is_marked)
