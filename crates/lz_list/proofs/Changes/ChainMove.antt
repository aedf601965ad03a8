-- What a change of words makes of the chains, and of the members.
use Rattle.std.proofs.Common.{◌≡◌, ◌↔◌, ℕ, zero, suc, ◌<◌, true, length, refl, sym, ap, ◌∙◌, subst, arith}
use Rattle.lz_list.specs.{declared.{place.Place.TheVariants.{Node}, word.Word.TheVariants.{Key}}, Words.{Words, get, is_marked_at}}
use Rattle.lz_list.specs.Traces.{Chain, on, rank_at, KeysBelong, bucket_of}
use Rattle.lz_list.{specs.Lists.{next_in, home, AreSlots, ShowsChain, IsSorted, IsNodeIn, IsMember, IsTable}, proofs.Chains.PlaceRank.{shows_frame, shows_keys}}
use Rattle.lz_list.proofs.Chains.SortedChain.{bucket_below, node_on}

-- In bucket b the nodes whose keys stay are the same ones, before and after.
pub record Moved (Stays : ℕ → Type 0) (w new : Words) (b : ℕ) : Type 0 where
  pub before : Chain
  pub after : Chain
  pub was_shown : ShowsChain w b before
  pub is_shown : ShowsChain new b after
  pub there : (t : ℕ) → on 0 before (suc t) ≡ true → Stays (get w (Key t)) → (on 0 after (suc t) ≡ true) × (get new (Key t) ≡ get w (Key t)) × (is_marked_at new (Node t) ≡ is_marked_at w (Node t))
  pub back : (t : ℕ) → on 0 after (suc t) ≡ true → Stays (get new (Key t)) → (on 0 before (suc t) ≡ true) × (get new (Key t) ≡ get w (Key t)) × (is_marked_at new (Node t) ≡ is_marked_at w (Node t))

module _ (Stays : ℕ → Type 0) (w new : Words) (table : IsTable w) (heads : length new.heads ≡ length w.heads) (moved : (b : ℕ) → b < length w.heads → Moved Stays w new b) where
  pub moved_sorted : IsSorted new
  moved_sorted b lt = let m = moved b (omega (arith, heads)) in (m.after, m.is_shown)

  same_home : (j : ℕ) → home new j ≡ home w j
  same_home j = ap (λ (n : ℕ). bucket_of n j) heads

  member_before : (j : ℕ) → Stays j → IsMember new j → IsMember w j
  member_before j stays is =
      let m = moved (home w j) (bucket_below w j table) in
      let node : IsNodeIn new (home w j) j is.0 = subst (λ (b : ℕ). IsNodeIn new b j is.0) (same_home j) is.1 in
      let stands = node_on new (home w j) j is.0 m.after m.is_shown node in
      let same = m.back is.0 stands (subst Stays (sym node.key) stays) in
      (is.0, record { chain = m.before; shown = m.was_shown; stands = same.0; key = sym same.1 ∙ node.key }, sym same.2 ∙ is.2)

  member_after : (j : ℕ) → Stays j → IsMember w j → IsMember new j
  member_after j stays was =
      let m = moved (home w j) (bucket_below w j table) in
      let stands = node_on w (home w j) j was.0 m.before m.was_shown was.1 in
      let same = m.there was.0 stands (subst Stays (sym was.1.key) stays) in
      (was.0, subst (λ (b : ℕ). IsNodeIn new b j was.0) (sym (same_home j)) (record { chain = m.after; shown = m.is_shown; stands = same.0; key = same.1 ∙ was.1.key }), same.2 ∙ was.2)

  pub members_stay : (j : ℕ) → Stays j → IsMember new j ↔ IsMember w j
  members_stay j stays = (member_before j stays, member_after j stays)

-- words whose chains stay
module _ (Stays : ℕ → Type 0) (w new : Words) (b : ℕ) (c : Chain) (h : ShowsChain w b c) where
  pub frame_shown : length new.heads ≡ length w.heads → length new.links ≡ length w.links
      → ((y : ℕ) → on 0 c y ≡ true → next_in new b y ≡ next_in w b y)
      → ((t : ℕ) → on 0 c (suc t) ≡ true → get new (Key t) ≡ get w (Key t))
      → ShowsChain new b c
  frame_shown heads links nexts keys = record {
    shows = shows_keys (next_in new b) (next_in new b) (λ s. get w (Key s)) (λ s. get new (Key s)) 0 c (shows_frame (next_in w b) (next_in new b) (λ s. get w (Key s)) 0 c h.shows nexts) ranks;
    within = subst (λ (n : ℕ). KeysBelong n b c) (sym heads) h.within;
    in_range = subst (λ (n : ℕ). AreSlots n c) (sym links) h.in_range;
  }
    where
      ranks : (y : ℕ) → on 0 c y ≡ true → rank_at (λ s. get new (Key s)) y ≡ rank_at (λ s. get w (Key s)) y
      ranks zero there = refl
      ranks (suc t) there = ap suc (keys t there)

  pub frame_moved : length new.heads ≡ length w.heads → length new.links ≡ length w.links
      → ((y : ℕ) → on 0 c y ≡ true → next_in new b y ≡ next_in w b y)
      → ((t : ℕ) → on 0 c (suc t) ≡ true → get new (Key t) ≡ get w (Key t))
      → ((t : ℕ) → on 0 c (suc t) ≡ true → Stays (get w (Key t)) → is_marked_at new (Node t) ≡ is_marked_at w (Node t))
      → Moved Stays w new b
  frame_moved heads links nexts keys marks = grind (arith, frame_shown)
