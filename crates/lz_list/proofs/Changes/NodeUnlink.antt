-- A node is unlinked from the place that leads to it.
use Rattle.std.proofs.Common.{◌≡◌, ◌≢◌, ℕ, suc, ◌<◌, ◌^◌, true, length, refl, sym, ap, ◌∙◌, subst, arith}
use mathlib.Core.Bool.{false≢true}
use Rattle.lz_list.specs.declared.{place.Place.{Place, TheVariants.{Node}}, word.Word.TheVariants.{Key, Link}}
use Rattle.lz_list.specs.{Words.{Words, get, redirect, place_number, next_at}, Traces.{without, on, Adjacent, bucket_of}}
use Rattle.lz_list.specs.Lists.{next_in, home, ShowsChain, IsSorted, IsNodeIn, IsMember, IsTable, IsPlace, IsWord, MayUnlinkAt, OthersStay}
use Rattle.lz_list.proofs.Chains.{PlaceRank.{adjacent, adjacent_next, next_is_above, has_on, shows_without}, TraceChain.{within_without}}
use Rattle.lz_list.proofs.{Chains.SortedChain.{slot_on, slots_without, on_without_other, node_on, next_of_place}, Traces.NodeBits.{on_without, none_without}}
use Rattle.lz_list.proofs.Changes.{CheckedPlace.{place_to}, ChainMove.{Moved, moved_sorted, members_stay}, NodeLink.{place_in, shown_there, moved_there}}
use Rattle.lz_list.proofs.Tables.Redirect.{heads_redirect, next_at_place, next_off_place}

module _ (w : Words) (pred : Place) (s : ℕ) (table : IsTable w) (sorted : IsSorted w) (may : MayUnlinkAt w pred s) where
  abbrev key : ℕ
  key = get w (Key s)

  abbrev keys : ℕ → ℕ
  keys t = get w (Key t)

  abbrev nexts : ℕ → ℕ
  nexts = next_in w (home w key)

  abbrev after : ℕ
  after = next_at w (Node s)

  pub unlink_place : IsPlace w pred
  unlink_place = place_in w key table pred may.before

  small : after < 2 ^ 32
  small = omega arith

  stands_behind : Adjacent 0 may.before.chain (place_number pred) (suc s)
  stands_behind = subst (Adjacent 0 may.before.chain (place_number pred)) (sym (next_of_place w (home w key) pred may.before.bucket) ∙ may.next)
      (adjacent nexts keys 0 may.before.chain may.before.shown.shows (place_number pred) may.before.stands)

  stands : on 0 may.before.chain (suc s) ≡ true
  stands = adjacent_next 0 may.before.chain (place_number pred) (suc s) stands_behind (λ e. grind arith)

  pub unlink_slot : IsWord w (Link s)
  unlink_slot = slot_on (length w.links) 0 may.before.chain may.before.shown.in_range s stands (λ e. grind arith)

  unlink_shown : ShowsChain (redirect w pred after) (home w key) (without key may.before.chain)
  unlink_shown = shown_there w key after pred unlink_place small may.before (without key may.before.chain)
      (shows_without nexts (next_in (redirect w pred after) (home w key)) keys key 0 may.before.chain may.before.shown.shows
      (has_on nexts keys key s 0 may.before.chain may.before.shown.shows (omega arith) refl stands)
      (place_number pred)
      (sym (place_to nexts keys key s 0 may.before.chain may.before.shown.shows (place_number pred) stands_behind may.before.below refl))
      (next_at_place w after (home w key) pred unlink_place may.before.bucket small ∙ next_is_above nexts keys key s 0 may.before.chain may.before.shown.shows (omega arith) refl stands)
      (λ y off. next_off_place w after (home w key) y pred off))
      (within_without (length w.heads) (home w key) key may.before.chain may.before.shown.within)
      (slots_without (length w.links) key may.before.chain may.before.shown.in_range)

  pub unlink_moved : (b : ℕ) → b < length w.heads → Moved (λ j. j ≢ key) w (redirect w pred after) b
  unlink_moved = moved_there w key after pred unlink_place small may.before (without key may.before.chain) unlink_shown
      (λ t there stays. on_without_other nexts keys key 0 (suc t) may.before.chain may.before.shown.shows there (λ same. stays (omega (arith, same))))
      (λ t there stays. on_without key 0 (suc t) may.before.chain there)
      sorted

  heads : length (redirect w pred after).heads ≡ length w.heads
  heads = heads_redirect w after pred

  pub unlink_sorted : IsSorted (redirect w pred after)
  unlink_sorted = moved_sorted (λ j. j ≢ key) w (redirect w pred after) table heads unlink_moved

  pub unlink_others : OthersStay key w (redirect w pred after)
  unlink_others = members_stay (λ j. j ≢ key) w (redirect w pred after) table heads unlink_moved

  pub unlink_member : IsMember (redirect w pred after) key → ⊥
  unlink_member is =
      let node : IsNodeIn (redirect w pred after) (home w key) key is.0 = subst (λ (b : ℕ). IsNodeIn (redirect w pred after) b key is.0) (ap (λ (m : ℕ). bucket_of m key) heads) is.1 in
      let there = node_on (redirect w pred after) (home w key) key is.0 (without key may.before.chain) unlink_shown node in
      let has = has_on (next_in (redirect w pred after) (home w key)) (λ t. get (redirect w pred after) (Key t)) key is.0 0 (without key may.before.chain) unlink_shown.shows (omega arith) node.key there in
      false≢true (sym (none_without nexts keys key 0 may.before.chain may.before.shown.shows) ∙ has)
