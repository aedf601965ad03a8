-- What redirecting a place changes.
use Rattle.std.proofs.Common.{◌≡◌, ◌≢◌, ℕ, ◌<◌, ◌^◌, length, arith, get_or-set_other, get_or-set_same, length-set}
use Rattle.lz_list.specs.{declared.place.Place.{Place, TheVariants.{Node}}, Words.{Words, redirect, place_number, is_marked_at}}
use Rattle.lz_list.specs.Lists.{next_in, IsPlace, IsOfBucket, IsTable}

module _ (w : Words) (n : ℕ) where
  pub heads_redirect : (place : Place) → length (redirect w place n).heads ≡ length w.heads
  heads_redirect place = grind (arith, length-set)

  pub links_redirect : (place : Place) → length (redirect w place n).links ≡ length w.links
  links_redirect place = grind (arith, length-set)

  pub keys_redirect : (place : Place) → (redirect w place n).keys ≡ w.keys
  keys_redirect place = grind arith

  pub table_redirect : (place : Place) → IsTable w → IsTable (redirect w place n)
  table_redirect place table = grind (arith, heads_redirect, links_redirect)

  pub next_at_place : (b : ℕ) (place : Place) → IsPlace w place → IsOfBucket b place → n < 2 ^ 32 → next_in (redirect w place n) b (place_number place) ≡ n
  next_at_place b place in_it here small = grind (arith, get_or-set_same)

  pub next_off_place : (b y : ℕ) (place : Place) → y ≢ place_number place → next_in (redirect w place n) b y ≡ next_in w b y
  next_off_place b y place off = grind (arith, get_or-set_other)

  pub head_elsewhere : (b c : ℕ) (place : Place) → IsOfBucket c place → b ≢ c → next_in (redirect w place n) b 0 ≡ next_in w b 0
  head_elsewhere b c place here other = grind (arith, get_or-set_other)

  pub mark_stays : (t : ℕ) (place : Place) → IsPlace w place → n < 2 ^ 32 → is_marked_at (redirect w place n) (Node t) ≡ is_marked_at w (Node t)
  mark_stays t place in_it small = grind (arith, get_or-set_same, get_or-set_other)
