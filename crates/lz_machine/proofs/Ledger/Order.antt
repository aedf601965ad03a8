-- The order of the listed calls.
use Rattle.std.proofs.Common.{◌≡◌, ℕ, zero, suc, ◌+◌, ◌≤◌, Bool, true, false, not, ◌==◌, ◌&&◌, List, [], ◌∷◌, ◌++◌, refl, ap, ◌∙◌, inl, inr, arith, filter}
use Rattle.std.proofs.lemmas.Bool.{cases_Bool, Decides.{nat_tests}}
use Rattle.lz_machine.specs.Ledgers.{Row, quiet_at, change_at, listed, HasRow, Stands, times, is_within}

pub has_filter : (test : Row → Bool) (r : Row) (L : List Row) → HasRow r L → test r ≡ true → HasRow r (filter test L)
has_filter test r (l ∷ L) (inl here) passes = rw (ap test here ∙ passes) (inl here)
has_filter test r (l ∷ L) (inr there) passes = grind (arith, cases_Bool, has_filter test r L there passes)
has_filter test r [] h passes = absurd h

pub stands_filter : (test : Row → Bool) (r q : Row) (L : List Row) → Stands r q L → test r ≡ true → test q ≡ true → Stands r q (filter test L)
stands_filter test r q (l ∷ L) (inl here) passes too = rw (ap test here.0 ∙ passes) (inl (here.0, has_filter test q L here.1 too))
stands_filter test r q (l ∷ L) (inr there) passes too = grind (arith, cases_Bool, stands_filter test r q L there passes too)
stands_filter test r q [] h passes too = absurd h

pub has_left : (r : Row) (L M : List Row) → HasRow r L → HasRow r (L ++ M)
has_left r (l ∷ L) M (inl here) = inl here
has_left r (l ∷ L) M (inr there) = inr (has_left r L M there)
has_left r [] M h = absurd h

pub has_right : (r : Row) (L M : List Row) → HasRow r M → HasRow r (L ++ M)
has_right r [] M h = h
has_right r (l ∷ L) M h = inr (has_right r L M h)

pub stands_left : (r q : Row) (L M : List Row) → Stands r q L → Stands r q (L ++ M)
stands_left r q (l ∷ L) M (inl here) = inl (here.0, has_left q L M here.1)
stands_left r q (l ∷ L) M (inr there) = inr (stands_left r q L M there)
stands_left r q [] M h = absurd h

stands_right : (r q : Row) (L M : List Row) → Stands r q M → Stands r q (L ++ M)
stands_right r q [] M h = h
stands_right r q (l ∷ L) M h = inr (stands_right r q L M h)

pub stands_across : (r q : Row) (L M : List Row) → HasRow r L → HasRow q M → Stands r q (L ++ M)
stands_across r q (l ∷ L) M (inl here) h = inl (here, has_right q L M h)
stands_across r q (l ∷ L) M (inr there) h = inr (stands_across r q L M there h)
stands_across r q [] M none h = absurd none

first_of_two : (r q : Row) (L : List Row) → Stands r q L → HasRow r L
first_of_two r q (l ∷ L) (inl here) = inl here.0
first_of_two r q (l ∷ L) (inr there) = inr (first_of_two r q L there)
first_of_two r q [] h = absurd h

second_of_two : (r q : Row) (L : List Row) → Stands r q L → HasRow q L
second_of_two r q (l ∷ L) (inl here) = inr here.1
second_of_two r q (l ∷ L) (inr there) = inr (second_of_two r q L there)
second_of_two r q [] h = absurd h

pub times_append : (i : ℕ) (L M : List Row) → times i (L ++ M) ≡ times i L + times i M
times_append i [] M = omega arith
times_append i (r ∷ L) M = grind (arith, nat_tests, times_append i L M)

times_first : (i : ℕ) (L : List Row) → times i (quiet_at 0 L) ≡ times i (filter (is_within 0) L)
times_first i [] = refl
times_first i (r ∷ L) = grind (arith, nat_tests, times_first i L)

times_split : (n i : ℕ) (L : List Row) → times i (filter (is_within (suc n)) L) ≡ times i (filter (is_within n) L) + (times i (change_at n L) + times i (quiet_at (suc n) L))
times_split n i [] = refl
times_split n i (r ∷ L) = grind (arith, nat_tests, times_split n i L)

module _ (rows : List Row) where
  pub listed_has : (n : ℕ) (r : Row) → HasRow r rows → is_within n r ≡ true → HasRow r (listed rows n)
  listed_has zero r h passes = has_filter (λ r. not r.changes && (r.position == 0)) r rows h (grind (arith, nat_tests))
  listed_has (suc n) r h passes = grind (arith, nat_tests, cases_Bool, has_left, listed_has n, has_right, has_filter)

  -- a call of no greater position, and without change where they are equal, stands first if it did in the rows
  pub listed_order : (n : ℕ) (r q : Row) → Stands r q rows → r.position ≤ q.position → (r.position ≡ q.position → r.changes ≡ false) → is_within n q ≡ true → Stands r q (listed rows n)
  listed_order zero r q stands le quiet passes = stands_filter (λ r. not r.changes && (r.position == 0)) r q rows stands (grind (arith, nat_tests)) (grind (arith, nat_tests))
  listed_order (suc n) r q stands le quiet passes = elim (cases_Bool (is_within n q)) [
    | inl t ↦ stands_left r q (listed rows n) _ (listed_order n r q stands le quiet t)
    | inr f ↦ elim (cases_Bool (is_within n r)) [
      | inl t ↦ stands_across r q (listed rows n) _ (listed_has n r first t) (elim (cases_Bool q.changes) [
        | inl c ↦ has_left q (change_at n rows) _ (has_filter (λ r. r.changes && (r.position == n)) q rows second (grind (arith, nat_tests)))
        | inr c ↦ has_right q (change_at n rows) _ (has_filter (λ r. not r.changes && (r.position == suc n)) q rows second (grind (arith, nat_tests)))
      ])
      | inr g ↦ stands_right r q (listed rows n) _ (
          let last : (not q.changes && (q.position == suc n)) ≡ true = grind (arith, nat_tests) in
          elim (cases_Bool r.changes) [
            | inl c ↦ stands_across r q (change_at n rows) _ (has_filter (λ r. r.changes && (r.position == n)) r rows first (grind (arith, nat_tests))) (has_filter (λ r. not r.changes && (r.position == suc n)) q rows second last)
            | inr c ↦ stands_right r q (change_at n rows) _ (stands_filter (λ r. not r.changes && (r.position == suc n)) r q rows stands (grind (arith, nat_tests)) last)
          ])
    ]
  ]
    where
      first : HasRow r rows
      first = first_of_two r q rows stands

      second : HasRow q rows
      second = second_of_two r q rows stands

  pub listed_times : (n i : ℕ) → times i (listed rows n) ≡ times i (filter (is_within n) rows)
  listed_times zero i = times_first i rows
  listed_times (suc n) i = grind (arith, times_append, times_split, listed_times n i)
