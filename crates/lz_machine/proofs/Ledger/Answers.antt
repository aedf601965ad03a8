-- The listed calls get their answers.
use Rattle.std.proofs.Common.{◌≡◌, ℕ, zero, suc, ◌<◌, Bool, true, not, ◌==◌, ◌&&◌, List, [], ◌∷◌, ◌++◌, MatchOption, refl, arith, filter}
use Rattle.std.proofs.lemmas.Bool.{cases_Bool, cases_eq, Decides.{nat_tests}}
use Rattle.lz_slot.{specs.Sets.{key_of, Keys, after, reply, Same}, proofs.Sets.{after_at, moved_other, after_same}}
use Rattle.lz_machine.specs.Ledgers.{Row, quiet_at, change_at, listed, Gives, ends, Each, IsRight, Moves, Leads}

gives_same : (L : List Row) (S T : Keys) → Same S T → Gives T L → Gives S L
gives_same [] S T same gives = tt
gives_same (r ∷ L) S T same gives = grind (arith, nat_tests, gives_same L (after r.command S) (after r.command T) (after_same r.command S T same) gives.1, after_same)

ends_same : (L : List Row) (S T : Keys) → Same S T → Same (ends S L) (ends T L)
ends_same [] S T same = same
ends_same (r ∷ L) S T same = ends_same L (after r.command S) (after r.command T) (after_same r.command S T same)

gives_append : (L M : List Row) (S : Keys) → Gives S L → Gives (ends S L) M → Gives S (L ++ M)
gives_append [] M S first second = second
gives_append (r ∷ L) M S first second = (first.0, gives_append L M (after r.command S) first.1 second)

ends_append : (L M : List Row) (S : Keys) → ends S (L ++ M) ≡ ends (ends S L) M
ends_append [] M S = refl
ends_append (r ∷ L) M S = ends_append L M (after r.command S)

pub each_filter : (P : Row → Type 0) (test : Row → Bool) (L : List Row) → Each P L → Each (λ r. P r × (test r ≡ true)) (filter test L)
each_filter P test [] each = tt
each_filter P test (r ∷ L) each = grind (arith, nat_tests, cases_Bool, each_filter P test L each.1)

pub each_weaker : (P Q : Row → Type 0) → ((r : Row) → P r → Q r) → (L : List Row) → Each P L → Each Q L
each_weaker P Q f [] each = tt
each_weaker P Q f (r ∷ L) each = (f r each.0, each_weaker P Q f L each.1)

-- a call that gets its answer from S and leaves S
record IsQuiet (S : Keys) (r : Row) : Type 0 where
  answer : MatchOption r.answer (Unit {0}) (λ a. reply r.command (S (key_of r.command)) ≡ a)
  leaves : Same (after r.command S) S

pub leads_append : (S T U : Keys) (L M : List Row) → Leads S L T → Leads T M U → Leads S (L ++ M) U
leads_append S T U L M first second = grind (arith, nat_tests, gives_append, gives_same, ends_append, ends_same)

leads_quiet : (S : Keys) (L : List Row) → Each (IsQuiet S) L → Leads S L S
leads_quiet S [] each = record { gives = tt; ends_in = λ k. refl }
leads_quiet S (r ∷ L) each = grind (arith, nat_tests, leads_quiet S L each.1, gives_same, ends_same)

module _ (members : ℕ → Keys) (rows : List Row) (right : Each (IsRight members) rows) where
  right_quiet : (j : ℕ) (r : Row) → IsRight members r × ((not r.changes && (r.position == j)) ≡ true) → IsQuiet (members j) r
  right_quiet j r facts = grind (arith, nat_tests, cases_eq, after_at, moved_other)

  leads_change : (j : ℕ) (L : List Row) → Each (λ r. IsRight members r × ((r.changes && (r.position == j)) ≡ true)) L → Moves (members j) (members (suc j)) L → Leads (members j) L (members (suc j))
  leads_change j L each moves = grind arith

  pub listed_leads : (n : ℕ) → ((j : ℕ) → j < n → Moves (members j) (members (suc j)) (change_at j rows)) → Leads (members 0) (listed rows n) (members n)
  listed_leads zero moves = leads_quiet (members 0) (quiet_at 0 rows) (each_weaker _ _ (right_quiet 0) _ (each_filter _ _ rows right))
  listed_leads (suc n) moves =
      leads_append (members 0) (members n) (members (suc n)) (listed rows n) (change_at n rows ++ quiet_at (suc n) rows)
      (listed_leads n (λ j lt. moves j (omega arith)))
      (leads_append (members n) (members (suc n)) (members (suc n)) (change_at n rows) (quiet_at (suc n) rows)
      (leads_change n (change_at n rows) (each_filter _ _ rows right) (moves n (omega arith)))
      (leads_quiet (members (suc n)) (quiet_at (suc n) rows) (each_weaker _ _ (right_quiet (suc n)) _ (each_filter _ _ rows right))))
