-- A call that walks, apart from its caller: the word that it loads, and where the value leads.
use Rattle.std.proofs.{Common.{arith, ◌≡◌, ℕ, Some}, lemmas.{Bool.Decides.{nat_tests}, Option.{none-some, same_Some}}}
use Rattle.lz_refinement.proofs.Vocabulary.{Look, Walk, LeadsOn, More, hopped, wants, Progress, event_at, hops_on, progress_after, Calling, IsLoading, MayTake}
use Rattle.lz_refinement.proofs.Vocabulary.{shape_with, look_at, looking, walk_at, walk_of, with_look}
use Rattle.lz_machine.specs.declared.event.{Event.TheVariants.{Hop}, Outcome.TheVariants.{Value}}

module _ (k : Calling) (look : Look) (w : Walk) (walks : walk_of (with_look k look) ≡ Some w) where
  abbrev at : Progress → Calling
  at there = record { command = k.command; buckets = k.buckets; passes = k.passes; progress = there }

  abbrev Walks : Progress → Type 0
  Walks there = walk_at (at there) (look_at (looking there look)) ≡ Some w

  pub event : event_at (shape_with (with_look k look)) k.command (with_look k look).progress ≡ Hop (wants w.buckets w.key w.look)
  event = grind (arith, nat_tests, event_at, shape_with, looking, wants, same_Some, none-some)

  pub is_loading : IsLoading (with_look k look).progress
  is_loading = grind (arith, nat_tests, looking, none-some)

  pub buckets : w.buckets ≡ k.buckets
  buckets = grind (arith, nat_tests, same_Some, none-some)

  pub leads : (value : ℕ) → MayTake (with_look k look).progress (Value value) → LeadsOn w.look value
  leads value = grind (arith, nat_tests, looking, same_Some, none-some)

  -- where the walk goes on, the call is the one whose walk has come there
  module _ (value : ℕ) (on : Walk) (hop : hopped w.buckets w.key w.look value ≡ More on.look) where
    pub goes_on : with_look k on.look ≡ at (progress_after (shape_with k) k.command (with_look k look).progress (Value value))
    goes_on = grind (arith, nat_tests, looking, progress_after, shape_with, hops_on, hopped, same_Some, none-some)

    pub walks_on : on.key ≡ w.key → on.buckets ≡ w.buckets → walk_of (with_look k on.look) ≡ Some on
    walks_on same_key same_buckets = grind (arith, nat_tests, walk_at, look_at, looking, same_Some, none-some)
