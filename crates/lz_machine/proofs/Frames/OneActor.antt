-- A turn of one actor: the other actors' part is as before, and so is the ledger, where the call goes on without a publishing.
use Rattle.std.proofs.lemmas.{Bool.{cases_eq, cases_lt, Decides.{nat_tests}}, List.{get_or_past}, Option.{same_Some, none-some}}
use Rattle.std.proofs.Common.{◌≡◌, ◌≢◌, inl, inr, ℕ, zero, suc, ◌≤◌, [], ◌∷◌, ◌++◌, Bool, true, List, length, Option, Some, None, refl, ap, ◌∙◌, subst, arith}
use Rattle.lz_slot.specs.{declared.format.Format.{Format}, Counted.{set_of_pass}, Histories.{History}}
use Rattle.lz_slot.proofs.Counted.{of_pass_same, of_pass_other, length-set_of_pass}
use Rattle.lz_vault.specs.{Stages.{Cell}, Vaults.{Vaulted}}
use Rattle.lz_list.specs.Traces.{Trace}
use Rattle.lz_machine.specs.{declared.{actor.Actor.{Actor}, caller.Progress.{Progress}}, Yards.{Shape, actor_in, pin_in}, Runs.{Caller, caller_at}}
use Rattle.lz_machine.specs.{Ledgers.{Row, times}, Notes.{Notes, pending_row, pending, entries}, CallersSound.{view_of, CallerSound, CallersSound}}
use Rattle.lz_machine.{specs.LedgerSound.{LedgerSound}, proofs.{Frames.ActorTable.{by_actor}, Ledger.Order.{times_append}}}

-- an actor with a call is one of the service's
pub caller_range : (callers : List (Option Caller)) (a : ℕ) (caller : Caller) → caller_at callers a ≡ Some caller → (1 ≤ a) × (a ≤ length callers)
caller_range callers a caller = grind (arith, nat_tests, none-some, cases_lt, get_or_past)

-- the call where it has come to next
abbrev pub moved : Caller → Progress → Caller
moved caller next = record { number = caller.number; command = caller.command; progress = next }

abbrev pub moving : List (Option Caller) → ℕ → Caller → Progress → List (Option Caller)
moving callers a caller next = set_of_pass callers a (Some (moved caller next))

-- what is said of a caller depends on its actor, pin word, call, and notes alone
pub carry : (buckets passes : ℕ) (format : Format) (cells : List Cell) (dead : Bool) (P : Trace) (actor actor' : Actor) (pin pin' : ℕ) (caller caller' : Option Caller) (P0 P0' : Trace) (changed changed' : Option ℕ)
    → actor' ≡ actor → pin' ≡ pin → caller' ≡ caller → P0' ≡ P0 → changed' ≡ changed
    → CallerSound (record { buckets = buckets; passes = passes; format = format; cells = cells; dead = dead; actor = actor }) pin caller P0 P changed
    → CallerSound (record { buckets = buckets; passes = passes; format = format; cells = cells; dead = dead; actor = actor' }) pin' caller' P0' P changed'
carry buckets passes format cells dead P actor actor' pin pin' caller caller' P0 P0' changed changed' e1 e2 e3 e4 e5 h = grind arith

module _ (callers : List (Option Caller)) (a : ℕ) (caller : Caller) (at : caller_at callers a ≡ Some caller) (next : Progress) where
  pub moved_same : caller_at (moving callers a caller next) a ≡ Some (moved caller next)
  moved_same = of_pass_same callers a (Some (moved caller next)) None (caller_range callers a caller at).0 (caller_range callers a caller at).1

  pub moved_other : (b : ℕ) → b ≢ a → caller_at (moving callers a caller next) b ≡ caller_at callers b
  moved_other b other = of_pass_other callers a b (Some (moved caller next)) None other

  row_of_moved : (changed : Option ℕ) → pending_row (Some (moved caller next)) changed ≡ pending_row (Some caller) changed
  row_of_moved _ = refl

  same_row : (changed : ℕ → Option ℕ) (b : ℕ) → pending_row (caller_at (moving callers a caller next) b) (changed b) ≡ pending_row (caller_at callers b) (changed b)
  same_row changed = grind (arith, by_actor, moved_same, row_of_moved, moved_other)

  same_pending : (changed : ℕ → Option ℕ) (m : ℕ) → pending (moving callers a caller next) changed m ≡ pending callers changed m
  same_pending changed zero = refl
  same_pending changed (suc m) = cc (same_pending changed m, same_row changed (suc m))

  pub same_entries : (passes : ℕ) (notes : Notes) → entries passes (moving callers a caller next) notes ≡ entries passes callers notes
  same_entries passes notes = ap (λ (rows : List Row). notes.ended ++ rows) (same_pending notes.changed passes)

  -- what is said of each open call, of its number and command
  pub number_still : (b : ℕ) (one : Caller) → caller_at (moving callers a caller next) b ≡ Some one → (old : Caller) × (caller_at callers b ≡ Some old) × (old.number ≡ one.number) × (old.command ≡ one.command)
  number_still b one is = grind (arith, cases_eq, same_Some, moved_same, moved_other)

  pub ledger_turn : (n calls passes : ℕ) (P : Trace) (M : History) (notes : Notes) → LedgerSound n calls passes callers P M notes → LedgerSound n calls passes (moving callers a caller next) P M notes
  ledger_turn n calls passes P M notes h = grind (arith, same_entries, number_still)

  -- the callers, where each other one's part stays, and the actor has become x
  pub callers_moved : (shape : Shape) (vault vault' : Vaulted) (pins : List ℕ) (actors actors' : List Actor) (P P' : Trace) (notes notes' : Notes) (x : Actor) (changed : Option ℕ)
      → length actors' ≡ length actors → actor_in actors' a ≡ x → ((b : ℕ) → b ≢ a → actor_in actors' b ≡ actor_in actors b)
      → ((b : ℕ) → notes'.begun b ≡ notes.begun b) → notes'.changed a ≡ changed → ((b : ℕ) → b ≢ a → notes'.changed b ≡ notes.changed b)
      → CallerSound (record { buckets = shape.buckets; passes = shape.passes; format = vault'.format; cells = vault'.cells; dead = vault'.dead; actor = x }) (pin_in pins a) (Some (moved caller next)) (notes.begun a) P' changed
      → ((b : ℕ) → b ≢ a → CallerSound (view_of shape vault' actors b) (pin_in pins b) (caller_at callers b) (notes.begun b) P' (notes.changed b))
      → CallersSound shape vault pins actors callers P notes
      → CallersSound shape vault' pins actors' (moving callers a caller next) P' notes'
  callers_moved shape vault vault' pins actors actors' P P' notes notes' x changed count hand_a others begun changed_a changed_b mine theirs h = record {
    count = length-set_of_pass callers a (Some (moved caller next)) ∙ h.count;
    hands = count ∙ h.hands;
    each = by_actor (λ b. CallerSound (view_of shape vault' actors' b) (pin_in pins b) (caller_at (moving callers a caller next) b) (notes'.begun b) P' (notes'.changed b)) a
        (carry shape.buckets shape.passes vault'.format vault'.cells vault'.dead P' x (actor_in actors' a) (pin_in pins a) (pin_in pins a) (Some (moved caller next)) (caller_at (moving callers a caller next) a) (notes.begun a) (notes'.begun a) changed (notes'.changed a)
        hand_a refl moved_same (begun a) changed_a mine)
        (λ b other. carry shape.buckets shape.passes vault'.format vault'.cells vault'.dead P' (actor_in actors b) (actor_in actors' b) (pin_in pins b) (pin_in pins b)
        (caller_at callers b) (caller_at (moving callers a caller next) b) (notes.begun b) (notes'.begun b) (notes.changed b) (notes'.changed b)
        (others b other) refl (moved_other b other) (begun b) (changed_b b other) (theirs b other));
  }

  -- as where the turn publishes nothing and leaves the vault and the pins
  pub callers_turn : (shape : Shape) (vault : Vaulted) (pins : List ℕ) (actors actors' : List Actor) (P : Trace) (notes : Notes)
      → length actors' ≡ length actors → ((b : ℕ) → b ≢ a → actor_in actors' b ≡ actor_in actors b)
      → CallerSound (view_of shape vault actors' a) (pin_in pins a) (Some (moved caller next)) (notes.begun a) P (notes.changed a)
      → CallersSound shape vault pins actors callers P notes
      → CallersSound shape vault pins actors' (moving callers a caller next) P notes
  callers_turn shape vault pins actors actors' P notes count others mine h =
      callers_moved shape vault vault pins actors actors' P P notes notes (actor_in actors' a) (notes.changed a) count refl others (λ b. refl) refl (λ b other. refl) mine (λ b other. h.each b) h

-- a pending row is listed
has_pending : (callers : List (Option Caller)) (changed : ℕ → Option ℕ) (a j : ℕ) (caller : Caller) → caller_at callers a ≡ Some caller → changed a ≡ Some j → (m : ℕ) → 1 ≤ a → a ≤ m → times caller.number (pending callers changed m) ≡ 0 → ⊥
has_pending callers changed a j caller at does zero low le none = omega (arith, low, le)
has_pending callers changed a j caller at does (suc m) low le none = elim (cases_eq (suc m) a) [
  | inl last ↦
      let row : pending_row (caller_at callers (suc m)) (changed (suc m)) ≡ record { number = caller.number; command = caller.command; answer = None; changes = true; position = j } ∷ [] =
      ap (λ (q : ℕ). pending_row (caller_at callers q) (changed q)) last ∙ ap (λ (q : Option Caller). pending_row q (changed a)) at ∙ ap (pending_row (Some caller)) does in
      let count : times caller.number (pending_row (caller_at callers (suc m)) (changed (suc m))) ≡ 1 = ap (times caller.number) row ∙ once caller.number in
      omega (arith, none, count, times_append caller.number (pending callers changed m) (pending_row (caller_at callers (suc m)) (changed (suc m))))
  | inr more ↦ has_pending callers changed a j caller at does m low (omega (arith, le, more)) (omega (arith, none, times_append caller.number (pending callers changed m) (pending_row (caller_at callers (suc m)) (changed (suc m)))))
]
  where
    once : (i : ℕ) → times i (record { number = i; command = caller.command; answer = None; changes = true; position = j } ∷ []) ≡ 1
    once i = grind arith

-- a call that has changed something has a row
pub has_entry : (passes a j : ℕ) (callers : List (Option Caller)) (notes : Notes) (caller : Caller) → caller_at callers a ≡ Some caller → notes.changed a ≡ Some j → a ≤ passes → times caller.number (entries passes callers notes) ≡ 0 → ⊥
has_entry passes a j callers notes caller at does le none = grind (arith, has_pending, caller_range, times_append)

-- what is known of the actor whose turn it is
pub mine : (shape : Shape) (vault : Vaulted) (pins : List ℕ) (actors : List Actor) (callers : List (Option Caller)) (P : Trace) (notes : Notes) (a : ℕ) (caller : Caller)
    → caller_at callers a ≡ Some caller → CallersSound shape vault pins actors callers P notes
    → CallerSound (view_of shape vault actors a) (pin_in pins a) (Some caller) (notes.begun a) P (notes.changed a)
mine shape vault pins actors callers P notes a caller at h = subst (λ (q : Option Caller). CallerSound (view_of shape vault actors a) (pin_in pins a) q (notes.begun a) P (notes.changed a)) at (h.each a)
