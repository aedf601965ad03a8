-- In a set of one pass an adding that finds no slot, once it has seen all pins, finds as many members as there are slots.
use Rattle.std.proofs.Common.{◌≡◌, inl, inr, ℕ, zero, suc, ◌<◌, ◌≤◌, not, Bool, true, false, List, [], ◌∷◌, ◌++◌, length, Option, Some, None, refl, sym, ap}
use Rattle.std.proofs.{Common.{◌∙◌, subst, arith}, lemmas.{Map.Keys.{IsDistinct-push}, Bool.{cases_Bool, cases_eq, or_left, or_right, Decides.{nat_tests}}}}
use Rattle.std.{proofs.lemmas.List.{length-append}, specs.{Prelude.{nat_eq}, List.{list_any, IsDistinct}, Cmp.{nat_eq_equiv}}}
use mathlib.Core.Bool.{false≢true}
use Rattle.lz_slot.{specs.{declared.command.Command.{Command}, Sets.{members, HasMembers}, Histories.{History, Life, lives}}, proofs.Sets.{members_among}}
use Rattle.lz_disk.specs.Images.{Medium}
use Rattle.lz_allot.specs.Uses.{collect, lowest_free}
use Rattle.lz_list.{specs.Traces.{Trace, on, chain_of, key_word, member, is_marked}, proofs.Traces.NodeBits.{node}}
use Rattle.lz_machine.specs.{declared.{actor.LockPhase.TheVariants.{Nothing}, caller.Progress.{Progress, TheVariants.{Reserving}}}, Yards.{Yard, actor_in}}
use Rattle.lz_machine.specs.{Alone.{IsOwn, IsAlone, FullOfOnePass}, Runs.{Start, IsStart, Caller, Service, State, Up, Transition, MayStep, HasTurn, HasFault}}
use Rattle.lz_machine.specs.{Runs.{LeftInside, IsRun, run, first_point, caller_at, start_keys, shape_of}, Notes.{Notes}}
use Rattle.lz_machine.{specs.{CallersSound.{IsAdder, view_of, Relies}, Sound.{Sound, PointSound}}, proofs.Frames.ActorTable.{by_actor}}
use Rattle.lz_machine.proofs.{Frames.OneActor.{caller_range, mine}, Runs.{PointParts.{point}, Shape.{run_keeps_shape}}}
use Rattle.lz_machine.proofs.{Crash.ImageSlots.{member_node, one_node_slot}, Theorem.Reached.{reached_sound, up_at}}
use Rattle.lz_machine.proofs.Alone.{Full.{AloneFull, LeftBelow, WalkStands, all_nodes}, Room.{FullAt, reached_full}, Size.{members_append, none_distinct}}

-- an actor of a service of one pass is the first
module _ (service : Service) (count : length service.callers ≡ 1) (b : ℕ) where
  one_caller : (caller : Caller) → caller_at service.callers b ≡ Some caller → b ≡ 1
  one_caller caller at = let range = caller_range service.callers b caller at in omega (arith, range.0, range.1, count)

  one_turn : (who : Option Caller) → caller_at service.callers b ≡ who → HasTurn service b who → b ≡ 1
  one_turn who = grind (arith, nat_tests, one_caller)

  one_fault : (disk new : Medium) (who : Option Caller) → caller_at service.callers b ≡ who → HasFault service disk b who new → b ≡ 1
  one_fault disk new who = grind (arith, nat_tests, one_caller)

  one_crash : (disk : Medium) (t : List ℕ) (who : Option Caller) → caller_at service.callers b ≡ who → LeftInside service disk b who t → b ≡ 1
  one_crash disk t who = grind (arith, nat_tests, one_caller)

own_up : (service : Service) (disk : Medium) (step : Transition) → service.yard.shape.passes ≡ 1 → length service.callers ≡ 1 → MayStep (Up service disk) step → IsOwn 1 step
own_up service disk step one count may = grind (arith, nat_tests, one_turn, one_fault, one_crash)

own_step : (start : Start) (w : State) (M : History) (P : Trace) (calls : ℕ) (step : Transition) → start.shape.passes ≡ 1 → MayStep w step → (L : List Life) → PointSound start (point w M P calls) L → IsOwn 1 step
own_step start w M P calls step one may L sound = grind (arith, nat_tests, own_up)

-- so each run of one pass is its only actor's
alone : (start : Start) (steps : List Transition) → IsStart start → start.shape.passes ≡ 1 → IsRun (first_point start) steps → IsAlone 1 steps
alone start [] is one runs = tt
alone start (step ∷ steps) is one runs =
    let p = run (first_point start) steps in
    (own_step start p.state p.marks p.trace p.calls step one runs.0 (lives (start_keys start) p.marks) (reached_sound start steps is runs.1), alone start steps is one runs.1)

-- the key words of the first n slots
abbrev keys_of : Trace → ℕ → List ℕ
keys_of P zero = []
keys_of P (suc n) = keys_of P n ++ key_word n P ∷ []

module _ (n calls : ℕ) (y : Yard) (callers : List (Option Caller)) (disk : Medium) (M : History) (P : Trace) (notes : Notes) (sound : Sound n calls y callers disk M P notes)
    (nodes : (s : ℕ) → s < y.shape.slots → (on 0 (chain_of y.shape.buckets (key_word s P) P) (suc s) ≡ true) × (is_marked s P ≡ false)) where
  count : (m : ℕ) → length (keys_of P m) ≡ m
  count zero = refl
  count (suc m) = omega (arith, count m, length-append (keys_of P m) (key_word m P ∷ []))

  -- a key among them is a slot's
  has_slot : (m q : ℕ) → members (keys_of P m) q ≡ true → (s : ℕ) × (s < m) × (key_word s P ≡ q)
  has_slot zero q is = absurd (false≢true is)
  has_slot (suc m) q is = grind (arith, nat_tests, cases_Bool, has_slot m q, members_append)

  slot_has : (m s : ℕ) → s < m → members (keys_of P m) (key_word s P) ≡ true
  slot_has zero s lt = absurd (omega (arith, lt))
  slot_has (suc m) s lt = members_append (keys_of P m) (key_word m P ∷ []) (key_word s P) ∙ elim (cases_eq s m) [
    | inl same ↦ or_right (members (keys_of P m) (key_word s P)) (members (key_word m P ∷ []) (key_word s P)) (is_last same)
    | inr other ↦ or_left (members (keys_of P m) (key_word s P)) (members (key_word m P ∷ []) (key_word s P)) (slot_has m s (omega (arith, lt, other)))
  ]
    where
      is_last : s ≡ m → members (key_word m P ∷ []) (key_word s P) ≡ true
      is_last same = subst (λ (q : ℕ). members (key_word q P ∷ []) (key_word s P) ≡ true) same (grind (arith, nat_tests))

  abbrev N : ℕ
  N = y.shape.slots

  -- no key stands twice
  distinct : (m : ℕ) → m ≤ N → IsDistinct nat_eq (keys_of P m)
  distinct zero le = none_distinct
  distinct (suc m) le = IsDistinct-push nat_eq_equiv (keys_of P m) (key_word m P) (distinct m (omega (arith, le))) (fresh (list_any (nat_eq (key_word m P)) (keys_of P m)) refl)
    where
      fresh : (b : Bool) → list_any (nat_eq (key_word m P)) (keys_of P m) ≡ b → list_any (nat_eq (key_word m P)) (keys_of P m) ≡ false
      fresh false is = is
      fresh true is =
          let at = has_slot m (key_word m P) (members_among (keys_of P m) (key_word m P) ∙ is) in
          let here = (nodes m (omega (arith, le))).0 in
          let there : on 0 (chain_of y.shape.buckets (key_word m P) P) (suc at.0) ≡ true = subst (λ (q : ℕ). on 0 (chain_of y.shape.buckets q P) (suc at.0) ≡ true) at.2 (nodes at.0 (omega (arith, at.1, le))).0 in
          absurd (omega (arith, at.1, one_node_slot n calls y callers disk M P notes sound at.0 m (key_word m P) (there, at.2) (here, refl)))

  -- they are the members
  all : (q : ℕ) → member q P ≡ members (keys_of P N) q
  all q = elim (cases_Bool (member q P)) [
    | inl is ↦
        let at = member_node n calls y callers disk M P notes sound q is in
        is ∙ sym (subst (λ (k : ℕ). members (keys_of P N) k ≡ true) at.2.1 (slot_has N at.0 at.1))
    | inr none ↦ none ∙ sym (lacks (members (keys_of P N) q) refl none)
  ]
    where
      lacks : (b : Bool) → members (keys_of P N) q ≡ b → member q P ≡ false → members (keys_of P N) q ≡ false
      lacks false is none = is
      lacks true is none =
          let at = has_slot N q is in
          let here = nodes at.0 at.1 in
          let there : on 0 (chain_of y.shape.buckets q P) (suc at.0) ≡ true = subst (λ (k : ℕ). on 0 (chain_of y.shape.buckets k P) (suc at.0) ≡ true) at.2 here.0 in
          let is_member : member q P ≡ true = (node y.shape.buckets y.shape.slots q at.0 P sound.trace.lawful there at.2).is_member ∙ ap not here.1 in
          absurd (false≢true (sym none ∙ is_member))

  pub full_of : HasMembers (λ k. member k P) N
  full_of = record { keys = keys_of P N; count = count N; distinct = distinct N (omega arith); all = all }

-- the adding at a sound point
module _ (service : Service) (disk : Medium) (P : Trace) (a : ℕ) (caller : Caller) (one : service.yard.shape.passes ≡ 1) (at : caller_at service.callers a ≡ Some caller) (asks : caller.progress ≡ Reserving true)
    (none : lowest_free (collect service.yard.uses) ≡ None) (n calls : ℕ) (H : History) (notes : Notes) (sound : Sound n calls service.yard service.callers disk H P notes) where
  abbrev y : Yard
  y = service.yard

  abbrev Rests : Progress → Type 0
  Rests progress = Relies (view_of y.shape y.vault y.actors a) caller.command progress (notes.begun a) P (notes.changed a)

  nodes_here : AloneFull a y (Some caller) P → Rests (Reserving true) → WalkStands y P (Reserving true) caller.command → (s : ℕ) → s < y.shape.slots → (on 0 (chain_of y.shape.buckets (key_word s P) P) (suc s) ≡ true) × (is_marked s P ≡ false)
  nodes_here h rely stands s lt =
      let own = all_nodes n calls y service.callers disk H P notes sound holds slots (left caller.command rely.2 stands) none s lt in
      (own.0.there, own.1)
    where
      holds : (b : ℕ) → (actor_in y.actors b).hold ≡ Nothing
      holds = by_actor (λ b. (actor_in y.actors b).hold ≡ Nothing) a rely.0.hold (λ b other. (h.others b other).hold)

      slots : (b : ℕ) → (actor_in y.actors b).slot ≡ None
      slots = by_actor (λ b. (actor_in y.actors b).slot ≡ None) a rely.1 (λ b other. (h.others b other).slot)

      left : (c : Command) → IsAdder c → WalkStands y P (Reserving true) c → LeftBelow y.uses (suc y.shape.passes)
      left c adder stands = grind (arith, nat_tests)

  full_here : FullAt 1 (Up service disk) P → HasMembers (λ k. member k P) y.shape.slots
  full_here full =
      let first : 1 ≡ a = sym (one_caller service (sound.callers.count ∙ one) a caller at) in
      let h : AloneFull a y (Some caller) P = subst (λ (who : Option Caller). AloneFull a y who P) at (subst (λ (b : ℕ). AloneFull b y (caller_at service.callers b) P) first full) in
      let rely : Rests (Reserving true) = subst Rests asks (mine y.shape y.vault y.words.pins y.actors service.callers P notes a caller at sound.callers).stands.2 in
      let stands : WalkStands y P (Reserving true) caller.command = subst (λ (progress : Progress). WalkStands y P progress caller.command) asks h.stands in
      full_of n calls y service.callers disk H P notes sound (nodes_here h rely stands)

pub full_of_one_pass : FullOfOnePass
full_of_one_pass start service disk M P a caller reached one at asks none =
    let p = run (first_point start) reached.steps in
    let sound = reached_sound start reached.steps reached.starts reached.runs in
    let here = up_at start p service disk sound reached.state in
    full_here service disk P a caller one at asks none here.n p.calls here.life.history here.notes (subst (λ (Q : Trace). Sound here.n p.calls service.yard service.callers disk here.life.history Q here.notes) reached.trace here.up.sound)
    (subst (λ (Q : Trace). FullAt 1 (Up service disk) Q) reached.trace (subst (λ (w : State). FullAt 1 w p.trace) reached.state (reached_full start reached.steps 1 reached.starts reached.runs (alone start reached.steps reached.starts one_start reached.runs))))
  where
    one_start : start.shape.passes ≡ 1
    one_start = ap (λ shape. shape.passes) (sym (run_keeps_shape (first_point start) reached.steps) ∙ ap shape_of reached.state) ∙ one
