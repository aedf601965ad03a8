-- What a service leaves whose passes were handed back.
use Rattle.std.proofs.Common.{◌≡◌, ◌⊎◌, inl, inr, ⊎_elim, All, Bool, true, false, ℕ, ◌≤◌, ◌<◌, zero, suc, List, [], ◌∷◌, length, map, slice_set, refl, sym, ap, ◌∙◌, subst}
use Rattle.std.proofs.{Common.{Some, None, eq-eqb}, lemmas.{Bool.{eqb-true}, List.{get_or-map, length-map}}}
use Rattle.std.proofs.lemmas.List.{Elements.{All-from_recursion, All-map, All-set, recursion_from_All}, Folds.{Any-from_list_any, list_any-from_Any}}
use Rattle.std.specs.{Prelude.{◌==◌, ◌||◌, Option, get_or}, List.{AllByRecursion, Any, list_any}}
use mathlib.Core.Bool.{true≢false}
use Rattle.lz_slot.specs.{declared.command.Command.{Command}, Histories.{History}}
use Rattle.lz_disk.specs.Devices.{Device}
use Rattle.lz_vault.specs.Vaults.{last_sync}
use Rattle.lz_list.specs.{Traces.{Trace}, declared.layout.Sizes.{Sizes}}
use Rattle.lz_machine.specs.{declared.event.Reply.{Reply, TheVariants.{Halted, Device as failed_device}}, Yards.{Shape}}
use Rattle.lz_board.specs.{declared.{pass.Pass.{Pass}, view.{Note.{Note}, Part.{Part}}}, Notes.{Extends, shape_of_sizes, trace_of}, Plays.{knowing, parts_from}}
use Rattle.lz_board.{specs.Seats.{BoardId, IsOf, part}, proofs.Walk.GlanceAnswer.{halt_since}}
use Rattle.lz_refinement.specs.{Marks.{NoneIsCut, marks_in}, OwnCalls.{Ending, SeenCall, calls_of, ending_in, shown, told, unnumbered}}
use Rattle.lz_refinement.proofs.Marks.CutCalls.{HasCut, IsCutIn, cut_in, is_cut}
use Rattle.lz_set.specs.{Blanks.{AreNew}, Left.{IsLeftWith, IsWelcome}}
use Rattle.lz_serve.specs.{Halts.{IsCalm, SawHalt, was_cut}, Services.{parts_of}}
use Rattle.lazyset_set_commands.specs.Services.{AreAllPasses, AreUnused, ServedPasses}
use Rattle.lazyset_file_commands.specs.declared.status.Status.{Status, TheVariants.{Done, Failed}}

length_parts : (z : Sizes) (opened : Trace) (n p : ℕ) → length (parts_from z opened n p) ≡ n
length_parts z opened zero p = refl
length_parts z opened (suc n) p = ap (λ (k : ℕ). suc k) (length_parts z opened n (suc p))

-- as many passes were new as the board has
pub all_new : (b : BoardId) (ps : List Pass) → AreNew b ps → length ps ≡ b.sizes.passes
all_new b ps new = sym (length-map ps (λ p. part p)) ∙ (ap (λ (l : List Part). length l) new.parts ∙ length_parts b.sizes b.opened b.sizes.passes 1)

-- a new pass has made no call
pub new_unused : (b : BoardId) (ps : List Pass) → AreNew b ps → AreUnused (map (λ p. part p) ps)
new_unused b ps new = All-map (λ (h : Part). h.steps ≡ []) (λ p. part p) ps (λ k d low. ap (λ (h : Part). h.steps) (new.new k d low).1)

each_unused : (ps : List Pass) → AllByRecursion (λ (h : Part). h.steps ≡ []) (map (λ p. part p) ps) → AllByRecursion (λ (p : Pass). (part p).steps ≡ []) ps
each_unused [] all = tt
each_unused (p ∷ ps) all = (all.0, each_unused ps all.1)

-- nor has one of them, once the first has looked
pub unused_first : (ps : List Pass) (old new : Pass) → 0 < length ps → old ≡ get_or ps 0 old → (part new).steps ≡ (part old).steps → AreUnused (map (λ p. part p) ps) → AreUnused (map (λ p. part p) (slice_set ps 0 new))
unused_first ps old new some first same unused =
    let each : All (λ (p : Pass). (part p).steps ≡ []) ps = All-from_recursion (λ (p : Pass). (part p).steps ≡ []) ps (each_unused ps (recursion_from_All (λ (h : Part). h.steps ≡ []) (map (λ p. part p) ps) unused)) in
    let none : (part new).steps ≡ [] = same ∙ ap (λ (p : Pass). (part p).steps) first ∙ each 0 old some in
    All-map (λ (h : Part). h.steps ≡ []) (λ p. part p) (slice_set ps 0 new) (All-set (λ (p : Pass). (part p).steps ≡ []) ps 0 new none each)

-- and none was cut off of passes that have made none
pub unused_calm : (parts : List Part) → AreUnused parts → All IsCalm parts
unused_calm parts unused = λ k d low.
    let h = get_or parts k d in
    subst (λ (l : List Note). All (λ call. was_cut call.1 ≡ false) (told (shape_of_sizes h.sizes) l)) (sym (unused k d low)) (All-from_recursion (λ call. was_cut call.1 ≡ false) [] tt)

-- calls that a history shows as these of a pass's own, none of which was cut off, show none that was
none_own : (i : ℕ) (calls : List SeenCall) (own : List (Command × Option Reply)) → map unnumbered calls ≡ map shown own → AllByRecursion (λ call. was_cut call.1 ≡ false) own → HasCut i calls → ⊥
none_own i [] own same calm has = has
none_own i (call ∷ calls) [] same calm has = absurd cc
none_own i (call ∷ calls) (mine ∷ own) same calm has =
    ⊎_elim (λ here. cut_of mine.1 calm.0 (ap (λ (e : Option Ending). is_cut e) (sym ending) ∙ here.1)) (none_own i calls own rest calm.1) has
  where
    first : unnumbered call ≡ shown mine
    first = cc

    ending : call.ending ≡ ending_in mine.1
    ending = ap (λ (x : Command × Option Ending). x.1) first

    rest : map unnumbered calls ≡ map shown own
    rest = cc

    cut_of : (reply : Option Reply) → was_cut reply ≡ false → is_cut (ending_in reply) ≡ true → ⊥
    cut_of None calm cut = true≢false (sym cut)
    cut_of (Some Halted) calm cut = true≢false calm
    cut_of (Some failed_device) calm cut = true≢false calm
    cut_of (Some reply) calm cut = absurd cc

-- a pass has its part's number
same_number : (b : BoardId) (k : ℕ) (ps : List Pass) → AllByRecursion (IsOf b) ps → list_any (λ (p : Pass). p.number == k) ps ≡ list_any (λ (h : Part). h.number == k) (map (λ p. part p) ps)
same_number b k [] of = refl
same_number b k (p ∷ ps) of =
    ap (λ (n : ℕ). (n == k) || list_any (λ (q : Pass). q.number == k) ps) of.0.2.number ∙ ap (λ (r : Bool). ((part p).number == k) || r) (same_number b k ps of.1)

-- so the parts have each number, or not
module _ (b : BoardId) (ps : List Pass) (of : All (IsOf b) ps) where
  abbrev parts : List Part
  parts = map (λ p. part p) ps

  are_all : ((k : ℕ) → 1 ≤ k → k ≤ b.sizes.passes → list_any (λ (p : Pass). p.number == k) ps ≡ true) → AreAllPasses b parts
  are_all each = λ k low high. found k (Any-from_list_any (λ (h : Part). h.number == k) parts (sym (same_number b k ps (recursion_from_All (IsOf b) ps of)) ∙ each k low high))
    where
      found : (k : ℕ) → Any (λ (h : Part). (h.number == k) ≡ true) parts → Any (λ (h : Part). h.number ≡ k) parts
      found k (j, h, low, at, same) = (j, h, low, at, eqb-true h.number k same)

  not_all : ((k : ℕ) × (1 ≤ k) × (k ≤ b.sizes.passes) × (list_any (λ (p : Pass). p.number == k) ps ≡ false)) → ¬ AreAllPasses b parts
  not_all (k, low, high, none) = λ all. true≢false (sym (list_any-from_Any (λ (h : Part). h.number == k) parts (found (all k low high))) ∙ (sym (same_number b k ps (recursion_from_All (IsOf b) ps of)) ∙ none))
    where
      found : Any (λ (h : Part). h.number ≡ k) parts → Any (λ (h : Part). (h.number == k) ≡ true) parts
      found (j, h, at_last, at, same) = (j, h, at_last, at, eq-eqb h.number k same)

module _ (b : BoardId) (first disk : Device) (ps : List Pass) (of : All (IsOf b) ps) (met : List Part) (left : IsLeftWith b first disk (parts b ps of) met) where
  abbrev shape : Shape
  shape = shape_of_sizes b.sizes

  abbrev marks : History
  marks = marks_in shape left.notes

  abbrev seen_at_last : Trace
  seen_at_last = trace_of b.opened left.notes

  -- where one of the passes saw the halt, the device has failed, or has made its last sync
  halt_left : Any SawHalt ps → (last_sync ≤ left.left.yard.vault.syncs) ⊎ (first.faults < disk.faults)
  halt_left (k, p, low, at, saw) =
      let here : k < length (parts b ps of) = subst (λ (n : ℕ). k < n) (sym (length-map ps (λ p. part p))) low in
      let same = get_or-map (λ (p : Pass). part p) ps k p (part p) low ∙ ap (λ (p : Pass). part p) at in
      let since = subst (λ (h : Part). Extends seen_at_last h.known) same (left.since k (part p) here) in
      left.left.over (halt_since (part p).known seen_at_last since saw)

  -- a pass none of whose calls was cut off has none in the history that was
  own_cut : All (λ p. IsCalm (part p)) ps → (c : IsCutIn b.sizes.passes marks) → Any (λ (h : Part). h.number ≡ c.p) (parts b ps of) → ⊥
  own_cut calm c (k, h, low, at, number) =
      let hs = parts b ps of in
      let here : k < length (map (knowing seen_at_last) hs) = subst (λ (n : ℕ). k < n) (sym (length-map hs (knowing seen_at_last))) low in
      let met_here : IsWelcome b left.notes (get_or (map (knowing seen_at_last) hs) k (knowing seen_at_last h)) = subst (All (IsWelcome b left.notes)) left.seen left.welcome k (knowing seen_at_last h) here in
      let same : get_or (map (knowing seen_at_last) hs) k (knowing seen_at_last h) ≡ knowing seen_at_last h = get_or-map (knowing seen_at_last) hs k h (knowing seen_at_last h) low ∙ ap (knowing seen_at_last) at in
      let welcome : IsWelcome b left.notes (knowing seen_at_last h) = subst (IsWelcome b left.notes) same met_here in
      let calm_here : IsCalm h = subst IsCalm at (All-map IsCalm (λ p. part p) ps calm k h low) in
      let sized : h.sizes ≡ b.sizes = subst (λ (g : Part). g.sizes ≡ b.sizes) at (All-map (λ (g : Part). g.sizes ≡ b.sizes) (λ p. part p) ps (λ j d below. (of j d below).2.sized) k h low) in
      let own = subst (λ (q : ℕ). map unnumbered (calls_of q marks) ≡ map shown (told shape h.steps)) number welcome.own in
      let none = subst (λ (z : Sizes). All (λ call. was_cut call.1 ≡ false) (told (shape_of_sizes z) h.steps)) sized calm_here in
      none_own c.i (calls_of c.p marks) (told shape h.steps) own (recursion_from_All (λ call. was_cut call.1 ≡ false) (told shape h.steps) none) c.cut

  -- where each pass is among them, no call of any was cut off
  none_cut : AreAllPasses b (parts b ps of) → All (λ p. IsCalm (part p)) ps → NoneIsCut marks
  none_cut all calm = ⊎_elim (λ none. none) (λ c. absurd (own_cut calm c (all c.p c.low c.high))) (cut_in b.sizes.passes marks left.left.told left.left.passes)

  module _ (halted unserved all : Bool) (long : length ps ≡ b.sizes.passes) (seen : halted ≡ true → Any SawHalt ps) (calm : halted ≡ false → All (λ p. IsCalm (part p)) ps) (new : unserved ≡ true → AreUnused (parts b ps of)) where
    pub served_passes : (status : Status) → (all ≡ true → (k : ℕ) → 1 ≤ k → k ≤ b.sizes.passes → list_any (λ (p : Pass). p.number == k) ps ≡ true)
        → (all ≡ false → (k : ℕ) × (1 ≤ k) × (k ≤ b.sizes.passes) × (list_any (λ (p : Pass). p.number == k) ps ≡ false)) → (status ≡ Done → (halted ≡ false) × (all ≡ true))
        → (status ≡ Failed → (halted ≡ true) ⊎ ((unserved ≡ true) ⊎ (all ≡ false))) → (status ≡ Done) ⊎ (status ≡ Failed) → ServedPasses b first status disk
    served_passes status each none done failed other = record {
      ended = parts b ps of;
      met = met;
      left = left;
      count = length-map ps (λ p. part p) ∙ long;
      whole = λ is. let whole = are_all b ps of (each (done is).1) in (whole, none_cut whole (calm (done is).0));
      failed = λ is. ⊎_elim (λ h. inr (inr (halt_left (seen h)))) (⊎_elim (λ u. inr (inl (new u))) (λ some. inl (not_all b ps of (none some)))) (failed is);
      other = other;
    }
