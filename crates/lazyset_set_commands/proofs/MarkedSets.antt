-- What the keys that were found in a file tell of its marks, and what is left of it before a service.
use Rattle.lazyset_set_commands.specs.declared.marks.Step.TheVariants as step
use Rattle.std.proofs.Common.{◌≡◌, ◌⊎◌, inl, inr, ⊎_elim, ℕ, ◌≤◌, Bool, true, false, not, ◌&&◌, ◌==◌, List, Option, None, Some, Ok, IsTrue, refl, sym, ap, ◌∙◌}
use Rattle.std.proofs.{Common.{subst, arith, if◌then◌else◌}, lemmas.Bool.{cases_Bool, cond_both, eqb-true, Decides.{nat_tests}}}
use mathlib.Core.Bool.{true≢false}
use Rattle.lz_slot.specs.{Sets.{Keys}, Bytes.{Holds}}
use Rattle.lz_disk.{specs.{Images.{Medium, IsImage, synced}, Devices.{Device, IsTimely}}, proofs.{Moments.{leaves_more, leaves_then}, Writes.{synced_image}}}
use Rattle.lz_vault.specs.{Opens.{IsFaultOf, IsRefusedFor}, Renewals.{OnlySyncs}, declared.opening.OpenFault.{OpenFault}}
use Rattle.lazyset_file_commands.specs.{Marks.{texts_mark}, Tellings.{Tells}, declared.status.Status.{Status, TheVariants.{Refused}}}
use Rattle.lazyset_set_commands.specs.Founds.{HasNoForeign, HasNone, HasOne, IsBare, IsFoundOf, Says, TellsFound, is_foreign, is_further, is_other, is_secret}
use Rattle.lazyset_set_commands.specs.{Runs.{EachHolds}, Services.{RefusedService}, declared.{found.Found.{Found}, marks.{Step.{Step}, Wanted.{Wanted}}}}
use Rattle.lazyset_set_commands.specs.{declared.marks.Wanted.TheVariants.{Anything, Numbers, Texts, OlderTexts, Secret}, Marks.{FitsFor, HoldsSome, IsFit}}
use Rattle.lazyset_set_commands.specs.Marks.{Leaves, MarksFailed, NotBegun, OfSet, SealFailed, SurelyHolds, TellsOther, marked, othernumbers_line}
use Rattle.lazyset_set_commands.specs.Marks.{othersecret_line, othertext_line, own_of, sealed, secret_step, step_for, unless_other, with_mark}
use Rattle.lazyset_set_commands.proofs.{Openings.{opening_leaves, unwritten}, Runs.PlainRows.{same_is}}

-- no key is in the way, as far as that was found
abbrev Neither : Found → Type 0
Neither f = (f.foreign ≡ false) × (f.secret ≡ false)

-- what a step tells of what was found
abbrev Told : Wanted → Step → Found → Type 0
Told Anything step.Serve f = Unit {0}
Told Numbers step.Serve f = f.mark ≡ false
Told Numbers step.OtherText f = f.mark ≡ true
Told Texts step.Serve f = Neither f × (f.mark ≡ true)
Told Texts step.Mark f = f.bare ≡ true
Told Texts step.OtherNumbers f = (f.foreign ≡ true) ⊎ ((f.mark ≡ false) × (f.bare ≡ false))
Told Texts step.OtherSecret f = f.secret ≡ true
Told OlderTexts step.Serve f = Neither f × (f.mark ≡ true)
Told OlderTexts step.Mark f = Neither f
Told OlderTexts step.OtherNumbers f = f.foreign ≡ true
Told OlderTexts step.OtherSecret f = f.secret ≡ true
Told (Secret m) step.Serve f = Neither f × (f.mark ≡ true) × (f.own ≡ true)
Told (Secret m) step.Mark f = f.bare ≡ true
Told (Secret m) step.Secret f = (f.bare ≡ true) × (f.mark ≡ true)
Told (Secret m) step.OtherNumbers f = (f.foreign ≡ true) ⊎ ((f.mark ≡ false) × ((f.own ≡ true) ⊎ ((f.own ≡ false) × (f.bare ≡ false))))
Told (Secret m) step.OtherSecret f = (f.secret ≡ true) ⊎ ((f.mark ≡ true) × (f.own ≡ false) × (f.bare ≡ false))
Told wanted other f = ⊥

unless_told : (wanted : Wanted) (f : Found) (next : Step) → (f.foreign ≡ true → Told wanted step.OtherNumbers f) → (f.secret ≡ true → Told wanted step.OtherSecret f) → (Neither f → Told wanted next f)
    → Told wanted (unless_other f next) f
unless_told wanted f next foreign secret go =
    let P : Step → Type 0 = λ s. Told wanted s f in
    cond_both f.foreign step.OtherNumbers (if f.secret then step.OtherSecret else next) P foreign (λ none. cond_both f.secret step.OtherSecret next P secret (λ no. go (none, no)))

secret_told : (m : ℕ) (f : Found) (mark own bare : Bool) → f.mark ≡ mark → f.own ≡ own → f.bare ≡ bare → Neither f → Told (Secret m) (secret_step mark own bare) f
secret_told m f true true bare a b c go = (go, a, b)
secret_told m f true false true a b c go = (c, a)
secret_told m f true false false a b c go = inr (a, b, c)
secret_told m f false true bare a b c go = inr (a, inl b)
secret_told m f false false true a b c go = c
secret_told m f false false false a b c go = inr (a, inr (b, c))

tells : (wanted : Wanted) (f : Found) → Told wanted (step_for wanted f) f
tells Anything f = tt
tells Numbers f = cond_both f.mark step.OtherText step.Serve (λ s. Told Numbers s f) (λ is. is) (λ is. is)
tells Texts f = unless_told Texts f (if f.mark then step.Serve else if f.bare then step.Mark else step.OtherNumbers) inl (λ is. is) (λ go.
    let P : Step → Type 0 = λ s. Told Texts s f in
    cond_both f.mark step.Serve (if f.bare then step.Mark else step.OtherNumbers) P (λ is. (go, is)) (λ no.
    cond_both f.bare step.Mark step.OtherNumbers P (λ is. is) (λ some. inr (no, some))))
tells OlderTexts f = unless_told OlderTexts f (if f.mark then step.Serve else step.Mark) (λ is. is) (λ is. is) (λ go.
    cond_both f.mark step.Serve step.Mark (λ s. Told OlderTexts s f) (λ is. (go, is)) (λ no. go))
tells (Secret m) f = unless_told (Secret m) f (secret_step f.mark f.own f.bare) inl inl (secret_told m f f.mark f.own f.bare refl refl refl)

told : (wanted : Wanted) (f : Found) (s : Step) → step_for wanted f ≡ s → Told wanted s f
told wanted f s is = subst (λ (x : Step). Told wanted x f) is (tells wanted f)

-- what is said by a flag that is up or down
up : (test : ℕ → Bool) (S : Keys) (b : Bool) → Says b test S → b ≡ true → HasOne test S
up test S b says is = subst (λ (x : Bool). Says x test S) is says

down : (test : ℕ → Bool) (S : Keys) (b : Bool) → Says b test S → b ≡ false → HasNone test S
down test S b says is = subst (λ (x : Bool). Says x test S) is says

no_other : (a b : Bool) → (a && not b) ≡ false → b ≡ false → a ≡ false
no_other true true is none = none
no_other true false is none = is
no_other false b is none = refl

was_so : (b : Bool) → not b ≡ false → b ≡ true
was_so true is = refl
was_so false is = sym is

module _ (own : Option ℕ) (S : Keys) (f : Found) (is : IsFoundOf own S f) where
  no_foreign : Neither f → HasNoForeign own S
  no_foreign none k has = no_other (is_other own k) (is_secret own k) (down (is_foreign own) S f.foreign is.foreign none.0 k has) (down (is_secret own) S f.secret is.secret none.1 k has)

  is_bare : f.bare ≡ true → IsBare S
  is_bare bare = down is_further S (not f.bare) is.bare (ap not bare)

  some_further : f.bare ≡ false → HasOne is_further S
  some_further none = up is_further S (not f.bare) is.bare (ap not none)

-- of a set without other keys
module _ (S : Keys) (bare : IsBare S) where
  alone : (k : ℕ) → S k ≡ true → k ≡ texts_mark
  alone k has = eqb-true k texts_mark (was_so (k == texts_mark) (bare k has))

  none_beside : (own : Option ℕ) → HasNoForeign own S
  none_beside own k has = subst (λ (j : ℕ). is_other own j ≡ false) (sym (alone k has)) refl

  nobody : S texts_mark ≡ false → (k : ℕ) → S k ≡ false
  nobody none k = ⊎_elim (λ has. absurd (true≢false (sym has ∙ ap S (alone k has) ∙ none))) (λ no. no) (cases_Bool (S k))

-- a set that has a mark stays as it is with it
has_already : (m : ℕ) (S : Keys) → S m ≡ true → with_mark m S ≡ S
has_already m S has = same_is (with_mark m S) S (λ k. grind (arith, nat_tests, has))

-- a sync more, or a read
pub syncs_then : (old mid new : Device) → (IsTrue old.honest → IsTimely old) → OnlySyncs old mid → (IsTrue old.honest → mid.medium ≡ synced old.medium) → OnlySyncs mid new → OnlySyncs old new
syncs_then old mid new timely first sure second = record {
  honest = second.honest ∙ first.honest;
  medium = λ honest. inr (later honest);
  time = λ honest. leaves_then old mid new _ (leaves_more old mid _ _ (λ t image. inl image) (opening_leaves old mid (timely honest) (first.medium honest) (first.time honest)))
      (leaves_more mid new _ _ (λ t either. ⊎_elim (λ image. inl (unwritten old mid (timely honest) (first.medium honest) t image)) inr either) (second.time (still honest)));
  faults = let a = first.faults in let b = second.faults in omega (arith, a, b);
}
  where
    still : IsTrue old.honest → IsTrue mid.honest
    still honest = subst IsTrue (sym first.honest) honest

    later : IsTrue old.honest → new.medium ≡ synced old.medium
    later honest = ⊎_elim (λ same. same ∙ sure honest) (λ is. is ∙ ap synced (sure honest)) (second.medium (still honest))

-- An open that was refused after such a sync was refused over the disk before it.
pub refused_then : (old mid new : Device) (fault : OpenFault) → (IsTrue old.honest → IsTimely old) → OnlySyncs old mid → (IsTrue old.honest → mid.medium ≡ synced old.medium) → ¬ old.must_fail → IsRefusedFor mid new fault → IsRefusedFor old new fault
refused_then old mid new fault timely first sure free refused =
    let all = syncs_then old mid new timely first sure (record { honest = refused.honest; medium = refused.medium; time = refused.time; faults = refused.faults }) in
    record {
      honest = all.honest;
      medium = all.medium;
      synced_first = λ honest other. refused.synced_first (still honest) other ∙ ap synced (sure honest);
      time = all.time;
      faults = all.faults;
      why = λ honest. subst (λ (m : Medium). IsFaultOf m.seen fault) (sure honest) (refused.why (still honest));
      cause = λ is. let a = first.faults in let b = refused.cause is in omega (arith, a, b);
      must = λ bound. absurd (free bound);
    }
  where
    still : IsTrue old.honest → IsTrue mid.honest
    still honest = subst IsTrue (sym first.honest) honest

-- A disk that holds no set is fit for each service: its open is refused.
pub none_fits : {D : Type 0} (device : D → Device) (old mid : D) (wanted : Wanted) → OnlySyncs (device old) (device mid) → ((N : ℕ) (S : Keys) → IsTrue (device old).honest → Holds (device old).medium.seen N S → ⊥) → IsFit device wanted old mid
none_fits device old mid wanted reads none = record { honest = reads.honest; faults = reads.faults; fits = λ N S honest holds. absurd (none N S honest holds) }

-- What was read is durable, and this was found of it.
pub record Scan {D : Type 0} (device : D → Device) (wanted : Wanted) (old mid : D) (found : Found) : Type 0 where
  pub reads : OnlySyncs (device old) (device mid)
  pub sure : IsTrue (device old).honest → (device mid).medium ≡ synced (device old).medium
  pub free : ¬ (device old).must_fail
  pub keys : (N : ℕ) (S : Keys) → IsTrue (device old).honest → Holds (device old).medium.seen N S → IsFoundOf (own_of wanted) S found

pub scan : {D : Type 0} (device : D → Device) (wanted : Wanted) (old mid : D) (found : Found) (own : Option ℕ) (field : Option Found) → own ≡ own_of wanted → OnlySyncs (device old) (device mid)
    → (IsTrue (device old).honest → (device mid).medium ≡ synced (device old).medium) → ¬ (device old).must_fail → field ≡ Some found
    → ((N : ℕ) (S : Keys) → IsTrue (device old).honest → Holds (device old).medium.seen N S → TellsFound own S (Ok field)) → Scan device wanted old mid found
scan device wanted old mid found own field is reads sure free same keys = record {
  reads = reads;
  sure = sure;
  free = free;
  keys = λ N S honest holds. subst (λ (o : Option ℕ). IsFoundOf o S found) is (subst (λ (x : Option Found). TellsFound own S (Ok x)) same (keys N S honest holds));
}

module _ {D : Type 0} (device : D → Device) (wanted : Wanted) (old mid : D) (found : Found) (s : Scan device wanted old mid found) where
  still : IsTrue (device old).honest → IsTrue (device mid).honest
  still honest = subst IsTrue (sym s.reads.honest) honest

  -- the disk surely holds the set still
  holds_still : (N : ℕ) (S : Keys) → IsTrue (device old).honest → Holds (device old).medium.seen N S → SurelyHolds (device mid).medium N S
  holds_still N S honest holds = (
    subst (λ (m : Medium). Holds m.seen N S) (sym (s.sure honest)) holds,
    λ t image. subst (λ (u : List ℕ). Holds u N S) (sym (synced_image (device old).medium t (subst (λ (m : Medium). IsImage m t) (s.sure honest) image))) holds,
  )

  held_with : (N : ℕ) (S T : Keys) → T ≡ S → IsTrue (device old).honest → Holds (device old).medium.seen N S → EachHolds (device mid).medium N T
  held_with N S T same honest holds = subst (λ (U : Keys). EachHolds (device mid).medium N U) (sym same) (holds_still N S honest holds).1

-- over a set with nothing but the mark of texts, what has that mark is fit for texts
bare_fits : {D : Type 0} (device : D → Device) (old new : D) (N : ℕ) (S : Keys) → IsBare S → EachHolds (device new).medium N (marked S) → FitsFor device Texts N S old new
bare_fits device old new N S bare each = (none_beside S bare None, ⊎_elim inl (λ none. inr (nobody S bare none)) (cases_Bool (S texts_mark)), each)

module _ {D : Type 0} (device : D → Device) (old mid : D) (found : Found) where
  serve_sets : (wanted : Wanted) → (wanted ≡ Anything → ⊥) → Scan device wanted old mid found → Told wanted step.Serve found → (N : ℕ) (S : Keys) → IsTrue (device old).honest → Holds (device old).medium.seen N S → FitsFor device wanted N S old mid
  serve_sets Anything other s tells N S honest holds = absurd (other refl)
  serve_sets Numbers other s tells N S honest holds = (sym (s.keys N S honest holds).mark ∙ tells, (holds_still device Numbers old mid found s N S honest holds).1)
  serve_sets Texts other s tells N S honest holds =
      let is = s.keys N S honest holds in
      let has : S texts_mark ≡ true = sym is.mark ∙ tells.1 in
      (no_foreign None S found is tells.0, inl has, held_with device Texts old mid found s N S (marked S) (has_already texts_mark S has) honest holds)
  serve_sets OlderTexts other s tells N S honest holds =
      let is = s.keys N S honest holds in
      let has : S texts_mark ≡ true = sym is.mark ∙ tells.1 in
      (no_foreign None S found is tells.0, held_with device OlderTexts old mid found s N S (marked S) (has_already texts_mark S has) honest holds)
  serve_sets (Secret m) other s tells N S honest holds =
      let is = s.keys N S honest holds in
      let has : S texts_mark ≡ true = sym is.mark ∙ tells.1 in
      let own : S m ≡ true = sym is.its_own ∙ tells.2 in
      let same : with_mark m (marked S) ≡ S = ap (with_mark m) (has_already texts_mark S has) ∙ has_already m S own in
      (no_foreign (Some m) S found is tells.0, inl (has, own), held_with device (Secret m) old mid found s N S (with_mark m (marked S)) same honest holds)

  pub serve_fits : (wanted : Wanted) → (wanted ≡ Anything → ⊥) → Scan device wanted old mid found → step_for wanted found ≡ step.Serve → IsFit device wanted old mid
  serve_fits wanted other s is = record { honest = s.reads.honest; faults = s.reads.faults; fits = serve_sets wanted other s (told wanted found step.Serve is) }

  -- the marks were added that were wanting
  module _ (new : D) where
    mark_sets : (wanted : Wanted) (s : Scan device wanted old mid found) → Told wanted step.Mark found → Leaves device (λ S. sealed (own_of wanted) (marked S)) mid new
        → (N : ℕ) (S : Keys) → IsTrue (device old).honest → Holds (device old).medium.seen N S → FitsFor device wanted N S old new
    mark_sets Anything s tells left N S honest holds = absurd tells
    mark_sets Numbers s tells left N S honest holds = absurd tells
    mark_sets Texts s tells left N S honest holds =
        bare_fits device old new N S (is_bare None S found (s.keys N S honest holds) tells) (left.holds N S (still device Texts old mid found s honest) (holds_still device Texts old mid found s N S honest holds)).1
    mark_sets OlderTexts s tells left N S honest holds =
        let is = s.keys N S honest holds in
        (no_foreign None S found is tells, (left.holds N S (still device OlderTexts old mid found s honest) (holds_still device OlderTexts old mid found s N S honest holds)).1)
    mark_sets (Secret m) s tells left N S honest holds =
        let bare = is_bare (Some m) S found (s.keys N S honest holds) tells in
        (none_beside S bare (Some m), inr bare, (left.holds N S (still device (Secret m) old mid found s honest) (holds_still device (Secret m) old mid found s N S honest holds)).1)

    pub mark_fits : (wanted : Wanted) (own : Option ℕ) → own ≡ own_of wanted → Scan device wanted old mid found → step_for wanted found ≡ step.Mark → Leaves device (λ S. sealed own (marked S)) mid new → IsFit device wanted old new
    mark_fits wanted own is s to left = record {
      honest = left.honest ∙ s.reads.honest;
      faults = let one = s.reads.faults in let two = left.faults in omega (arith, one, two);
      fits = mark_sets wanted s (told wanted found step.Mark to) (subst (λ (o : Option ℕ). Leaves device (λ S. sealed o (marked S)) mid new) is left);
    }

    seal_sets : (wanted : Wanted) (s : Scan device wanted old mid found) → Told wanted step.Secret found → Leaves device (sealed (own_of wanted)) mid new
        → (N : ℕ) (S : Keys) → IsTrue (device old).honest → Holds (device old).medium.seen N S → FitsFor device wanted N S old new
    seal_sets Anything s tells left N S honest holds = absurd tells
    seal_sets Numbers s tells left N S honest holds = absurd tells
    seal_sets Texts s tells left N S honest holds = absurd tells
    seal_sets OlderTexts s tells left N S honest holds = absurd tells
    seal_sets (Secret m) s tells left N S honest holds =
        let is = s.keys N S honest holds in
        let bare = is_bare (Some m) S found is tells.0 in
        let same : marked S ≡ S = has_already texts_mark S (sym is.mark ∙ tells.1) in
        let each = left.holds N S (still device (Secret m) old mid found s honest) (holds_still device (Secret m) old mid found s N S honest holds) in
        (none_beside S bare (Some m), inr bare, subst (λ (T : Keys). EachHolds (device new).medium N (with_mark m T)) (sym same) each.1)

    pub seal_fits : (wanted : Wanted) (own : Option ℕ) → own ≡ own_of wanted → Scan device wanted old mid found → step_for wanted found ≡ step.Secret → Leaves device (sealed own) mid new → IsFit device wanted old new
    seal_fits wanted own is s to left = record {
      honest = left.honest ∙ s.reads.honest;
      faults = let one = s.reads.faults in let two = left.faults in omega (arith, one, two);
      fits = seal_sets wanted s (told wanted found step.Secret to) (subst (λ (o : Option ℕ). Leaves device (sealed o) mid new) is left);
    }

  -- a mark wasn't added
  module _ (new : D) (status : Status) (before after : Option (List ℕ)) where
    unsealed : (wanted : Wanted) (s : Scan device wanted old mid found) → ((m : ℕ) → wanted ≡ Secret m → found.bare ≡ true) → (partly : D) → (device partly).honest ≡ (device old).honest → (device old).faults ≤ (device partly).faults
        → ((N : ℕ) (S : Keys) → IsTrue (device old).honest → Holds (device old).medium.seen N S → IsBare S → EachHolds (device partly).medium N (marked S))
        → SealFailed device (own_of wanted) status before after partly new → NotBegun device wanted status before after old new
    unsealed Anything s bare partly honest faults each failed = absurd failed
    unsealed Numbers s bare partly honest faults each failed = absurd failed
    unsealed Texts s bare partly honest faults each failed = absurd failed
    unsealed OlderTexts s bare partly honest faults each failed = absurd failed
    unsealed (Secret m) s bare partly honest faults each failed =
        let sets : OfSet (device old) IsBare = λ N S honest holds. is_bare (Some m) S found (s.keys N S honest holds) (bare m refl) in
        let fits : IsFit device Texts old partly = record { honest = honest; faults = faults; fits = λ N S honest holds. let only = sets N S honest holds in bare_fits device old partly N S only (each N S honest holds only) } in
        inr (inr (inr (partly, fits, sets, failed)))

    pub marks_failed : (wanted : Wanted) (own : Option ℕ) → own ≡ own_of wanted → Scan device wanted old mid found → step_for wanted found ≡ step.Mark → MarksFailed device own status before after mid new → NotBegun device wanted status before after old new
    marks_failed wanted own is s to failed = ⊎_elim
        (λ first. inr (inr (inl (mid, s.reads, first))))
        (λ second.
        let left = second.1 in
        unsealed wanted s (bare wanted (told wanted found step.Mark to)) second.0 (left.honest ∙ s.reads.honest) (let one = s.reads.faults in let two = left.faults in omega (arith, one, two))
        (λ N S honest holds only. (left.holds N S (still device wanted old mid found s honest) (holds_still device wanted old mid found s N S honest holds)).1)
        (subst (λ (o : Option ℕ). SealFailed device o status before after second.0 new) is second.2))
        failed
      where
        bare : (wanted : Wanted) → Told wanted step.Mark found → (m : ℕ) → wanted ≡ Secret m → found.bare ≡ true
        bare (Secret m) tells n same = tells
        bare other tells n same = absurd cc

    pub seal_failed : (wanted : Wanted) (own : Option ℕ) → own ≡ own_of wanted → Scan device wanted old mid found → step_for wanted found ≡ step.Secret → SealFailed device own status before after mid new → NotBegun device wanted status before after old new
    seal_failed wanted own is s to failed =
        let tells = marks wanted (told wanted found step.Secret to) in
        unsealed wanted s (λ m same. tells.0) mid s.reads.honest s.reads.faults
        (λ N S honest holds only. held_with device wanted old mid found s N S (marked S) (has_already texts_mark S (sym (s.keys N S honest holds).mark ∙ tells.1)) honest holds)
        (subst (λ (o : Option ℕ). SealFailed device o status before after mid new) is failed)
      where
        marks : (wanted : Wanted) → Told wanted step.Secret found → (found.bare ≡ true) × (found.mark ≡ true)
        marks (Secret m) tells = tells
        marks other tells = absurd tells

    -- the keys are of another kind, or an open would be refused
    pub told_other : (wanted : Wanted) (s : Scan device wanted old mid found) → (IsTrue (device old).honest → IsTimely (device old)) → (line : List ℕ) → TellsOther wanted line (device old)
        → (Tells before after line Refused status × OnlySyncs (device mid) (device new) × (IsTrue (device mid).honest → HoldsSome (device mid).medium.seen)) ⊎ RefusedService device status before after mid new
        → NotBegun device wanted status before after old new
    told_other wanted s timely line why ended = ⊎_elim
        (λ other. inr (inl (record {
          line = line;
          why = why;
          sound = λ honest. subst (λ (x : Medium). HoldsSome x.seen) (s.sure honest) (other.2 (still device wanted old mid found s honest));
          told = other.0;
          reads = syncs_then (device old) (device mid) (device new) timely s.reads s.sure other.1;
        })))
        (λ refused. inl (record {
          fault = refused.fault;
          refused = refused_then (device old) (device mid) (device new) refused.fault timely s.reads s.sure s.free refused.refused;
          told = refused.told;
        }))
        ended

  text_sets : (wanted : Wanted) → Scan device wanted old mid found → Told wanted step.OtherText found → TellsOther wanted othertext_line (device old)
  text_sets Numbers s tells = (refl, λ N S honest holds. sym (s.keys N S honest holds).mark ∙ tells)
  text_sets other s tells = absurd tells

  numbers_sets : (wanted : Wanted) → Scan device wanted old mid found → Told wanted step.OtherNumbers found → TellsOther wanted othernumbers_line (device old)
  numbers_sets Anything s tells = absurd tells
  numbers_sets Numbers s tells = absurd tells
  numbers_sets Texts s tells = inl (
    refl,
    λ N S honest holds.
        let is = s.keys N S honest holds in
        ⊎_elim (λ some. inl (up (is_foreign None) S found.foreign is.foreign some)) (λ none. inr (sym is.mark ∙ none.0, some_further None S found is none.1)) tells,
  )
  numbers_sets OlderTexts s tells = inl (refl, λ N S honest holds. up (is_foreign None) S found.foreign (s.keys N S honest holds).foreign tells)
  numbers_sets (Secret m) s tells = inl (
    refl,
    λ N S honest holds.
        let is = s.keys N S honest holds in
        ⊎_elim
        (λ some. inl (up (is_foreign (Some m)) S found.foreign is.foreign some))
        (λ none. inr (sym is.mark ∙ none.0, ⊎_elim (λ own. inl (sym is.its_own ∙ own)) (λ no. inr (sym is.its_own ∙ no.0, some_further (Some m) S found is no.1)) none.1))
        tells,
  )

  secret_sets : (wanted : Wanted) → Scan device wanted old mid found → Told wanted step.OtherSecret found → TellsOther wanted othersecret_line (device old)
  secret_sets Anything s tells = absurd tells
  secret_sets Numbers s tells = absurd tells
  secret_sets Texts s tells = inr (refl, λ N S honest holds. up (is_secret None) S found.secret (s.keys N S honest holds).secret tells)
  secret_sets OlderTexts s tells = inr (refl, λ N S honest holds. up (is_secret None) S found.secret (s.keys N S honest holds).secret tells)
  secret_sets (Secret m) s tells = inr (
    refl,
    λ N S honest holds.
        let is = s.keys N S honest holds in
        ⊎_elim
        (λ some. inl (up (is_secret (Some m)) S found.secret is.secret some))
        (λ none. inr (sym is.mark ∙ none.0, sym is.its_own ∙ none.1, some_further (Some m) S found is none.2))
        tells,
  )

  pub text_why : (wanted : Wanted) → Scan device wanted old mid found → step_for wanted found ≡ step.OtherText → TellsOther wanted othertext_line (device old)
  text_why wanted s to = text_sets wanted s (told wanted found step.OtherText to)

  pub numbers_why : (wanted : Wanted) → Scan device wanted old mid found → step_for wanted found ≡ step.OtherNumbers → TellsOther wanted othernumbers_line (device old)
  numbers_why wanted s to = numbers_sets wanted s (told wanted found step.OtherNumbers to)

  pub secret_why : (wanted : Wanted) → Scan device wanted old mid found → step_for wanted found ≡ step.OtherSecret → TellsOther wanted othersecret_line (device old)
  secret_why wanted s to = secret_sets wanted s (told wanted found step.OtherSecret to)
