-- What is found in the slots of a file is what its set has.
use Rattle.lz_slot.specs.declared.slot.SlotRead.TheVariants as read
use Rattle.std.proofs.Common.{◌≡◌, ◌⊎◌, inl, inr, ⊎_elim, ℕ, zero, suc, ◌+◌, ◌*◌, ◌<◌, Bool, true, false, not, ◌&&◌, ◌||◌, ◌==◌, refl, sym, ap, ◌∙◌, subst}
use Rattle.std.proofs.Common.{arith, List, ◌∷◌, length, take, Ok, Err, Option, None, Some, IsTrue, eq-eqb}
use Rattle.std.proofs.lemmas.Bool.{cases_Bool, cases_eq, eqb-true, or_cases}
use mathlib.Core.Bool.{true≢false, false≢true}
use Rattle.lz_slot.specs.{Sets.{Keys}, Bytes.{Holds, format_of, header_body, header_read, open_byte, slot_at}, declared.header.HeaderFault.{HeaderFault}}
use Rattle.lz_slot.{specs.declared.slot.SlotRead.{SlotRead}, proofs.Files.ExactBytes.{header_reads_back}}
use Rattle.lz_disk.{specs.{Images.{Medium, synced}, Devices.{Device, IsCall, IsTimely}}, proofs.Moments.{leaves_more}}
use Rattle.lz_vault.specs.{Opens.{IsRefusedFor}, Renewals.{OnlySyncs}, Scans.{OnlyReads}, Vaults.{LeavesEither}}
use Rattle.lz_vault.{specs.declared.opening.OpenFault.TheVariants.{Device as DeviceFailed, Memory}, proofs.Openings.{call_reads, read_before, refused}}
use Rattle.lazyset_file_commands.specs.Marks.{texts_mark}
use Rattle.lazyset_set_commands.specs.Founds.{IsFoundOf, Says, found_below, has_own, is_foreign, is_further, is_own, is_secret, with_key, with_slot}
use Rattle.lazyset_set_commands.specs.declared.found.Found.{Found}

or_first : (a b : Bool) → a ≡ true → (a || b) ≡ true
or_first a b is = rw is refl

or_second : (a b : Bool) → b ≡ true → (a || b) ≡ true
or_second true b is = refl
or_second false b is = is

-- a flag of what was found is raised by a key that passes its test
module _ (own : Option ℕ) (flag : Found → Bool) (test : ℕ → Bool) (raised : (f : Found) (k : ℕ) → flag (with_key own f k) ≡ (flag f || test k)) where
  keeps : (f : Found) (r : SlotRead) → flag f ≡ true → flag (with_slot own f r) ≡ true
  keeps f (read.Member k) is = raised f k ∙ or_first (flag f) (test k) is
  keeps f _ is = is

  came : (f : Found) (r : SlotRead) → flag (with_slot own f r) ≡ true → (flag f ≡ true) ⊎ ((k : ℕ) × (r ≡ read.Member k) × (test k ≡ true))
  came f (read.Member k) is = ⊎_elim inl (λ here. inr (k, refl, here)) (or_cases (flag f) (test k) (sym (raised f k) ∙ is))
  came f _ is = inl is

  module _ (says : ℕ → SlotRead) (down : flag (found_below own says 0) ≡ false) where
    abbrev below : ℕ → Found
    below n = found_below own says n

    hit : (n i k : ℕ) → i < n → says i ≡ read.Member k → test k ≡ true → flag (below n) ≡ true
    hit zero i k low is this = absurd (omega (arith, low))
    hit (suc n) i k low is this = ⊎_elim
        (λ last. subst (λ (r : SlotRead). flag (with_slot own (below n) r) ≡ true) (sym is ∙ ap says last) (raised (below n) k ∙ or_second (flag (below n)) (test k) this))
        (λ other. keeps (below n) (says n) (hit n i k (omega (arith, low, other)) is this)) (cases_eq i n)

    from : (n : ℕ) → flag (below n) ≡ true → (i : ℕ) × (k : ℕ) × (i < n) × (says i ≡ read.Member k) × (test k ≡ true)
    from zero is = absurd (true≢false (sym is ∙ down))
    from (suc n) is = ⊎_elim
        (λ before. let at = from n before in (at.0, at.1, omega (arith, at.2), at.3, at.4))
        (λ here. (n, here.0, omega arith, here.1, here.2)) (came (below n) (says n) is)

  -- and says of the set of a file whether it has such a key
  flag_says : (t : List ℕ) (N : ℕ) (S : Keys) → Holds t N S → flag (found_below own (slot_at t) 0) ≡ false → Says (flag (found_below own (slot_at t) N)) test S
  flag_says t N S holds down = ⊎_elim
      (λ up. let at = from (slot_at t) down N up in
      subst (λ (b : Bool). Says b test S) (sym up) (at.1, (holds.set at.1).1 (at.0, at.2, at.3), at.4))
      (λ no. subst (λ (b : Bool). Says b test S) (sym no) (λ k has.
      let at = (holds.set k).0 has in
      ⊎_elim (λ yes. absurd (true≢false (sym (hit (slot_at t) down N at.0 k at.1 at.2 yes) ∙ no))) (λ none. none) (cases_Bool (test k))))
      (cases_Bool (flag (found_below own (slot_at t) N)))

-- what is said of one key is whether the set has it
one_says : (b : Bool) (m : ℕ) (S : Keys) → Says b (λ k. k == m) S → b ≡ S m
one_says true m S says = sym (subst (λ (j : ℕ). S j ≡ true) (eqb-true says.0 m says.2) says.1)
one_says false m S says = ⊎_elim (λ has. absurd (true≢false (sym (eq-eqb m m refl) ∙ says m has))) (λ none. sym none) (cases_Bool (S m))

own_says : (own : Option ℕ) (b : Bool) (S : Keys) → Says b (is_own own) S → b ≡ has_own own S
own_says (Some m) b S says = one_says b m S says
own_says None true S says = absurd (false≢true says.2)
own_says None false S says = refl

not_both : (a b : Bool) → not (a && b) ≡ (not a || not b)
not_both true b = refl
not_both false b = refl

module _ (own : Option ℕ) (t : List ℕ) (N : ℕ) (S : Keys) (holds : Holds t N S) where
  found_of_set : IsFoundOf own S (found_below own (slot_at t) N)
  found_of_set = record {
    mark = one_says _ texts_mark S (flag_says own (λ (f : Found). f.mark) (λ (k : ℕ). k == texts_mark) (λ f k. refl) t N S holds refl);
    its_own = own_says own _ S (flag_says own (λ (f : Found). f.own) (is_own own) (λ f k. refl) t N S holds refl);
    secret = flag_says own (λ (f : Found). f.secret) (is_secret own) (λ f k. refl) t N S holds refl;
    foreign = flag_says own (λ (f : Found). f.foreign) (is_foreign own) (λ f k. refl) t N S holds refl;
    bare = flag_says own (λ (f : Found). not f.bare) is_further (λ f k. not_both f.bare (k == texts_mark)) t N S holds refl;
  }

  -- so many slots were looked at
  pub found_of_file : (slots : ℕ) (found : Found) → length t ≡ 16 + 16 * slots → found ≡ found_below own (slot_at t) slots → IsFoundOf own S found
  found_of_file slots found size is =
      let long = holds.size in
      let same : slots ≡ N = omega (arith, size, long) in
      subst (IsFoundOf own S) (sym (is ∙ ap (found_below own (slot_at t)) same)) found_of_set

-- its head is read
module _ (t : List ℕ) (N : ℕ) (S : Keys) (holds : Holds t N S) where
  head : header_read (take 16 t) (length t) ≡ Ok N
  head = ap (λ (l : List ℕ). header_read l (length t)) holds.head ∙ ap (header_read (open_byte ∷ header_body (format_of t) N)) holds.size ∙ (header_reads_back (format_of t) N holds.count.0 holds.count.1).0

  pub head_holds : (fault : HeaderFault) → header_read (take 16 t) (length t) ≡ Err fault → ⊥
  head_holds fault is = absurd (cc (head, is))

-- a sync that succeeded, and reads alone
pub looked : (old mid new : Device) (fault : Type 0) (timely : IsTrue old.honest → IsTimely old) (call : IsCall old mid fault) (done : ¬ fault) (is : IsTrue old.honest → mid.medium ≡ synced old.medium) (reads : OnlyReads mid new)
    → OnlySyncs old new × (IsTrue old.honest → new.medium ≡ synced old.medium) × (¬ old.must_fail)
looked old mid new fault timely call done is reads =
    let r = refused old mid new fault timely call done is reads Memory (λ honest. tt) (λ device. absurd cc) in
    (record { honest = r.honest; medium = r.medium; time = r.time; faults = r.faults }, λ honest. r.synced_first honest (λ device. absurd cc), λ bound. done (call.must bound))

-- a sync that failed
pub unsynced : (old new : Device) (fault : Type 0) → fault → (IsTrue old.honest → IsTimely old) → IsCall old new fault → (IsTrue old.honest → new.medium ≡ old.medium) → OnlySyncs old new × IsRefusedFor old new DeviceFailed
unsynced old new fault failed timely call same =
    let reads = call_reads old new fault timely call same in
    let time : IsTrue old.honest → LeavesEither old new = λ honest. leaves_more old new _ _ (λ t image. inl image) (reads.time honest) in (
      record { honest = reads.honest; medium = λ honest. inl (same honest); time = time; faults = reads.faults },
      record {
        honest = reads.honest;
        medium = λ honest. inl (same honest);
        synced_first = λ honest other. absurd (other refl);
        time = time;
        faults = reads.faults;
        why = λ honest. tt;
        cause = λ is. call.cause failed;
        must = λ bound. refl;
      },
    )

-- what was found after a sync and the reads of the head is of the set that the disk held before
module _ (old mid next : Device) (N : ℕ) (S : Keys) (honest : IsTrue old.honest) (same : mid.honest ≡ old.honest) (is : IsTrue old.honest → mid.medium ≡ synced old.medium) (holds : Holds old.medium.seen N S) where
  still : IsTrue mid.honest
  still = subst IsTrue (sym same) honest

  pub holds_synced : Holds mid.medium.seen N S
  holds_synced = subst (λ (m : Medium). Holds m.seen N S) (sym (is honest)) holds

  pub found_tells : OnlyReads mid next → (own : Option ℕ) (slots : ℕ) (found : Found) → (IsTrue mid.honest → length mid.medium.seen ≡ 16 + 16 * slots) → (IsTrue next.honest → found ≡ found_below own (slot_at next.medium.seen) slots) → IsFoundOf own S found
  found_tells reads own slots found size tells =
      found_of_file own mid.medium.seen N S holds_synced slots found (size still) (read_before mid next (λ (t : List ℕ). found ≡ found_below own (slot_at t) slots) reads tells still)
