-- With how many members a set that was just opened begins.
use Rattle.std.proofs.Common.{◌≡◌, ℕ, zero, suc, false, List, [], ◌∷◌, map, length, cond, count_by, refl, sym, ap, ◌∙◌, le_refl, arith}
use Rattle.std.proofs.lemmas.{Bool.Decides.{nat_tests}, List.{length-append, length-map, map-append, Sums.{sum_by_push}}, Map.Keys.{IsDistinct-cons}}
use Rattle.std.specs.{Prelude.{nat_eq}, List.{IsDistinct, AllByRecursion}}
use Rattle.lz_slot.specs.{declared.slot.SlotRead.{SlotRead, TheVariants.{Closed, Torn, Member, BadKey}}, Sets.{HasMembers}, Bytes.{slot_at, held, held_key}}
use Rattle.lz_disk.specs.Devices.{Device}
use Rattle.lz_allot.specs.Uses.{counts, is_taken}
use Rattle.lz_list.{specs.Traces.{Chain, IsFound, has_key, member}, proofs.Traces.OpeningTrace.{opening_members}}
use Rattle.lz_machine.{specs.Yards.{Yard, first_trace, slots_read, use_read}, proofs.Open.{FirstNodes.{held_found}, ListedKeys.{any_key}}}
use Rattle.lz_machine.proofs.Alone.Size.{none_distinct}
use Rattle.lz_yard.specs.Filling.{OpensYard}
use Rattle.lz_board.{specs.{Opened.{opened_by}, Seats.{BoardId}}, proofs.Start.FirstWords.{opens_text}}
use Rattle.lz_refinement.specs.RunningSets.{members_of}

-- an open takes a slot for each key that the text holds
one_taken : (r : SlotRead) (s : ℕ) → cond (is_taken (use_read r)) 1 0 ≡ length (held_key r s)
one_taken (Member k) s = refl
one_taken Closed s = refl
one_taken Torn s = refl
one_taken BadKey s = refl

taken_held : (t : List ℕ) (n : ℕ) → count_by is_taken (map use_read (slots_read t n)) ≡ length (held t n)
taken_held t zero = refl
taken_held t (suc n) =
    ap (count_by is_taken) (map-append use_read (slots_read t n) (slot_at t n ∷ []))
    ∙ sum_by_push (λ u. cond (is_taken u) 1 0) (map use_read (slots_read t n)) (use_read (slot_at t n))
    ∙ omega (arith, taken_held t n, one_taken (slot_at t n) n, length-append (held t n) (held_key (slot_at t n) n))

-- no two of them are one
apart : (k : ℕ) (found : Chain) → has_key k found ≡ false → AllByRecursion (λ q. nat_eq k q ≡ false) (map (λ (f : ℕ × ℕ). f.0) found)
apart k [] none = tt
apart k (f ∷ found) none = (grind (arith, nat_tests), apart k found (grind (arith, nat_tests)))

keys_distinct : (slots : ℕ) (found : Chain) → IsFound slots found → IsDistinct nat_eq (map (λ (f : ℕ × ℕ). f.0) found)
keys_distinct slots [] h = none_distinct
keys_distinct slots (f ∷ found) h = IsDistinct-cons nat_eq f.0 (map (λ (f : ℕ × ℕ). f.0) found) (apart f.0 found h.1) (keys_distinct slots found h.3)

-- so after an open as many slots are taken as the set has members
pub begins_with : (b : BoardId) (before after : Device) (B S : ℕ) (y : Yard) → OpensYard before after B S y → b.opened ≡ opened_by y.words
    → HasMembers (members_of b.opened) (counts y.uses).taken
begins_with b before after B S y opens opened =
    let t = opens.first.text in
    let N = y.shape.slots in
    let once = opens.first.starts.text.no_key_twice in
    let is = opens.first.yard in
    let begins : b.opened ≡ first_trace y.shape t = opened ∙ (opens_text y.shape t y.words once (ap (λ (x : Yard). x.words) is)).1 in
    record {
      keys = map (λ (f : ℕ × ℕ). f.0) (held t N);
      count = length-map (held t N) (λ (f : ℕ × ℕ). f.0) ∙ sym (taken_held t N) ∙ ap (λ (x : Yard). (counts x.uses).taken) (sym is);
      distinct = keys_distinct N (held t N) (held_found t N N once (le_refl N));
      all = λ k. ap (member k) begins ∙ opening_members y.shape.buckets k (held t N) ∙ sym (any_key k (held t N));
    }
