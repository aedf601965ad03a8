-- The keys that are listed of a text which holds a set.
use Rattle.std.proofs.Common.{◌≡◌, ◌≢◌, ◌≤◌, ◌<◌, ◌+◌, ◌*◌, ℕ, Bool, ◌==◌, ◌||◌, List, [], ◌∷◌, length, map, take, refl, sym, ap, ◌∙◌}
use Rattle.lz_slot.specs.{declared.slot.SlotRead.TheVariants.{Member, BadKey}, Limits.{most_slots_of}, Sets.{Keys, members}}
use Rattle.lz_slot.specs.Bytes.{Holds, open_byte, format_of, header_body, slot_at, held}
use Rattle.lz_list.{specs.Traces.{Chain, has_key}, proofs.{Traces.Absence.{has_insert}, Chains.ChainNode.{node_has_key}}}
use Rattle.lz_machine.{specs.Runs.{by_key, keys_found}, proofs.Open.FirstNodes.{node_held, key_held}}

-- the keys of a chain are the first parts of its nodes
pub any_key : (k : ℕ) (c : Chain) → members (map (λ (f : ℕ × ℕ). f.0) c) k ≡ has_key k c
any_key k [] = refl
any_key k (f ∷ c) = ap (λ (b : Bool). (f.0 == k) || b) (any_key k c)

-- sorting leaves the keys
pub key_by : (k : ℕ) (c : Chain) → has_key k (by_key c) ≡ has_key k c
key_by k [] = refl
key_by k (f ∷ c) = has_insert k f.0 f.1 (by_key c) ∙ ap (λ (b : Bool). (f.0 == k) || b) (key_by k c)

-- a text that says what distinct cells do holds the set that is listed of it
pub holds_listed : (t : List ℕ) (N : ℕ) → 1 ≤ N → N ≤ most_slots_of (format_of t) → length t ≡ 16 + 16 * N → take 16 t ≡ open_byte ∷ header_body (format_of t) N
    → ((i : ℕ) → i < N → slot_at t i ≢ BadKey) → ((i j k : ℕ) → i < N → j < N → slot_at t i ≡ Member k → slot_at t j ≡ Member k → i ≡ j)
    → Holds t N (members (keys_found t N))
holds_listed t N low high size head fine once = record {
  count = (low, high);
  size = size;
  head = head;
  no_bad_key = fine;
  no_key_twice = once;
  set = λ k.
      let same : members (keys_found t N) k ≡ has_key k (held t N) = any_key k (by_key (held t N)) ∙ key_by k (held t N) in
      ((λ yes. key_held t N k (sym same ∙ yes)), (λ found. same ∙ node_has_key k found.0 (held t N) (node_held t N k found.0 found.1 found.2)));
}

-- so one that holds a set holds the one that is listed of it
pub listed : (t : List ℕ) (N : ℕ) (S : Keys) → Holds t N S → Holds t N (members (keys_found t N))
listed t N S h = holds_listed t N h.count.0 h.count.1 h.size h.head h.no_bad_key h.no_key_twice
