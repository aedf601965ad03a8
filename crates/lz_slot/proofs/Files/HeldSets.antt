-- A set with the same keys as one that a text holds, and the key that a slot says.
use Rattle.std.proofs.Common.{◌≡◌, ℕ, List, IsTrue, sym, subst}
use Rattle.lz_slot.specs.{Sets.{Keys, Same}, Bytes.{Holds}, declared.slot.SlotRead.TheVariants.{Member}}

-- a set with the same keys is held too
pub holds_same_set : (t : List ℕ) (N : ℕ) (S T : Keys) → Same S T → Holds t N S → Holds t N T
holds_same_set t N S T same holds = record {
  count = holds.count;
  size = holds.size;
  head = holds.head;
  no_bad_key = holds.no_bad_key;
  no_key_twice = holds.no_key_twice;
  set = λ k. (λ has. (holds.set k).0 (subst IsTrue (sym (same k)) has), λ there. subst IsTrue (same k) ((holds.set k).1 there));
}

-- a slot says one key
pub same_key : (j k : ℕ) → Member j ≡ Member k → j ≡ k
same_key j k is = cc
