-- The members that an open found, as the list of the machine has them.
use Rattle.std.proofs.{Common.{◌≡◌, inl, inr, ℕ, ◌<◌, Bool, true, false, [], ◌∷◌, List, refl, sym, ◌∙◌, arith}, lemmas.Option.{same_Some}}
use Rattle.std.{proofs.lemmas.Bool.Decides.{nat_tests, eqb_tells}, specs.Prelude.{Some}}
use mathlib.Core.Bool.{false≢true}
use Rattle.lz_vault.{specs.{Stages.{Cell}, Members.{member_at, Ascends}}, proofs.Members.{node_first, node_later}}
use Rattle.lz_slot.specs.Nodes.{has_node}
use Rattle.lz_list.specs.Traces.{Chain, has_key, has_slot, IsFound}

-- a key, a slot that stands in a list is that of a node
pub key_node : (k : ℕ) (es : Chain) → has_key k es ≡ true → (s : ℕ) × (has_node k s es ≡ true)
key_node k [] has = absurd (false≢true has)
key_node k (f ∷ es) has = elim (eqb_tells f.0 k) [
  | inl same ↦ (f.1, grind (arith, nat_tests, same.1))
  | inr other ↦ let rest = key_node k es (grind (arith, nat_tests, other.0)) in (rest.0, node_later k rest.0 f es rest.1)
]

pub slot_node : (s : ℕ) (es : Chain) → has_slot s es ≡ true → (k : ℕ) × (has_node k s es ≡ true)
slot_node s [] has = absurd (false≢true has)
slot_node s (f ∷ es) has = elim (eqb_tells f.1 s) [
  | inl same ↦ (f.0, grind (arith, nat_tests, same.1))
  | inr other ↦ let rest = slot_node s es (grind (arith, nat_tests, other.0)) in (rest.0, node_later rest.0 s f es rest.1)
]

-- what they are is what an open may find
pub are_found : (cells : List Cell) (N : ℕ) (es : Chain) → Ascends es → ((k s : ℕ) → has_node k s es ≡ true → (s < N) × (member_at cells s ≡ Some k)) → IsFound N es
are_found cells N [] up each = tt
are_found cells N (f ∷ es) up each = (
  (each f.0 f.1 (node_first f es)).0,
  no_key (has_key f.0 es) refl,
  no_slot (has_slot f.1 es) refl,
  are_found cells N es up.1 (λ k s there. each k s (node_later k s f es there)),
)
  where
    no_key : (b : Bool) → has_key f.0 es ≡ b → has_key f.0 es ≡ false
    no_key b is = grind (arith, nat_tests, key_node)

    no_slot : (b : Bool) → has_slot f.1 es ≡ b → has_slot f.1 es ≡ false
    no_slot false is = is
    no_slot true is =
        let node = slot_node f.1 es is in
        let same : node.0 ≡ f.0 = same_Some node.0 f.0 (sym (each node.0 f.1 (node_later node.0 f.1 f es node.1)).1 ∙ (each f.0 f.1 (node_first f es)).1) in
        absurd (omega (arith, up.0 node.0 f.1 node.1, same))
