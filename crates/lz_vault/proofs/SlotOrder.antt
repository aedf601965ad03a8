-- The members of a scan's cells, in the order of the slots, with one slot more.
use Rattle.std.proofs.{Common.{arith, ◌≡◌, ℕ, ◌+◌, List, [], ◌∷◌, ◌++◌, length, sym, length-append, Some, None}, lemmas.Bool.Decides.{nat_tests}}
use Rattle.std.{proofs.lemmas.List.{append-nil, map-append, Elements.{filter_map-append}}, specs.List.{cons_option}}
use Rattle.lz_slot.specs.Nodes.{Nodes}
use Rattle.lz_vault.specs.{Members.{AreListed, keys_in, member_in}, Scans.{AreInSlots}, Stages.{Cell}}
use Rattle.lz_vault.proofs.Members.{grown_listed, last_at, none_more, one_more}

pub keys_more : (cells : List Cell) (cell : Cell) → keys_in (cells ++ cell ∷ []) ≡ keys_in cells ++ cons_option (member_in cell) []
keys_more cells cell = filter_map-append member_in cells (cell ∷ [])

module _ (cells : List Cell) (cell : Cell) (ms : Nodes) (are : AreInSlots cells ms) where
  abbrev grown : List Cell
  grown = cells ++ cell ∷ []

  count : length cells + 1 ≡ length grown
  count = sym (length-append cells (cell ∷ []))

  listed : AreListed grown (length cells) ms
  listed = grown_listed cells cell ms are.0

  pub next_none : member_in cell ≡ None → AreInSlots grown ms
  next_none none = grind (arith, nat_tests, count, none_more, listed, last_at, append-nil, keys_more)

  pub next_member : (k : ℕ) → member_in cell ≡ Some k → AreInSlots grown (ms ++ (k, length cells) ∷ [])
  next_member k is = grind (arith, nat_tests, count, one_more, listed, last_at, map-append, keys_more)
