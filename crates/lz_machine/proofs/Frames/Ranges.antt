-- Nodes and links lie in the table, no table has more slots than the largest, and a slot's flags tell of its last linking.
use Rattle.std.proofs.{Common.{◌≡◌, inl, inr, ℕ, zero, suc, ◌<◌, ◌≤◌, true, [], ◌∷◌, refl, sym, ap, ◌∙◌, arith}, lemmas.Bool.{cases_eq}}
use Rattle.std.proofs.lemmas.Bool.Decides.{nat_tests, eqb_tells}
use mathlib.Core.Bool.{false≢true}
use Rattle.lz_slot.{specs.Limits.{most_slots}, proofs.Files.ExactBytes.{slots_of_format}}
use Rattle.lz_disk.specs.Images.{Medium}
use Rattle.lz_vault.specs.Vaults.{Vaulted}
use Rattle.lz_list.specs.declared.publishing.Publishing.{Publishing, TheVariants.{Linked as linked, Unlinked as unlinked, Settled as settled}}
use Rattle.lz_list.specs.{declared.publishing.Publishing.TheVariants.{KeyPrepared as key_prepared, LinkPrepared as link_prepared}, Traces.{IsFound, opening}}
use Rattle.lz_list.specs.Traces.{Trace, Chain, Lawful, on, chain, chain_of, bucket_of, link_above, node_next, head_word, linking_in, is_settled, is_removed}
use Rattle.lz_list.{specs.{Traces.{has_added, has_removed}, Pinned.{Stood}}, proofs.Traces.OpeningTrace.{opening_lawful}}
use Rattle.lz_list.proofs.{Traces.{NodeBits.{on_insert_other, on_without}, Hindsight.{stands}}, Chains.PlaceRank.{adjacent_next, on_start}}
use Rattle.lz_machine.specs.{Yards.{Shape}, Sound.{DiskSound}}

-- a table has no more slots than the largest of all formats
pub few_slots : {shape : Shape} {vault : Vaulted} {disk : Medium} → DiskSound shape vault disk → shape.slots ≤ most_slots
few_slots {shape} {vault} images = slots_of_format vault.format shape.slots images.slots.1

-- a node on a chain lies in the table
pub on_range : (buckets slots : ℕ) (P : Trace) (b s : ℕ) → Lawful buckets slots P → on 0 (chain buckets b P) (suc s) ≡ true → s < slots
on_range buckets slots [] b s law there = absurd (grind (arith, nat_tests, there))
on_range buckets slots (linked k t p ∷ P) b s law there = grind (arith, nat_tests, cases_eq, on_range buckets slots P b s law.1, on_insert_other)
on_range buckets slots (unlinked k t p ∷ P) b s law there = on_range buckets slots P b s law.1 (grind (arith, nat_tests, there, on_without k 0 (suc s) (chain buckets b P)))
on_range buckets slots (e ∷ P) b s law there = on_range buckets slots P b s law.1 there

-- so does one that stood on it
pub stood_range : (buckets slots : ℕ) (P0 P : Trace) (b s : ℕ) → Lawful buckets slots P → Stood buckets b P0 P (suc s) → s < slots
stood_range buckets slots P0 [] b s law stood = absurd (grind (arith, nat_tests, stood.1))
stood_range buckets slots P0 (e ∷ P) b s law (inl now) = on_range buckets slots (e ∷ P) b s law now.1
stood_range buckets slots P0 (e ∷ P) b s law (inr before) = stood_range buckets slots P0 P b s law.1 before

-- a head leads to a slot
pub head_range : (buckets slots : ℕ) (P : Trace) (b : ℕ) → Lawful buckets slots P → head_word buckets b P ≤ slots
head_range buckets slots P b law = go (head_word buckets b P) refl
  where
    go : (n : ℕ) → head_word buckets b P ≡ n → n ≤ slots
    go zero is = omega arith
    go (suc s) is =
        let adj = stands buckets slots P b 0 P law (on_start 0 (chain buckets b P)) in
        let there = adjacent_next 0 (chain buckets b P) 0 (head_word buckets b P) adj (λ none. grind (arith, is, none)) in
        on_range buckets slots P b s law (ap (on 0 (chain buckets b P)) (sym is) ∙ there)

pub link_in_range : (slots k x : ℕ) (c : Chain) → ((s : ℕ) → on x c (suc s) ≡ true → s < slots) → link_above k c ≤ slots
link_in_range slots k x [] within = omega arith
link_in_range slots k x (n ∷ c) within =
    let first : n.1 < slots = within n.1 (grind (arith, nat_tests, on_start (suc n.1) c)) in
    let rest : link_above k c ≤ slots = link_in_range slots k (suc n.1) c (λ s there. within s (grind (arith, nat_tests, there))) in
    grind (arith, nat_tests, first, rest)

-- a slot's flags tell of its last linking
pub added_tells : (buckets slots s : ℕ) (P : Trace) → Lawful buckets slots P → has_added s P ≡ true → is_settled (linking_in s P) P ≡ true
added_tells buckets slots s [] law is = absurd (false≢true is)
added_tells buckets slots s (linked k t p ∷ P) law is = grind (arith, eqb_tells, added_tells buckets slots s P law.1 is)
added_tells buckets slots s (settled t c ∷ P) law is = grind (arith, nat_tests, eqb_tells, added_tells buckets slots s P law.1)
added_tells buckets slots s (link_prepared t v ∷ P) law is = grind (arith, nat_tests, eqb_tells, false≢true, added_tells buckets slots s P law.1)
added_tells buckets slots s (e ∷ P) law is = added_tells buckets slots s P law.1 is

pub removed_tells : (buckets slots s : ℕ) (P : Trace) → Lawful buckets slots P → has_removed s P ≡ true → is_removed (linking_in s P) P ≡ true
removed_tells buckets slots s [] law is = absurd (false≢true is)
removed_tells buckets slots s (linked k t p ∷ P) law is = grind (arith, eqb_tells, removed_tells buckets slots s P law.1 is)
removed_tells buckets slots s (settled t c ∷ P) law is = grind (arith, nat_tests, eqb_tells, removed_tells buckets slots s P law.1)
removed_tells buckets slots s (link_prepared t v ∷ P) law is = grind (arith, nat_tests, eqb_tells, false≢true, removed_tells buckets slots s P law.1)
removed_tells buckets slots s (e ∷ P) law is = removed_tells buckets slots s P law.1 is

-- a link that is prepared leads to a slot or to the end
abbrev pub IsShort : ℕ → Publishing → Type 0
IsShort slots (link_prepared s v) = v ≤ slots
IsShort slots _ = Unit {0}

-- next links stay so
pub small_stays : (buckets slots : ℕ) (e : Publishing) (P : Trace) → Lawful buckets slots (e ∷ P) → IsShort slots e → ((t : ℕ) → node_next buckets t P ≤ slots) → (t : ℕ) → node_next buckets t (e ∷ P) ≤ slots
small_stays buckets slots e P law short small t = grind arith

pub opening_small : (buckets slots : ℕ) (found : Chain) → IsFound slots found → (t : ℕ) → node_next buckets t (opening buckets found) ≤ slots
opening_small buckets slots [] is t = omega arith
opening_small buckets slots (f ∷ found) is t =
    let law = opening_lawful buckets slots (f ∷ found) is in
    let rest = opening_small buckets slots found is.3 in
    let below = opening_lawful buckets slots found is.3 in
    let short = link_in_range slots f.0 0 (chain_of buckets f.0 (opening buckets found)) (λ s there. on_range buckets slots (opening buckets found) (bucket_of buckets f.0) s below there) in
    let first = small_stays buckets slots (key_prepared f.1 f.0) (opening buckets found) law.1.1.1 tt rest in
    let second = small_stays buckets slots (link_prepared f.1 (link_above f.0 (chain_of buckets f.0 (opening buckets found)))) (key_prepared f.1 f.0 ∷ opening buckets found) law.1.1 short first in
    let third = small_stays buckets slots (linked f.0 f.1 0) (link_prepared f.1 (link_above f.0 (chain_of buckets f.0 (opening buckets found))) ∷ key_prepared f.1 f.0 ∷ opening buckets found) law.1 tt second in
    third t
