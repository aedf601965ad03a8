-- A text that holds a set has no fault.
use Rattle.std.proofs.Common.{◌≡◌, inl, inr, ℕ, ◌<◌, List, ◌∷◌, length, take, Ok, Err, refl, ap, ◌∙◌, arith}
use Rattle.lz_slot.specs.{Bytes.{Holds, header_read, format_of, header_body, open_byte}, Sets.{Keys}, declared.header.HeaderFault.{HeaderFault}}
use Rattle.lz_slot.proofs.Files.ExactBytes.{header_reads_back}
use Rattle.lz_vault.specs.declared.opening.OpenFault.TheVariants.{BadKey, Twice, Device, Memory}
use Rattle.lz_machine.specs.OpenFailures.{HeldIsOpened}

module _ (t : List ℕ) (N : ℕ) (S : Keys) (holds : Holds t N S) where
  head : header_read (take 16 t) (length t) ≡ Ok N
  head = ap (λ (l : List ℕ). header_read l (length t)) holds.head ∙ ap (header_read (open_byte ∷ header_body (format_of t) N)) holds.size ∙ (header_reads_back (format_of t) N holds.count.0 holds.count.1).0

  no_fault : (why : HeaderFault) → header_read (take 16 t) (length t) ≡ Err why → ⊥
  no_fault why is = absurd (cc (head, is))

  same_count : (M : ℕ) → header_read (take 16 t) (length t) ≡ Ok M → M ≡ N
  same_count M is = cc (head, is)

pub held_is_opened : HeldIsOpened
held_is_opened t N S (BadKey s) holds is =
    let count = is.0.count in
    absurd (holds.no_bad_key s (omega (arith, count.2, same_count t N S holds count.0 count.1)) is.1)
held_is_opened t N S (Twice first second) holds is =
    let count = is.0.count in
    let within : second < N = omega (arith, count.2, same_count t N S holds count.0 count.1) in
    absurd (omega (arith, is.1, holds.no_key_twice first second is.2.0 (omega (arith, is.1, within)) within is.2.1 is.2.2))
held_is_opened t N S Device holds is = inl refl
held_is_opened t N S Memory holds is = inr refl
held_is_opened t N S _ holds is = absurd (no_fault t N S holds _ is)
