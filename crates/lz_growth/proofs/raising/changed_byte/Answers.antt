use Rattle.lz_growth.proofs.raising.changed_byte.Goals as goal
use Rattle.std.proofs.Common.{◌≡◌, ◌∙◌, ◌<◌, ◌≤◌, ℕ, List, get_or, set, sym, ap, arith}
use Rattle.byteorder.specs.Endian.{big_bytes}
use Rattle.lz_growth.{specs.Growths.{IsAlikeBut}, proofs.CountBytes.{last_place, place_found}}

module _ (from to : ℕ) (old new : List ℕ) (was : old ≡ big_bytes 8 from) (now : new ≡ big_bytes 8 to) where
  old_at : (i : ℕ) → get_or old i 0 ≡ get_or (big_bytes 8 from) i 0
  old_at i = ap (λ (l : List ℕ). get_or l i 0) was

  new_at : (i : ℕ) → get_or new i 0 ≡ get_or (big_bytes 8 to) i 0
  new_at i = ap (λ (l : List ℕ). get_or l i 0) now

  found : (byte : ℕ) × (byte < 8) × IsAlikeBut byte from to → (i : ℕ) → i < 7 → (get_or old i 0 ≡ get_or new i 0 → ⊥) → set (big_bytes 8 from) i (get_or new i 0) ≡ big_bytes 8 to
  found apart i below differs =
      ap (set (big_bytes 8 from) i) (new_at i) ∙ place_found apart.0 from to apart.1 apart.2 i (omega arith) (λ same. differs (old_at i ∙ same ∙ sym (new_at i)))

  last : (i : ℕ) → 7 ≤ i → ((k : ℕ) → k < i → get_or old k 0 ≡ get_or new k 0) → set (big_bytes 8 from) 7 (get_or new 7 0) ≡ big_bytes 8 to
  last i all same = ap (set (big_bytes 8 from) 7) (new_at 7) ∙ last_place from to (λ k lt. sym (old_at k) ∙ same k (omega arith) ∙ new_at k)

pub returns-then-old-i-clause-bytes : goal.returns-then-old-i-clause-bytes
returns-then-old-i-clause-bytes c =
    found c.args.from c.args.to c.to_be_bytes-old.result c.to_be_bytes-new.result c.to_be_bytes-old.ensures c.to_be_bytes-new.ensures c.requires c.loop-i.i c.loop-i-test.true c.if-old-i.true

pub returns-clause-bytes : goal.returns-clause-bytes
returns-clause-bytes c =
    last c.args.from c.args.to c.to_be_bytes-old.result c.to_be_bytes-new.result c.to_be_bytes-old.ensures c.to_be_bytes-new.ensures c.loop-i.i c.loop-i-test.false c.loop-i.invariant
