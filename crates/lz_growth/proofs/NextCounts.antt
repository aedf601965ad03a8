-- Numbers that differ in one byte: by how much.
use Rattle.std.proofs.Common.{◌≡◌, ◌⊎◌, ⊎_elim, inl, inr, ℕ, zero, suc, ◌+◌, ◌*◌, ◌-◌, ◌/◌, ◌%◌, ◌^◌, ◌≤◌, ◌<◌, min, sym, ◌∙◌, ap, subst, arith}
use Rattle.std.proofs.{lemmas.{Nat.{pow_pos, div-add-mod', mul-le, le-div, mod-pow-add}, Bool.{cases_lt}}, Math.Nat.{div-div-eq-div-mul, div-mul-le_self, add-mul-div_right, add-mul-mod_self_right, pow-le-pow_right, pow-suc, mod-le}}
use Rattle.lz_slot.specs.Limits.{most_slots}
use Rattle.lz_growth.{specs.{Growths.{IsAlikeBut, IsRaise}, Nexts.{IsGreatestAt}}, proofs.CountBytes.{bits_of}}

pub worth_some : (byte : ℕ) → 0 < 256 ^ byte
worth_some byte = subst (λ (x : ℕ). 0 < x) (sym (bits_of byte)) (pow_pos (8 * byte))

-- so many times
more_times : (m n x : ℕ) → m ≤ n → m * x ≤ n * x
more_times m n x le = mul-le m x n x le (omega arith)

split_times : (u k p r : ℕ) → (u + k) * p + r ≡ u * p + r + k * p
split_times u k p r = omega arith

byte_left : (u v : ℕ) → u ≤ v → u / 256 ≡ v / 256 → u % 256 + (v - u) ≤ 255
byte_left u v le same = omega arith

split_low : (a n : ℕ) → a % 256 ^ suc n ≡ a / 256 ^ n % 256 * 256 ^ n + a % 256 ^ n
split_low a n =
    let more : 8 * suc n ≡ 8 + 8 * n = omega arith in
    ap (λ (x : ℕ). a % x) (bits_of (suc n)) ∙ ap (λ (x : ℕ). a % 2 ^ x) more ∙ mod-pow-add a 8 (8 * n) ∙ ap (λ (x : ℕ). a / x % 256 * x + a % x) (sym (bits_of n))

still_high : (u k : ℕ) → u % 256 + k ≤ 255 → u / 256 ≡ (u + k) / 256
still_high u k fits = omega arith

no_fewer : (u v p r : ℕ) → 0 < p → u * p + r ≤ v * p + r → u ≤ v
no_fewer u v p r some le = ⊎_elim
    (λ lt. let less = more_times (v + 1) u p (omega arith) in absurd (omega arith))
    (λ at_least. at_least)
    (cases_lt v u)

module _ (byte a : ℕ) where
  abbrev worth : ℕ
  worth = 256 ^ byte

  above : (n : ℕ) → n / 256 ^ (byte + 1) ≡ n / worth / 256
  above n =
      let one_more : byte + 1 ≡ suc byte = omega arith in
      ap (λ (x : ℕ). n / 256 ^ x) one_more ∙ ap (λ (x : ℕ). n / x) (pow-suc 256 byte) ∙ sym (div-div-eq-div-mul n worth 256)

  -- so much more in this byte
  pub more_alike : (k : ℕ) → a / worth % 256 + k ≤ 255 → IsAlikeBut byte a (a + k * worth)
  more_alike k fits = (
    sym (add-mul-mod_self_right a k worth),
    above a ∙ still_high (a / worth) k fits ∙ ap (λ (x : ℕ). x / 256) (sym (add-mul-div_right a k (worth_some byte))) ∙ sym (above (a + k * worth)),
  )

  -- what differs in this byte alone, and is no less, has so much more there
  pub by_how_much : (x : ℕ) → IsAlikeBut byte a x → a ≤ x → (k : ℕ) × (x ≡ a + k * worth) × (a / worth % 256 + k ≤ 255)
  by_how_much x alike le =
      let low : a / worth * worth + a % worth ≡ a = div-add-mod' a worth in
      let high : x / worth * worth + x % worth ≡ x = div-add-mod' x worth in
      let rest : a / worth * worth + x % worth ≡ a = ap (λ (r : ℕ). a / worth * worth + r) (sym alike.0) ∙ low in
      let fewer : a / worth ≤ x / worth = no_fewer (a / worth) (x / worth) worth (x % worth) (worth_some byte) (subst (λ (n : ℕ). n ≤ x / worth * worth + x % worth) (sym rest) (subst (λ (n : ℕ). a ≤ n) (sym high) le)) in
      let whole : x / worth ≡ a / worth + (x / worth - a / worth) = omega (arith, fewer) in (
        x / worth - a / worth,
        sym high ∙ ap (λ (n : ℕ). n * worth + x % worth) whole ∙ split_times (a / worth) (x / worth - a / worth) worth (x % worth) ∙ ap (λ (n : ℕ). n + (x / worth - a / worth) * worth) rest,
        byte_left (a / worth) (x / worth) fewer (sym (above a) ∙ alike.1 ∙ above x),
      )

  -- as much more as the byte has room for, up to a most
  pub greatest_is : (most k : ℕ) → a ≤ most → k ≡ min (255 - a / worth % 256) ((most - a) / worth) → IsGreatestAt byte a most (a + k * worth)
  greatest_is most k le is =
      let room : k * worth ≤ most - a =
      let times = more_times k ((most - a) / worth) worth (omega (arith, is)) in
      let all = div-mul-le_self (most - a) worth in
      omega (arith, times, all) in
      let byte_room : a / worth % 256 ≤ 255 = omega arith in
      record {
        alike = more_alike k (omega (arith, is, byte_room));
        no_less = omega arith;
        within = omega (arith, room, le);
        greatest = λ x alike few. ⊎_elim
            (λ less. omega (arith, less))
            (λ more.
            let it = by_how_much x alike more in
            let fits : it.0 ≤ (most - a) / worth = le-div it.0 (most - a) worth (worth_some byte) (omega (arith, it.1, few, le)) in
            let times = more_times it.0 k worth (omega (arith, fits, it.2, is)) in
            omega (arith, it.1, times))
            (cases_lt x a);
      }

  -- one more in this byte, where it has room
  pub least_raise : 1 ≤ a → byte < 8 → a / worth % 256 < 255 → a + worth ≤ most_slots → IsRaise a (a + worth)
  least_raise some small room few =
      let one : a + 1 * worth ≡ a + worth = omega arith in
      record {
        some = some;
        more = omega (arith, worth_some byte);
        few = few;
        apart = (byte, small, subst (IsAlikeBut byte a) one (more_alike 1 (omega (arith, room))));
      }

-- a raise is in a byte that has room, by its worth at least
pub raise_takes : (a x : ℕ) → (raise : IsRaise a x) → (a / 256 ^ raise.apart.0 % 256 < 255) × (a + 256 ^ raise.apart.0 ≤ x)
raise_takes a x raise =
    let byte = raise.apart.0 in
    let it = by_how_much byte a x raise.apart.2 (omega (arith, raise.more)) in
    let some : 1 ≤ it.0 = ⊎_elim (λ none. let zero_is : it.0 ≡ 0 = omega (arith, none) in let same = it.1 ∙ ap (λ (k : ℕ). a + k * 256 ^ byte) zero_is in absurd (omega (arith, same, raise.more))) (λ one. one) (cases_lt it.0 1) in
    let once = more_times 1 it.0 (256 ^ byte) some in
    (omega (arith, it.2, some), omega (arith, it.1, once))

pub worth_up : (i j : ℕ) → i ≤ j → 256 ^ i ≤ 256 ^ j
worth_up i j le = pow-le-pow_right (omega arith) le

-- for a worth that is told
pub greatest_for : (byte a most k w : ℕ) → w ≡ 256 ^ byte → a ≤ most → k ≡ min (255 - a / w % 256) ((most - a) / w) → IsGreatestAt byte a most (a + k * w)
greatest_for byte a most k w is le = subst (λ (x : ℕ). k ≡ min (255 - a / x % 256) ((most - a) / x) → IsGreatestAt byte a most (a + k * x)) (sym is) (greatest_is byte a most k le)

-- below a byte there is one with room, or all are full
low_bytes : (a n : ℕ) → ((p : ℕ) × (p < n) × (a / 256 ^ p % 256 < 255) × (a % 256 ^ p + 1 ≡ 256 ^ p)) ⊎ (a % 256 ^ n + 1 ≡ 256 ^ n)
low_bytes a zero = inr (omega arith)
low_bytes a (suc n) = ⊎_elim
    (λ (p, lt, room, full). inl (p, omega (arith, lt), room, full))
    (λ full. ⊎_elim (λ room. inl (n, omega arith, room, full)) (λ none. inr (more_full full none)) (cases_lt (a / 256 ^ n % 256) 255))
    (low_bytes a n)
  where
    more_full : a % 256 ^ n + 1 ≡ 256 ^ n → 255 ≤ a / 256 ^ n % 256 → a % 256 ^ suc n + 1 ≡ 256 ^ suc n
    more_full full none =
        let last : a / 256 ^ n % 256 ≡ 255 = omega (arith, none) in
        let parts : a % 256 ^ suc n ≡ 255 * 256 ^ n + a % 256 ^ n = split_low a n ∙ ap (λ (d : ℕ). d * 256 ^ n + a % 256 ^ n) last in
        let power : 256 ^ suc n ≡ 256 ^ n * 256 = pow-suc 256 n in
        omega (arith, parts, power, full)

-- where a raise is, there is one up to twice as many and one
pub near_raise : (a x : ℕ) → IsRaise a x → (y : ℕ) × IsRaise a y × (y ≤ x) × (y ≤ 2 * a + 1)
near_raise a x raise =
    let byte = raise.apart.0 in
    let takes = raise_takes a x raise in
    let at = λ (p : ℕ) (le : p ≤ byte) (room : a / 256 ^ p % 256 < 255) (full : a % 256 ^ p + 1 ≡ 256 ^ p).
    let up = worth_up p byte le in
    let part = mod-le a (256 ^ p) in
    let it : (y : ℕ) × IsRaise a y × (y ≤ x) × (y ≤ 2 * a + 1) =
    (a + 256 ^ p, least_raise p a raise.some (omega (arith, le, raise.apart.1)) room (omega (arith, up, takes.1, raise.few)), omega (arith, up, takes.1), omega (arith, part, full)) in
    it in
    ⊎_elim (λ (p, lt, room, full). at p (omega (arith, lt)) room full) (λ full. at byte (omega arith) takes.0 full) (low_bytes a byte)
