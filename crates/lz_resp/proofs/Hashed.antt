-- What is hashed for a key of texts.
use Rattle.std.proofs.{Common.{◌≡◌, ◌∙◌, ◌≤◌, ℕ, List, ◌++◌, length, take, drop, sym, ap, arith, append_assoc}, lemmas.List.{append_cancel_left}}
use Rattle.std.proofs.Math.Seq.{drop-append_seam, take-append_seam}
use Rattle.byteorder.specs.{Endian.{big_bytes, big_number}, Numbers.{big_number-reads_back}}
use Rattle.lz_resp.specs.{Limits.{most_argument}, Keys.{HashedOnce}}

-- of two texts of the same length before two others
seam : (front back other another : List ℕ) → length front ≡ length other → front ++ back ≡ other ++ another → (front ≡ other) × (back ≡ another)
seam front back other another same h =
    let late : drop (length front) (front ++ back) ≡ drop (length other) (other ++ another) =
    ap (λ (t : List ℕ). drop (length front) t) h ∙ ap (λ (n : ℕ). drop n (other ++ another)) same in
    let early : take (length front) (front ++ back) ≡ take (length other) (other ++ another) =
    ap (λ (t : List ℕ). take (length front) t) h ∙ ap (λ (n : ℕ). take n (other ++ another)) same in
    (sym (take-append_seam front back) ∙ early ∙ take-append_seam other another, sym (drop-append_seam front back) ∙ late ∙ drop-append_seam other another)

length_read : (name member : List ℕ) → length name ≤ most_argument → big_number 8 (big_bytes 8 (length name) ++ name ++ member) ≡ length name
length_read name member short = big_number-reads_back 8 (length name) (name ++ member) (omega (arith, short))

-- the prefix, and what comes after it
parted : (prefix length_bytes name member : List ℕ) → prefix ++ length_bytes ++ name ++ member ≡ prefix ++ (length_bytes ++ name ++ member)
parted prefix length_bytes name member =
    ap (λ (t : List ℕ). t ++ member) (append_assoc prefix length_bytes name) ∙ append_assoc prefix (length_bytes ++ name) member

pub hashed_once : HashedOnce
hashed_once prefix name member first other another alike short low h =
    let whole = sym (parted prefix (big_bytes 8 (length name)) name member) ∙ h ∙ parted first (big_bytes 8 (length other)) other another in
    let texts = seam prefix (big_bytes 8 (length name) ++ name ++ member) first (big_bytes 8 (length other) ++ other ++ another) alike whole in
    let same : length name ≡ length other = sym (length_read name member short) ∙ ap (big_number 8) texts.1 ∙ length_read other another low in
    let rest : name ++ member ≡ other ++ another =
    append_cancel_left (big_bytes 8 (length other)) (name ++ member) (other ++ another)
    (ap (λ (n : ℕ). big_bytes 8 n ++ name ++ member) (sym same) ∙ texts.1) in
    let parts = seam name member other another same rest in
    (texts.0, parts.0, parts.1)
