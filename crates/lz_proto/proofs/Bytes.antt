-- The bytes that a reader gave and a writer got.
use Rattle.std.proofs.{Common.{◌≡◌, ℕ, ◌+◌, ◌-◌, ◌≤◌, List, ◌++◌, length, take, drop, Option, Some, None, sym, ap, subst, ◌∙◌, arith}, Math.Seq.{take-add}}
use Rattle.std.{proofs.{lemmas.List.{drop-drop, take_rest, length-drop}, KnownBytes.{Appends-trans}}, specs.Io.KnownBytes.{Appends, Keeps}}

-- a part of the text was sent, and the rest is left
abbrev pub Sending : Option (List ℕ) → Option (List ℕ) → List ℕ → List ℕ → Type 0
Sending old new text rest = (sent : ℕ) × (sent ≤ length text) × (rest ≡ drop sent text) × Appends old new (take sent text)

appends_kept : (a b c : Option (List ℕ)) (bytes : List ℕ) → Appends a b bytes → Keeps b c → Appends a c bytes
appends_kept None b c bytes p q = tt
appends_kept (Some x) None c bytes p q = absurd p
appends_kept (Some x) (Some y) None bytes p q = absurd q
appends_kept (Some x) (Some y) (Some z) bytes p q = q ∙ p

pub sent_more : (old mid new : Option (List ℕ)) (text rest left : List ℕ) (n : ℕ) → Sending old mid text rest → n ≤ length rest
    → left ≡ take (length rest - n) (drop n rest) → Appends mid new (take n rest) → Sending old new text left
sent_more old mid new text rest left n (sent, inside, from, so) within is more =
    let part : take n rest ≡ take n (drop sent text) = ap (λ (t : List ℕ). take n t) from in
    let all : Appends old new (take sent text ++ take n (drop sent text)) = Appends-trans old mid new _ _ so (subst (Appends mid new) part more) in
    let longer : sent + n ≤ length text = omega (arith, length-drop sent text, ap (λ (t : List ℕ). length t) from) in
    (sent + n, longer, is ∙ take_rest rest n ∙ ap (λ (t : List ℕ). drop n t) from ∙ drop-drop n sent text, subst (Appends old new) (sym (take-add sent n text)) all)

pub sent_kept : (old mid new : Option (List ℕ)) (text rest left : List ℕ) → Sending old mid text rest → left ≡ rest → Keeps mid new → Sending old new text left
sent_kept old mid new text rest left (sent, inside, from, so) is kept = (sent, inside, is ∙ from, appends_kept old mid new (take sent text) so kept)
