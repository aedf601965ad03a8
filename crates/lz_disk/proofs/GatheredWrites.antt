-- Writes side by side leave in a text what one write of all their bytes leaves.
use Rattle.std.proofs.Common.{◌≡◌, ℕ, ◌+◌, ◌≤◌, List, ◌++◌, length, take, drop, sym, ◌∙◌, ap, arith, length-append, append_assoc}
use Rattle.std.proofs.{Math.Seq.{take-append_seam, drop-append-add}, lemmas.List.{drop-drop, length-take-le}}
use Rattle.lz_disk.specs.Images.{overwritten}

-- a write goes on where those that waited end
next : (at : ℕ) (xs ys t : List ℕ) → at ≤ length t → overwritten (overwritten t at xs) (at + length xs) ys ≡ overwritten t at (xs ++ ys)
next at xs ys t within =
    let front : List ℕ = take at t ++ xs in
    let rest : List ℕ = drop (at + length xs) t in
    let size : length front ≡ at + length xs = omega (arith, length-append (take at t) xs, length-take-le at t within) in
    let split : overwritten t at xs ≡ front ++ rest = sym (append_assoc (take at t) xs rest) in
    let sum : (at + length xs) + length ys ≡ at + length (xs ++ ys) = omega (arith, length-append xs ys) in
    let left : take (at + length xs) (overwritten t at xs) ≡ front =
    ap (take (at + length xs)) split ∙ ap (λ (n : ℕ). take n (front ++ rest)) (sym size) ∙ take-append_seam front rest in
    let right : drop ((at + length xs) + length ys) (overwritten t at xs) ≡ drop (at + length (xs ++ ys)) t =
    ap (drop ((at + length xs) + length ys)) split ∙ ap (λ (n : ℕ). drop (n + length ys) (front ++ rest)) (sym size) ∙ drop-append-add front rest (length ys)
    ∙ drop-drop (length ys) (at + length xs) t ∙ ap (λ (n : ℕ). drop n t) sum in
    ap (λ (u : List ℕ). u ++ (ys ++ drop ((at + length xs) + length ys) (overwritten t at xs))) left
    ∙ ap (λ (u : List ℕ). front ++ (ys ++ u)) right
    ∙ append_assoc (take at t) xs (ys ++ drop (at + length (xs ++ ys)) t)
    ∙ ap (λ (u : List ℕ). take at t ++ u) (sym (append_assoc xs ys (drop (at + length (xs ++ ys)) t)))

pub joined : (before at : ℕ) (xs ys all t : List ℕ) → before ≤ length t → at ≡ before + length xs → all ≡ xs ++ ys
    → overwritten (overwritten t before xs) at ys ≡ overwritten t before all
joined before at xs ys all t within there is = grind (arith, next)
