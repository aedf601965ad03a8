-- What of the replies wasn't read.
use Rattle.std.proofs.Common.{◌≡◌, ℕ, ◌-◌, List, [], ◌++◌, length, drop, Option, Some, None, sym, ap, ◌∙◌, arith, append_assoc, length-append}
use Rattle.std.{proofs.Math.Seq.{drop-append_seam}, specs.Io.KnownBytes.{Consumes, prepend_known}}

-- nothing was kept yet
pub none_kept : (left : Option (List ℕ)) (kept : List ℕ) → kept ≡ [] → Consumes left (prepend_known kept left) []
none_kept None kept none = tt
none_kept (Some xs) kept none = sym (ap (λ (k : List ℕ). k ++ xs) none)

-- a page was taken off the front
pub page_taken : (left : Option (List ℕ)) (kept told rest : List ℕ) → kept ≡ told ++ rest → Consumes (prepend_known kept left) (prepend_known rest left) told
page_taken None kept told rest is = tt
page_taken (Some xs) kept told rest is = ap (λ (k : List ℕ). k ++ xs) is ∙ append_assoc told rest xs

-- what follows a page is what is left of the text
pub after_page : (text told rest : List ℕ) (n : ℕ) → text ≡ told ++ rest → n ≡ length text → text ≡ told ++ drop (n - length rest) text
after_page text told rest n is count =
    let at : n - length rest ≡ length told = omega (arith, count, ap length is, length-append told rest) in
    is ∙ ap (λ (r : List ℕ). told ++ r) (sym (ap (λ (k : ℕ). drop k text) at ∙ ap (drop (length told)) is ∙ drop-append_seam told rest))
