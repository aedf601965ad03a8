use Rattle.lz_resp.proofs.info.push_version.Goals as goal
use Rattle.std.proofs.Common.{◌≡◌, ◌++◌, List, ℕ, ap, codes, decimal, ◌∙◌}
use Rattle.lz_resp.{specs.Queries.{version_text}, proofs.Joined.{five}}

pub returns : goal.returns
unfolding version_text
returns c =
    let t = c.args.text.now.items in
    let major = decimal c.args.figures.now.major in
    let minor = decimal c.args.figures.now.minor in
    let first : c.push_number.new.text.items ≡ (t ++ codes "lazyset_version:") ++ major = c.in_ok-push_number.ensures ∙ ap (λ (x : List ℕ). x ++ major) c.in_ok-extend_from_slice.ensures.items in
    let both : c.push_number-2.new.text.items ≡ (((t ++ codes "lazyset_version:") ++ major) ++ codes ".") ++ minor =
    c.in_ok-push_number-2.ensures ∙ ap (λ (x : List ℕ). x ++ minor) (c.in_ok-extend_from_slice-2.ensures.items ∙ ap (λ (x : List ℕ). x ++ codes ".") first) in
    c.in_ok-extend_from_slice-3.ensures.items ∙ ap (λ (x : List ℕ). x ++ codes "\r\n") both ∙ five t (codes "lazyset_version:") major (codes ".") minor (codes "\r\n")
