use Rattle.lz_resp.proofs.info.push_lazyset.Goals as goal
use Rattle.std.{proofs.Common.{◌≡◌, ◌++◌, List, ℕ, ap, codes, ◌∙◌}, specs.List.{flat_map}}
use Rattle.lz_resp.{specs.Queries.{lazyset_rows, lazyset_text, row, version_text}, proofs.Joined.{three}}

pub returns : goal.returns
unfolding lazyset_text
returns c =
    let t = c.args.text.now.items in
    let f = c.args.figures.now in
    let rows : List ℕ = flat_map (λ r. row r.0 r.1) (lazyset_rows f) in
    let before : c.push_version.new.text.items ≡ (t ++ codes "# Lazyset\r\n") ++ version_text f = c.in_ok-push_version.ensures ∙ ap (λ (x : List ℕ). x ++ version_text f) c.in_ok-extend_from_slice.ensures.items in
    let put = rw c.free_of.ensures at c.in_ok-push_rows.ensures in
    put ∙ ap (λ (x : List ℕ). x ++ rows) before ∙ three t (codes "# Lazyset\r\n") (version_text f) rows
