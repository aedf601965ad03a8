use Rattle.lz_resp.proofs.info.push_keyspace.Goals as goal
use Rattle.std.proofs.Common.{◌≡◌, ◌++◌, ◌==◌, List, ℕ, false, ap, codes, decimal, rules, ◌∙◌}
use Rattle.lz_resp.{specs.Queries.{keyspace_text}, proofs.Joined.{three}}

pub returns : goal.returns
unfolding keyspace_text
returns c =
    let t = c.args.text.now.items in
    let n = c.args.figures.now.members in
    let some : (n == 0) ≡ false = search rules in
    let put : c.extend_from_slice-3.new.self.items ≡ ((t ++ codes "# Keyspace\r\ndb0:keys=") ++ decimal n) ++ codes ",expires=0,avg_ttl=0\r\n" =
    c.in_ok-extend_from_slice-2.ensures.items ∙ ap (λ (x : List ℕ). x ++ codes ",expires=0,avg_ttl=0\r\n") (c.in_ok-push_number.ensures ∙ ap (λ (x : List ℕ). x ++ decimal n) c.in_ok-extend_from_slice.ensures.items) in
    rw some (put ∙ three t (codes "# Keyspace\r\ndb0:keys=") (decimal n) (codes ",expires=0,avg_ttl=0\r\n"))
