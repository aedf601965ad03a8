use Rattle.lz_vault.proofs.scan.Scan.listed_keys.Goals as goal
use Rattle.std.proofs.{Common.{◌≡◌, ◌+◌, ◌≤◌, ◌<◌, ℕ, List, [], ◌∷◌, ◌++◌, length, rules, take, sym, ap, subst, ◌∙◌}, lemmas.Bool.{false≢true}}
use Rattle.std.{proofs.lemmas.List.{map-append, take_more}, specs.Prelude.{IfSome, IsSome, Option, map}}
use Rattle.lz_slot.specs.Limits.{largest_key}
use Rattle.lz_vault.{specs.Members.{node_at}, proofs.{HeldKeys.{listed_fits}, Members.{same_place}}}
use Rattle.lz_vault.proofs.scan.Scan.listed_keys.Goals.{in-Some+in_ok-push, in_default}

pub loop-index-preserved : goal.loop-index-preserved
loop-index-preserved c =
    let i = c.loop-index.index in
    let scan = c.args.self.now in
    let ms = scan.members.items in
    let low : i < length ms = search rules in
    let node : c.index.result.now ≡ node_at ms i = same_place ms i c.index.result.now low c.index.ensures in
    let next : map (λ (n : ℕ × ℕ). n.0) (take (i + 1) ms) ≡ map (λ (n : ℕ × ℕ). n.0) (take i ms) ++ (node_at ms i).0 ∷ [] = ap (λ (l : List (ℕ × ℕ)). map (λ (n : ℕ × ℕ). n.0) l) (take_more ms i (0, 0) low) ∙ map-append (λ (n : ℕ × ℕ). n.0) (take i ms) (node_at ms i ∷ []) in
    elim c.match-of_rank.branch [
      | in-Some+in_ok-push w ↦
          let key : w.in-Some.key ≡ c.index.result.now.0 = subst (λ (o : Option ℕ). IfSome o (λ (k : ℕ). k ≡ c.index.result.now.0)) w.in-Some.is c.of_rank.ensures.rank in
          rw w.keys-is
          (w.in_ok-push.ensures.items
          ∙ (λ j. c.loop-index.invariant j ++ (key ∙ ap (λ (n : ℕ × ℕ). n.0) node) j ∷ [])
          ∙ sym next)
      | in_default w ↦
          let fits : c.index.result.now.0 ≤ largest_key = subst (λ (n : ℕ × ℕ). n.0 ≤ largest_key) (sym node) (listed_fits scan.format scan.cells ms c.requires.0 c.requires.1.0 i low) in
          absurd (false≢true (subst (λ (o : Option ℕ). IsSome o) w.in_default.is (c.of_rank.ensures.range.1 fits)))
    ]
