use Rattle.lz_disk.proofs.left.left_by_mask.Goals as goal
use Rattle.std.proofs.Common.{rules, ◌≡◌, ◌≤◌, ◌<◌, ◌+◌, [], ◌∷◌, ℕ, List, Bool, true, false, length, get_or, drop, if◌then◌else◌, sym, refl, ◌∙◌, ap, arith}
use Rattle.std.proofs.lemmas.{List.{set-get_or, drop_all}, Bool.{ltb-false}}
use Rattle.lz_disk.{specs.Picks.{is_taken, with_mask}, proofs.PartImages.{making_begins, making_pushes, making_goes_on, making_ends}}
use Rattle.lz_disk.proofs.left.left_by_mask.Goals.{then-at-len, else-at-len, then-at-len-2+in_ok-push, else-at-len-2+then-is_taken-2}
use Rattle.lz_disk.proofs.left.left_by_mask.Goals.{else-at-len-2+else-is_taken-2, then-loop-at-test+else-is_taken, else-loop-at-test}

pub loop-at-init : goal.loop-at-init
loop-at-init c = making_begins (with_mask c.args.mask 0) c.args.sure.now c.args.seen.now c.in_ok-text.text.items (search rules)

pub loop-at-preserved : goal.loop-at-preserved
loop-at-preserved c =
    let at = c.loop-at.at in
    let byte = get_or c.args.seen.now at 0 in
    let old = c.loop-at.text.items in
    let new = c.if-at-len-2.text.items in
    let zs = drop (at + 1) c.args.seen.now in
    let next = with_mask c.args.mask (at + 1) in
    let lt : at < length c.args.seen.now = search rules in
    let either : (ys : List ℕ) (q : Bool) → is_taken c.args.mask at ≡ q → with_mask c.args.mask at (get_or old at 0 ∷ ys) (byte ∷ zs) ≡ (if q then byte else get_or old at 0) ∷ next ys zs =
    λ ys q is. ap (λ (r : Bool). (if r then byte else get_or old at 0) ∷ next ys zs) is in
    elim c.if-at-len-2.branch [
      | then-at-len-2+in_ok-push w ↦
          let taken : is_taken c.args.mask at ≡ true = elim c.if-at-len.branch [
            | then-at-len v ↦ (let low : at < length old = search rules in absurd (omega arith))
            | else-at-len v ↦ cc
          ] in
          making_pushes c.loop-at.invariant next new lt (search rules) (ap (λ (q : Bool). if q then byte ∷ next [] zs else []) taken) (search rules)
      | else-at-len-2+then-is_taken-2 w ↦ making_goes_on c.loop-at.invariant next new lt byte (search rules) (either _ true cc) (search rules)
      | else-at-len-2+else-is_taken-2 w ↦
          let same : new ≡ old = search rules in
          making_goes_on c.loop-at.invariant next new lt (get_or old at 0) (search rules) (either _ false cc) (same ∙ sym (set-get_or old at 0))
    ]

stops : (mask at : ℕ) (text seen : List ℕ) → text ≡ [] → is_taken mask at ≡ false → with_mask mask at text seen ≡ text
stops mask at text [] none shut = refl
stops mask at [] (b ∷ seen) none shut = ap (λ (q : Bool). if q then b ∷ with_mask mask (at + 1) [] seen else []) shut
stops mask at (a ∷ text) (b ∷ seen) none shut = absurd (omega (arith, ap length none))

pub returns : goal.returns
returns c =
    let at = c.loop-at.at in
    let rest = drop at c.loop-at.text.items in
    let seen = drop at c.args.seen.now in
    elim c.loop-at-test.branch [
      | then-loop-at-test+else-is_taken w ↦
          elim w.if-at-len.branch [
            | then-at-len v ↦ (let high : w.len.result ≤ at = ltb-false at w.len.result (sym v.value-is ∙ w.if-is_taken.false) in absurd (omega arith))
            | else-at-len v ↦ making_ends c.loop-at.invariant (stops c.args.mask at rest seen (drop_all at c.loop-at.text.items (search rules)) cc)
          ]
      | else-loop-at-test w ↦ making_ends c.loop-at.invariant (ap (with_mask c.args.mask at rest) (drop_all at c.args.seen.now (search rules)))
    ]
