use Rattle.lz_serve.proofs.free_pass.hand_back.Goals as goal
use Rattle.std.{proofs.Common.{◌≡◌, ◌⊎◌, ◌∷◌, ◌||◌, Bool, inl, inr, true, false, map, rules, sym, ap, ◌∙◌}, specs.{List.{list_any}, Vec.Iter.{into_iter_items}}}
use mathlib.Core.Bool.{true≢false}
use Rattle.lz_set.specs.Names.{MayCall}
use Rattle.lz_serve.{specs.Halts.{IsCalmAfter, SawHalt}, proofs.JoinedPasses.{all_back, found_on, handed_on, one_back}}
use Rattle.lz_serve.proofs.free_pass.hand_back.Goals.{then-halted, else-halted}

pub loop-pass-preserved : goal.loop-pass-preserved
loop-pass-preserved g c =
    let kept = c.loop-pass.invariant in
    let last = c.into_parts-pass.ensures in
    let left = into_iter_items c.loop-pass.pass-iterator in
    let rest = into_iter_items c.next.new.self in
    let first : left ≡ c.in-Some.pass ∷ rest = c.in-Some.ensures.steps.0 in
    let joined : c.if-halted.halted ≡ (c.loop-pass.halted || c.into_parts-pass.result.1) =
    elim c.if-halted.branch [ then-halted w ↦ w.halted-is ∙ w.if-halted.true ∙ sym (ap (λ (h : Bool). h || c.into_parts-pass.result.1) w.if-halted.true) | else-halted w ↦ w.halted-is ∙ sym (ap (λ (h : Bool). h || c.into_parts-pass.result.1) w.if-halted.false) ] in
    let either : c.if-halted.halted ≡ true → (c.loop-pass.halted ≡ true) ⊎ (c.into_parts-pass.result.1 ≡ true) =
    λ is. elim c.if-halted.branch [ then-halted w ↦ inl w.if-halted.true | else-halted w ↦ inr (sym w.halted-is ∙ is) ] in
    let neither : c.if-halted.halted ≡ false → (c.loop-pass.halted ≡ false) × (c.into_parts-pass.result.1 ≡ false) =
    λ is. elim c.if-halted.branch [ then-halted w ↦ absurd (true≢false (sym w.if-halted.true ∙ (sym w.halted-is ∙ is))) | else-halted w ↦ (w.if-halted.false, sym w.halted-is ∙ is) ] in (
      search rules,
      search rules,
      all_back (MayCall g.N.Named.board) _ _ _ c.in-Ok.ensures.items kept.2 last.may_call,
      λ is. one_back SawHalt _ _ _ c.in-Ok.ensures.items c.loop-pass.halted c.into_parts-pass.result.1 c.if-halted.halted kept.3 last.seen is either,
      λ is. let quiet = neither is in all_back (IsCalmAfter g.B.Given.parts) _ _ _ c.in-Ok.ensures.items (kept.4 quiet.0) (last.calm quiet.1),
      handed_on left rest c.in-Some.pass first (λ f. f.pass) c.loop-pass.passes.items c.push.new.self.items (map (λ f. f.pass) c.args.free.items) c.into_parts-pass.result.0 c.in-Ok.ensures.items last.same.0 kept.5,
      found_on left rest c.in-Some.pass first (λ f. f.halted) c.loop-pass.halted c.into_parts-pass.result.1 c.if-halted.halted (list_any (λ f. f.halted) c.args.free.items) joined last.same.1 kept.6,
    )
