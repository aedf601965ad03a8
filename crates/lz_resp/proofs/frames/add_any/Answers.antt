use Rattle.lz_resp.proofs.frames.add_any.Goals as goal
use Rattle.std.proofs.{Common.{◌≡◌, ◌∙◌, [], ◌∷◌, ℕ, List, Bor, drop, refl, sym, ap, subst}, lemmas.{List.{append-nil}, Result.{IfOk-weaker}}}
use Rattle.std.specs.Prelude.{map}
use Rattle.lz_resp.specs.{Pieces.{Adds, step_with, stops}, Replies.{fault_text}, declared.item.Item.TheVariants.{Ends}}
use Rattle.lz_resp.proofs.Texts.{first_frame, first_waits, first_wrong}

pub returns-in-Ok-Some-clause-ok : goal.returns-in-Ok-Some-clause-ok
returns-in-Ok-Some-clause-ok c =
    let arguments = map (λ (w : Bor (List ℕ)). w.now) c.in-Ok-Some.arguments.items in
    let rest = drop c.in-Ok-Some.count c.args.text.now in
    let so = first_frame c.args.state c.args.text.now arguments rest (rw c.in-Ok-Some.field-0-is at c.in-Ok-Some.ensures.gives)
    ∙ ap (λ (v : List (Bor (List ℕ))). step_with c.args.state (map (λ (w : Bor (List ℕ)). w.now) v) rest) (sym c.as_slice.ensures.value) in
    IfOk-weaker c.add_frame.result _ _ (λ next p. (p.0, subst (λ s. Adds s next c.args.text.now p.0) (sym so) (p.1 c.args.text.now), p.2)) c.add_frame.ensures.ok

pub returns-in-Ok-None-clause-ok : goal.returns-in-Ok-None-clause-ok
returns-in-Ok-None-clause-ok c =
    ([], (first_waits c.args.state c.args.text.now (rw c.in-Ok-None.field-0-is at c.in-Ok-None.ensures.gives), refl), sym (append-nil c.args.items.now.items))

pub returns-in_ok-push_back-in-Err-Faulty-clause-ok : goal.returns-in_ok-push_back-in-Err-Faulty-clause-ok
returns-in_ok-push_back-in-Err-Faulty-clause-ok c =
    let told : c.in_ok-fault_text-in-Err-Faulty.field-0 ≡ fault_text c.in-Err-Faulty.fault = c.in_ok-fault_text-in-Err-Faulty.ensures in (
      Ends c.in_ok-fault_text-in-Err-Faulty.field-0 ∷ [],
      first_wrong c.args.state c.args.text.now c.in-Err-Faulty.fault (rw c.in-Err-Faulty.field-0-is at c.in-Err-Faulty.ensures.gives)
          ∙ ap (λ (t : List ℕ). stops (Ends t ∷ [])) (sym told),
      rw c.in_ok-push_back-in-Err-Faulty.was at c.push_back.ensures.items,
    )
