-- A pass after one more answer.
use Rattle.std.proofs.Common.{◌≡◌, false, List, sym, subst}
use Rattle.lz_slot.specs.declared.format.Format.{Format}
use Rattle.lz_list.specs.Traces.{Begins}
use Rattle.lz_board.specs.{declared.{pass.Pass.{Pass}, view.Part.{Part}}, Seats.{BoardId, part}}
use Rattle.lz_set.specs.Names.{MayCall}
use Rattle.lz_serve.{specs.{Grants.{Grant, IsGrant}, Halts.{IsCalm, IsCalmAfter, SawHalt}, Replies.{says_halted}}, proofs.Seats.{grows, saw_before, stays_calm}}

-- This pass was given, has answered, and is handed back.
module _ (b : BoardId) (F : Format) (given back : Pass) (g : Grant) (is : IsGrant b F g) (from : g.question.before ≡ given) (to : g.after ≡ back) where
  -- it has seen all that it had
  pub grows_there : Begins (part given).known (part back).known
  grows_there =
      subst (λ (p : Pass). Begins (part p).known (part back).known) from
      (subst (λ (p : Pass). Begins (part g.question.before).known (part p).known) to (grows b F g.question.earlier g.question.before g.after g.question.request g.reply is))

  -- it has seen the halt, if it had
  pub still_saw : SawHalt given → SawHalt back
  still_saw seen = subst SawHalt to (saw_before b F g.question.earlier g.question.before g.after g.question.request g.reply is (subst SawHalt (sym from) seen))

  -- and else it is as calm as it was
  pub still_calm : (parts : List Part) → MayCall b back → IsCalmAfter parts given → says_halted g.reply ≡ false → IsCalmAfter parts back
  still_calm parts may_call calm quiet =
      let there = subst (MayCall b) (sym to) may_call in
      subst (IsCalmAfter parts) to (λ all. stays_calm b F g.question.earlier g.question.before g.after g.question.request g.reply is there.0.2.sized quiet (subst (λ (p : Pass). IsCalm (part p)) (sym from) (calm all)))
