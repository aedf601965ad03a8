use Rattle.lz_core.proofs.world.World.play_event.Goals as goal
use Rattle.std.proofs.Common.{◌≡◌, ◌≢◌, true, false, sym, ap, ◌∙◌, rules}
use Rattle.lz_machine.specs.declared.event.Outcome.TheVariants.{Fault}
use Rattle.lz_core.{specs.Worlds.{WorldOver}, proofs.Callers.TrippedTurn.{done_plays, failed_plays}}

pub returns-then-not-is_fault-clause-plays : goal.returns-then-not-is_fault-clause-plays
returns-then-not-is_fault-clause-plays c =
    let other : c.take_turn-turned.result.outcome ≢ Fault = search rules in
    done_plays c.args.self.now c.take_turn-turned.new.self c.args.actor _ _ c.take_turn-turned.ensures.takes other

pub returns-clause-plays : goal.returns-clause-plays
returns-clause-plays c =
    let fault : c.take_turn-turned.result.outcome ≡ Fault = search rules in
    let tripped : c.self.inside.tripped ≡ true = search rules in
    failed_plays c.args.self.now c.take_turn-turned.new.self c.args.actor _ _ c.take_turn-turned.ensures.takes _ fault
    (sym (ap (λ (w : WorldOver). w.tripped) c.self.view_is) ∙ tripped) (ap (λ (w : WorldOver). record w { tripped = false }) c.self.view_is)
