use Rattle.lz_yard.proofs.yard.Yard.note_pin.Goals as goal
use Rattle.lz_list.specs.declared.word.Word.TheVariants.{Pin as pin_at}
use Rattle.lz_yard.proofs.Events.KeptFit.{set_fits}

pub invariant_of-self : goal.invariant_of-self
invariant_of-self g c = set_fits _ _ (pin_at c.args.actor) c.args.value _ _ c.self.invariant c.set_pin.ensures.yard c.set_pin.ensures.rest.0
