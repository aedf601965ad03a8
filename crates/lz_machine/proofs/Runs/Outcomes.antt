-- What events answer.
use Rattle.std.proofs.Common.{◌≡◌, ◌≢◌, Bool, true, false, refl, sym, ap, ◌∙◌, arith}
use mathlib.Core.Bool.{false≢true}
use Rattle.lz_machine.specs.{declared.{event.{Event.{Event}, Outcome.{Outcome, TheVariants.{Worn, NotNow, Fault, Dead}}}, actor.Actor.{Actor}}, Yards.{Yard}}
use Rattle.lz_machine.specs.Table.{outcome_of}

-- an event that was done isn't refused, and its device call didn't fail
abbrev pub is_done : Outcome → Bool
is_done Worn = false
is_done NotNow = false
is_done Fault = false
is_done Dead = false
is_done _ = true

done : (y : Yard) (actor : Actor) (e : Event) → is_done (outcome_of y actor e) ≡ true
done y actor e = grind arith

-- so its outcome is none of these
pub not_done : (y : Yard) (actor : Actor) (e : Event) (o : Outcome) → is_done o ≡ false → outcome_of y actor e ≢ o
not_done y actor e o other is = false≢true (sym other ∙ sym (ap is_done is) ∙ done y actor e)

pub no_fault : (y : Yard) (actor : Actor) (e : Event) → outcome_of y actor e ≢ Fault
no_fault y actor e = not_done y actor e Fault refl
