use Rattle.lz_core.proofs.world.World.stop.Goals as goal
use Rattle.std.proofs.Common.{◌≡◌, ◌∙◌, List, Option, sym, ap, subst, refl}
use Rattle.lz_disk.specs.{Images.{Medium}, Records.{Past}}
use Rattle.lz_core.{specs.{declared.open_calls.OpenCall.{OpenCall}, Worlds.{state_shown, disk_shown}}, proofs.Runs.PlayedStep.{leads}}
use Rattle.lz_core.proofs.Runs.Endings.{stops, now_at, disk_is}
use Rattle.lz_machine.specs.{Yards.{Shape}, Runs.{Down, disk_of}, Points.{IsBetweenLooks}}
use Rattle.lz_yard.specs.Parts.{YardOver}

-- a world whose service ended shows what its disk was
down_by : (shape : Shape) (yard yard' : Option (YardOver Past)) (disk disk' : Option Past) (callers : List (Option OpenCall))
    → state_shown shape yard' disk' callers ≡ Down shape (disk_shown yard disk)
    → state_shown shape yard' disk' callers ≡ Down shape (disk_of (state_shown shape yard disk callers))
down_by shape yard yard' disk disk' callers down = down ∙ ap (λ (m : Medium). Down shape m) (sym (disk_is shape yard disk callers))

pub invariant_of-self : goal.invariant_of-self
invariant_of-self c =
    let down = c.stop_disk.ensures.down (record { slots = c.self.inside.slots; buckets = c.self.inside.buckets; passes = 64 }) c.self.inside.callers.items in
    now_at _ _ _ _ _ c.self.inside.tripped c.self.invariant _ _ _ _ _ c.self.inside.tripped c.stop_disk.ensures.one
    (stops _ _ _ c.self.invariant.ran (down_by _ c.self.inside.yard _ c.self.inside.disk _ _ down) refl)
    (subst IsBetweenLooks (sym down) tt)

pub returns : goal.returns
returns c =
    let down = c.stop_disk.ensures.down (record { slots = c.self.inside.slots; buckets = c.self.inside.buckets; passes = 64 }) c.self.inside.callers.items in
    rw (← c.self.view_is) (leads _ _ _ _ _ (stops _ _ _ c.self.invariant.ran (down_by _ c.self.inside.yard _ c.self.inside.disk _ _ down) refl) (tt, tt) tt refl)
