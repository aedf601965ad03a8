use Rattle.lz_core.proofs.world.World.crash.Goals as goal
use Rattle.std.proofs.{Common.{arith, ◌≡◌, ◌∙◌, ℕ, Bool, List, [], ◌∷◌, Option, false, sym, ap, subst, refl}, lemmas.Bool.Decides.{nat_tests}}
use Rattle.lz_slot.specs.declared.history.HistoryEvent.TheVariants.{Crash as crashed}
use Rattle.lz_disk.specs.{declared.memory.Pick.{Pick}, Images.{Medium, IsImage, at_rest}, Picks.{left_by}, Records.{Past}}
use Rattle.lz_core.specs.declared.{play.Step.TheVariants.{Crash}, open_calls.OpenCall.{OpenCall}}
use Rattle.lz_core.{specs.Worlds.{Goes, WorldOver, IsWorld, HasOne, state_shown, world_shown, disk_shown}, proofs.Runs.PlayedStep.{leads}}
use Rattle.lz_core.proofs.Runs.Endings.{crashes, now_at, disk_is}
use Rattle.lz_machine.specs.{Yards.{Shape}, Runs.{Down, Crashes, disk_of}, Points.{IsBetweenLooks}}
use Rattle.lz_yard.specs.Parts.{YardOver}

module _ (shape : Shape) (yard yard' : Option (YardOver Past)) (disk disk' : Option Past) (callers : List (Option OpenCall)) (calls : ℕ) (tripped now : Bool) (pick : Pick) where
  abbrev IsDown : Type 0
  IsDown = (s : Shape) (cs : List (Option OpenCall)) → state_shown s yard' disk' cs ≡ Down s (at_rest (disk_shown yard disk).bytewise (left_by pick (disk_shown yard disk)))

  abbrev HasImage : Type 0
  HasImage = IsImage (disk_shown yard disk) (left_by pick (disk_shown yard disk))

  abbrev old : WorldOver
  old = world_shown shape yard disk callers calls tripped

  abbrev new : WorldOver
  new = world_shown shape yard' disk' callers calls now

  goes : IsWorld shape yard disk callers calls → IsDown → HasImage → Goes old (Crash pick) (Crashes (left_by pick (disk_of old.state))) (crashed ∷ []) new
  goes world down image =
      let same = sym (disk_is shape yard disk callers) in
      crashes shape old new pick world.ran
      (subst (λ (m : Medium). IsImage m (left_by pick m)) same image)
      (down shape callers ∙ ap (λ (m : Medium). Down shape (at_rest m.bytewise (left_by pick m))) same)
      refl

  pub crashed_world : IsWorld shape yard disk callers calls → HasOne yard' disk' → IsDown → HasImage → IsWorld shape yard' disk' callers calls
  crashed_world world one down image = now_at shape yard disk callers calls tripped world _ _ _ yard' disk' now one (goes world down image) (subst IsBetweenLooks (sym (down shape callers)) tt)

  same_world : IsWorld shape yard disk callers calls → (yard' ≡ yard) × (disk' ≡ disk) → IsWorld shape yard' disk' callers calls
  same_world world same = grind (arith, nat_tests)

pub invariant_of-self : goal.invariant_of-self
invariant_of-self c =
    crashed_world _ c.self.inside.yard _ c.self.inside.disk _ _ _ c.self.inside.tripped false c.args.pick c.self.invariant c.crash_disk.ensures.one c.in-Ok.ensures.down c.in-Ok.ensures.image

pub invariant_of-self-in-Err : goal.invariant_of-self-in-Err
invariant_of-self-in-Err c =
    same_world _ c.self.inside.yard _ c.self.inside.disk _ _ _ c.self.inside.tripped false c.args.pick c.self.invariant c.in-Err.ensures.err

pub returns-in-Ok-clause-ok : goal.returns-in-Ok-clause-ok
returns-in-Ok-clause-ok c =
    rw (← c.self.view_is)
    (leads _ _ _ _ _ (goes _ c.self.inside.yard _ c.self.inside.disk _ _ _ c.self.inside.tripped false c.args.pick c.self.invariant c.in-Ok.ensures.down c.in-Ok.ensures.image) (tt, tt) tt refl)
