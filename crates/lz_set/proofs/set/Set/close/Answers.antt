use Rattle.lz_set.proofs.set.Set.close.Goals as goal
use Rattle.std.proofs.Common.{◌+◌, ◌≤◌, sym, subst}
use Rattle.lz_machine.specs.Halts.{told_device}
use Rattle.lz_board.specs.Notes.{shape_of_sizes}
use Rattle.lz_refinement.specs.{Holds.{IsLocked}, Marks.{marks_in}, RunningSets.{HasHistory}}

pub returns : goal.returns
returns g c =
    let ns = c.into_inner-locked.result.notes in
    let yard = c.into_inner-locked.result.yard in
    record {
      left = (
        ns,
        record {
          now = subst (λ disk. HasHistory g.N.Named.board ns (g.D.Disk.device disk)) (sym c.close.ensures.disk) c.holds.ensures.history;
          ever = c.close.ensures.explained;
          stays = c.close.ensures.stays;
          honest = c.close.ensures.life.honest;
          told = c.holds.ensures.told;
          halts = c.holds.ensures.halts;
          device = c.holds.ensures.device;
          faults = subst (λ disk. g.N.Named.first.faults + told_device (marks_in (shape_of_sizes g.N.Named.board.sizes) ns) ≤ (g.D.Disk.device disk).faults) (sym c.close.ensures.disk) c.holds.ensures.faults;
          passes = c.holds.ensures.passes;
          yard = yard;
          locked = subst (λ disk. IsLocked g.N.Named.board ns yard (g.D.Disk.device disk)) (sym c.close.ensures.disk) c.holds.ensures.locked;
          over = c.close.ensures.over;
        },
      );
    }
