use Rattle.lz_set.proofs.set.Set.close_with.Goals as goal
use Rattle.std.proofs.Common.{◌≡◌, ◌+◌, ◌≤◌, List, All, map, sym, ap, subst}
use Rattle.lz_machine.specs.Halts.{told_device}
use Rattle.lz_board.specs.{declared.view.{Note.{Note}, Part.{Part}}, Notes.{Extends, shape_of_sizes, trace_of}, Plays.{knowing}, Seats.{part}}
use Rattle.lz_refinement.specs.{Holds.{IsLocked}, Marks.{marks_in}, RunningSets.{HasHistory}}
use Rattle.lz_set.specs.Left.{IsWelcome}

pub returns-clause-left : goal.returns-clause-left
returns-clause-left g c =
    let b = g.N.Named.board in
    let was = c.into_inner-locked.result.notes in
    let ns = c.welcome_all.new.locked.notes in
    let yard = c.welcome_all.new.locked.yard in
    let same : ns ≡ was = ap (λ l. l.notes) c.welcome_all.ensures.same in
    record {
      notes = ns;
      left = record {
        now = subst (λ disk. HasHistory b ns (g.D.Disk.device disk)) (sym c.close.ensures.disk) c.holds.ensures.history;
        ever = c.close.ensures.explained;
        stays = c.close.ensures.stays;
        honest = c.close.ensures.life.honest;
        told = c.holds.ensures.told;
        halts = c.holds.ensures.halts;
        device = c.holds.ensures.device;
        faults = subst (λ disk. g.N.Named.first.faults + told_device (marks_in (shape_of_sizes b.sizes) ns) ≤ (g.D.Disk.device disk).faults) (sym c.close.ensures.disk) c.holds.ensures.faults;
        passes = c.holds.ensures.passes;
        yard = yard;
        locked = subst (λ disk. IsLocked b ns yard (g.D.Disk.device disk)) (sym c.close.ensures.disk) c.holds.ensures.locked;
        over = c.close.ensures.over;
      };
      since = subst (λ (l : List Note). All (λ (h : Part). Extends (trace_of b.opened l) h.known) (map (λ p. part p) c.args.passes.now)) (sym same) c.welcome_all.ensures.since;
      seen = subst (λ (l : List Note). map (λ p. part p) c.welcome_all.new.passes ≡ map (knowing (trace_of b.opened l)) (map (λ p. part p) c.args.passes.now)) (sym same) c.welcome_all.ensures.seen;
      welcome = subst (λ (l : List Note). All (IsWelcome b l) (map (λ p. part p) c.welcome_all.new.passes)) (sym same) c.welcome_all.ensures.welcome;
    }
