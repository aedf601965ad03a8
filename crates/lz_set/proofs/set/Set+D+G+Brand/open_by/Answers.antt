use Rattle.lz_set.proofs.set.Set+D+G+Brand.open_by.Goals as goal
use Rattle.std.proofs.Common.{[], refl, sym, ap, ◌∙◌, subst}
use Rattle.lz_list.specs.Addresses.{sizes_in}
use Rattle.lz_board.specs.{Opened.{AreOpened, opened_by}, Seats.{id_of}}
use Rattle.lz_refinement.proofs.Start.{FirstSets.{begins_with_read}, OpenedYard.{words_opened}, OpenedMoments.{now_since}, OpenedLives.{now_lives}}
use Rattle.lz_set.proofs.Opening.{blank}

pub new-requires-clause-opened : goal.new-requires-clause-opened
new-requires-clause-opened g c =
    let first = c.in_ok-yard.ensures.ok.first in
    subst AreOpened (sym c.words.ensures) (words_opened c.in_ok-yard.yard.yard first.text first.starts first.yard)

pub invariant_of-result : goal.invariant_of-result
invariant_of-result g c =
    let new = c.in-Some.ensures in
    blank (id_of c.in-Some.board) c.in-Some.pen (g.D.Disk.device c.args.disk) (g.D.Disk.device c.in_ok-yard.yard.disk) c.args.buckets c.args.passes c.in_ok-yard.yard.yard c.words.result.now c.in-Some.passes.items
    c.in_ok-yard.ensures.ok c.words.ensures new.board.0 new.board.1 new.pen.0 new.pen.1 new.passes.0 new.passes.1 new.passes.2 c.requires.buckets c.requires.passes

pub returns-in-Some-clause-begins : goal.returns-in-Some-clause-begins
returns-in-Some-clause-begins g c =
    let new = c.in-Some.ensures.board in
    begins_with_read (id_of c.in-Some.board) (g.D.Disk.device c.args.disk) (g.D.Disk.device c.in_ok-yard.yard.disk) c.args.buckets c.args.passes c.in_ok-yard.yard.yard c.in_ok-yard.ensures.ok
    (new.0 ∙ ap sizes_in c.words.ensures) (new.1 ∙ ap opened_by c.words.ensures)

pub returns-in-Some-clause-named : goal.returns-in-Some-clause-named
returns-in-Some-clause-named g c = record {
  board = refl;
  since = now_since (id_of c.in-Some.board) [] (g.D.Disk.device c.in_ok-yard.yard.disk) (g.met.D.Disk.timely c.in_ok-yard.yard.disk);
  life = now_lives (g.D.Disk.device c.args.disk) (g.D.Disk.device c.in_ok-yard.yard.disk) c.args.buckets c.args.passes c.in_ok-yard.yard.yard c.in_ok-yard.ensures.ok;
}
