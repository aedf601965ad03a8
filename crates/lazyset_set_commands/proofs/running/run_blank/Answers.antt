use Rattle.lazyset_set_commands.proofs.running.run_blank.Goals as goal
use Rattle.std.proofs.Common.{◌<◌, length, sym, subst, arith}
use Rattle.lz_board.specs.Seats.{IsNew}
use Rattle.lz_set.specs.Names.{MayCall}
use Rattle.lazyset_set_commands.proofs.Services.{all_new}

pub remove-pass-requires : goal.remove-pass-requires
remove-pass-requires g c = omega (arith, all_new g.N.Named.board c.start-set.result.1.items c.start-set.ensures.passes, c.requires.one)

pub run_pass-requires : goal.run_pass-requires
run_pass-requires g c =
    let b = g.N.Named.board in
    let some : 0 < length c.start-set.result.1.items = omega (arith, all_new b c.start-set.result.1.items c.start-set.ensures.passes, c.requires.one) in
    record {
      new = subst (IsNew b) (sym c.remove-pass.ensures.value) (c.start-set.ensures.passes.new 0 c.remove-pass.result some);
      may_call = subst (MayCall b) (sym c.remove-pass.ensures.value) (c.start-set.ensures.may 0 c.remove-pass.result some);
    }

pub returns : goal.returns
returns g c = c.run_pass.ensures
