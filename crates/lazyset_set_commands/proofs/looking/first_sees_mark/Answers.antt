use Rattle.lazyset_set_commands.proofs.looking.first_sees_mark.Goals as goal
use Rattle.std.proofs.Common.{rules, ◌<◌, length}
use Rattle.lazyset_set_commands.proofs.Services.{unused_first}

pub returns-clause-unused : goal.returns-clause-unused
returns-clause-unused g c = λ unused.
    let some : 0 < length c.args.passes.now.items = search rules in
    unused_first c.args.passes.now.items c.index_mut.result.now c.has_mark.new.pass some c.index_mut.ensures.value c.has_mark.ensures.looked.keeps.steps unused
