use Rattle.lazyset_file_commands.proofs.growing.grow.Goals as goal
use Rattle.std.proofs.{Common.{sym, subst, IsTrue}, lemmas.Result.{err_from_is_err_and}}
use Rattle.lazyset_file_commands.proofs.Grown.{named_old, named_put, reads_on, refused_late, renewed_still, syncs_then}

pub returns-in_err-members-clause-named : goal.returns-in_err-members-clause-named
returns-in_err-members-clause-named g c = λ honest new_honest slots S holds.
    named_old (g.O.Disk.device c.args.old.now) (g.O.Disk.device c.renew.new.old) (g.N.Disk.device c.renew.new.new) c.renew.ensures.reads
    (g.met.O.Disk.timely c.args.old.now honest) honest c.args.format c.args.n S (g.P.Shelf.stands c.args.shelf.now) c.requires.stands

pub returns-in_err-read_again-clause-growth : goal.returns-in_err-read_again-clause-growth
returns-in_err-read_again-clause-growth g c =
    let p = err_from_is_err_and c.from_residual-in_err-read_again.result c.from_residual-in_err-read_again.ensures.1 in
    rw (p.1, p.2)
    (refused_late (g.O.Disk.device c.args.old.now) (g.O.Disk.device c.renew.new.old) (g.O.Disk.device c.read_again.new.old)
    (g.N.Disk.device c.args.new.now) (g.N.Disk.device c.renew.new.new) (g.N.Disk.device c.read_again.new.new) c.args.format c.args.n c.in_ok-members.members c.requires.rooms
    c.renew.ensures.reads c.read_again.ensures.reads_new c.renew.ensures.honest c.renew.ensures.faults c.in_ok-members.ensures.renewed
    _ (g.P.Shelf.stands c.args.shelf.now) _ c.requires.stands c.in_ok-members.ensures.count c.in_err-read_again.ensures.unread)

pub returns-in_err-read_again-clause-named : goal.returns-in_err-read_again-clause-named
returns-in_err-read_again-clause-named g c = λ honest new_honest slots S holds.
    named_old (g.O.Disk.device c.args.old.now) (g.O.Disk.device c.read_again.new.old) (g.N.Disk.device c.read_again.new.new)
    (syncs_then (g.O.Disk.device c.args.old.now) (g.O.Disk.device c.renew.new.old) (g.O.Disk.device c.read_again.new.old) c.renew.ensures.reads c.read_again.ensures.reads)
    (g.met.O.Disk.timely c.args.old.now honest) honest c.args.format c.args.n S (g.P.Shelf.stands c.args.shelf.now) c.requires.stands

pub returns-in_err-read_again-clause-any_moment : goal.returns-in_err-read_again-clause-any_moment
returns-in_err-read_again-clause-any_moment g c = λ honest new_honest slots S holds.
    let still = subst IsTrue (sym c.renew.ensures.honest) new_honest in
    reads_on (g.N.Disk.device c.args.new.now) (g.N.Disk.device c.renew.new.new) (g.N.Disk.device c.read_again.new.new) _
    (g.met.N.Disk.timely c.renew.new.new still) still (c.renew.ensures.any_moment honest new_honest slots S holds) c.read_again.ensures.reads_new

pub returns-in-Ok-clause-named : goal.returns-in-Ok-clause-named
returns-in-Ok-clause-named g c = λ honest new_honest slots S holds.
    named_put (g.O.Disk.device c.args.old.now) (g.O.Disk.device c.read_again.new.old) (g.N.Disk.device c.read_again.new.new)
    (syncs_then (g.O.Disk.device c.args.old.now) (g.O.Disk.device c.renew.new.old) (g.O.Disk.device c.read_again.new.old) c.renew.ensures.reads c.read_again.ensures.reads)
    (g.met.O.Disk.timely c.args.old.now honest) honest c.args.format c.args.n S slots holds (g.N.Disk.device c.args.new.now) new_honest c.in_ok-members.members
    (renewed_still (g.O.Disk.device c.args.old.now) (g.N.Disk.device c.args.new.now) (g.N.Disk.device c.renew.new.new) (g.N.Disk.device c.read_again.new.new) c.args.format c.args.n
    c.in_ok-members.members c.read_again.ensures.reads_new c.renew.ensures.honest c.in_ok-members.ensures.renewed)
    (g.P.Shelf.stands c.put.new.self)

pub returns-in-Ok-clause-any_moment : goal.returns-in-Ok-clause-any_moment
returns-in-Ok-clause-any_moment g c = λ honest new_honest slots S holds.
    let still = subst IsTrue (sym c.renew.ensures.honest) new_honest in
    reads_on (g.N.Disk.device c.args.new.now) (g.N.Disk.device c.renew.new.new) (g.N.Disk.device c.read_again.new.new) _
    (g.met.N.Disk.timely c.renew.new.new still) still (c.renew.ensures.any_moment honest new_honest slots S holds) c.read_again.ensures.reads_new

pub returns-in-Err-clause-named : goal.returns-in-Err-clause-named
returns-in-Err-clause-named g c = λ honest new_honest slots S holds.
    named_put (g.O.Disk.device c.args.old.now) (g.O.Disk.device c.read_again.new.old) (g.N.Disk.device c.read_again.new.new)
    (syncs_then (g.O.Disk.device c.args.old.now) (g.O.Disk.device c.renew.new.old) (g.O.Disk.device c.read_again.new.old) c.renew.ensures.reads c.read_again.ensures.reads)
    (g.met.O.Disk.timely c.args.old.now honest) honest c.args.format c.args.n S slots holds (g.N.Disk.device c.args.new.now) new_honest c.in_ok-members.members
    (renewed_still (g.O.Disk.device c.args.old.now) (g.N.Disk.device c.args.new.now) (g.N.Disk.device c.renew.new.new) (g.N.Disk.device c.read_again.new.new) c.args.format c.args.n
    c.in_ok-members.members c.read_again.ensures.reads_new c.renew.ensures.honest c.in_ok-members.ensures.renewed)
    (g.P.Shelf.stands c.put.new.self)

pub returns-in-Err-clause-any_moment : goal.returns-in-Err-clause-any_moment
returns-in-Err-clause-any_moment g c = λ honest new_honest slots S holds.
    let still = subst IsTrue (sym c.renew.ensures.honest) new_honest in
    reads_on (g.N.Disk.device c.args.new.now) (g.N.Disk.device c.renew.new.new) (g.N.Disk.device c.read_again.new.new) _
    (g.met.N.Disk.timely c.renew.new.new still) still (c.renew.ensures.any_moment honest new_honest slots S holds) c.read_again.ensures.reads_new
