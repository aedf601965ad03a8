use Rattle.lazyset_file_commands.proofs.copying.make_copy.Goals as goal
use Rattle.std.proofs.Common.{◌≤◌, List, ℕ, length, inr}
use Rattle.lz_scan_client.specs.{Scanning.{IsScan}, Scans.{IsToldBy}}
use Rattle.lazyset_file_commands.proofs.Copied.{told_members}

pub make_with-requires : goal.make_with-requires
make_with-requires g c =
    let input = g.R.Read.remaining c.args.reader.now in
    let before = g.A.Write.contents c.args.asker.now in
    let after = g.A.Write.contents c.scan_rooms.new.writer in
    let told : IsScan input before after c.in-Ok-All.keys.items × (length c.in-Ok-All.keys.items ≤ c.args.slots) = rw c.in-Ok-All.field-0-is at c.in-Ok-All.ensures in
    let members = told_members c.args.format c.args.slots input before after c.in-Ok-All.keys.items c.requires.rooms told.0 told.1 in
    record { members = rw c.deref.ensures.value members }

pub returns-in-Ok-clause-any_moment : goal.returns-in-Ok-clause-any_moment
returns-in-Ok-clause-any_moment g c = λ honest.
    let told = rw c.in-Ok-All.field-0-is at c.in-Ok-All.ensures in
    inr (c.deref.result.now, rw c.deref.ensures.value told.0, c.make_with.ensures.any_moment honest)

pub returns-clause-any_moment : goal.returns-clause-any_moment
returns-clause-any_moment g c = λ honest.
    let told = rw c.in-Ok-All.field-0-is at c.in-Ok-All.ensures in
    inr (c.deref.result.now, rw c.deref.ensures.value told.0, c.make_with.ensures.any_moment honest)
