use Rattle.lz_yard.proofs.filling.Tables.of.Goals as goal
use Rattle.std.proofs.Common.{◌≡◌, ◌∙◌, replicate, rules}
use Rattle.lz_slot.proofs.Files.ExactBytes.{slots_of_format}
use Rattle.lz_machine.specs.Yards.{idle_actor}
use Rattle.lz_yard.proofs.Opening.FilledTables.{slots_ranged, words_sorted, low_taken, tables_are}

pub link_members-requires : goal.link_members-requires
link_members-requires g c =
    let count = c.slots-slots.ensures.count in
    let few = slots_of_format c.args.vault.now.memory.format _ (rw count at c.slots-slots.ensures.range).1 in
    slots_ranged c.args.vault.now.memory.cells c.args.buckets c.args.passes few c.requires.buckets _ c.requires.members _ (rw count at c.in_ok-words.ensures)

pub new-requires-2 : goal.new-requires-2
new-requires-2 g c =
    let count = c.slots-slots.ensures.count in
    let few = slots_of_format c.args.vault.now.memory.format _ (rw count at c.slots-slots.ensures.range).1 in
    words_sorted c.args.vault.now.memory.cells c.args.buckets c.args.passes few c.requires.buckets _ c.requires.members _ _ (rw count at c.in_ok-words.ensures) c.link_members.ensures

pub new-requires-3-clause-taken : goal.new-requires-3-clause-taken
new-requires-3-clause-taken g c =
    let count = c.slots-slots.ensures.count in
    let few = slots_of_format c.args.vault.now.memory.format _ (rw count at c.slots-slots.ensures.range).1 in
    rw count (low_taken c.args.vault.now.memory.cells c.args.buckets c.args.passes few c.requires.buckets _ c.requires.members _ (c.deref.ensures.value ∙ c.in_ok-taken.ensures))

pub returns : goal.returns
returns g c =
    let count = c.slots-slots.ensures.count in
    let few = slots_of_format c.args.vault.now.memory.format _ (rw count at c.slots-slots.ensures.range).1 in
    let idle : c.in_ok-actors.actors.items ≡ replicate c.args.passes idle_actor = search rules in
    tables_are c.args.vault.now.memory.cells c.args.buckets c.args.passes few c.requires.buckets _ c.requires.members _ _ _ _ _ _
    (rw count at c.in_ok-words.ensures) c.link_members.ensures c.in_ok-list.ensures (c.deref.ensures.value ∙ c.in_ok-taken.ensures) (rw count at c.in_ok-allot.ensures.uses) c.in_ok-allot.ensures.rows idle
