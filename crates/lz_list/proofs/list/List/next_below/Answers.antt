use Rattle.lz_list.proofs.list.List.next_below.Goals as goal
use Rattle.std.proofs.Common.{◌<◌, length, subst, sym, arith}
use Rattle.lz_list.{specs.{declared.word.Word.TheVariants.{Key}, Words.{get}, Lists.{Listed, IsTable}}, proofs.Changes.NodeLink.{place_in}}
use Rattle.lz_list.proofs.Searches.KeySearch.{next_slot, next_before, next_higher, next_in_range}

pub behind-requires-clause-place : goal.behind-requires-clause-place
behind-requires-clause-place c =
    place_in c.args.self.now.words c.args.key (subst (λ (l : Listed). IsTable l.words) c.self.view_is c.self.invariant.table) c.args.place.now c.requires

pub behind-requires-clause-leads : goal.behind-requires-clause-leads
behind-requires-clause-leads c =
    next_in_range c.args.self.now.words (subst (λ (l : Listed). IsTable l.words) c.self.view_is c.self.invariant.table) c.args.key c.args.place.now c.requires

pub get-requires : goal.get-requires
get-requires c =
    let table = c.self.invariant.table in
    let lt = next_slot c.args.self.now.words (subst (λ (l : Listed). IsTable l.words) c.self.view_is table) c.args.key c.args.place.now c.requires c.in_ok-slot.slot c.in_ok-slot.ensures in
    let within : c.in_ok-slot.slot < length c.self.inside.words.links = subst (λ (l : Listed). c.in_ok-slot.slot < length l.words.links) (sym c.self.view_is) lt in
    omega (arith, within, table.keys)

pub returns-then-get-key-clause-some : goal.returns-then-get-key-clause-some
returns-then-get-key-clause-some c =
    let table = subst (λ (l : Listed). IsTable l.words) c.self.view_is c.self.invariant.table in
    let below = subst (λ (l : Listed). get l.words (Key c.in_ok-slot.slot) < c.args.key) c.self.view_is (rw c.get.ensures at c.if-get-key.true) in (
      next_before c.args.self.now.words table c.args.key c.args.place.now c.requires c.in_ok-slot.slot c.in_ok-slot.ensures below,
      next_higher c.args.self.now.words table c.args.key c.args.place.now c.requires c.in_ok-slot.slot c.in_ok-slot.ensures,
    )
