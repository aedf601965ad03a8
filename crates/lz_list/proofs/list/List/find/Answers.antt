use Rattle.lz_list.proofs.list.List.find.Goals as goal
use Rattle.std.proofs.Common.{◌≡◌, ◌≢◌, ◌<◌, inl, length, subst, sym, arith}
use Rattle.lz_list.{specs.{declared.word.Word.TheVariants.{Key}, Words.{get}, Lists.{Listed, IsTable}}, proofs.Changes.NodeLink.{place_in}}
use Rattle.lz_list.proofs.Searches.KeySearch.{next_slot, next_in_range, found, passed, none_there}

pub behind-requires-clause-place : goal.behind-requires-clause-place
behind-requires-clause-place c =
    place_in c.args.self.now.words c.args.key (subst (λ (l : Listed). IsTable l.words) c.self.view_is c.self.invariant.table) c.place_before.result c.place_before.ensures.before

pub behind-requires-clause-leads : goal.behind-requires-clause-leads
behind-requires-clause-leads c =
    next_in_range c.args.self.now.words (subst (λ (l : Listed). IsTable l.words) c.self.view_is c.self.invariant.table) c.args.key c.place_before.result c.place_before.ensures.before

pub get-requires : goal.get-requires
get-requires c =
    let table = c.self.invariant.table in
    let lt = next_slot c.args.self.now.words (subst (λ (l : Listed). IsTable l.words) c.self.view_is table) c.args.key c.place_before.result c.place_before.ensures.before c.in_ok-slot.slot c.in_ok-slot.ensures in
    let within : c.in_ok-slot.slot < length c.self.inside.words.links = subst (λ (l : Listed). c.in_ok-slot.slot < length l.words.links) (sym c.self.view_is) lt in
    omega (arith, within, table.keys)

pub returns-in_err-slot-clause-none : goal.returns-in_err-slot-clause-none
returns-in_err-slot-clause-none c =
    let table = subst (λ (l : Listed). IsTable l.words) c.self.view_is c.self.invariant.table in
    rw c.from_residual.ensures (none_there c.args.self.now.words table c.args.key c.place_before.result c.place_before.ensures.before (inl (sym c.in_err-slot.ensures)))

pub returns-then-get-key-clause-some : goal.returns-then-get-key-clause-some
returns-then-get-key-clause-some c =
    let table = subst (λ (l : Listed). IsTable l.words) c.self.view_is c.self.invariant.table in
    let same = subst (λ (l : Listed). get l.words (Key c.in_ok-slot.slot) ≡ c.args.key) c.self.view_is (rw c.get.ensures at c.if-get-key.true) in
    found c.args.self.now.words table c.args.key c.place_before.result c.place_before.ensures.before c.in_ok-slot.slot c.in_ok-slot.ensures same

pub returns-else-get-key-clause-none : goal.returns-else-get-key-clause-none
returns-else-get-key-clause-none c =
    let table = subst (λ (l : Listed). IsTable l.words) c.self.view_is c.self.invariant.table in
    let other = subst (λ (l : Listed). get l.words (Key c.in_ok-slot.slot) ≢ c.args.key) c.self.view_is (rw c.get.ensures at c.if-get-key.false) in
    none_there c.args.self.now.words table c.args.key c.place_before.result c.place_before.ensures.before
    (passed c.args.self.now.words table c.args.key c.place_before.result c.place_before.ensures.before c.in_ok-slot.slot c.in_ok-slot.ensures other c.place_before.ensures.last)
