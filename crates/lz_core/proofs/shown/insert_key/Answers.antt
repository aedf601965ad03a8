use Rattle.lz_core.proofs.shown.insert_key.Goals as goal
use Rattle.std.proofs.{Common.{◌≡◌, ◌≤◌, ℕ, List, Some, slice_get, ap, ◌∙◌, sym, subst}, lemmas.Bool.{false≢true}}
use Rattle.lz_slot.specs.Sets.{members}
use Rattle.lz_core.{specs.Worlds.{Ascend}, proofs.Members.AscendingKeys.{Below, ascend_insert, members_insert, from_there}}

pub returns-clause-ascending : goal.returns-clause-ascending
returns-clause-ascending c =
    subst Ascend (sym c.in_ok-insert.ensures.items)
    (ascend_insert c.args.keys.now.items c.place_of-place.result c.args.key c.requires
    (subst (λ (q : List ℕ). Below q c.place_of-place.result c.args.key) c.deref.ensures.value c.place_of-place.ensures.below)
    (from_there c.args.keys.now.items c.place_of-place.result c.args.key
    (subst (λ (q : List ℕ). (k : ℕ) → slice_get q c.place_of-place.result ≡ Some k → c.args.key ≤ k) c.deref.ensures.value c.place_of-place.ensures.there)
    (λ at. false≢true (sym c.if-is_at.false ∙ c.is_at.ensures.1 (ap (λ (q : List ℕ). slice_get q c.place_of-place.result) c.deref-2.ensures.value ∙ at)))))

pub returns-clause-members : goal.returns-clause-members
returns-clause-members c = λ k.
    ap (λ (q : List ℕ). members q k) c.in_ok-insert.ensures.items ∙ members_insert c.args.keys.now.items c.place_of-place.result c.args.key k
