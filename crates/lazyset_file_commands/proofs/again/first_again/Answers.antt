use Rattle.lazyset_file_commands.proofs.again.first_again.Goals as goal
use Rattle.std.proofs.{Common.{◌∷◌, [], ◌∙◌, Some, get_or, map, take, take_all, ap, subst, sym}, lemmas.List.{get_or_default, map-append, take_more}}
use Rattle.std.specs.{List.{IsDistinct}, Prelude.{nat_eq}}
use Rattle.lazyset_file_commands.proofs.AgainLines.{all_kept, one_apart}
use Rattle.lz_scan_client.proofs.OneEach.{member_found, none_twice}

pub returns-then-branch : goal.returns-then-branch
returns-then-branch c = subst (IsDistinct nat_eq) (all_kept c.args.keys.now) (c.in_ok-has_each_key_once.ensures.0 c.if-branch.true)

pub loop-index-init : goal.loop-index-init
loop-index-init c = record { apart = none_twice; table = c.new-above.ensures }

pub returns-then-is_some : goal.returns-then-is_some
returns-then-is_some c =
    let ks = c.args.keys.now in
    let i = c.loop-index.index in
    let at = c.rank.ensures.value ∙ c.index-keys-index.is ∙ get_or_default ks i c.index-keys-index.result 0 c.loop-index-test.true in
    record {
      low = c.loop-index-test.true;
      apart = c.loop-index.invariant.apart;
      again = member_found (take i ks) (get_or ks i 0) c.rank.result c.find.result at (c.find.ensures.found c.loop-index.invariant.table) ∙ sym c.is_some.ensures ∙ c.if-is_some.true;
    }

pub loop-index-preserved : goal.loop-index-preserved
loop-index-preserved c =
    let ks = c.args.keys.now in
    let i = c.loop-index.index in
    let low = c.loop-index-test.true in
    let at = c.rank.ensures.value ∙ c.index-keys-index.is ∙ get_or_default ks i c.index-keys-index.result 0 low in
    let none = member_found (take i ks) (get_or ks i 0) c.rank.result c.find.result at (c.find.ensures.found c.loop-index.invariant.table) ∙ sym c.is_some.ensures ∙ c.if-is_some.false in
    record {
      apart = one_apart ks i low c.loop-index.invariant.apart none;
      table = c.in_ok-add.ensures (map Some (take i ks)) (Some (get_or ks i 0)) (ap (map Some) (take_more ks i 0 low) ∙ map-append Some (take i ks) (get_or ks i 0 ∷ [])) c.loop-index.invariant.table;
    }

pub returns : goal.returns
returns c = subst (IsDistinct nat_eq) (take_all c.loop-index.index c.args.keys.now c.loop-index-test.false) c.loop-index.invariant.apart
