use Rattle.lazyset_file_commands.proofs.list.KeyList.judge.Goals as goal
use Rattle.std.{proofs.Common.{List, ℕ, Option, subst, sym}, specs.{List.{IsDistinct}, Prelude.{MatchOption, nat_eq}}}
use Rattle.lazyset_file_commands.{specs.{Lists.{AreApart, IsFirstAgain, named_by}, declared.lines.Lines.{Lines}}, proofs.AgainLines.{apart_keys, tells_first}}

pub returns-in-Ok-None-clause-ok : goal.returns-in-Ok-None-clause-ok
returns-in-Ok-None-clause-ok c =
    let row = c.as_slice.result.now in
    let apart = subst (λ (first : Option ℕ). MatchOption first (IsDistinct nat_eq row) (IsFirstAgain row)) c.in-Ok-None.field-0-is c.in-Ok-None.ensures in
    apart_keys c.args.self.now.format c.args.self.now.lines c.args.self.now.keys.items c.in-Keys.is (subst (λ (ks : List ℕ). IsDistinct nat_eq ks) c.as_slice.ensures.value apart)

pub returns-in-Ok-Some-clause-err : goal.returns-in-Ok-Some-clause-err
returns-in-Ok-Some-clause-err c =
    let row = c.as_slice.result.now in
    let i = c.in-Ok-Some.index in
    let first = subst (λ (first : Option ℕ). MatchOption first (IsDistinct nat_eq row) (IsFirstAgain row)) c.in-Ok-Some.field-0-is c.in-Ok-Some.ensures in
    tells_first c.args.self.now.format c.args.self.now.lines c.args.self.now.keys.items i c.in-Keys.is (subst (λ (ks : List ℕ). IsFirstAgain ks i) c.as_slice.ensures.value first)

pub returns-in-Texts-clause-ok : goal.returns-in-Texts-clause-ok
returns-in-Texts-clause-ok c = subst (λ (l : Lines). AreApart (named_by c.args.self.now.format l) c.args.self.now.keys.items) (sym c.in-Texts.is) tt
