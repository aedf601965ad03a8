use Rattle.lz_judge.proofs.reading.Reader.take.Goals as goal
use Rattle.std.proofs.{Common.{◌≡◌, ◌≤◌, [], ◌∷◌, None, Option, Some, sym, refl, ap, subst, ◌∙◌, IfSome, reverse}, lemmas.List.{reverse-append}}
use Rattle.std.proofs.lemmas.Result.{IfOk-weaker}
use Rattle.lz_judge.specs.{Limits.{largest_place}, Lines.{IsLow}, LinesRead.{line_read}, Readers.{seen_by}, Records.{ArePlaces}, TextsRead.{MayCome}}
use Rattle.lz_judge.specs.declared.line.Line.{Line, TheVariants.{Seen, Placed, Other}}

pub returns-in-Some-Seen-clause-reads : goal.returns-in-Some-Seen-clause-reads
returns-in-Some-Seen-clause-reads c =
    let says = sym c.in_ok-mark.ensures.says ∙ c.in-Some-Seen.is ∙ ap (λ (l : Line). Some l) c.in-Some-Seen.field-0-is in
    IfOk-weaker c.see.result _ _ (λ may told yes. let (is_reader, comes, same) = told yes in (is_reader, (Seen c.in-Some-Seen.mark, says, comes, same))) c.see.ensures.reads

pub returns-in-Some-Seen-clause-refuses : goal.returns-in-Some-Seen-clause-refuses
returns-in-Some-Seen-clause-refuses c =
    let says : line_read c.args.line.now ≡ Some (Seen c.in-Some-Seen.mark) = sym c.in_ok-mark.ensures.says ∙ c.in-Some-Seen.is ∙ ap (λ (l : Line). Some l) c.in-Some-Seen.field-0-is in
    IfOk-weaker c.see.result _ _
    (λ may never no l at comes.
    let same : l ≡ Seen c.in-Some-Seen.mark = cc (at, says) in
    never no (subst (λ (l : Line). MayCome l (seen_by c.args.self.now)) same comes))
    c.see.ensures.refuses

pub returns-in_ok-push-in-Some-Placed-clause-reads : goal.returns-in_ok-push-in-Some-Placed-clause-reads
returns-in_ok-push-in-Some-Placed-clause-reads c = λ yes.
    let point = c.in-Some-Placed.point in
    let is = c.in-Some-Placed.is ∙ ap (λ (l : Line). Some l) c.in-Some-Placed.field-0-is in
    let low : point.place ≤ largest_place = subst (λ (read : Option Line). IfSome read IsLow) is c.in_ok-mark.ensures.low in
    let more : reverse c.push.new.self.items ≡ point ∷ reverse c.args.self.now.points.items =
    ap reverse c.in_ok-push-in-Some-Placed.ensures.items ∙ reverse-append c.args.self.now.points.items (point ∷ []) in (
      record {
        lawful = c.requires.lawful;
        places = subst ArePlaces (sym more) (low, c.requires.places);
        ledger = c.requires.ledger;
        count = c.requires.count;
        few = c.requires.few;
      },
      (Placed point, sym c.in_ok-mark.ensures.says ∙ is, tt, λ i. record { marks = reverse c.args.self.now.marks.items; points = more i }),
    )

pub returns-in-Some-Other-clause-reads : goal.returns-in-Some-Other-clause-reads
returns-in-Some-Other-clause-reads c = λ yes.
    (c.requires, (Other, sym c.in_ok-mark.ensures.says ∙ c.in-Some-Other.is ∙ ap (λ (l : Line). Some l) c.in-Some-Other.field-0-is, tt, refl))

pub returns-in-None-clause-refuses : goal.returns-in-None-clause-refuses
returns-in-None-clause-refuses c = λ no l at comes. let e : None ≡ Some l = sym c.in-None.is ∙ c.in_ok-mark.ensures.says ∙ at in cc
