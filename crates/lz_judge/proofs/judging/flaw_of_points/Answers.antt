use Rattle.lz_judge.proofs.judging.flaw_of_points.Goals as goal
use Rattle.std.proofs.Common.{◌≡◌, ◌∙◌, sym, Some, None, true, false, reverse}
use Rattle.lz_judge.proofs.Lives.{FirstFlaw.{first_refused, first_stranger, first_twin, first_unlisted}, GoodVerdict.{is_made_tells}}
use Rattle.lz_judge.proofs.Readings.ReadingTable.{made_is, only_place, place_point, point_place}

pub returns-in-Some-clause-flaw : goal.returns-in-Some-clause-flaw
returns-in-Some-clause-flaw c =
    let found = c.stranger.ensures.found c.in-Some.call c.in-Some.is in (
      found.0,
      λ made.
          let e : true ≡ false = sym (made_is (reverse c.args.marks.now) c.in-Some.call made) ∙ sym (c.requires.census.made c.in-Some.call) ∙ found.1 in cc,
    )

pub returns-in-Some-refused_listed-clause-flaw : goal.returns-in-Some-refused_listed-clause-flaw
returns-in-Some-refused_listed-clause-flaw c =
    let call = c.in-Some-refused_listed.call in
    let found = c.refused_listed.ensures.found call c.in-Some-refused_listed.is in
    (found.0, (found.1.0, place_point (reverse c.args.points.now) call found.1.0 (sym (c.requires.places call) ∙ found.1.1)))

pub returns-in-Some-unlisted-clause-flaw : goal.returns-in-Some-unlisted-clause-flaw
returns-in-Some-unlisted-clause-flaw c =
    let call = c.in-Some-unlisted.call in
    let found = c.unlisted.ensures.found call c.in-Some-unlisted.is in (
      found.0,
      λ p at.
          let there = point_place (reverse c.args.points.now) call p at in
          let e : None ≡ Some there.0 = sym found.1 ∙ c.requires.places call ∙ there.1 in cc,
    )

pub returns-clause-none : goal.returns-clause-none
returns-clause-none c = λ none. record {
  placed = λ i p at. c.requires.places i ∙ only_place (reverse c.args.points.now) i p (c.in_ok-call.ensures.1.none c.in_default-2.is i) at;
  refused = c.refused_listed.ensures.none c.in_default-refused_listed.is;
  answered = c.unlisted.ensures.none c.in_default-unlisted.is;
}

pub returns-clause-called : goal.returns-clause-called
returns-clause-called c = λ none. record {
  made = λ i p at. is_made_tells (reverse c.args.marks.now) i (sym (c.requires.census.made i) ∙ c.stranger.ensures.none c.in_default.is i p at);
  once = λ i. c.in_ok-call.ensures.1.none c.in_default-2.is i;
}

pub returns-in-Some-clause-first : goal.returns-in-Some-clause-first
returns-in-Some-clause-first c = first_stranger _ c.in-Some.call

pub returns-in-Some-2-clause-first : goal.returns-in-Some-2-clause-first
returns-in-Some-2-clause-first c =
    first_twin _ c.in-Some-2.call (λ i p at. is_made_tells (reverse c.args.marks.now) i (sym (c.requires.census.made i) ∙ c.stranger.ensures.none c.in_default.is i p at))

pub returns-in-Some-refused_listed-clause-first : goal.returns-in-Some-refused_listed-clause-first
returns-in-Some-refused_listed-clause-first c =
    first_refused _ c.in-Some-refused_listed.call (λ i p at. is_made_tells (reverse c.args.marks.now) i (sym (c.requires.census.made i) ∙ c.stranger.ensures.none c.in_default.is i p at))
    (λ i. c.in_ok-call.ensures.1.none c.in_default-2.is i)

pub returns-in-Some-unlisted-clause-first : goal.returns-in-Some-unlisted-clause-first
returns-in-Some-unlisted-clause-first c =
    let once = c.in_ok-call.ensures.1.none c.in_default-2.is in
    first_unlisted _ c.in-Some-unlisted.call (λ i p at. is_made_tells (reverse c.args.marks.now) i (sym (c.requires.census.made i) ∙ c.stranger.ensures.none c.in_default.is i p at))
    (λ i. once i)
    (λ i p refused is.
    let e : None ≡ Some p = sym (c.refused_listed.ensures.none c.in_default-refused_listed.is i refused) ∙ c.requires.places i ∙ only_place (reverse c.args.points.now) i p (once i) is in cc)
