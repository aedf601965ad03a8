use Rattle.lz_judge.proofs.judging.first_flaw.Goals as goal
use Rattle.std.proofs.Common.{◌∙◌, sym, subst, ℕ, [], reverse}
use Rattle.lz_slot.specs.{Sets.{members}, Histories.{lives}}
use Rattle.lz_judge.specs.{Records.{IsPoint}, Readings.{IsAt, Ordered}}
use Rattle.lz_judge.proofs.Readings.ReadingTable.{at_point, chain_same, known_all, place_point, places_low, wrong_flaw, wrong_set_flaw}
use Rattle.lz_judge.proofs.Lives.{FirstFlaw.{behind_order, behind_points}, GoodVerdict.{flawless}}

pub misordered-requires-clause-low : goal.misordered-requires-clause-low
misordered-requires-clause-low c = places_low (reverse c.args.points.now) c.args.places.now c.requires.places c.requires.low

pub returns-in-Some-2-clause-flaw : goal.returns-in-Some-2-clause-flaw
returns-in-Some-2-clause-flaw c =
    let (i, p, q, at, at', why) = c.in_ok-call.ensures.found c.in-Some-2.call c.in-Some-2.is in
    let point = λ (j r : ℕ) (there : IsAt c.args.places.now j r). place_point (reverse c.args.points.now) j r (sym (c.requires.places j) ∙ there) in
    (i, p, q, point i p at, point c.in-Some-2.call q at', why)

pub play_lives-requires : goal.play_lives-requires
play_lives-requires c =
    known_all (reverse c.args.marks.now) (reverse c.args.points.now) c.args.places.now c.args.census.now.answers c.requires.lawful c.requires.census.told (c.in_ok-flaw.ensures.none c.in_default.is)
    (subst (λ l. Ordered (reverse c.args.marks.now) c.args.places.now l) c.in_default-2.is c.in_ok-call.ensures)

pub returns-clause-ordered : goal.returns-clause-ordered
returns-clause-ordered c = λ none.
    let (T, chain) = c.in_ok-play.ensures.chain c.in_default-wrong_reply.is c.in_default-wrong_set.is in
    let listed = c.in_ok-flaw.ensures.none c.in_default.is in
    let same = at_point (reverse c.args.marks.now) (reverse c.args.points.now) c.args.places.now c.requires.places listed in
    (T, chain_same (IsAt c.args.places.now) (IsPoint (reverse c.args.points.now)) same (lives (members []) (reverse c.args.marks.now)) T chain)

pub returns-in-Some-wrong_reply-clause-flaw : goal.returns-in-Some-wrong_reply-clause-flaw
returns-in-Some-wrong_reply-clause-flaw c =
    let listed = c.in_ok-flaw.ensures.none c.in_default.is in
    let same = at_point (reverse c.args.marks.now) (reverse c.args.points.now) c.args.places.now c.requires.places listed in
    wrong_flaw (reverse c.args.marks.now) (reverse c.args.points.now) c.args.places.now c.args.census.now.answers c.requires.census.told same c.in-Some-wrong_reply.call
    (c.in_ok-play.ensures.wrong c.in-Some-wrong_reply.call c.in-Some-wrong_reply.is)

pub returns-in-Some-wrong_set-clause-flaw : goal.returns-in-Some-wrong_set-clause-flaw
returns-in-Some-wrong_set-clause-flaw c =
    let listed = c.in_ok-flaw.ensures.none c.in_default.is in
    let same = at_point (reverse c.args.marks.now) (reverse c.args.points.now) c.args.places.now c.requires.places listed in
    wrong_set_flaw (IsAt c.args.places.now) (IsPoint (reverse c.args.points.now)) same (reverse c.args.marks.now) c.in-Some-wrong_set.open (c.in_ok-play.ensures.wrong_set c.in-Some-wrong_set.open c.in-Some-wrong_set.is)

pub returns-clause-flawless : goal.returns-clause-flawless
returns-clause-flawless c = λ none.
    let marks = reverse c.args.marks.now in
    let points = reverse c.args.points.now in
    let (T, chain) = c.in_ok-play.ensures.chain c.in_default-wrong_reply.is c.in_default-wrong_set.is in
    let listed = c.in_ok-flaw.ensures.none c.in_default.is in
    let known = known_all marks points c.args.places.now c.args.census.now.answers c.requires.lawful c.requires.census.told listed
    (subst (λ l. Ordered marks c.args.places.now l) c.in_default-2.is c.in_ok-call.ensures) in
    let same = at_point marks points c.args.places.now c.requires.places listed in
    flawless (record { marks = marks; points = points }) c.args.places.now c.args.census.now.answers T known listed (c.in_ok-flaw.ensures.called c.in_default.is) same
    (chain_same (IsAt c.args.places.now) (IsPoint points) same (lives (members []) marks) T chain)

pub returns-in-Some-2-clause-first : goal.returns-in-Some-2-clause-first
returns-in-Some-2-clause-first c =
    let marks = reverse c.args.marks.now in
    let points = reverse c.args.points.now in
    let listed = c.in_ok-flaw.ensures.none c.in_default.is in
    let same = at_point marks points c.args.places.now c.requires.places listed in
    behind_points (record { marks = marks; points = points }) c.args.places.now listed (c.in_ok-flaw.ensures.called c.in_default.is) same

pub returns-in-Some-wrong_reply-clause-first : goal.returns-in-Some-wrong_reply-clause-first
returns-in-Some-wrong_reply-clause-first c =
    let marks = reverse c.args.marks.now in
    let points = reverse c.args.points.now in
    let listed = c.in_ok-flaw.ensures.none c.in_default.is in
    let same = at_point marks points c.args.places.now c.requires.places listed in
    let known = known_all marks points c.args.places.now c.args.census.now.answers c.requires.lawful c.requires.census.told listed
    (subst (λ l. Ordered marks c.args.places.now l) c.in_default-2.is c.in_ok-call.ensures) in
    behind_order (record { marks = marks; points = points }) c.args.places.now listed (c.in_ok-flaw.ensures.called c.in_default.is) same c.args.census.now.answers known

pub returns-in-Some-wrong_set-clause-first : goal.returns-in-Some-wrong_set-clause-first
returns-in-Some-wrong_set-clause-first c =
    let marks = reverse c.args.marks.now in
    let points = reverse c.args.points.now in
    let listed = c.in_ok-flaw.ensures.none c.in_default.is in
    let same = at_point marks points c.args.places.now c.requires.places listed in
    let known = known_all marks points c.args.places.now c.args.census.now.answers c.requires.lawful c.requires.census.told listed
    (subst (λ l. Ordered marks c.args.places.now l) c.in_default-2.is c.in_ok-call.ensures) in
    behind_order (record { marks = marks; points = points }) c.args.places.now listed (c.in_ok-flaw.ensures.called c.in_default.is) same c.args.census.now.answers known
