-- A conversation on its stream: it stays the stream's, whatever comes and goes.
use Rattle.lz_serve.specs.declared.turn.Turn.TheVariants as turn
use Rattle.lz_serve.specs.declared.stream.Received.TheVariants as received
use Rattle.lz_serve.specs.declared.stream.Taken.TheVariants as taken
use Rattle.lz_serve.proofs.Standings as stands
use Rattle.std.proofs.Common.{◌≡◌, ℕ, Bool, true, false, List, [], ◌∷◌, ◌++◌, ◌+◌, ◌-◌, ◌≤◌, take, drop, length, length-drop, Option, Some, None, IfSome}
use Rattle.std.proofs.{Common.{is_none, refl, sym, ap, ◌∙◌, subst, arith}, lemmas.List.{append-nil, Elements.{All-weaker}}}
use Rattle.lz_proto.specs.declared.{request.Request.{Request}, reply.Reply.{Reply}, end.End.TheVariants.{Done}}
use Rattle.lz_serve.specs.{declared.{language.Language.{Language}, line.Line.{Line}, reader.Reader.{Reader}, turn.Turn.{Turn}}, Grants.{Grant}}
use Rattle.lz_serve.specs.{Listings.{Listing}, Lines.{AreBefore, AreEarned, IsBefore, awaited}}
use Rattle.lz_serve.specs.Conversations.{Fed, Finished, IsAt, Noted, Paged, Talk, Told, nothing_yet, stopped}
use Rattle.lz_serve.specs.Streams.{IsFresh, IsTalkOf, MayTake, Receives, Takes, Traffic}
use Rattle.lz_serve.proofs.LinesUnderWay.{before_same, earned_after, earned_same, granted_of}
use Rattle.lz_list.{specs.Traces.{Begins, Trace}, proofs.Traces.WalkEnd.{begins_before}}
use Rattle.lz_board.specs.{declared.pass.Pass.{Pass}, Seats.{part}}

abbrev pub IfSpoken : Option Traffic → Language → Type 0
IfSpoken s spoken = IfSome s (λ t. spoken ≡ t.spoken)

module _ (P : List Grant → Type 0) (L : Listing → Type 0) (connection : ℕ) where
  -- it is at another place on the same stream
  moved : (s : Traffic) (old new : Talk) (grants : List Grant) → IsTalkOf P L connection (Some s) old → P grants → IsAt L connection grants s.received s.taken new → new.spoken ≡ old.spoken → new.reader ≡ old.reader → IsTalkOf P L connection (Some s) new
  moved s old new grants was may at spoken reader = (grants, may, at, spoken ∙ was.3, ap (λ (r : Option Reader). is_none r) reader ∙ was.4)

  -- at the beginning
  pub begins : (s : Option Traffic) (spoken : Language) (t : Talk) → IsFresh s → P [] → t ≡ nothing_yet spoken → IfSpoken s spoken → IsTalkOf P L connection s t
  begins None spoken t fresh none is same = tt
  begins (Some s) spoken t fresh none is same =
      subst (IsTalkOf P L connection (Some s)) (sym is) (
        [],
        none,
        subst (λ (x : List ℕ). IsAt L connection [] x s.taken (nothing_yet spoken)) (sym fresh.0) (subst (λ (x : List ℕ). IsAt L connection [] [] x (nothing_yet spoken)) (sym fresh.2) (stands.begins L connection spoken)),
        same,
        sym fresh.1,
      )

  -- where a piece came
  pub fed : (before after : Option Traffic) (n : ℕ) (buffer : List ℕ) (old new : Talk) → Receives before after (received.Count n) buffer → Fed (take n buffer) old new → IsTalkOf P L connection before old → IsTalkOf P L connection after new
  fed None after n buffer old new is step was = subst (λ (s : Option Traffic). IsTalkOf P L connection s new) (sym is) tt
  fed (Some s) after n buffer old new is step was =
      subst (λ (x : Option Traffic). IsTalkOf P L connection x new) (sym is.1) (
        was.0,
        was.1,
        stands.fed L connection was.0 s.received s.taken old was.2 (take n buffer) new step,
        ap (λ (t : Talk). t.spoken) step.5 ∙ was.3,
        ap (λ (t : Talk). is_none t.reader) step.5 ∙ sym is.0,
      )

  -- where a request came beside the text
  pub asked_beside : (before after : Option Traffic) (request : Request) (new : Talk) → IfSome before (λ t. Some request ≡ None) → after ≡ before → IsTalkOf P L connection after new
  asked_beside None after request new none same = subst (λ (s : Option Traffic). IsTalkOf P L connection s new) (sym same) tt
  asked_beside (Some s) after request new none same = absurd (cc)

  -- where the text has ended
  pub finished : (before after : Option Traffic) (buffer : List ℕ) (old new : Talk) → Receives before after received.Over buffer → Finished old new → IsTalkOf P L connection before old → IsTalkOf P L connection after new
  finished None after buffer old new is step was = subst (λ (s : Option Traffic). IsTalkOf P L connection s new) (sym is) tt
  finished (Some s) after buffer old new is step was =
      subst (λ (x : Option Traffic). IsTalkOf P L connection x new) (sym is) (
        was.0,
        was.1,
        stands.finished L connection was.0 s.received s.taken old was.2 new step,
        ap (λ (t : Talk). t.spoken) step.4 ∙ was.3,
        ap (λ (t : Talk). is_none t.reader) step.4,
      )

  -- where its service stops
  pub refusing : (s : Option Traffic) (old new : Talk) → new ≡ stopped old → IsTalkOf P L connection s old → IsTalkOf P L connection s new
  refusing None old new step was = tt
  refusing (Some s) old new step was =
      moved s old new was.0 was was.1 (stands.refusing L connection was.0 s.received s.taken old was.2 new step) (ap (λ (t : Talk). t.spoken) step) (ap (λ (t : Talk). t.reader) step)

  -- where so many bytes were taken of what was to be sent
  pub sent : (before after : Option Traffic) (n : ℕ) (old new : Talk) → Takes before after (taken.Count n) old.unsent → new ≡ record old { unsent = drop n old.unsent } → IsTalkOf P L connection before old → IsTalkOf P L connection after new
  sent None after n old new is step was = subst (λ (s : Option Traffic). IsTalkOf P L connection s new) (sym is) tt
  sent (Some s) after n old new is step was =
      subst (λ (x : Option Traffic). IsTalkOf P L connection x new) (sym is) (
        was.0,
        was.1,
        stands.sent_more L connection was.0 s.received s.taken old was.2 n new step,
        ap (λ (t : Talk). t.spoken) step ∙ was.3,
        ap (λ (t : Talk). is_none t.reader) step ∙ was.4,
      )

  -- where a request was handed out
  pub handed_out : (s : Option Traffic) (request : Request) (old new : Talk) → old.waiting ≡ request ∷ drop 1 old.waiting → new ≡ record old { waiting = drop 1 old.waiting; under = old.under ++ awaited request ∷ [] }
      → IsTalkOf P L connection s old → IsTalkOf P L connection s new
  handed_out None request old new next step was = tt
  handed_out (Some s) request old new next step was =
      moved s old new was.0 was was.1 (stands.handed_out L connection was.0 s.received s.taken old was.2 request new next step) (ap (λ (t : Talk). t.spoken) step) (ap (λ (t : Talk). t.reader) step)

  -- where a reply was noted
  pub noted : (s : Option Traffic) (number : ℕ) (request : Request) (reply : Reply) (old new : Talk) → Noted number request reply old new → IsTalkOf P L connection s old → IsTalkOf P L connection s new
  noted None number request reply old new step was = tt
  noted (Some s) number request reply old new step was =
      moved s old new was.0 was was.1 (stands.noted L connection was.0 s.received s.taken old was.2 number request reply new step) (ap (λ (t : Talk). t.spoken) step.1) (ap (λ (t : Talk). t.reader) step.1)

  -- where what is promised of the replies is known otherwise
  pub known_so : (Q : List Grant → Type 0) (s : Option Traffic) (t : Talk) → ((grants : List Grant) → P grants → Q grants) → IsTalkOf P L connection s t → IsTalkOf Q L connection s t
  known_so Q None t so was = tt
  known_so Q (Some s) t so was = (was.0, so was.0 was.1, was.2, was.3, was.4)

  -- what it has unsent may be taken
  pub may_take : (A : Type 0) (s : Option Traffic) (t : Talk) → (t.stops ≡ true → A) → IsTalkOf P L connection s t → MayTake P L A s t.unsent
  may_take A s t asked at = (connection, t, at, asked, [], sym (append-nil t.unsent))

-- how many requests of its a turn tells
abbrev count_of : Turn → ℕ
count_of (turn.Asks wording count) = count
count_of other = 0

-- What an exchange leaves that was told.
record Left (first : Turn) (old new : Talk) : Type 0 where
  told : new.told ≡ old.told + count_of first
  under : new.under ≡ drop (count_of first) old.under
  few : count_of first ≤ length old.under
  reader : new.reader ≡ old.reader
  spoken : new.spoken ≡ old.spoken
  stops : new.stops ≡ old.stops

left : (first : Turn) (old new : Talk) → Told first old new → Left first old new
left (turn.Asks wording count) old new (replies, few, of, is) =
    record { told = ap (λ (t : Talk). t.told) is; under = ap (λ (t : Talk). t.under) is; few = few; reader = ap (λ (t : Talk). t.reader) is; spoken = ap (λ (t : Talk). t.spoken) is; stops = ap (λ (t : Talk). t.stops) is }
left (turn.Says said) old new is =
    record { told = ap (λ (t : Talk). t.told) is ∙ omega arith; under = ap (λ (t : Talk). t.under) is; few = omega arith; reader = ap (λ (t : Talk). t.reader) is; spoken = ap (λ (t : Talk). t.spoken) is; stops = ap (λ (t : Talk). t.stops) is }
left (turn.Lists scan) old new is = absurd is
left (turn.Tells query) old new (f, is) =
    record { told = ap (λ (t : Talk). t.told) is ∙ omega arith; under = ap (λ (t : Talk). t.under) is; few = omega arith; reader = ap (λ (t : Talk). t.reader) is; spoken = ap (λ (t : Talk). t.spoken) is; stops = ap (λ (t : Talk). t.stops) is }
left (turn.Ends said) old new is =
    record { told = ap (λ (t : Talk). t.told) is ∙ omega arith; under = ap (λ (t : Talk). t.under) is; few = omega arith; reader = ap (λ (t : Talk). t.reader) is; spoken = ap (λ (t : Talk). t.spoken) is; stops = ap (λ (t : Talk). t.stops) is }

module _ (P : List Grant → Type 0) (L : Listing → Type 0) (seen : Trace) (connection : ℕ) where
  -- where an exchange is told that asks nothing
  nothing_told : (s : Traffic) (first : Turn) (old new : Talk) (puts : List Pass) → old.turns ≡ first ∷ drop 1 old.turns → old.ended ≡ Done → stands.HasGrants connection old first [] → Told first old new
      → IsTalkOf (AreBefore P seen old.under puts) L connection (Some s) old → IsTalkOf (AreBefore P seen old.under puts) L connection (Some s) new
  nothing_told s first old new puts next goes none step was =
      let l = left first old new step in
      moved (AreBefore P seen old.under puts) L connection s old new (was.0 ++ []) was (subst (AreBefore P seen old.under puts) (sym (append-nil was.0)) was.1)
      (stands.told L connection was.0 s.received s.taken old new was.2 [] goes first next none step) l.spoken l.reader

  told_so : (s : Traffic) (first : Turn) (old new : Talk) (puts : List Pass) → old.turns ≡ first ∷ drop 1 old.turns → old.ended ≡ Done → Told first old new → AreEarned P seen connection old.told old.under puts
      → IsTalkOf (AreBefore P seen old.under puts) L connection (Some s) old → IsTalkOf (AreBefore P seen (drop (count_of first) old.under) (drop (count_of first) puts)) L connection (Some s) new
  told_so s (turn.Asks wording count) old new puts next goes (replies, few, of, is) earned was =
      let g = granted_of P seen connection count old.told old.under puts replies was.0 few of earned was.1 in (
        was.0 ++ g.grants,
        g.come,
        stands.told L connection was.0 s.received s.taken old new was.2 g.grants goes (turn.Asks wording count) next (g.for, of ∙ ap Some (sym g.are)) (replies, few, of, is),
        ap (λ (t : Talk). t.spoken) is ∙ was.3,
        ap (λ (t : Talk). is_none t.reader) is ∙ was.4,
      )
  told_so s (turn.Says said) old new puts next goes step earned was = nothing_told s (turn.Says said) old new puts next goes refl step was
  told_so s (turn.Lists scan) old new puts next goes step earned was = absurd step
  told_so s (turn.Tells query) old new puts next goes step earned was = nothing_told s (turn.Tells query) old new puts next goes refl step was
  told_so s (turn.Ends said) old new puts next goes step earned was = nothing_told s (turn.Ends said) old new puts next goes refl step was

  -- where the first exchange is told, whose replies were granted and may be told
  pub told_there : (s : Option Traffic) (first : Turn) (old new : Talk) (puts its : List Pass) → old.turns ≡ first ∷ drop 1 old.turns → old.ended ≡ Done → Told first old new → AreEarned P seen connection old.told old.under puts
      → its ≡ drop (count_of first) puts → IsTalkOf (AreBefore P seen old.under puts) L connection s old → IsTalkOf (AreBefore P seen new.under its) L connection s new
  told_there None first old new puts its next goes step earned to was = tt
  told_there (Some s) first old new puts its next goes step earned to was =
      let l = left first old new step in
      known_so (AreBefore P seen (drop (count_of first) old.under) (drop (count_of first) puts)) L connection (AreBefore P seen new.under its) (Some s) new
      (λ grants so. before_same P seen (drop (count_of first) old.under) new.under (drop (count_of first) puts) its grants l.under to so) (told_so s first old new puts next goes step earned was)

  -- the lines under way are the same
  pub same_lines : (s : Option Traffic) (t : Talk) (under those : List Line) (puts : List Pass) → those ≡ under → IsTalkOf (AreBefore P seen under puts) L connection s t → IsTalkOf (AreBefore P seen those puts) L connection s t
  same_lines s t under those puts is was = known_so (AreBefore P seen under puts) L connection (AreBefore P seen those puts) s t (λ grants so. before_same P seen under those puts puts grants is refl so) was

  -- where the first exchange is told, which asks for a page, by a pass that had seen what the client has
  pub paged : (s : Option Traffic) (l : Listing) (old new : Talk) (puts : List Pass) → old.turns ≡ turn.Lists l.scan ∷ drop 1 old.turns → old.ended ≡ Done → L l → Begins seen (part l.before).known → Paged l old new
      → IsTalkOf (AreBefore P seen old.under puts) L connection s old → IsTalkOf (AreBefore P seen old.under puts) L connection s new
  paged None l old new puts next goes so late step was = tt
  paged (Some s) l old new puts next goes so late step was =
      moved (AreBefore P seen old.under puts) L connection s old new was.0 was was.1
      (stands.page_told L connection was.0 s.received s.taken old new was.2 [] goes l next
      (record {
        so = so;
        its = refl;
        late = All-weaker (IsBefore seen old.under puts) (λ e. Begins (part e.after).known (part l.before).known)
            (λ e is. begins_before (part e.after).known seen (part l.before).known is.seen_so late) was.0 was.1.1;
      }) step)
      (ap (λ (t : Talk). t.spoken) step) (ap (λ (t : Talk). t.reader) step)

  -- where that was told, or nothing was
  pub page_or_not : (s : Option Traffic) (was_told : Bool) (l : Listing) (old new : Talk) (puts : List Pass) → L l → Begins seen (part l.before).known
      → (was_told ≡ true → (old.turns ≡ turn.Lists l.scan ∷ drop 1 old.turns) × (old.ended ≡ Done) × Paged l old new) → (was_told ≡ false → new ≡ old)
      → IsTalkOf (AreBefore P seen old.under puts) L connection s old → IsTalkOf (AreBefore P seen old.under puts) L connection s new
  page_or_not s true l old new puts so late told none was = let (next, goes, step) = told refl in paged s l old new puts next goes so late step was
  page_or_not s false l old new puts so late told none was = subst (IsTalkOf (AreBefore P seen old.under puts) L connection s) (sym (none refl)) was

  -- What stays where the first exchange was told, or none was.
  pub record Stays (s : Option Traffic) (old new : Talk) (puts its : List Pass) : Type 0 where
    pub reader : new.reader ≡ old.reader
    pub stops : new.stops ≡ old.stops
    pub earned : AreEarned P seen connection new.told new.under its
    pub more : old.told ≤ new.told
    pub lines : new.told + length new.under ≡ old.told + length old.under
    pub under : new.under ≡ drop (new.told - old.told) old.under
    pub talk : IsTalkOf (AreBefore P seen old.under puts) L connection s old → IsTalkOf (AreBefore P seen new.under its) L connection s new

  pub told_or_not : (s : Option Traffic) (was_told : Bool) (old new : Talk) (puts its : List Pass) → its ≡ drop (new.told - old.told) puts
      → (was_told ≡ true → (first : Turn) × (old.turns ≡ first ∷ drop 1 old.turns) × (old.ended ≡ Done) × Told first old new) → (was_told ≡ false → new ≡ old) → AreEarned P seen connection old.told old.under puts
      → Stays s old new puts its
  told_or_not s true old new puts its to told none earned =
      let (first, next, goes, step) = told refl in
      let l = left first old new step in
      let many : new.told - old.told ≡ count_of first = let t = l.told in omega (arith, t) in
      let to_so : its ≡ drop (count_of first) puts = to ∙ ap (λ (n : ℕ). drop n puts) many in
      record {
        reader = l.reader;
        stops = l.stops;
        more = let t = l.told in omega (arith, t);
        under = l.under ∙ ap (λ (n : ℕ). drop n old.under) (sym many);
        lines = let t = l.told in let u = ap (λ (x : List Line). length x) l.under ∙ length-drop (count_of first) old.under in let few = l.few in omega (arith, t, u, few);
        earned = earned_same P connection seen (old.told + count_of first) new.told (drop (count_of first) old.under) new.under (drop (count_of first) puts) its l.told l.under to_so (earned_after P connection seen (count_of first) old.told old.under puts earned);
        talk = told_there s first old new puts its next goes step earned to_so;
      }
  told_or_not s false old new puts its to told none earned =
      let same = none refl in
      let no_more : new.told - old.told ≡ 0 = let t = ap (λ (t : Talk). t.told) same in omega (arith, t) in
      let to_so : its ≡ puts = to ∙ ap (λ (n : ℕ). drop n puts) no_more in
      record {
        reader = ap (λ (t : Talk). t.reader) same;
        stops = ap (λ (t : Talk). t.stops) same;
        more = let t = ap (λ (t : Talk). t.told) same in omega (arith, t);
        lines = ap (λ (t : Talk). t.told + length t.under) same;
        under = ap (λ (t : Talk). t.under) same ∙ ap (λ (n : ℕ). drop n old.under) (sym no_more);
        earned = earned_same P connection seen old.told new.told old.under new.under puts its (ap (λ (t : Talk). t.told) same) (ap (λ (t : Talk). t.under) same) to_so earned;
        talk = λ was. known_so (AreBefore P seen old.under puts) L connection (AreBefore P seen new.under its) s new (λ grants so. before_same P seen old.under new.under puts its grants (ap (λ (t : Talk). t.under) same) to_so so)
            (subst (IsTalkOf (AreBefore P seen old.under puts) L connection s) (sym same) was);
      }
