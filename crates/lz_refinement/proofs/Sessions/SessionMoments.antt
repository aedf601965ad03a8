-- What might have been left at a moment of a session: by then some first ones of its calls were done, and the next one may have
-- been under way.
use Rattle.std.proofs.Common.{arith, ◌≡◌, ◌⊎◌, inl, inr, ⊎_elim, ℕ, suc, List, [], ◌∷◌, ◌++◌, length, refl, sym, ap, ◌∙◌, subst, append_assoc, Option, Some}
use Rattle.std.proofs.{Common.{None}, lemmas.Bool.Decides.{nat_tests}}
use Rattle.lz_refinement.proofs.Vocabulary.{Command, Format, HistoryEvent, History, Fits, Keys, Reply, mark_of, Shape, Trace, Note, Part, shape_of_sizes, BoardId}
use Rattle.lz_refinement.proofs.Sessions.PlainRows.{LeadsTo, leads_open}
use Rattle.lz_refinement.proofs.Sessions.ServedCalls.{told_after, served_first, plain_served, Whole, whole_none, whole_after, fits_plain, leads_after, plain_to}
use Rattle.lz_refinement.{proofs.Sessions.SessionEnd.{leads_none, session_marks}, specs.{Marks.{marks_with, marks_in}, Moments.{ExplainsBegun}, OneCaller.{keys_in}}}
use Rattle.lz_refinement.specs.RunningSets.{members_of, Explains}
use Rattle.lz_refinement.specs.Sessions.{AnsweredCalls, Served, PlainRun, NoneCut, CutLast, marks_alone, IsSession, MayHaveNext, HoldsAfterSome, MomentsArePlain}
use Rattle.lz_slot.specs.declared.history.HistoryEvent.TheVariants.{Call}
use Rattle.lz_machine.proofs.Alone.Service.{served_open}

-- the marks of a beginning of the notes end those of all
marks_later : (shape : Shape) (later before : List Note) → (X : History) × (marks_in shape (later ++ before) ≡ X ++ marks_in shape before)
marks_later shape [] before = ([], refl)
marks_later shape (n ∷ later) before =
    let r = marks_later shape later before in
    let new = marks_with shape n.by n.what (later ++ before) in
    (new ++ r.0, ap (λ (M : History). new ++ M) r.1 ∙ sym (append_assoc new r.0 (marks_in shape before)))

-- Some first ones of the calls, and what a history shows of them: each has ended, or the next one has begun.
record FirstOnes (p : ℕ) (calls : AnsweredCalls) (rest : List (Command × Option Reply)) (M : History) : Type 0 where
  done : AnsweredCalls
  left : AnsweredCalls
  splits : calls ≡ done ++ left
  shows : (M ≡ marks_alone p (told_after done rest))
      ⊎ ((c : Command) × (reply : Reply) × (more : AnsweredCalls) × (left ≡ (c, reply) ∷ more) × (M ≡ marks_alone p ((c, None) ∷ told_after done rest)))

module _ (p : ℕ) (M : History) where
  -- a history that ends that of all calls, or that of those before them
  cut_at : (calls : AnsweredCalls) (rest : List (Command × Option Reply)) (X : History) → X ++ M ≡ marks_alone p (told_after calls rest) → FirstOnes p calls rest M ⊎ ((Y : History) × (Y ++ M ≡ marks_alone p rest))
  cut_at [] rest X is = inr (X, is)
  cut_at (call ∷ calls) rest X is = ⊎_elim
      (λ first. inl (record { done = call ∷ first.done; left = first.left; splits = ap (λ l. call ∷ l) first.splits; shows = first.shows }))
      (λ older. of_call older.0 older.1)
      (cut_at calls ((call.0, Some call.1) ∷ rest) X is)
    where
      tail : (m n : HistoryEvent) (K L : History) → m ∷ K ≡ n ∷ L → K ≡ L
      tail m n K L same = cc

      n : ℕ
      n = suc (length rest)

      since : History
      since = Call n p call.0 ∷ marks_alone p rest

      of_call : (Y : History) → Y ++ M ≡ marks_alone p ((call.0, Some call.1) ∷ rest) → FirstOnes p (call ∷ calls) rest M ⊎ ((Y : History) × (Y ++ M ≡ marks_alone p rest))
      of_call [] same = inl (record { done = call ∷ []; left = calls; splits = refl; shows = inl same })
      of_call (y ∷ []) same = inl (record { done = []; left = call ∷ calls; splits = refl; shows = inr (call.0, call.1, calls, refl, tail y (mark_of n call.1) M since same) })
      of_call (y ∷ x ∷ Y) same = inr (Y, tail x (Call n p call.0) (Y ++ M) (marks_alone p rest) (tail y (mark_of n call.1) (x ∷ Y ++ M) since same))

  first_ones : (calls : AnsweredCalls) (X : History) → X ++ M ≡ marks_alone p (told_after calls []) → FirstOnes p calls [] M
  first_ones calls X is = ⊎_elim (λ first. first) (λ older. record { done = []; left = calls; splits = refl; shows = inl (none older.0 older.1) }) (cut_at calls [] X is)
    where
      none : (Y : History) → Y ++ M ≡ [] → M ≡ []
      none [] same = same
      none (y ∷ Y) same = absurd cc

-- of calls of which only the last may have been cut off, the first ones
cut_first : (done left : AnsweredCalls) → CutLast (done ++ left) → CutLast done
cut_first (call ∷ next ∷ done) left cut = (cut.0, cut_first (next ∷ done) left cut.1)
cut_first _ left cut = tt

-- and those before another one
none_before : (done : AnsweredCalls) (call : Command × Reply) (more : AnsweredCalls) → CutLast (done ++ call ∷ more) → NoneCut done
none_before [] call more cut = tt
none_before (first ∷ []) call more cut = (cut.0, tt)
none_before (first ∷ next ∷ done) call more cut = (cut.0, none_before (next ∷ done) call more cut.1)

-- no more was done
no_next : (left : AnsweredCalls) (S : Keys) → MayHaveNext left S S
no_next [] S = λ k. refl
no_next (call ∷ left) S = inl (λ k. refl)

module _ (b : BoardId) (F : Format) (ns : List Note) (calls : AnsweredCalls) (before after : Part) (session : IsSession b F ns calls before after) (t : List ℕ) (begun : ExplainsBegun b ns t) where
  abbrev e : Explains b begun.before t
  e = begun.explains

  abbrev p : ℕ
  p = after.number

  abbrev S0 : Keys
  S0 = members_of b.opened

  -- the calls of that beginning
  firsts : FirstOnes p calls [] (marks_in (shape_of_sizes b.sizes) begun.before)
  firsts =
      let r = marks_later (shape_of_sizes b.sizes) begun.later begun.before in
      first_ones p (marks_in (shape_of_sizes b.sizes) begun.before) calls r.0
      (sym r.1 ∙ ap (marks_in (shape_of_sizes b.sizes)) (sym begun.splits) ∙ session_marks b F ns calls before after session)

  module _ (done left : AnsweredCalls) (splits : calls ≡ done ++ left) where
    cut : CutLast (done ++ left)
    cut = subst CutLast splits session.cut

    parts : (mid : Part) × Served b.sizes F done before mid × Served b.sizes F left mid after
    parts = served_first b.sizes F done left before after (subst (λ l. Served b.sizes F l before after) splits session.served)

    fits : (M : History) → marks_in (shape_of_sizes b.sizes) begun.before ≡ M → Fits S0 M e.calls e.found
    fits M is = subst (λ M. Fits S0 M e.calls e.found) is e.fits

    first : LeadsTo S0 (marks_alone p []) (keys_in before.known)
    first = leads_none p b.opened before session.known

    -- each of them has ended
    ended : marks_in (shape_of_sizes b.sizes) begun.before ≡ marks_alone p (told_after done []) → HoldsAfterSome F b.sizes.slots calls S0 t
    ended is = grind (arith, nat_tests, cut_first, left, cut, told_after, fits_plain, whole_none, fits, plain_to, parts, first, no_next)

    -- the next one has begun
    begins : (c : Command) (reply : Reply) (more : AnsweredCalls) → left ≡ (c, reply) ∷ more → marks_in (shape_of_sizes b.sizes) begun.before ≡ marks_alone p ((c, None) ∷ told_after done []) → HoldsAfterSome F b.sizes.slots calls S0 t
    begins c reply more next is =
        let none = none_before done (c, reply) more (subst (λ l. CutLast (done ++ l)) next cut) in
        let rest = told_after done [] in
        let whole : Whole p rest = whole_after p done [] none (whole_none p) in
        let past : LeadsTo S0 (marks_alone p rest) (keys_in parts.0.known) = leads_after p b.sizes F session.alone S0 done [] before parts.0 none parts.1 first in
        let plain = served_open (suc (length rest)) p c (marks_alone p rest) S0 e.calls e.found whole.ended whole.clean (fits (marks_alone p ((c, None) ∷ rest)) is) in
        record {
          done = done;
          rest = left;
          splits = splits;
          ends = keys_in parts.0.known;
          run = subst (λ (P : Trace). PlainRun F b.sizes.slots done (keys_in P) (keys_in parts.0.known)) session.known (plain_served b.sizes F session.alone done before parts.0 parts.1);
          found = e.found;
          next = subst (λ l. MayHaveNext l (keys_in parts.0.known) e.found) (sym next) (leads_open S0 (suc (length rest)) p c (marks_alone p rest) (keys_in parts.0.known) past e.found plain);
          holds = e.holds;
        }

  moment : HoldsAfterSome F b.sizes.slots calls S0 t
  moment =
      let f = firsts in
      ⊎_elim (ended f.done f.left f.splits) (λ next. begins f.done f.left f.splits next.0 next.1 next.2 next.3 next.4) f.shows

pub moments_are_plain : MomentsArePlain
moments_are_plain b F ns calls before after session t begun = moment b F ns calls before after session t begun
