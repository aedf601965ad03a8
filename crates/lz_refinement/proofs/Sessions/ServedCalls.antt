-- The calls that a pass made one after the other, as its steps tell them, and as a history of no other calls shows them.
use Rattle.std.proofs.lemmas.Bool.{cases_Bool, Decides.{nat_tests}}
use Rattle.std.proofs.Common.{◌≡◌, ⊎_elim, ℕ, suc, true, false, List, [], ◌∷◌, ◌++◌, length, refl, sym, ap, ◌∙◌, subst, arith, Option, Some}
use Rattle.lz_refinement.proofs.Vocabulary.{Command, Format, History, Fits, Keys, Reply, has_cut, IsPlain, Sizes, Part, shape_of_sizes}
use Rattle.lz_refinement.proofs.{Marks.ToldCalls.{answers_told}, Replies.OneCaller.{one_caller}}
use Rattle.lz_refinement.{proofs.Sessions.PlainRows.{LeadsTo, row_leaves, row_same, row_cut, leads_on, leads_cut, no_cut}, specs.Answers.{Answers}}
use Rattle.lz_refinement.specs.{OneCaller.{IsPlainAnswer, PlainRow, keys_in}, OwnCalls.{told}}
use Rattle.lz_refinement.specs.Sessions.{AnsweredCalls, Served, PlainRun, cuts_off, NoneCut, CutLast, marks_alone}
use Rattle.lz_machine.proofs.Alone.{Answered.{reply_ends, served_reply}, Service.{Ended, served}}

-- the pass's calls, the newest first, once it has made these too
abbrev pub told_after : AnsweredCalls → List (Command × Option Reply) → List (Command × Option Reply)
told_after [] rest = rest
told_after (call ∷ calls) rest = told_after calls ((call.0, Some call.1) ∷ rest)

-- its steps tell them
pub served_told : (z : Sizes) (F : Format) (calls : AnsweredCalls) (old new : Part) → Served z F calls old new → told (shape_of_sizes z) new.steps ≡ told_after calls (told (shape_of_sizes z) old.steps)
served_told z F [] old new is = ap (λ (h : Part). told (shape_of_sizes z) h.steps) is
served_told z F (call ∷ calls) old new (size, (mid, answers, rest)) =
    served_told z F calls mid new rest
    ∙ ap (told_after calls) (subst (λ (z : Sizes). told (shape_of_sizes z) mid.steps ≡ (call.0, Some call.1) ∷ told (shape_of_sizes z) old.steps) size (answers_told F call.0 call.1 old mid answers))

-- the first of them
pub served_first : (z : Sizes) (F : Format) (done calls : AnsweredCalls) (old new : Part) → Served z F (done ++ calls) old new → (mid : Part) × Served z F done old mid × Served z F calls mid new
served_first z F [] calls old new served = (old, refl, served)
served_first z F (call ∷ done) calls old new (size, (mid, answers, rest)) = grind (arith, nat_tests, served_first z F done calls mid new rest)

-- each answer is the plain set's
pub plain_answer : (z : Sizes) (F : Format) (c : Command) (reply : Reply) (old mid : Part) → z.passes ≡ 1 → old.sizes ≡ z → Answers F c reply old mid
    → IsPlainAnswer F z.slots c reply (keys_in old.known) (keys_in mid.known)
plain_answer z F c reply old mid one size answers =
    subst (λ (y : Sizes). IsPlainAnswer F y.slots c reply (keys_in old.known) (keys_in mid.known)) size
    (one_caller F c reply old mid answers (ap (λ (z : Sizes). z.passes) size ∙ one))

-- and so are they all
pub plain_served : (z : Sizes) (F : Format) → z.passes ≡ 1 → (calls : AnsweredCalls) (old new : Part) → Served z F calls old new → PlainRun F z.slots calls (keys_in old.known) (keys_in new.known)
plain_served z F one [] old new is = λ k. ap (λ (h : Part). keys_in h.known k) is
plain_served z F one (call ∷ calls) old new (size, (mid, answers, rest)) = (
  keys_in mid.known,
  plain_answer z F call.0 call.1 old mid one size answers,
  plain_served z F one calls mid new rest,
)

-- A history of the pass's calls alone, of which none was cut off: they have ended one after the other.
pub record Whole (p : ℕ) (rest : List (Command × Option Reply)) : Type 0 where
  pub ended : Ended (suc (length rest)) (marks_alone p rest)
  pub clean : has_cut (marks_alone p rest) ≡ false

pub whole_none : (p : ℕ) → Whole p []
whole_none p = record { ended = tt; clean = refl }

module _ (p : ℕ) where
  whole_more : (c : Command) (reply : Reply) (rest : List (Command × Option Reply)) → cuts_off reply ≡ false → Whole p rest → Whole p ((c, Some reply) ∷ rest)
  whole_more c reply rest none whole = grind (arith, nat_tests, reply_ends, no_cut)

  pub whole_after : (calls : AnsweredCalls) (rest : List (Command × Option Reply)) → NoneCut calls → Whole p rest → Whole p (told_after calls rest)
  whole_after [] rest none whole = whole
  whole_after (call ∷ calls) rest none whole = whole_after calls ((call.0, Some call.1) ∷ rest) none.1 (whole_more call.0 call.1 rest none.0 whole)

  -- a list that fits it leads to a plain set
  pub fits_plain : (S T : Keys) (L : List ℕ) (calls : AnsweredCalls) (rest : List (Command × Option Reply)) → CutLast calls → Whole p rest → Fits S (marks_alone p (told_after calls rest)) L T → IsPlain S (marks_alone p (told_after calls rest)) T
  fits_plain S T L [] rest cut whole fits = served (suc (length rest)) (marks_alone p rest) S L T whole.ended whole.clean fits
  fits_plain S T L (call ∷ []) rest cut whole fits = grind (arith, served_reply)
  fits_plain S T L (call ∷ next ∷ calls) rest cut whole fits = fits_plain S T L (next ∷ calls) ((call.0, Some call.1) ∷ rest) cut.1 (whole_more call.0 call.1 rest cut.0 whole) fits

  -- The set to which the history leads, after these calls, is the one that the pass has seen.
  module _ (z : Sizes) (F : Format) (one : z.passes ≡ 1) (S0 : Keys) where
    leads_more : (c : Command) (reply : Reply) (rest : List (Command × Option Reply)) (old mid : Part) → cuts_off reply ≡ false → IsPlainAnswer F z.slots c reply (keys_in old.known) (keys_in mid.known)
        → LeadsTo S0 (marks_alone p rest) (keys_in old.known) → LeadsTo S0 (marks_alone p ((c, Some reply) ∷ rest)) (keys_in mid.known)
    leads_more c reply rest old mid none answer past T plain k =
        leads_on S0 (suc (length rest)) p c (marks_alone p rest) (keys_in old.known) past reply T none plain k
        ∙ sym (row_leaves z.slots c reply (keys_in old.known) (keys_in mid.known) none answer.row k)

    pub leads_after : (calls : AnsweredCalls) (rest : List (Command × Option Reply)) (old new : Part) → NoneCut calls → Served z F calls old new
        → LeadsTo S0 (marks_alone p rest) (keys_in old.known) → LeadsTo S0 (marks_alone p (told_after calls rest)) (keys_in new.known)
    leads_after [] rest old new none is past = subst (λ (h : Part). LeadsTo S0 (marks_alone p rest) (keys_in h.known)) (sym is) past
    leads_after (call ∷ calls) rest old new none (size, (mid, answers, later)) past = grind (
      arith,
      nat_tests,
      leads_after calls ((call.0, Some call.1) ∷ rest) mid new none.1 later
          (leads_more call.0 call.1 rest old mid none.0 (plain_answer z F call.0 call.1 old mid one size answers) past),
      leads_more,
      plain_answer,
    )

    -- the last call, cut off or not
    plain_last : (c : Command) (reply : Reply) (rest : List (Command × Option Reply)) (old mid : Part) (T : Keys) → IsPlainAnswer F z.slots c reply (keys_in old.known) (keys_in mid.known)
        → LeadsTo S0 (marks_alone p rest) (keys_in old.known) → IsPlain S0 (marks_alone p ((c, Some reply) ∷ rest)) T → IsPlainAnswer F z.slots c reply (keys_in old.known) T
    plain_last c reply rest old mid T answer past plain =
        record { old = answer.old; row = ⊎_elim cut whole (cases_Bool (cuts_off reply)) }
      where
        S : Keys
        S = keys_in old.known

        M : History
        M = marks_alone p rest

        cut : cuts_off reply ≡ true → PlainRow z.slots c reply S T
        cut is = row_cut z.slots c reply S T is (leads_cut S0 (suc (length rest)) p c M S past reply T is plain)

        whole : cuts_off reply ≡ false → PlainRow z.slots c reply S T
        whole none = row_same z.slots c reply S (keys_in mid.known) T none answer.row (leads_on S0 (suc (length rest)) p c M S past reply T none plain)

    -- so the calls lead the plain set there
    pub plain_to : (calls : AnsweredCalls) (rest : List (Command × Option Reply)) (old new : Part) (T : Keys) → CutLast calls → Served z F calls old new
        → LeadsTo S0 (marks_alone p rest) (keys_in old.known) → IsPlain S0 (marks_alone p (told_after calls rest)) T → PlainRun F z.slots calls (keys_in old.known) T
    plain_to [] rest old new T cut is past plain = past T plain
    plain_to (call ∷ []) rest old new T cut (size, (mid, answers, later)) past plain = (
      T,
      plain_last call.0 call.1 rest old mid T (plain_answer z F call.0 call.1 old mid one size answers) past plain,
      λ k. refl,
    )
    plain_to (call ∷ next ∷ calls) rest old new T cut (size, (mid, answers, later)) past plain =
        let answer = plain_answer z F call.0 call.1 old mid one size answers in (
          keys_in mid.known,
          answer,
          plain_to (next ∷ calls) ((call.0, Some call.1) ∷ rest) mid new T cut.1 later (leads_more call.0 call.1 rest old mid cut.0 answer past) plain,
        )
