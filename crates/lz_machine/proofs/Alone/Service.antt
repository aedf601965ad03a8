-- A history of calls one after the other: a list that fits it is that of its answered calls, and at most the call without an answer.
use Rattle.std.proofs.Common.{◌≡◌, ◌≢◌, ◌⊎◌, ⊎_elim, inl, inr, ℕ, ◌+◌, ◌≤◌, ◌<◌, Bool, false, List, [], ◌∷◌, ◌++◌, refl, sym, ap, ◌∙◌, subst, arith}
use Rattle.std.proofs.lemmas.Bool.{cases_eq, Decides.{nat_tests}}
use mathlib.Core.Bool.{false≢true}
use Rattle.lz_slot.specs.declared.{command.Command.{Command}, history.{Refusal.TheVariants.{Full, Worn, OldFile}, Cut.{Cut}, HistoryEvent.{HistoryEvent}}}
use Rattle.lz_slot.specs.{declared.history.HistoryEvent.TheVariants.{Call, Answer, Refused, Cut as CutOff}, Sets.{Keys, Same, key_of, after, reply}}
use Rattle.lz_slot.specs.Histories.{History, IsCalled, IsAnswered, IsRefused, IsBefore, IsListed, count_of, IsEarlier, Runs, Fits}
use Rattle.lz_slot.proofs.Listings.{listed_left}
use Rattle.lz_machine.{specs.Alone.{has_cut, IsPlain}, proofs.Ledger.CallMark.{number_of, is_call}}

-- the mark ends call j
abbrev pub IsEnd : HistoryEvent → ℕ → Type 0
IsEnd (Answer i answer) j = i ≡ j
IsEnd (Refused i why) j = i ≡ j
IsEnd (CutOff i why) j = i ≡ j
IsEnd _ j = ⊥

-- calls that have ended one after the other, with numbers below n
abbrev pub Ended : ℕ → History → Type 0
Ended n [] = Unit {0}
Ended n (e ∷ Call j a c ∷ M) = IsEnd e j × (j < n) × Ended j M
Ended n _ = ⊥

end_no_call : (e : HistoryEvent) (j i a : ℕ) (c : Command) → IsEnd e j → e ≡ Call i a c → ⊥
end_no_call e j i a c ends e' = grind arith

-- each call has a number below
pub called_below : (n : ℕ) (M : History) (i : ℕ) (d : Command) → Ended n M → IsCalled M i d → i < n
called_below n [] i d h (b, at) = absurd at
called_below n (e ∷ Call j a c ∷ M) i d h (b, inl is) = absurd (end_no_call e j i b d h.0 is)
called_below n (e ∷ Call j a c ∷ M) i d h (b, inr (inl is)) = omega (arith, h.1, ap number_of is)
called_below n (e ∷ Call j a c ∷ M) i d h (b, inr (inr at)) = omega (arith, h.1, called_below j M i d h.2 (b, at))
called_below n _ i d h at = absurd h

answered_below : (n : ℕ) (M : History) (i : ℕ) (answer : Bool) → Ended n M → IsAnswered M i answer → i < n
answered_below n [] i answer h at = absurd at
answered_below n (e ∷ Call j a c ∷ M) i answer h (inl is) = let same : i ≡ j = subst (λ (m : HistoryEvent). IsEnd m j) is h.0 in omega (arith, same, h.1)
answered_below n (e ∷ Call j a c ∷ M) i answer h (inr (inl is)) = absurd (false≢true (sym (ap is_call is)))
answered_below n (e ∷ Call j a c ∷ M) i answer h (inr (inr at)) = omega (arith, h.1, answered_below j M i answer h.2 at)
answered_below n _ i answer h at = absurd h

abbrev IsOver : History → ℕ → Type 0
IsOver M i = ((answer : Bool) × IsAnswered M i answer) ⊎ IsRefused M i

-- history M1 is M and one more call, which may have ended
pub record IsLatest (M1 : History) (i : ℕ) (c : Command) (M : History) : Type 0 where
  pub calls : (l : ℕ) (d : Command) → IsCalled M1 l d → ((l ≡ i) × (d ≡ c)) ⊎ IsCalled M l d
  pub answers : (l : ℕ) (answer : Bool) → IsAnswered M l answer → IsAnswered M1 l answer
  pub refuses : (l : ℕ) → IsRefused M l → IsRefused M1 l
  pub earlier : (l q : ℕ) → IsBefore M l q → IsBefore M1 l q
  pub last : (l : ℕ) (answer : Bool) → IsAnswered M l answer → IsBefore M1 l i

pub latest_open : (i a : ℕ) (c : Command) (M : History) → IsLatest (Call i a c ∷ M) i c M
latest_open i a c M = grind arith

pub latest_ended : (e : HistoryEvent) (i a : ℕ) (c : Command) (M : History) → IsEnd e i → IsLatest (e ∷ Call i a c ∷ M) i c M
latest_ended e i a c M ends = grind arith

-- lists of numbers
count_append : (j : ℕ) (L R : List ℕ) → count_of j (L ++ R) ≡ count_of j L + count_of j R
count_append j [] R = omega arith
count_append j (l ∷ L) R = grind (arith, nat_tests, count_append j L R)

listed_count : (i : ℕ) (L : List ℕ) → IsListed i L → 1 ≤ count_of i L
listed_count i [] at = absurd at
listed_count i (l ∷ L) (inl is) = grind (arith, nat_tests, is)
listed_count i (l ∷ L) (inr at) = grind (arith, nat_tests, listed_count i L at)

is_listed_or : (i : ℕ) (L : List ℕ) → IsListed i L ⊎ (¬ IsListed i L)
is_listed_or i [] = inr (λ at. at)
is_listed_or i (l ∷ L) = grind (arith, cases_eq, is_listed_or i L)

earlier_listed : (j i : ℕ) (L : List ℕ) → IsEarlier j i L → IsListed i L
earlier_listed j i [] at = absurd at
earlier_listed j i (l ∷ L) (inl (is, at)) = inr at
earlier_listed j i (l ∷ L) (inr at) = inr (earlier_listed j i L at)

listed_before : (j i : ℕ) (L : List ℕ) → j ≢ i → IsListed j (L ++ i ∷ []) → IsListed j L
listed_before j i [] other (inl is) = absurd (other (sym is))
listed_before j i [] other (inr at) = absurd at
listed_before j i (l ∷ L) other (inl is) = inl is
listed_before j i (l ∷ L) other (inr at) = inr (listed_before j i L other at)

earlier_before : (j l i : ℕ) (L : List ℕ) → l ≢ i → IsEarlier j l (L ++ i ∷ []) → IsEarlier j l L
earlier_before j l i [] other (inl (is, at)) = absurd at
earlier_before j l i [] other (inr at) = absurd at
earlier_before j l i (x ∷ L) other (inl (is, at)) = inl (is, listed_before l i L other at)
earlier_before j l i (x ∷ L) other (inr at) = inr (earlier_before j l i L other at)

-- after which all others stand, stands last
stands_last : (i : ℕ) (L : List ℕ) → IsListed i L → ((j : ℕ) → count_of j L ≤ 1) → ((j : ℕ) → IsListed j L → j ≢ i → IsEarlier j i L) → (R : List ℕ) × (L ≡ R ++ i ∷ [])
stands_last i [] at once before = absurd at
stands_last i (l ∷ L) at once before = elim (cases_eq l i) [
  | inl same ↦ ([], ends L (λ there. grind (arith, nat_tests, same, listed_count i L there, once i)) (λ j there other. before j (inr there) other) same)
  | inr other ↦
      let rest = stands_last i L (⊎_elim (λ is. absurd (other is)) (λ there. there) at) (λ j. fewer j (once j)) (λ j there apart. ⊎_elim (λ twice. absurd (grind (arith, nat_tests, twice.0, listed_count j L there, once j))) (λ later. later) (before j (inr there) apart)) in
      (l ∷ rest.0, ap (λ (Q : List ℕ). l ∷ Q) rest.1)
]
  where
    fewer : (j : ℕ) → count_of j (l ∷ L) ≤ 1 → count_of j L ≤ 1
    fewer j le = grind (arith, nat_tests, le)

    ends : (L : List ℕ) → ¬ IsListed i L → ((j : ℕ) → IsListed j L → j ≢ i → IsEarlier j i (l ∷ L)) → l ≡ i → l ∷ L ≡ i ∷ []
    ends [] none later same = ap (λ (q : ℕ). q ∷ []) same
    ends (q ∷ L) none later same = absurd (⊎_elim
        (λ is. none (inl is))
        (λ other. ⊎_elim (λ at. none at.1) (λ at. none (earlier_listed q i (q ∷ L) at)) (later q (inl refl) other))
        (cases_eq q i))

runs_snoc : (M : History) (S : Keys) (L : List ℕ) (i : ℕ) (T : Keys) → Runs M S (L ++ i ∷ []) T
    → (U : Keys) × Runs M S L U × ((c : Command) × IsCalled M i c × ((answer : Bool) → IsAnswered M i answer → reply c (U (key_of c)) ≡ answer) × Same (after c U) T)
runs_snoc M S [] i T h = (S, (λ k. refl), (h.0, h.1, h.2, h.3))
runs_snoc M S (l ∷ L) i T h = let rest = runs_snoc M (after h.0 S) L i T h.3 in (rest.0, (h.0, h.1, h.2, rest.1), rest.2)

runs_called : (M : History) (S : Keys) (L : List ℕ) (T : Keys) (j : ℕ) → Runs M S L T → IsListed j L → (c : Command) × IsCalled M j c
runs_called M S [] T j h at = absurd at
runs_called M S (l ∷ L) T j h (inl is) = (h.0, subst (λ (q : ℕ). IsCalled M q h.0) is h.1)
runs_called M S (l ∷ L) T j h (inr at) = runs_called M (after h.0 S) L T j h.3 at

runs_before : (M1 : History) (i : ℕ) (c : Command) (M : History) → IsLatest M1 i c M → (S : Keys) (L : List ℕ) (T : Keys) → ¬ IsListed i L → Runs M1 S L T → Runs M S L T
runs_before M1 i c M latest S [] T none h = h
runs_before M1 i c M latest S (l ∷ L) T none h = (
  h.0,
  ⊎_elim (λ is. absurd (none (inl is.0))) (λ at. at) (latest.calls l h.0 h.1),
  λ answer at. h.2 answer (latest.answers l answer at),
  runs_before M1 i c M latest (after h.0 S) L T (λ at. none (inr at)) h.3,
)

-- what is listed of calls that have ended, none of them cut off, was answered
over : (n : ℕ) (M : History) (j : ℕ) (d : Command) → Ended n M → has_cut M ≡ false → IsCalled M j d → IsOver M j
over n [] j d h clean (b, at) = absurd at
over n (Answer i answer ∷ Call q a c ∷ M) j d h clean (b, inl is) = absurd (false≢true (ap is_call is))
over n (Answer i answer ∷ Call q a c ∷ M) j d h clean (b, inr (inl is)) = inl (answer, inl (ap (λ (x : ℕ). Answer x answer) (h.0 ∙ ap number_of is)))
over n (Answer i answer ∷ Call q a c ∷ M) j d h clean (b, inr (inr at)) = ⊎_elim (λ told. inl (told.0, inr (inr told.1))) (λ told. inr (told.0, inr (inr told.1))) (over q M j d h.2 clean (b, at))
over n (Refused i why ∷ Call q a c ∷ M) j d h clean (b, inl is) = absurd (false≢true (ap is_call is))
over n (Refused i why ∷ Call q a c ∷ M) j d h clean (b, inr (inl is)) = inr (why, inl (ap (λ (x : ℕ). Refused x why) (h.0 ∙ ap number_of is)))
over n (Refused i why ∷ Call q a c ∷ M) j d h clean (b, inr (inr at)) = ⊎_elim (λ told. inl (told.0, inr (inr told.1))) (λ told. inr (told.0, inr (inr told.1))) (over q M j d h.2 clean (b, at))
over n (CutOff i why ∷ Call q a c ∷ M) j d h clean at = absurd (false≢true (sym clean))
over n (m ∷ Call q a c ∷ M) j d h clean at = absurd h.0
over n _ j d h clean at = absurd h

-- the newest call isn't listed, or is listed last
record IsWithout (S : Keys) (M : History) (i : ℕ) (L : List ℕ) (T : Keys) : Type 0 where
  none : ¬ IsListed i L
  fits : Fits S M L T

record IsWith (S : Keys) (M1 M : History) (i : ℕ) (c : Command) (L : List ℕ) (T : Keys) : Type 0 where
  there : IsListed i L
  before : List ℕ
  set : Keys
  fits : Fits S M before set
  answer : (answer : Bool) → IsAnswered M1 i answer → reply c (set (key_of c)) ≡ answer
  ends : Same (after c set) T

module _ (M1 : History) (i : ℕ) (c : Command) (M : History) (latest : IsLatest M1 i c M) (ended : Ended i M) (clean : has_cut M ≡ false) (S : Keys) (L : List ℕ) (T : Keys) (fits : Fits S M1 L T) where
  without : ¬ IsListed i L → IsWithout S M i L T
  without none = grind (arith, nat_tests, runs_before)

  -- the others were answered before it was made
  others_first : IsListed i L → (j : ℕ) → IsListed j L → j ≢ i → IsEarlier j i L
  others_first there j at other =
      let called = runs_called M1 S L T j fits.runs at in
      ⊎_elim
      (λ is. absurd (other is.0))
      (λ early. ⊎_elim
      (λ told. fits.order j i (latest.last j told.0 told.1) at there)
      (λ refused. absurd (fits.not_refused j (latest.refuses j refused) at))
      (over i M j called.0 ended clean early))
      (latest.calls j called.0 called.1)

  with_last : (R : List ℕ) → IsListed i L → L ≡ R ++ i ∷ [] → IsWith S M1 M i c L T
  with_last R there is =
      record {
        there = there;
        before = R;
        set = runs.0;
        fits = record {
          once = λ j. grind (arith, count_append j R (i ∷ []), once j);
          answered = λ j answer at. listed_before j i R (apart j answer at) (subst (IsListed j) is (fits.answered j answer (latest.answers j answer at)));
          not_refused = λ j at listed. fits.not_refused j (latest.refuses j at) (subst (IsListed j) (sym is) (listed_left j R (i ∷ []) listed));
          order = λ j l at one other. earlier_before j l i R (λ same. none (subst (λ (q : ℕ). IsListed q R) same other))
              (subst (IsEarlier j l) is (fits.order j l (latest.earlier j l at) (subst (IsListed j) (sym is) (listed_left j R (i ∷ []) one))
              (subst (IsListed l) (sym is) (listed_left l R (i ∷ []) other))));
          runs = runs_before M1 i c M latest S R runs.0 none runs.1;
        };
        answer = subst (λ (d : Command). (answer : Bool) → IsAnswered M1 i answer → reply d (runs.0 (key_of d)) ≡ answer) same_command runs.2.2;
        ends = subst (λ (d : Command). Same (after d runs.0) T) same_command runs.2.3;
      }
    where
      runs : (U : Keys) × Runs M1 S R U × ((d : Command) × IsCalled M1 i d × ((answer : Bool) → IsAnswered M1 i answer → reply d (U (key_of d)) ≡ answer) × Same (after d U) T)
      runs = runs_snoc M1 S R i T (subst (λ (Q : List ℕ). Runs M1 S Q T) is fits.runs)

      once : (j : ℕ) → count_of j (R ++ i ∷ []) ≤ 1
      once j = subst (λ (Q : List ℕ). count_of j Q ≤ 1) is (fits.once j)

      none : ¬ IsListed i R
      none at = grind (arith, nat_tests, listed_count i R at, count_append i R (i ∷ []), once i)

      same_command : runs.2.0 ≡ c
      same_command = ⊎_elim (λ at. at.1) (λ early. absurd (omega (arith, called_below i M i runs.2.0 ended early))) (latest.calls i runs.2.0 runs.2.1)

      apart : (j : ℕ) (answer : Bool) → IsAnswered M j answer → j ≢ i
      apart j answer at same = absurd (omega (arith, same, answered_below i M j answer ended at))

  split : IsWithout S M i L T ⊎ IsWith S M1 M i c L T
  split = ⊎_elim
      (λ there. let last = stands_last i L there fits.once (others_first there) in inr (with_last last.0 there last.1))
      (λ none. inl (without none))
      (is_listed_or i L)

-- what a list that fits leads to is served
pub served : (n : ℕ) (M : History) (S : Keys) (L : List ℕ) (T : Keys) → Ended n M → has_cut M ≡ false → Fits S M L T → IsPlain S M T
served n [] S [] T h clean fits = fits.runs
served n [] S (l ∷ L) T h clean fits = absurd fits.runs.1.1
served n (Answer i answer ∷ Call j a c ∷ M) S L T h clean fits = ⊎_elim
    (λ out. absurd (out.none (fits.answered j answer (inl (ap (λ (x : ℕ). Answer x answer) h.0)))))
    (λ on. (h.0, clean, (on.set, served j M S on.before on.set h.2 clean on.fits, on.answer answer (inl (ap (λ (x : ℕ). Answer x answer) h.0)), on.ends)))
    (split (Answer i answer ∷ Call j a c ∷ M) j c M (latest_ended (Answer i answer) j a c M h.0) h.2 clean S L T fits)
served n (Refused i Full ∷ Call j a c ∷ M) S L T h clean fits = ⊎_elim
    (λ out. (h.0, clean, served j M S L T h.2 clean out.fits))
    (λ on. absurd (fits.not_refused j (Full, inl (ap (λ (x : ℕ). Refused x Full) h.0)) on.there))
    (split (Refused i Full ∷ Call j a c ∷ M) j c M (latest_ended (Refused i Full) j a c M h.0) h.2 clean S L T fits)
served n (Refused i Worn ∷ Call j a c ∷ M) S L T h clean fits = ⊎_elim
    (λ out. (h.0, served j M S L T h.2 clean out.fits))
    (λ on. absurd (fits.not_refused j (Worn, inl (ap (λ (x : ℕ). Refused x Worn) h.0)) on.there))
    (split (Refused i Worn ∷ Call j a c ∷ M) j c M (latest_ended (Refused i Worn) j a c M h.0) h.2 clean S L T fits)
served n (Refused i OldFile ∷ Call j a c ∷ M) S L T h clean fits = ⊎_elim
    (λ out. (h.0, served j M S L T h.2 clean out.fits))
    (λ on. absurd (fits.not_refused j (OldFile, inl (ap (λ (x : ℕ). Refused x OldFile) h.0)) on.there))
    (split (Refused i OldFile ∷ Call j a c ∷ M) j c M (latest_ended (Refused i OldFile) j a c M h.0) h.2 clean S L T fits)
served n (CutOff i why ∷ Call q a c ∷ M) S L T h clean fits = absurd (false≢true (sym clean))
served n (m ∷ Call q a c ∷ M) S L T h clean fits = absurd h.0
served n _ S L T h clean fits = absurd h

-- with the call that is open, or with it cut off
pub served_open : (i a : ℕ) (c : Command) (M : History) (S : Keys) (L : List ℕ) (T : Keys) → Ended i M → has_cut M ≡ false → Fits S (Call i a c ∷ M) L T → IsPlain S (Call i a c ∷ M) T
served_open i a c M S L T h clean fits = ⊎_elim
    (λ out. inl (served i M S L T h clean out.fits))
    (λ on. inr (clean, (on.set, served i M S on.before on.set h clean on.fits, on.ends)))
    (split (Call i a c ∷ M) i c M (latest_open i a c M) h clean S L T fits)

pub served_cut : (i a : ℕ) (c : Command) (why : Cut) (M : History) (S : Keys) (L : List ℕ) (T : Keys) → Ended i M → has_cut M ≡ false → Fits S (CutOff i why ∷ Call i a c ∷ M) L T → IsPlain S (CutOff i why ∷ Call i a c ∷ M) T
served_cut i a c why M S L T h clean fits = (
  refl,
  ⊎_elim
      (λ out. inl (served i M S L T h clean out.fits))
      (λ on. inr (clean, (on.set, served i M S on.before on.set h clean on.fits, on.ends)))
      (split (CutOff i why ∷ Call i a c ∷ M) i c M (latest_ended (CutOff i why) i a c M refl) h clean S L T fits),
)

-- the same set
pub served_same : (M : History) (S T U : Keys) → Same T U → IsPlain S M T → IsPlain S M U
served_same [] S T U same h = λ k. h k ∙ same k
served_same (Answer i answer ∷ Call j a c ∷ M) S T U same h = (h.0, h.1, (h.2.0, h.2.1, h.2.2, λ k. h.2.3 k ∙ same k))
served_same (Refused i Full ∷ Call j a c ∷ M) S T U same h = (h.0, h.1, served_same M S T U same h.2)
served_same (Refused i Worn ∷ Call j a c ∷ M) S T U same h = (h.0, served_same M S T U same h.1)
served_same (Refused i OldFile ∷ Call j a c ∷ M) S T U same h = (h.0, served_same M S T U same h.1)
served_same (CutOff i why ∷ Call j a c ∷ M) S T U same h = (h.0, served_same (Call j a c ∷ M) S T U same h.1)
served_same (Call j a c ∷ M) S T U same (inl h) = inl (served_same M S T U same h)
served_same (Call j a c ∷ M) S T U same (inr h) = inr (h.0, (h.1.0, h.1.1, λ k. h.1.2 k ∙ same k))
served_same _ _ _ _ same h = absurd h
