-- The calls and the passes of a loop, joined to its clients, after each step.
use Rattle.std.proofs.Common.{◌≡◌, ◌≤◌, ◌||◌, Bool, ◌<◌, ◌+◌, ◌-◌, ◌≢◌, ◌⊎◌, inl, inr, ℕ, zero, suc, All, List, [], ◌∷◌, ◌++◌, Option, Some, None, IfSome}
use Rattle.std.proofs.Common.{length, eqb, true, false, option_to_list, set, slice_index_or, refl, sym, ap, ◌∙◌, subst, arith, get_or-set_other, length-append}
use Rattle.std.proofs.{Common.{length-set}, lemmas.{Bool.Decides.{eqb_tells}, List.{get_or_default}}}
use Rattle.std.{proofs.lemmas.List.Elements.{All-cons, All-head, All-nil, All-push, All-set, All-tail, All-weaker}, specs.List.{Any}}
use Rattle.lz_list.{specs.Traces.{Trace, Begins}, proofs.Traces.WalkEnd.{begins_before}}
use Rattle.lz_board.specs.Seats.{part}
use Rattle.lz_serve.specs.{Askings.{AnswersNoOther, Asked}, Clients.{Asker, Askers, HasSeenIn, HaveSeenIn, KeepsAwaited}}
use Rattle.lz_serve.{specs.{Desks.{AnswersOneOf, AreJoined, IsCalled, Knows, count_of}, Grants.{Posed}}, proofs.Crowds.{from_nothing}}

-- what the clients have seen was seen here too
pub seen_later : (a : Askers) (old new : Trace) → Begins old new → HaveSeenIn a old → HaveSeenIn a new
seen_later a old new more = All-weaker (HasSeenIn a.admitted old) (HasSeenIn a.admitted new) each a.clients
  where
    each : (client : Option Asker) → HasSeenIn a.admitted old client → HasSeenIn a.admitted new client
    each None so = tt
    each (Some x) so = (so.0, begins_before x.seen old new so.1 more)

pub knows_seen : (a : Askers) (meeting : Option Trace) (known : Trace) → IfSome meeting (λ met. met ≡ known) → HaveSeenIn a known → Knows a meeting known
knows_seen a None known alike seen = seen
knows_seen a (Some met) known alike seen = subst (HaveSeenIn a) (sym alike) seen

pub knows_met : (a : Askers) (meeting : Option Trace) (known : Trace) → IfSome meeting (HaveSeenIn a) → (meeting ≡ None → HaveSeenIn a known) → Knows a meeting known
knows_met a None known met seen = seen refl
knows_met a (Some met) known is seen = is

-- the same question is answered
pub called_same : (a : Askers) (meeting : Option Trace) (old new : Asked) → new.question ≡ old.question → new.token ≡ old.token → IsCalled a meeting old → IsCalled a meeting new
called_same a meeting old new question token is = grind arith

pub either_so : {x : Bool} (y : Bool) → x ≡ true → (x || y) ≡ true
either_so y is = ap (λ (e : Bool). e || y) is

-- each call answers its own question
pub each_its_own : (calls : List Asked) → All (AnswersOneOf calls) calls
each_its_own calls k d low = (k, slice_index_or calls k d, low, get_or_default calls k (slice_index_or calls k d) d low, refl)

-- a call that has begun no line is still for one of those questions
pub begun_none : {a : Askers} {meeting : Option Trace} (was calls : List Asked) (at : ℕ) (old new : Asked) → at < length calls → old ≡ slice_index_or calls at old → AnswersNoOther old new → IsCalled a meeting new → All (AnswersOneOf was) calls
    → All (AnswersOneOf was) (set calls at new)
begun_none was calls at old new within here (inl none) is all = let asks = is.asks in absurd (cc)
begun_none was calls at old new within here (inr (same, token)) is all =
    All-set (AnswersOneOf was) calls at new (subst (λ (o : Option Posed). Any (λ (call : Asked). call.question ≡ o) was) (ap (λ (call : Asked). call.question) (sym here) ∙ sym same) (all at old within)) all

pub all_none : {X : Type 0} (P : X → Type 0) (xs : List X) → length xs ≡ 0 → All P xs
all_none P [] none = All-nil P
all_none P (x ∷ xs) none = absurd (omega (arith, none))

all_one : {X : Type 0} (P : X → Type 0) (xs : List X) (at : ℕ) (x : X) → at < length xs → length xs ≤ 1 → P x → All P (set xs at x)
all_one P [] at x within one is = All-nil P
all_one P (y ∷ []) zero x within one is = All-cons P x [] is (All-nil P)
all_one P (y ∷ []) (suc at) x within one is = absurd (omega (arith, within))
all_one P (y ∷ z ∷ xs) at x within one is = absurd (omega (arith, one))

-- what is so of each is so of those that are left where one was taken out, and the last one put in its place
pub all_left : {X : Type 0} (P : X → Type 0) (xs left : List X) (at n : ℕ) (x : X) → n ≡ length xs → length left + 1 ≡ n
    → ((d : X) → at + 1 < n → slice_index_or left at d ≡ slice_index_or (set xs at x) (n - 1) d) × ((k : ℕ) (d : X) → k ≢ at → k + 1 < n → slice_index_or left k d ≡ slice_index_or (set xs at x) k d) → All P xs → All P left
all_left {X} P xs left at n x same count stands all k d low = choose (eqb_tells k at)
  where
    choose : ((eqb k at ≡ true) × (k ≡ at)) ⊎ ((eqb k at ≡ false) × (k ≢ at)) → P (slice_index_or left k d)
    choose (inl is) =
        let at_is = is.1 in
        let far : n - 1 ≢ at = λ is. omega (arith, is, at_is, low, count) in
        let e = stands.0 d (omega (arith, at_is, low, count)) ∙ get_or-set_other xs at (n - 1) x d far in
        subst P (sym (ap (λ (m : ℕ). slice_index_or left m d) at_is ∙ e)) (all (n - 1) d (omega (arith, low, count, same)))
    choose (inr is) =
        let e = stands.1 k d is.1 (omega (arith, low, count)) ∙ get_or-set_other xs at k x d is.1 in
        subst P (sym e) (all k d (omega (arith, low, count, same)))

module _ (a b : Askers) (old new : Option Trace) (keeps : KeepsAwaited a b) (met : IfSome new (HaveSeenIn b)) where
  -- the pass that meets the others has seen what the clients have now, if there is one
  knows_now : (known : Trace) (now : Option Trace) → now ≡ new → (now ≡ None → ⊥) → Knows b now known
  knows_now known None is some = absurd (some refl)
  knows_now known (Some t) is some = subst (λ (o : Option Trace). IfSome o (HaveSeenIn b)) (sym is) met

  called_now : (asked : Asked) → (new ≡ None → ⊥) → IsCalled a old asked → IsCalled b new asked
  called_now asked some is = record { question = is.question; asks = is.asks; awaited = keeps asked.token is.question is.awaited; knows = knows_now (part is.question.before).known new refl some }

  -- the other calls
  pub calls_now : (calls : List Asked) → (new ≡ None → length calls ≡ 0) → All (IsCalled a old) calls → All (IsCalled b new) calls
  calls_now calls none are = by_case new refl
    where
      by_case : (now : Option Trace) → now ≡ new → All (IsCalled b new) calls
      by_case None is = all_none (IsCalled b new) calls (none (sym is))
      by_case (Some t) is = All-weaker (IsCalled a old) (IsCalled b new) (λ asked so. called_now asked (λ no. absurd (cc)) so) calls are

  pub frees_now : (free : List Trace) → (new ≡ None → length free ≡ 0) → All (Knows b new) free
  frees_now free none = by_case new refl
    where
      by_case : (now : Option Trace) → now ≡ new → All (Knows b new) free
      by_case None is = all_none (Knows b new) free (none (sym is))
      by_case (Some t) is = each free
        where
          each : (xs : List Trace) → All (Knows b new) xs
          each [] = All-nil (Knows b new)
          each (x ∷ xs) = All-cons (Knows b new) x xs (knows_now x new refl (λ no. absurd (cc))) (each xs)

  module _ (given : ℕ) (calls : List Asked) (free : List Trace) (some : given ≡ 0 → ⊥) (none : new ≡ None → old ≡ None) (was : AreJoined a given old calls free) where
    -- one of the calls is another now
    pub joined_answered : (at : ℕ) (asked : Asked) → at < length calls → IsCalled b new asked → AreJoined b given new (set calls at asked) free
    joined_answered at asked within is = record {
      called = by_case new refl;
      know = frees_now free (λ no. let one = was.alone (none no) in omega (arith, one, within));
      met = met;
      alone = λ no. let one = was.alone (none no) in let same = length-set calls at asked in omega (arith, one, same);
      unseen = λ no. absurd (some no);
    }
      where
        by_case : (now : Option Trace) → now ≡ new → All (IsCalled b new) (set calls at asked)
        by_case None same = let one = was.alone (none (sym same)) in all_one (IsCalled b new) calls at asked within (omega (arith, one)) is
        by_case (Some t) same = All-set (IsCalled b new) calls at asked is (calls_now calls (λ no. absurd (cc)) was.called)

    -- one more call
    pub joined_begun : (rest : List Trace) (last : Trace) (asked : Asked) → free ≡ rest ++ last ∷ [] → IsCalled b new asked → AreJoined b given new (calls ++ asked ∷ []) rest
    joined_begun rest last asked split is =
        let many = ap (λ (l : List Trace). length l) split ∙ length-append rest (last ∷ []) in
        record {
          called = All-push (IsCalled b new) calls asked (calls_now calls (λ no. let one = was.alone (none no) in omega (arith, one, many)) was.called) is;
          know = frees_now rest (λ no. let one = was.alone (none no) in omega (arith, one, many));
          met = met;
          alone = λ no. let one = was.alone (none no) in let more = length-append calls (asked ∷ []) in omega (arith, one, many, more);
          unseen = λ no. absurd (some no);
        }

    -- none began
    pub joined_back : (rest : List Trace) (last now : Trace) → free ≡ rest ++ last ∷ [] → Knows b new now → AreJoined b given new calls (rest ++ now ∷ [])
    joined_back rest last now split knows =
        let many = ap (λ (l : List Trace). length l) split ∙ length-append rest (last ∷ []) in
        record {
          called = calls_now calls (λ no. let one = was.alone (none no) in omega (arith, one, many)) was.called;
          know = All-push (Knows b new) rest now (frees_now rest (λ no. let one = was.alone (none no) in omega (arith, one, many))) knows;
          met = met;
          alone = λ no. let one = was.alone (none no) in let more = length-append rest (now ∷ []) in omega (arith, one, many, more);
          unseen = λ no. absurd (some no);
        }

    -- a call was answered, and its pass rests: the last call stands in its place
    pub joined_rested : (left : List Asked) (at n : ℕ) (asked : Asked) (now : Trace) → at < n → n ≡ length calls → length left + 1 ≡ n
        → ((d : Asked) → at + 1 < n → slice_index_or left at d ≡ slice_index_or (set calls at asked) (n - 1) d) × ((k : ℕ) (d : Asked) → k ≢ at → k + 1 < n → slice_index_or left k d ≡ slice_index_or (set calls at asked) k d) → Knows b new now
        → AreJoined b given new left (free ++ now ∷ [])
    joined_rested left at n asked now within same count stands knows = record {
      called = by_case new refl;
      know = All-push (Knows b new) free now (frees_now free (λ no. let one = was.alone (none no) in omega (arith, one, within, same))) knows;
      met = met;
      alone = λ no. let one = was.alone (none no) in let more = length-append free (now ∷ []) in omega (arith, one, count, more, same);
      unseen = λ no. absurd (some no);
    }
      where
        by_case : (x : Option Trace) → x ≡ new → All (IsCalled b new) left
        by_case None is = let one = was.alone (none (sym is)) in all_none (IsCalled b new) left (omega (arith, one, count, same))
        by_case (Some t) is = all_left (IsCalled b new) calls left at n asked same count stands (calls_now calls (λ no. absurd (cc)) was.called)

-- the pass that meets the others, or else the last of the free ones, has seen what the clients have
module _ (a : Askers) (given : ℕ) (old new : Option Trace) (calls : List Asked) (free rest : List Trace) (was : AreJoined a given old calls free) (same : IfSome old (λ met. new ≡ Some met))
    (first : old ≡ None → free ≡ rest ++ option_to_list new) where
  last_of : (xs : List Trace) (x : Trace) → All (Knows a old) (xs ++ x ∷ []) → Knows a old x
  last_of [] x every = All-head (Knows a old) x [] every
  last_of (y ∷ xs) x every = last_of xs x (All-tail (Knows a old) y (xs ++ x ∷ []) every)

  found : old ≡ None → (n : Option Trace) → free ≡ rest ++ option_to_list n → IfSome n (HaveSeenIn a)
  found empty None split = tt
  found empty (Some t) split = subst (λ (o : Option Trace). Knows a o t) empty (last_of rest t (subst (All (Knows a old)) split was.know))

  met_then : (o : Option Trace) → o ≡ old → IfSome new (HaveSeenIn a)
  met_then None is = found (sym is) new (first (sym is))
  met_then (Some t) is = grind arith

  pub first_met : IfSome new (HaveSeenIn a)
  first_met = met_then old refl

  -- one more pass is given, where all are free
  module _ (last : Trace) (no_call : length calls ≡ 0) (all : length free + count_of old ≡ given) (none : new ≡ None → (old ≡ None) × (length free ≡ 0)) where
    few : new ≡ None → (length rest ≡ 0) × (given ≡ 0)
    few empty = grind (arith, length-append, option_to_list)

    pub joined_taken : AreJoined a (given + 1) new calls (rest ++ last ∷ [])
    joined_taken = grind (arith, all_none, frees_now, first_met, few, knows_met, seen_later, from_nothing, length-append)
