-- A pass's calls in the history that notes show are those of its own steps.
use Rattle.std.proofs.{lemmas.Bool.{cases_eq, Decides.{nat_tests}}, Common.{◌≡◌, ◌≢◌, ⊎_elim, ℕ, suc, ◌≤◌, Bool, true, false, List, [], ◌∷◌, ◌++◌, map, refl}}
use Rattle.std.proofs.Common.{sym, ap, ◌∙◌, subst, arith, eq-eqb, ne_eqb, ◌==◌, if◌then◌else◌, Option, Some, None}
use Rattle.lz_refinement.proofs.Vocabulary.{Command, Format, History, Publishing, Trace, Event, Outcome, Reply, mark_of, mark_of_turn, Shape, Moment, What, Note, Part}
use Rattle.lz_refinement.proofs.{Vocabulary.{place, shape_of_sizes, steps_of, knowing, BoardId}, Marks.RunMarks.{other_number}}
use Rattle.lz_refinement.specs.Marks.{calls_in, last_call_number, reply_in, marks_in}
use Rattle.lz_refinement.specs.OwnCalls.{Ending, SeenCall, ended, calls_of, replied, told_with, told, ending_of, unnumbered, shown, TellsOwn}
use Rattle.lz_machine.specs.declared.event.Reply.TheVariants.{Yes}
use Rattle.lz_board.{specs.declared.view.What.TheVariants.{Called, Played, Found}, proofs.Upkeep.Splice.{own_step, other_step}}

-- each of the calls has a number with F
abbrev AllNumbers : (ℕ → Type 0) → List SeenCall → Type 0
AllNumbers F [] = Unit {0}
AllNumbers F (call ∷ calls) = F call.number × AllNumbers F calls

all_numbers : (F G : ℕ → Type 0) → ((i : ℕ) → F i → G i) → (calls : List SeenCall) → AllNumbers F calls → AllNumbers G calls
all_numbers F G to [] h = tt
all_numbers F G to (call ∷ calls) h = (to call.number h.0, all_numbers F G to calls h.1)

-- the newest call has this number
abbrev HeadIs : ℕ → List SeenCall → Type 0
HeadIs i [] = Unit {0}
HeadIs i (call ∷ calls) = call.number ≡ i

-- an ending changes no number
module _ (i : ℕ) (e : Ending) where
  abbrev either : Bool → SeenCall → List SeenCall → List SeenCall
  either b call calls = if b then record { number = call.number; command = call.command; ending = Some e } ∷ calls else call ∷ ended i e calls

  ended_numbers : (F : ℕ → Type 0) (calls : List SeenCall) → AllNumbers F calls → AllNumbers F (ended i e calls)
  ended_numbers F [] h = tt
  ended_numbers F (call ∷ calls) h = grind (arith, nat_tests, ended_numbers F calls h.1)

  ended_head : (j : ℕ) (calls : List SeenCall) → HeadIs j calls → HeadIs j (ended i e calls)
  ended_head j [] h = tt
  ended_head j (call ∷ calls) h = elim (call.number == i) as (λ (b : Bool). HeadIs j (either b call calls)) [ true ↦ h | false ↦ h ]

  -- an ending of another call
  missed : (calls : List SeenCall) → AllNumbers (λ j. j ≢ i) calls → ended i e calls ≡ calls
  missed [] h = refl
  missed (call ∷ calls) h = ap (λ b. either b call calls) (ne_eqb call.number i h.0) ∙ ap (λ l. call ∷ l) (missed calls h.1)

-- an ending of the newest call
hit : (i : ℕ) (reply : Reply) (calls : List SeenCall) (own : List (Command × Option Reply)) → HeadIs i calls → map unnumbered calls ≡ map shown own
    → map unnumbered (ended i (ending_of reply) calls) ≡ map shown (replied reply own)
hit i reply [] [] head same = refl
hit i reply [] (mine ∷ own) head same = absurd cc
hit i reply (call ∷ calls) [] head same = absurd cc
hit i reply (call ∷ calls) (mine ∷ own) head same = grind (arith, nat_tests, eq-eqb)

-- a reply is an ending
reply_ends : (p i : ℕ) (reply : Reply) (M : History) → calls_of p (mark_of i reply ∷ M) ≡ ended i (ending_of reply) (calls_of p M)
reply_ends p i Yes M = refl
reply_ends p i _ M = refl

-- no call has a number above the count
number_within : (p : ℕ) (ns : List Note) → last_call_number p ns ≤ calls_in ns
number_within p [] = omega arith
number_within p (n ∷ ns) = grind (arith, nat_tests, number_within p ns)

module _ (shape : Shape) (p : ℕ) where
  abbrev calls_at : List Note → List SeenCall
  calls_at ns = calls_of p (marks_in shape ns)

  -- a number of a call of this pass: no other pass's last call has it
  abbrev IsOwn : List Note → ℕ → Type 0
  IsOwn ns i = (i ≤ calls_in ns) × ((q : ℕ) → q ≢ p → i ≢ last_call_number q ns)

  record Own (ns : List Note) : Type 0 where
    same : map unnumbered (calls_at ns) ≡ map shown (told shape (steps_of p ns))
    head : HeadIs (last_call_number p ns) (calls_at ns)
    apart : AllNumbers (IsOwn ns) (calls_at ns)

  module _ (by : ℕ) (published : Option Publishing) (moment : Moment) (ns : List Note) (h : Own ns) where
    abbrev step_note : What → Note
    step_note what = record { by = by; what = what; published = published; moment = moment }

    abbrev with_step : What → List Note
    with_step what = step_note what ∷ ns

    abbrev told_at : List (Command × Option Reply)
    told_at = told shape (steps_of p ns)

    -- its own steps are one more, or not
    own_told : (what : What) → by ≡ p → told shape (steps_of p (with_step what)) ≡ told_with what (reply_in (place shape (steps_of p ns))) told_at
    own_told what is = ap (told shape) (own_step [] p (step_note what) ns is)

    other_told : (what : What) → by ≢ p → told shape (steps_of p (with_step what)) ≡ told_at
    other_told what away = ap (told shape) (other_step [] p (step_note what) ns away)

    -- after a new call
    module _ (c : Command) (format : Format) where
      abbrev what : What
      what = Called c format

      -- the numbers of the calls before it
      still_own : AllNumbers (IsOwn (with_step what)) (calls_at ns)
      still_own = grind (arith, nat_tests, all_numbers)

      abbrev new : SeenCall
      new = record { number = suc (calls_in ns); command = c; ending = None }

      own_called : by ≡ p → Own (with_step what)
      own_called is = grind (arith, nat_tests, own_told, still_own, eq-eqb, number_within, other_number)

      other_called : by ≢ p → Own (with_step what)
      other_called away = grind (arith, nat_tests, other_told, other_number, still_own, ne_eqb)

      called : Own (with_step what)
      called = ⊎_elim own_called other_called (cases_eq by p)

    -- a step that ends none of the pass's calls
    stays : (what : What) → calls_in (with_step what) ≡ calls_in ns → ((q : ℕ) → last_call_number q (with_step what) ≡ last_call_number q ns) → calls_at (with_step what) ≡ calls_at ns
        → told shape (steps_of p (with_step what)) ≡ told_at → Own (with_step what)
    stays what count number calls own = grind (arith, nat_tests, all_numbers)

    module _ (e : Event) (o : Outcome) where
      abbrev event : What
      event = Played e o

      -- an event before the reply
      goes_on : reply_in (place shape (steps_of by ns)) ≡ None → Own (with_step event)
      goes_on none = grind (arith, stays, own_told, other_told, cases_eq)

      -- and the one that gives it
      module _ (reply : Reply) (some : reply_in (place shape (steps_of by ns)) ≡ Some reply) where
        ends : calls_at (with_step event) ≡ ended (last_call_number by ns) (ending_of reply) (calls_at ns)
        ends = ap (λ r. calls_of p (mark_of_turn (last_call_number by ns) r ++ marks_in shape ns)) some ∙ reply_ends p (last_call_number by ns) reply (marks_in shape ns)

        own_ends : by ≡ p → Own (with_step event)
        own_ends is = record {
          same =
              ap (map unnumbered) ends
              ∙ hit (last_call_number by ns) reply (calls_at ns) told_at (subst (λ q. HeadIs (last_call_number q ns) (calls_at ns)) (sym is) h.head) h.same
              ∙ ap (map shown) (sym (own_told event is ∙ ap (λ r. told_with event r told_at) (ap (λ q. reply_in (place shape (steps_of q ns))) (sym is) ∙ some)));
          head = subst (HeadIs (last_call_number p ns)) (sym ends) (ended_head (last_call_number by ns) (ending_of reply) (last_call_number p ns) (calls_at ns) h.head);
          apart = subst (AllNumbers (IsOwn ns)) (sym ends) (ended_numbers (last_call_number by ns) (ending_of reply) (IsOwn ns) (calls_at ns) h.apart);
        }

        other_ends : by ≢ p → Own (with_step event)
        other_ends away = grind (arith, stays, missed, all_numbers, other_told)

      played : (r : Option Reply) → reply_in (place shape (steps_of by ns)) ≡ r → Own (with_step event)
      played None none = goes_on none
      played (Some reply) some = ⊎_elim (own_ends reply some) (other_ends reply some) (cases_eq by p)

    step_own : (what : What) → Own (with_step what)
    step_own (Called c format) = called c format
    step_own (Played e o) = played e o (reply_in (place shape (steps_of by ns))) refl
    step_own (Found q v) = stays (Found q v) refl (λ r. refl) refl (⊎_elim (own_told (Found q v)) (other_told (Found q v)) (cases_eq by p))

  own : (ns : List Note) → Own ns
  own [] = record { same = refl; head = tt; apart = tt }
  own (n ∷ ns) = step_own n.by n.published n.moment ns (own ns) n.what

  -- its calls in the history are those of its own steps
  pub calls_own : (ns : List Note) → map unnumbered (calls_of p (marks_in shape ns)) ≡ map shown (told shape (steps_of p ns))
  calls_own ns = (own ns).same

-- and so those of the steps that the pass has at hand, also once it has seen more
pub tells_own : (b : BoardId) (ns : List Note) (h h' : Part) (seen : Trace) → steps_of h.number ns ≡ h.steps → h' ≡ knowing seen h → TellsOwn b ns h'
tells_own b ns h h' seen noted is = subst (TellsOwn b ns) (sym is) (calls_own (shape_of_sizes b.sizes) h.number ns ∙ ap (λ l. map shown (told (shape_of_sizes b.sizes) l)) noted)
