-- A call that is under way goes on by a load of its pass.
use Rattle.std.proofs.Common.{◌≡◌, ℕ, Bool, false, ◌++◌, length, refl, sym, ap, ◌∙◌, subst, append_assoc, is_some, Option, Some, None}
use Rattle.std.{proofs.lemmas.List.Elements.{filter-append}, specs.List.{list_any}}
use mathlib.Core.Bool.{false≢true}
use Rattle.lz_refinement.proofs.Vocabulary.{Command, Format, key_of, Word, hopped, Trace, halt_word, word_after, Event, Reply, Sequence, Progress, Shape, event_at}
use Rattle.lz_refinement.proofs.Vocabulary.{events_of, halt_loaded, progress_after, is_before_pin, side_of, hop_of, IsLoading, reply_at, IsLate, Sizes, Load, Part}
use Rattle.lz_refinement.proofs.Vocabulary.{is_for, IsShared, placed, unless_replied, shape_of_sizes, index, word_at, Changes, loading, IsShownTo, BoardId}
use Rattle.lz_refinement.proofs.Calls.{OwnChanges.{calm_none}, NextPlace.{Onward, hop_onward, halt_onward}, CallTurn.{not_old, not_full}, InnerEvents.{none_at}}
use Rattle.lz_refinement.specs.{NotedRuns.{IsHopAt}, UnderWay.{OwnAt, UnderWay}}
use Rattle.lz_machine.specs.declared.{event.{Event.TheVariants.{Hop}, Outcome.TheVariants.{Value}}, caller.Sequence.TheVariants.{Pinning}}
use Rattle.lz_machine.specs.declared.caller.Progress.TheVariants.{Playing, LoadsHalt, Walking}
use Rattle.lz_board.{specs.declared.view.What.TheVariants.{Played}, proofs.{Upkeep.SharedWords.{shared_placed}, Walk.GlanceAnswer.{halt_since}}}
use Rattle.lz_list.proofs.Tables.Address.{decode}

loading_going : (at : Progress) → IsLoading at → reply_at at ≡ None
loading_going LoadsHalt is = refl
loading_going (Walking aim look) is = refl
loading_going at is = absurd is

loading_inside : (at : Progress) → IsLoading at → is_before_pin at ≡ false
loading_inside LoadsHalt is = refl
loading_inside (Walking aim look) is = refl
loading_inside at is = absurd is

-- where a load leads
load_onward : (shape : Shape) (p : ℕ) (c : Command) (at : Progress) (value : ℕ) (P : Trace) → IsLoading at → OwnAt p c at P → Onward shape p c (progress_after shape c at (Value value)) P
load_onward shape p c LoadsHalt value P is h = halt_onward shape p P (calm_none p c LoadsHalt P refl h) c value
load_onward shape p c (Walking aim look) value P is h = hop_onward shape p P (calm_none p c (Walking aim look) P refl h) c aim (hopped shape.buckets (key_of c) look value)
load_onward shape p c at value P is h = absurd is

-- the value of a word, where there is one, after a trace
abbrev pub value_in : ℕ → Trace → Option Word → ℕ
value_in buckets P None = 0
value_in buckets P (Some w) = word_after buckets P w

-- a load of the halt word after the halt ends the call
late_load : (shape : Shape) (c : Command) (at : Progress) (w : Word) (buckets value : ℕ) (P : Trace) → IsLoading at → event_at shape c at ≡ Hop w → value ≡ word_after buckets P w → halt_word P ≡ 1 → IsLate at
    → IsLate (progress_after shape c at (Value value))
late_load shape c LoadsHalt w buckets value P is event found halted late =
    subst (λ (n : ℕ). IsLate (halt_loaded n)) (sym halted ∙ ap (value_in buckets P) (ap hop_of event) ∙ sym found) tt
late_load shape c (Walking aim look) w buckets value P is event found halted late = absurd late
late_load shape c at w buckets value P is event found halted late = absurd is

-- no event of a sequence is a load, so only a place of a load has one
abbrev is_load : Event → Bool
is_load e = is_some (hop_of e)

no_loads : (c : Command) (sequence : Sequence) → list_any is_load (events_of c sequence) ≡ false
no_loads c Pinning = refl
no_loads c _ = refl

pub load_place : (shape : Shape) (c : Command) (at : Progress) (w : Word) → event_at shape c at ≡ Hop w → IsLoading at
load_place shape c (Playing sequence i) w is = absurd (false≢true (sym (none_at is_load refl (events_of c sequence) i (no_loads c sequence)) ∙ ap is_load is))
load_place shape c LoadsHalt w is = tt
load_place shape c (Walking aim look) w is = tt
load_place shape c _ w is = absurd (false≢true (ap is_some (ap hop_of is)))

module _ (b : BoardId) (c : Command) (format : Format) (before : Part) (at : Progress) (h : Part) (U : UnderWay b c format before at h) (w : Word) (event : event_at (shape_of_sizes h.sizes) c at ≡ Hop w) (shared : IsShared b.sizes w)
    (seen : Trace) (value : ℕ) (shown : IsShownTo seen h) (found : value ≡ word_after b.sizes.buckets seen w) where
  abbrev h1 : Part
  h1 = loading seen (index h.sizes w) value h

  abbrev next : Progress
  next = progress_after (shape_of_sizes h.sizes) c at (Value value)

  abbrev x : Load
  x = record { word = word_at h.sizes (index h.sizes w); value = value; at = length seen }

  loads : IsLoading at
  loads = load_place (shape_of_sizes h.sizes) c at w event

  there : Onward (shape_of_sizes h.sizes) h.number c next U.own
  there = load_onward (shape_of_sizes h.sizes) h.number c at value U.own loads U.is_own

  changes_now : Changes h.number before.known seen U.own
  changes_now = record {
    since = shown.since.0 ++ U.changes.since;
    goes_on = shown.since.1 ∙ ap (λ (l : Trace). shown.since.0 ++ l) U.changes.goes_on ∙ sym (append_assoc shown.since.0 U.changes.since before.known);
    own = filter-append (is_for h.number) shown.since.0 U.changes.since ∙ (λ i. shown.since.2 i ++ U.changes.own i);
  }

  loaded_now : UnderWay b c format before next h1
  loaded_now = record {
    sizes = U.sizes;
    number = U.number;
    within = U.within;
    steps = U.steps;
    only = U.only;
    call = record {
      next = (subst (IsHopAt (shape_of_sizes h.sizes) x) (sym U.call.at) (event ∙ ap Hop (sym (decode h.sizes w (shared_placed h.sizes w (subst (λ (z : Sizes). IsShared z w) (sym U.sizes) shared))))), U.call.next);
      at = ap (placed (shape_of_sizes h.sizes) (Played (Hop x.word) (Value value))) U.call.at ∙ ap (λ (r : Option Reply). unless_replied r c next) (loading_going at loads);
      pass = there.pass;
    };
    side = U.side ∙ ap side_of (loading_inside at loads ∙ sym there.inside);
    own = U.own;
    changes = changes_now;
    is_own = there.is_own;
    opened = U.opened;
    since = U.since;
    late = λ halted. late_load (shape_of_sizes h.sizes) c at w b.sizes.buckets value seen loads event found (halt_since before.known seen (changes_now.since, changes_now.goes_on) halted) (U.late halted);
    old = λ old. absurd (not_old next there.inside old);
    full = λ counts full. absurd (not_full next counts there.room full);
  }

  pub loaded : (h' : Part) → h' ≡ loading seen (index b.sizes w) value h → UnderWay b c format before next h'
  loaded h' is = subst (UnderWay b c format before next) (sym (is ∙ ap (λ (z : Sizes). loading seen (index z w) value h) (sym U.sizes))) loaded_now
