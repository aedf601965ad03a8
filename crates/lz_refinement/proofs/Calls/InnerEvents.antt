-- The events of a call inside, its loads, its Pin and its Answer aside: none moves a pin word.
use Rattle.std.{proofs.{Common.{◌≡◌, ℕ, zero, suc, Bool, false, List, [], ◌∷◌, refl, sym, slice_index_or, None}, lemmas.Bool.{or_parts}}, specs.List.{list_any}}
use mathlib.Core.Bool.{false≢true}
use Rattle.lz_refinement.proofs.Vocabulary.{Command, Words, Event, Outcome, Sequence, Progress, Shape, event_at, events_of, loaded, is_before_pin, reply_at, IsLate}
use Rattle.lz_refinement.{proofs.{Reading.PinWords.{is_pinning}, Calls.NextPlace.{IsPlain}}, specs.Answers.{IsWithin}}
use Rattle.lz_machine.specs.declared.{event.Event.TheVariants.{Check, Answer, SeePin}, caller.Sequence.TheVariants.{Pinning}}
use Rattle.lz_machine.specs.declared.caller.Progress.TheVariants.{Playing, LoadsHalt, Reserving, SeeingPins, Claiming, Checking, Answering}
use Rattle.lz_board.specs.declared.view.What.TheVariants.{Played}

pub plain_within : (e : Event) (o : Outcome) → is_pinning e ≡ false → IsWithin (Played e o)
plain_within Answer o plain = absurd (false≢true (sym plain))
plain_within e o plain = tt

-- where no event of a list passes the test, the one that is played doesn't
pub none_at : (test : Event → Bool) → test Check ≡ false → (es : List Event) (i : ℕ) → list_any test es ≡ false → test (slice_index_or es i Check) ≡ false
none_at test last [] i none = last
none_at test last (e ∷ es) zero none = (or_parts (test e) (list_any test es) none).0
none_at test last (e ∷ es) (suc i) none = none_at test last es i (or_parts (test e) (list_any test es) none).1

-- no event of a call inside moves a pin word, its Answer aside
plain_events : (c : Command) (sequence : Sequence) (i : ℕ) → IsPlain (Playing sequence i) → list_any is_pinning (events_of c sequence) ≡ false
plain_events c Pinning i plain = absurd plain
plain_events c _ i plain = refl

pub plain_loaded : (w : Words) (e : Event) → is_pinning e ≡ false → is_pinning (loaded w e) ≡ false
plain_loaded w (SeePin p value) plain = refl
plain_loaded w e plain = plain

pub plain_event : (shape : Shape) (c : Command) (at : Progress) → IsPlain at → is_pinning (event_at shape c at) ≡ false
plain_event shape c (Playing sequence i) plain = none_at is_pinning refl (events_of c sequence) i (plain_events c sequence i plain)
plain_event shape c (Reserving again) plain = refl
plain_event shape c (SeeingPins p) plain = refl
plain_event shape c (Claiming aim pred curr) plain = refl
plain_event shape c (Checking aim curr) plain = refl
plain_event shape c _ plain = absurd plain

pub plain_going : (at : Progress) → IsPlain at → reply_at at ≡ None
plain_going (Answering reply) plain = absurd plain
plain_going at plain = refl

pub plain_inside : (at : Progress) → IsPlain at → is_before_pin at ≡ false
plain_inside (Playing Pinning i) plain = absurd plain
plain_inside (Answering reply) plain = absurd plain
plain_inside at plain = refl

-- a call that began after the halt doesn't come to one
pub plain_unlate : (at : Progress) → IsPlain at → ¬ IsLate at
plain_unlate (Playing Pinning i) plain late = absurd plain
plain_unlate LoadsHalt plain late = absurd plain
plain_unlate (Answering reply) plain late = absurd plain
plain_unlate at plain late = late
