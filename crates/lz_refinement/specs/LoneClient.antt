-- All calls of a set's passes: what is told of a key is what a plain set tells, where those that name it were made one after the
-- other. Lists of calls stand oldest first, traces newest first.
use Rattle.std.specs.Prelude.{◌≡◌, ◌⊎◌, ℕ, ◌==◌, List, [], ◌∷◌, filter, map}
use Rattle.lz_slot.specs.{declared.{command.Command.{Command}, format.Format.{Format}}, Sets.{key_of}}
use Rattle.lz_list.specs.{declared.publishing.Publishing.{Publishing, TheVariants.{Linked as linked, Marked as marked}}, Traces.{Trace, Begins}}
use Rattle.lz_machine.specs.declared.event.Reply.{Reply}
use Rattle.lz_board.specs.{declared.view.Part.{Part}, Notes.{Since}}
use Rattle.lz_refinement.specs.{Answers.{Answers}, KeyByKey.{ServedKey, about, PlainCalls}, OneCaller.{keys_in}, Sessions.{AnsweredCalls}}

-- a call that was made: its command and reply, and its pass's part before it and after it
pub record MadeCall : Type 0 where
  pub command : Command
  pub reply : Reply
  pub before : Part
  pub after : Part

-- each of these was answered so, on a file of format F
abbrev pub AreMade : Format → List MadeCall → Type 0
AreMade F [] = Unit {0}
AreMade F (m ∷ calls) = Answers F m.command m.reply m.before m.after × AreMade F calls

-- the calls of pass p, those that name key k, and what was told of these
abbrev pub made_by : ℕ → List MadeCall → List MadeCall
made_by p calls = filter (λ m. m.before.number == p) calls

abbrev pub naming : ℕ → List MadeCall → List MadeCall
naming k calls = filter (λ m. key_of m.command == k) calls

abbrev pub told_in : List MadeCall → AnsweredCalls
told_in calls = map (λ m. (m.command, m.reply)) calls

-- pass p made these calls one after the other, and all that was published for it from P to Q was in them
abbrev pub PublishedIn : ℕ → List MadeCall → Trace → Trace → Type 0
PublishedIn p [] P Q = Since p Q P
PublishedIn p (m ∷ calls) P Q = Since p m.before.known P × PublishedIn p calls m.after.known Q

-- passes made these one after the other, from P to Q: each began with all that was seen at the answer of the one before it
abbrev pub InTurn : List MadeCall → Trace → Trace → Type 0
InTurn [] P Q = Begins P Q
InTurn (m ∷ calls) P Q = Begins P m.before.known × InTurn calls m.after.known Q

-- e links or marks key k for pass q
abbrev pub IsChange : ℕ → ℕ → Publishing → Type 0
IsChange k q (linked j s r) = (j ≡ k) × (r ≡ q)
IsChange k q (marked j s r) = (j ≡ k) × (r ≡ q)
IsChange k q _ = ⊥

-- pass q made the change after R in this call
pub record IsInCall (q : ℕ) (e : Publishing) (R : Trace) (m : MadeCall) : Type 0 where
  pub by : m.before.number ≡ q
  pub since : Begins m.before.known R
  pub upto : Begins (e ∷ R) m.after.known

-- one of these calls is so
abbrev pub SomeCall : (MadeCall → Type 0) → List MadeCall → Type 0
SomeCall A [] = ⊥
SomeCall A (m ∷ calls) = A m ⊎ SomeCall A calls

-- each change of key k from P to Q was made in one of these calls
abbrev pub ChangedIn : ℕ → List MadeCall → Trace → Trace → Type 0
ChangedIn k calls P Q = (q : ℕ) (e : Publishing) (R : Trace) → IsChange k q e → Begins P R → Begins (e ∷ R) Q → SomeCall (IsInCall q e R) calls

-- Calls that were made one after the other serve a key that was changed in them alone.
abbrev pub TurnsServeKey : Type 0
TurnsServeKey =
    (F : Format) (k : ℕ) (calls : List MadeCall) (P Q : Trace)
    → AreMade F calls → InTurn calls P Q → ChangedIn k calls P Q → ServedKey F k (told_in calls) P Q

-- All that was published for any pass from P to Q was in these calls.
pub record AreAll (F : Format) (calls : List MadeCall) (P Q : Trace) : Type 0 where
  pub made : AreMade F calls
  pub all : (p : ℕ) → PublishedIn p (made_by p calls) P Q

-- Where those that name a key were made one after the other, nobody else changed it.
abbrev pub InTurnServesKey : Type 0
InTurnServesKey =
    (F : Format) (k : ℕ) (calls : List MadeCall) (P Q : Trace)
    → AreAll F calls P Q → InTurn (naming k calls) P Q → ServedKey F k (about k (told_in calls)) P Q

-- The replies are a plain set's in the order of the calls, so that one client may make them side by side: only those with one key
-- have to be made one after the other.
abbrev pub LoneClientIsPlain : Type 0
LoneClientIsPlain =
    (F : Format) (calls : List MadeCall) (P Q : Trace)
    → AreAll F calls P Q → ((k : ℕ) → InTurn (naming k calls) P Q) → PlainCalls F (told_in calls) (keys_in P) (keys_in Q)
