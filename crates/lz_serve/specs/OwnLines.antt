-- What a connection is told of keys that nobody else changes is what a plain set tells, in the order of its lines. Traces stand newest first.
use Rattle.std.specs.Prelude.{◌≡◌, ◌⊎◌, ℕ, All, Bool, List, [], ◌∷◌, ◌++◌, Result, Some, ⊤}
use Rattle.lz_slot.specs.declared.{command.Command.{Command}, format.Format.{Format}}
use Rattle.lz_list.specs.{declared.publishing.Publishing.{Publishing}, Traces.{Trace, Begins, member}}
use Rattle.lz_machine.specs.declared.event.Reply.{Reply, TheVariants.{Full}}
use Rattle.lz_board.specs.Seats.{BoardId, part}
use Rattle.lz_refinement.specs.{KeyByKey.{PlainCalls}, LoneClient.{IsChange}, Sessions.{AnsweredCalls}}
use Rattle.lz_set.specs.{declared.fault.Fault.{Fault}, Answers.{reply_of}}
use Rattle.lz_serve.specs.{Grants.{AreGranted, Grant, key_asked}, Replies.{client_reply, command_of}}

-- the grant is for key k
abbrev pub IsFor : ℕ → Grant → Type 0
IsFor k g = key_asked g.question.request ≡ Some k

-- the change after R was made for the grant's pass between its question and its answer
pub record IsIn (q : ℕ) (e : Publishing) (R : Trace) (g : Grant) : Type 0 where
  pub by : (part g.question.before).number ≡ q
  pub since : Begins (part g.question.before).known R
  pub upto : Begins (e ∷ R) (part g.after).known

-- one of these grants is for key k, and is so
abbrev pub SomeFor : ℕ → (Grant → Type 0) → List Grant → Type 0
SomeFor k A [] = ⊥
SomeFor k A (g ∷ grants) = (IsFor k g × A g) ⊎ SomeFor k A grants

-- From P to Q nobody changed key k but the passes of the grants for it, while they answered them, all of them after P and before Q.
pub record IsOwnKey (k : ℕ) (grants : List Grant) (P Q : Trace) : Type 0 where
  pub goes_on : Begins P Q
  pub within : All (λ g. IsFor k g → Begins P (part g.question.before).known × Begins (part g.after).known Q) grants
  pub own : (q : ℕ) (e : Publishing) (R : Trace) → IsChange k q e → Begins P R → Begins (e ∷ R) Q → SomeFor k (IsIn q e R) grants

-- the reply says full
abbrev pub IsFull : Reply → Type 0
IsFull (Full counts) = ⊤
IsFull _ = ⊥

-- each of these calls, for this command, was told full
abbrev pub AreFull : Command → AnsweredCalls → Type 0
AreFull c [] = ⊤
AreFull c (call ∷ calls) = (call.0 ≡ c) × IsFull call.1 × AreFull c calls

-- Each grant tells of one of these calls, in their order, for what its request asks. The calls before that, for the same, were told full.
abbrev pub TellOf : List Grant → AnsweredCalls → Type 0
TellOf [] calls = calls ≡ []
TellOf (g ∷ grants) calls =
    (c : Command) × (full : AnsweredCalls) × (answer : Result Bool Fault) × (rest : AnsweredCalls) × (calls ≡ full ++ (c, reply_of answer) ∷ rest)
    × (command_of g.question.request ≡ Some c) × AreFull c full × (g.reply ≡ client_reply answer) × TellOf grants rest

-- What was told of keys that nobody else changed is what a plain set tells, in the order of the grants, where those for one key came in turn.
abbrev pub OwnLinesArePlain : Type 0
OwnLinesArePlain =
    (b : BoardId) (F : Format) (grants : List Grant) (P Q : ℕ → Trace)
    → AreGranted b F grants → ((k : ℕ) → IsOwnKey k grants (P k) (Q k))
    → (calls : AnsweredCalls) × TellOf grants calls × PlainCalls F calls (λ k. member k (P k)) (λ k. member k (Q k))
