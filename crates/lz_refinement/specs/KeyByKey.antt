-- Keys that nobody else changes: in a set of any number of passes what is told of them is what a plain set tells. Lists of calls
-- stand oldest first, traces newest first.
use Rattle.std.specs.Prelude.{◌≡◌, ◌⊎◌, ℕ, Bool, true, false, ◌==◌, List, [], ◌∷◌, ◌++◌, filter, map}
use Rattle.lz_slot.specs.declared.{command.Command.{Command, TheVariants.{Add}}, format.Format.{Format}}
use Rattle.lz_slot.specs.Sets.{Keys, Same, key_of, moved, replies, reply, set_after}
use Rattle.lz_list.specs.{declared.publishing.Publishing.TheVariants.{Linked as linked, Marked as marked}, Traces.{Trace, member}}
use Rattle.lz_machine.specs.{declared.event.Reply.{Reply, TheVariants.{Yes, No, Full, Worn, OldFile, Halted, Device}}, Table.{is_old}}
use Rattle.lz_board.specs.declared.view.Part.{Part}
use Rattle.lz_refinement.specs.{Answers.{Answers}, OneCaller.{tells_old}, Sessions.{AnsweredCalls, NoneCut}}

-- each linking and marking of key k in these was made for such a pass
abbrev pub AreFor : (ℕ → Type 0) → ℕ → Trace → Type 0
AreFor Such k [] = Unit {0}
AreFor Such k (linked j s q ∷ P) = (j ≡ k → Such q) × AreFor Such k P
AreFor Such k (marked j s q ∷ P) = (j ≡ k → Such q) × AreFor Such k P
AreFor Such k (_ ∷ P) = AreFor Such k P

-- Q goes on from P, and each change of key k since was made for such a pass
pub record ChangedFor (Such : ℕ → Type 0) (k : ℕ) (P Q : Trace) : Type 0 where
  pub since : Trace
  pub goes_on : Q ≡ since ++ P
  pub all : AreFor Such k since

-- since P pass p alone changed key k
abbrev pub OnlyOwnOf : ℕ → ℕ → Trace → Trace → Type 0
OnlyOwnOf p = ChangedFor (λ q. q ≡ p)

-- since P nobody changed key k
abbrev pub Untouched : ℕ → Trace → Trace → Type 0
Untouched = ChangedFor (λ q. ⊥)

-- What is told of a key that is a member or not, and whether it is one then. The last two leave open whether the command was done.
abbrev pub KeyRow : Command → Reply → Bool → Bool → Type 0
KeyRow c Yes was is = (reply c was ≡ true) × (is ≡ moved (key_of c) c was)
KeyRow c No was is = (reply c was ≡ false) × (is ≡ moved (key_of c) c was)
KeyRow (Add k) (Full counts) was is = (was ≡ false) × (is ≡ was)
KeyRow c (Full counts) was is = ⊥
KeyRow c Worn was is = is ≡ was
KeyRow c OldFile was is = is ≡ was
KeyRow c Halted was is = (is ≡ was) ⊎ (is ≡ moved (key_of c) c was)
KeyRow c Device was is = (is ≡ was) ⊎ (is ≡ moved (key_of c) c was)

-- The answer about its key that a plain set gives, on a file of format F. It tells of an old file exactly where an adding is of
-- a key that the format can't hold.
pub record IsKeyAnswer (F : Format) (c : Command) (told : Reply) (was is : Bool) : Type 0 where
  pub old : tells_old told ≡ is_old F c
  pub row : KeyRow c told was is

-- In a set of any number of passes each answer is a plain set's of its key, where no other pass changed the key meanwhile.
abbrev pub OneKeyIsPlain : Type 0
OneKeyIsPlain =
    (F : Format) (c : Command) (told : Reply) (before after : Part)
    → Answers F c told before after → OnlyOwnOf before.number (key_of c) before.known after.known
    → IsKeyAnswer F c told (member (key_of c) before.known) (member (key_of c) after.known)

-- Passes of a set made these calls with key k one after the other: each began with all that was seen at the answer of the one
-- before it, and nobody else changed the key from P to Q.
abbrev pub ServedKey : Format → ℕ → AnsweredCalls → Trace → Trace → Type 0
ServedKey F k [] P Q = Untouched k P Q
ServedKey F k (call ∷ calls) P Q =
    (before : Part) × (after : Part) × Untouched k P before.known × Answers F call.0 call.1 before after
    × OnlyOwnOf before.number k before.known after.known × ServedKey F k calls after.known Q

-- the calls that name a key
abbrev pub about : ℕ → AnsweredCalls → AnsweredCalls
about k calls = filter (λ call. key_of call.0 == k) calls

-- T has the same keys as S, but for k
abbrev pub SameBut : ℕ → Keys → Keys → Type 0
SameBut k S T = (j : ℕ) → ¬ (j ≡ k) → T j ≡ S j

-- the plain set S, asked these calls, may reply so and be T then
abbrev pub PlainCalls : Format → AnsweredCalls → Keys → Keys → Type 0
PlainCalls F [] S T = Same T S
PlainCalls F (call ∷ calls) S T =
    (U : Keys) × IsKeyAnswer F call.0 call.1 (S (key_of call.0)) (U (key_of call.0)) × SameBut (key_of call.0) S U × PlainCalls F calls U T

-- The replies to calls, by whatever passes, are a plain set's in their order, where those about each key k were made one after the
-- other and nobody else changed it, from P k to Q k. (Of a key that none of them names, P k and Q k may be one trace.)
abbrev pub OwnKeysArePlain : Type 0
OwnKeysArePlain =
    (F : Format) (calls : AnsweredCalls) (P Q : ℕ → Trace)
    → ((k : ℕ) → ServedKey F k (about k calls) (P k) (Q k)) → PlainCalls F calls (λ k. member k (P k)) (λ k. member k (Q k))

-- those of the calls that were told yes or no
abbrev pub answered_by : Command → Reply → List (Command × Bool) → List (Command × Bool)
answered_by c Yes asked = (c, true) ∷ asked
answered_by c No asked = (c, false) ∷ asked
answered_by c _ asked = asked

abbrev pub answered_in : AnsweredCalls → List (Command × Bool)
answered_in [] = []
answered_in (call ∷ calls) = answered_by call.0 call.1 (answered_in calls)

-- Where none was cut off, these are the plain set's replies to the list of their commands, and it is the set after them: what was told
-- full, worn or of an old file wasn't done.
abbrev pub PlainCallsAreReplies : Type 0
PlainCallsAreReplies =
    (F : Format) (calls : AnsweredCalls) (S T : Keys)
    → PlainCalls F calls S T → NoneCut calls
    → (map (λ call. call.1) (answered_in calls) ≡ replies S (map (λ call. call.0) (answered_in calls)))
    × Same T (set_after S (map (λ call. call.0) (answered_in calls)))
