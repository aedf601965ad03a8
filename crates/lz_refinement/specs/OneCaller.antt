-- The set of one caller: what a set of one pass answers is what a plain set answers.
use Rattle.std.specs.Prelude.{◌≡◌, ◌⊎◌, ℕ, ◌<◌, Bool, true, false}
use Rattle.lz_slot.specs.{declared.{command.Command.{Command, TheVariants.{Add}}, format.Format.{Format}}, Sets.{Keys, Same, key_of, after, reply, HasMembers}}
use Rattle.lz_list.specs.Traces.{Trace, member}
use Rattle.lz_machine.specs.{declared.event.Reply.{Reply, TheVariants.{Yes, No, Full, Worn, OldFile, Halted, Device}}, Table.{is_old}}
use Rattle.lz_board.specs.declared.view.Part.{Part}
use Rattle.lz_refinement.specs.Answers.{Answers}

-- the keys that are members after a trace
abbrev pub keys_in : Trace → Keys
keys_in P = λ k. member k P

-- the set has fewer than N members
abbrev pub HasRoom : ℕ → Keys → Type 0
HasRoom N S = (n : ℕ) × HasMembers S n × (n < N)

-- the reply says that the file is too old for the key
abbrev pub tells_old : Reply → Bool
tells_old OldFile = true
tells_old _ = false

-- What is told of the plain set S, on a file of N slots, and the set T that is left. Yes and no are the plain set's replies; an
-- adding that is told yes had room. Full: the key is no member, and the set has N members. The last two leave open whether the
-- command was done.
abbrev pub PlainRow : ℕ → Command → Reply → Keys → Keys → Type 0
PlainRow N (Add k) Yes S T = (reply (Add k) (S k) ≡ true) × HasRoom N S × Same T (after (Add k) S)
PlainRow N c Yes S T = (reply c (S (key_of c)) ≡ true) × Same T (after c S)
PlainRow N c No S T = (reply c (S (key_of c)) ≡ false) × Same T (after c S)
PlainRow N (Add k) (Full counts) S T = (S k ≡ false) × HasMembers S N × Same T S
PlainRow N c (Full counts) S T = ⊥
PlainRow N c Worn S T = Same T S
PlainRow N c OldFile S T = Same T S
PlainRow N c Halted S T = Same T S ⊎ Same T (after c S)
PlainRow N c Device S T = Same T S ⊎ Same T (after c S)

-- The answer of the plain set S of a file of format F with N slots, which leaves T. It tells of an old file exactly where an
-- adding is of a key that the format can't hold.
pub record IsPlainAnswer (F : Format) (N : ℕ) (c : Command) (told : Reply) (S T : Keys) : Type 0 where
  pub old : tells_old told ≡ is_old F c
  pub row : PlainRow N c told S T

-- In a set of one pass each answer is that of the plain set: of the members that the pass had seen, and those that it has seen.
abbrev pub OneCallerIsPlain : Type 0
OneCallerIsPlain =
    (F : Format) (c : Command) (told : Reply) (before after : Part)
    → Answers F c told before after → before.sizes.passes ≡ 1 → IsPlainAnswer F before.sizes.slots c told (keys_in before.known) (keys_in after.known)
