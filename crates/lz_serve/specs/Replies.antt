-- What the service of one pass replies.
use Rattle.lz_slot.specs.declared.command.Command.TheVariants as command
use Rattle.lz_proto.specs.declared.reply.Reply.TheVariants as said
use Rattle.std.specs.Prelude.{◌≡◌, ◌==◌, ℕ, zero, suc, nat_lt, Bool, true, false, not, ◌&&◌, ◌||◌, if◌then◌else◌, Result, Ok, Err, Option, Some, None}
use Rattle.lz_slot.specs.declared.{command.Command.{Command}, format.Format.{Format}}
use Rattle.lz_proto.specs.declared.{request.Request.{Request, TheVariants.{Add, Remove, Has, Quit}}, reply.Reply.{Reply}}
use Rattle.lz_set.specs.{declared.fault.Fault.{Fault, TheVariants.{Full, Halted, Worn, Device, OldFile}}, Answers.{reply_of}}
use Rattle.lz_board.specs.{declared.pass.Pass.{Pass}, Seats.{BoardId, part}}
use Rattle.lz_refinement.specs.{Answers.{Answers}, OneCaller.{IsPlainAnswer, keys_in}}

-- the reply that tells what a call answered: of a device that failed, now or before, a client is told that the service halted
abbrev pub client_reply : Result Bool Fault → Reply
client_reply (Ok true) = said.Yes
client_reply (Ok false) = said.No
client_reply (Err (Full counts)) = said.Full
client_reply (Err Worn) = said.Worn
client_reply (Err OldFile) = said.OldFile
client_reply (Err Halted) = said.Halted
client_reply (Err Device) = said.Halted

-- the reply tells a client that the service halted
abbrev pub says_halted : Reply → Bool
says_halted said.Halted = true
says_halted r = false

-- the command that a request asks for; `quit` asks for none
abbrev pub command_of : Request → Option Command
command_of (Add k) = Some (command.Add k)
command_of (Remove k) = Some (command.Remove k)
command_of (Has k) = Some (command.Has k)
command_of Quit = None

-- A call of the pass for this command was answered so: the pass, a part of this board, has what the table of answers promises it.
-- In a set of one pass the answer is the plain set's, over a file of this format.
pub record IsCallAnswered (b : BoardId) (F : Format) (c : Command) (answer : Result Bool Fault) (old new : Pass) : Type 0 where
  pub sized : (part old).sizes ≡ b.sizes
  pub call : Answers F c (reply_of answer) (part old) (part new)
  pub plain : b.sizes.passes ≡ 1 → IsPlainAnswer F b.sizes.slots c (reply_of answer) (keys_in (part old).known) (keys_in (part new).known)

-- how many calls a request has at most after its first one
abbrev pub most_tries : ℕ
most_tries = 1_000

-- Whether one more call is made after one that was answered so, and so many more before it: no slot was free, and slots wait for calls
-- that end, or an earlier line wasn't answered, which may free one. In a set of one pass there is no other call.
abbrev pub asks_again : BoardId → ℕ → Bool → Result Bool Fault → Bool
asks_again b tries earlier (Err (Full counts)) = nat_lt tries most_tries && (not (counts.limbo == 0) || earlier) && not (b.sizes.passes == 1)
asks_again b tries earlier answer = false

-- what its client is told of that answer: nothing where one more call is made, and else its reply
abbrev pub told_of : BoardId → ℕ → Bool → Result Bool Fault → Option Reply
told_of b tries earlier answer = if asks_again b tries earlier answer then None else Some (client_reply answer)

-- A call of the pass for this command, after so many, was answered so that one more is made: where no slot waits, only if an earlier line
-- of its connection wasn't answered when the question was put.
pub record IsAskedAgain (b : BoardId) (F : Format) (earlier : Bool) (c : Command) (tries : ℕ) (old new : Pass) : Type 0 where
  pub answer : Result Bool Fault
  pub answered : IsCallAnswered b F c answer old new
  pub again : asks_again b tries earlier answer ≡ true

-- so many calls were, one after the other
abbrev pub AreAskedAgain : BoardId → Format → Bool → Command → ℕ → Pass → Pass → Type 0
AreAskedAgain b F earlier c zero old new = new ≡ old
AreAskedAgain b F earlier c (suc tries) old new = (middle : Pass) × AreAskedAgain b F earlier c tries old middle × IsAskedAgain b F earlier c tries middle new

-- The reply tells the answer of the pass's last call for what the request asks. One more is made after each answer that says so,
-- and after no other: `full` is told while no slot waits, or at last. `earlier` is whether an earlier line of its connection wasn't answered
-- when the question was put.
pub record SeatAnswers (b : BoardId) (F : Format) (earlier : Bool) (old : Pass) (request : Request) (reply : Reply) (new : Pass) : Type 0 where
  pub c : Command
  pub asked : command_of request ≡ Some c
  pub tries : ℕ
  pub middle : Pass
  pub before : AreAskedAgain b F earlier c tries old middle
  pub answer : Result Bool Fault
  pub last : IsCallAnswered b F c answer middle new
  pub final : asks_again b tries false answer ≡ false
  pub told : reply ≡ client_reply answer
