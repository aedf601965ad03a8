-- What the plain set replies to a request.
use Rattle.lz_slot.specs.declared.command.Command.TheVariants as command
use Rattle.std.specs.Prelude.{◌≡◌, ◌⊎◌, ℕ, true, false}
use Rattle.lz_slot.specs.{Sets.{Keys, key_of, after, reply, HasMembers}, declared.{command.Command.{Command}, format.Format.{Format}}}
use Rattle.lz_machine.specs.Table.{is_old}
use Rattle.lz_proto.specs.declared.{request.Request.{Request, TheVariants.{Add, Remove, Has, Quit}}, reply.Reply.{Reply}}
use Rattle.lz_proto.specs.declared.reply.Reply.TheVariants.{Yes, No, Full, Halted, Worn, OldFile}

-- a command that would make a new member finds the set with fewer than N
abbrev pub HasRoomToAdd : Command → Keys → ℕ → Type 0
HasRoomToAdd (command.Add k) S N = HasMembers S N → ⊥
HasRoomToAdd (command.Remove k) S N = Unit {0}
HasRoomToAdd (command.Has k) S N = Unit {0}

-- The reply is that of the plain set S of a file of a format with N slots: `oldfile` exactly to an adding of a key that the
-- format can't hold, and `full` exactly to an adding of another new key to N members.
abbrev pub IsPlainReply : Format → Command → Reply → Keys → ℕ → Type 0
IsPlainReply F command Yes S N = (reply command (S (key_of command)) ≡ true) × HasRoomToAdd command S N × (is_old F command ≡ false)
IsPlainReply F command No S N = (reply command (S (key_of command)) ≡ false) × (is_old F command ≡ false)
IsPlainReply F command OldFile S N = is_old F command ≡ true
IsPlainReply F (command.Add k) Full S N = (S k ≡ false) × HasMembers S N × (is_old F (command.Add k) ≡ false)
IsPlainReply F (command.Remove k) Full S N = ⊥
IsPlainReply F (command.Has k) Full S N = ⊥
IsPlainReply F command Halted S N = ⊥
IsPlainReply F command Worn S N = ⊥

-- the set after a reply
abbrev pub set_after_reply : Command → Reply → Keys → Keys
set_after_reply command Full S = S
set_after_reply command OldFile S = S
set_after_reply command reply S = after command S

-- What the plain set replies over a file of a format with N slots. No session asks it `quit`.
abbrev pub SetAnswers : Format → ℕ → Keys → Request → Reply → Keys → Type 0
SetAnswers F N S (Add k) reply T = IsPlainReply F (command.Add k) reply S N × (T ≡ set_after_reply (command.Add k) reply S)
SetAnswers F N S (Remove k) reply T = IsPlainReply F (command.Remove k) reply S N × (T ≡ set_after_reply (command.Remove k) reply S)
SetAnswers F N S (Has k) reply T = IsPlainReply F (command.Has k) reply S N × (T ≡ set_after_reply (command.Has k) reply S)
SetAnswers F N S Quit reply T = ⊥

-- What the plain set replies where a pass serves it: one that is worn out replies `worn`, and the set stays.
abbrev pub PassAnswers : Format → ℕ → Keys → Request → Reply → Keys → Type 0
PassAnswers F N S (Add k) Worn T = T ≡ S
PassAnswers F N S (Remove k) Worn T = T ≡ S
PassAnswers F N S (Has k) Worn T = T ≡ S
PassAnswers F N S request reply T = SetAnswers F N S request reply T

-- what the plain set replies whose device may fail: `halted` leaves open whether the command was done
abbrev pub MayReply : Format → ℕ → Keys → Request → Reply → Keys → Type 0
MayReply F N S (Add k) Halted T = (T ≡ S) ⊎ (T ≡ after (command.Add k) S)
MayReply F N S (Remove k) Halted T = (T ≡ S) ⊎ (T ≡ after (command.Remove k) S)
MayReply F N S (Has k) Halted T = T ≡ S
MayReply F N S Quit reply T = ⊥
MayReply F N S request reply T = SetAnswers F N S request reply T

-- and where a pass serves it: one that is worn out replies `worn`, and the set stays
abbrev pub PassMayAnswer : Format → ℕ → Keys → Request → Reply → Keys → Type 0
PassMayAnswer F N S (Add k) Worn T = T ≡ S
PassMayAnswer F N S (Remove k) Worn T = T ≡ S
PassMayAnswer F N S (Has k) Worn T = T ≡ S
PassMayAnswer F N S request reply T = MayReply F N S request reply T
