-- Worked rows of what the reply of a seat means, most of which must not hold.
use Rattle.lz_slot.specs.declared.command.Command.TheVariants as command
use Rattle.lz_machine.specs.declared.event.Reply.TheVariants as given
use Rattle.lz_set.specs.declared.fault.Fault.TheVariants as fault
use Rattle.std.proofs.Common.{◌≡◌, ◌==◌, ℕ, Bool, true, false, not, if◌then◌else◌, None, Some, Result, Ok, Err, refl, sym, ap, ◌∙◌, subst}
use mathlib.Core.Bool.{true≢false}
use Rattle.lz_slot.specs.declared.{command.Command.{Command}, format.Format.{Format}}
use Rattle.lz_machine.specs.declared.event.Reply.{Reply as Given}
use Rattle.lz_proto.specs.declared.{request.Request.TheVariants.{Add, Has}, reply.Reply.{Reply, TheVariants.{Yes, Full, Halted}}}
use Rattle.lz_board.specs.{declared.{pass.Pass.{Pass}, view.Part.{Part}}, Seats.{BoardId, part}}
use Rattle.lz_set.specs.{declared.fault.Fault.{Fault}, Answers.{reply_of}}
use Rattle.lz_refinement.specs.{Answers.{Answers}, OneCaller.{IsPlainAnswer, keys_in}}
use Rattle.lz_serve.specs.Replies.{AreAskedAgain, IsAskedAgain, SeatAnswers, asks_again, client_reply, told_of}
use Rattle.lz_serve.proofs.Seats.{alone_once, only_call, told_at_last, told_full}

yes_given : (answer : Result Bool Fault) → Yes ≡ client_reply answer → reply_of answer ≡ given.Yes
yes_given (Ok true) told = refl
yes_given (Ok false) told = absurd (cc)
yes_given (Err (fault.Full counts)) told = absurd (cc)
yes_given (Err fault.Worn) told = absurd (cc)
yes_given (Err fault.OldFile) told = absurd (cc)
yes_given (Err fault.Halted) told = absurd (cc)
yes_given (Err fault.Device) told = absurd (cc)

-- a lookup is never told as full
pub never_full : (F : Format) (before after : Part) (answer : Result Bool Fault) → client_reply answer ≡ Full → Answers F (command.Has 7) (reply_of answer) before after → ⊥
never_full F before after (Ok true) full answers = absurd (cc)
never_full F before after (Ok false) full answers = absurd (cc)
never_full F before after (Err (fault.Full counts)) full answers = answers.promises
never_full F before after (Err fault.Worn) full answers = absurd (cc)
never_full F before after (Err fault.OldFile) full answers = absurd (cc)
never_full F before after (Err fault.Halted) full answers = absurd (cc)
never_full F before after (Err fault.Device) full answers = absurd (cc)

module _ (b : BoardId) (F : Format) (earlier : Bool) (old new : Pass) where
  -- in a set of one pass no key is told as a member that is none
  not_a_member : b.sizes.passes ≡ 1 → keys_in (part old).known 7 ≡ false → SeatAnswers b F earlier old (Has 7) Yes new → ⊥
  not_a_member one none s =
      let plain = (only_call b F earlier old new (Has 7) Yes s one).plain one in
      let has : s.c ≡ command.Has 7 = let asked = s.asked in cc in
      let told = subst (λ (r : Given). IsPlainAnswer F b.sizes.slots s.c r (keys_in (part old).known) (keys_in (part new).known)) (yes_given s.answer s.told) plain in
      let is = subst (λ (c : Command). IsPlainAnswer F b.sizes.slots c given.Yes (keys_in (part old).known) (keys_in (part new).known)) has told in
      true≢false (sym is.row.0 ∙ none)

  -- the call is for the command that was asked, and no other
  other_command : (reply : Reply) (s : SeatAnswers b F earlier old (Has 7) reply new) → s.c ≡ command.Remove 7 → ⊥
  other_command reply s other = let asked = s.asked in absurd (cc)

  -- with two passes `full` isn't told at once while three slots wait
  full_while_slots_wait : b.sizes.passes ≡ 2 → (s : SeatAnswers b F earlier old (Add 8) Full new) → s.tries ≡ 0 → s.answer ≡ Err (fault.Full (record { free = 0; taken = 5; limbo = 3 })) → ⊥
  full_while_slots_wait two s none full =
      let final = subst (λ (a : Result Bool Fault). asks_again b 0 false a ≡ false) full (subst (λ (n : ℕ). asks_again b n false s.answer ≡ false) none s.final) in
      true≢false (sym (ap (λ (n : ℕ). not (n == 1)) two) ∙ final)

  -- a second call isn't made after `yes`
  again_after_yes : (s : IsAskedAgain b F earlier (command.Add 8) 0 old new) → s.answer ≡ Ok true → ⊥
  again_after_yes s is = true≢false (subst (λ (a : Result Bool Fault). true ≡ asks_again b 0 earlier a) is (sym s.again))

  -- nor is one in a set of one pass
  alone_twice : b.sizes.passes ≡ 1 → IsAskedAgain b F earlier (command.Add 8) 0 old new → ⊥
  alone_twice one s = alone_once b 0 earlier s.answer one s.again

  -- nor is a lookup made twice
  has_twice : IsAskedAgain b F earlier (command.Has 7) 0 old new → ⊥
  has_twice s = never_full F (part old) (part new) s.answer (told_full b 0 earlier s.answer s.again) s.answered.call

  -- nor is one while no slot waits, where each earlier line was answered
  again_where_no_slot_waits : (s : IsAskedAgain b F false (command.Add 8) 0 old new) → s.answer ≡ Err (fault.Full (record { free = 0; taken = 8; limbo = 0 })) → ⊥
  again_where_no_slot_waits s is = true≢false (subst (λ (a : Result Bool Fault). true ≡ asks_again b 0 false a) is (sym s.again))

  -- nor are more than a thousand made after the first
  many_more : AreAskedAgain b F earlier (command.Add 8) 1_001 old new → ⊥
  many_more (middle, before, last) = true≢false (sym last.again ∙ told_at_last b earlier last.answer)

-- with three passes one more call is made while a slot waits, up to the last, and none where all slots have members
module _ (b : BoardId) (three : b.sizes.passes ≡ 3) where
  asked_while_one_waits : asks_again b 999 false (Err (fault.Full (record { free = 0; taken = 7; limbo = 1 }))) ≡ true
  asked_while_one_waits = ap (λ (n : ℕ). not (n == 1)) three

  told_at_last_while_one_waits : asks_again b 1_000 true (Err (fault.Full (record { free = 0; taken = 7; limbo = 1 }))) ≡ false
  told_at_last_while_one_waits = refl

  told_of_members : asks_again b 0 false (Err (fault.Full (record { free = 0; taken = 8; limbo = 0 }))) ≡ false
  told_of_members = refl

  asked_beside_a_removal : asks_again b 0 true (Err (fault.Full (record { free = 0; taken = 8; limbo = 0 }))) ≡ true
  asked_beside_a_removal = ap (λ (n : ℕ). not (n == 1)) three

-- where nothing is told one more call is made
pub silent_again : (again : Bool) (reply : Reply) → None ≡ (if again then None else Some reply) → again ≡ true
silent_again true reply silent = refl
silent_again false reply silent = absurd (cc)

-- an answer is told as its reply, the device's failure as the halt, and the last `full` while a slot waits
module _ (b : BoardId) where
  yes_is_told : told_of b 0 true (Ok true) ≡ Some Yes
  yes_is_told = refl

  device_is_told : told_of b 0 true (Err fault.Device) ≡ Some Halted
  device_is_told = refl

  last_is_told : told_of b 1_000 true (Err (fault.Full (record { free = 0; taken = 7; limbo = 1 }))) ≡ Some Full
  last_is_told = refl

  -- in a set of one pass nothing is kept back
  pub silent_alone : (tries : ℕ) (earlier : Bool) (answer : Result Bool Fault) → b.sizes.passes ≡ 1 → None ≡ told_of b tries earlier answer → ⊥
  silent_alone tries earlier answer one silent = alone_once b tries earlier answer one (silent_again (asks_again b tries earlier answer) (client_reply answer) silent)

  -- nor after a thousand calls
  pub silent_at_last : (earlier : Bool) (answer : Result Bool Fault) → None ≡ told_of b 1_000 earlier answer → ⊥
  silent_at_last earlier answer silent = true≢false (sym (silent_again (asks_again b 1_000 earlier answer) (client_reply answer) silent) ∙ told_at_last b earlier answer)

  module _ (three : b.sizes.passes ≡ 3) where
    -- nothing is told of three passes' `full` while a slot waits, or beside an earlier line, and else it is
    pub silent_while_one_waits : told_of b 0 false (Err (fault.Full (record { free = 0; taken = 7; limbo = 1 }))) ≡ None
    silent_while_one_waits = ap (λ (n : ℕ). if not (n == 1) then None else Some Full) three

    pub silent_beside_a_removal : told_of b 0 true (Err (fault.Full (record { free = 0; taken = 8; limbo = 0 }))) ≡ None
    silent_beside_a_removal = ap (λ (n : ℕ). if not (n == 1) then None else Some Full) three

    members_are_told : told_of b 0 false (Err (fault.Full (record { free = 0; taken = 8; limbo = 0 }))) ≡ Some Full
    members_are_told = refl

    -- so it isn't told at once
    full_at_once : told_of b 0 false (Err (fault.Full (record { free = 0; taken = 7; limbo = 1 }))) ≡ Some Full → ⊥
    full_at_once told = let silent = silent_while_one_waits in absurd (cc)
