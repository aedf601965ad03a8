-- An answer of a set of one pass is told as the plain set's.
use Rattle.lz_slot.specs.declared.command.Command.TheVariants as command
use Rattle.lz_machine.specs.declared.event.Reply.TheVariants as given
use Rattle.lz_set.specs.declared.fault.Fault.TheVariants as fault
use Rattle.std.proofs.Common.{◌≡◌, inl, inr, ⊎_elim, ℕ, Bool, true, false, Some, Result, Ok, Err, refl, sym, subst, arith}
use Rattle.lz_slot.specs.{Sets.{Keys, Same, after, HasMembers}, declared.{command.Command.{Command}, format.Format.{Format}}}
use Rattle.lz_machine.specs.declared.event.Reply.{Reply as Given}
use Rattle.lz_proto.specs.declared.{request.Request.{Request, TheVariants.{Add, Remove, Has, Quit}}, reply.Reply.{Reply}}
use Rattle.lz_proto.specs.declared.reply.Reply.TheVariants.{Yes, No, Full, Halted, Worn, OldFile}
use Rattle.lz_set.specs.{declared.fault.Fault.{Fault}, Answers.{reply_of}}
use Rattle.lz_serve.specs.Replies.{command_of, client_reply}
use Rattle.lz_refinement.specs.{OneCaller.{HasRoom, IsPlainAnswer}, Sessions.{cuts_off}}
use Rattle.lazyset_file_commands.proofs.CountRows.{no_larger}
use Rattle.lazyset_set_commands.specs.PlainReplies.{PassAnswers, PassMayAnswer}

-- the reply that tells an answer of the machine
abbrev pub shown : Given → Reply
shown given.Yes = Yes
shown given.No = No
shown (given.Full counts) = Full
shown given.Worn = Worn
shown given.OldFile = OldFile
shown given.Halted = Halted
shown given.Device = Halted

-- it is the one that a pass's service gives
pub shown_of : (answer : Result Bool Fault) → client_reply answer ≡ shown (reply_of answer)
shown_of (Ok true) = refl
shown_of (Ok false) = refl
shown_of (Err (fault.Full counts)) = refl
shown_of (Err fault.Worn) = refl
shown_of (Err fault.OldFile) = refl
shown_of (Err fault.Halted) = refl
shown_of (Err fault.Device) = refl

-- sets with the same keys are one
pub same_is : (S T : Keys) → Same S T → S ≡ T
same_is S T same = λ i. λ k. same k i

-- one with room has fewer members than slots
room : (N : ℕ) (S : Keys) → HasRoom N S → HasMembers S N → ⊥
room N S (n, some, few) all = let le = no_larger S N n all some in omega (arith, le, few)

module _ (F : Format) (N : ℕ) (S T : Keys) where
  add_row : (k : ℕ) (r : Given) → IsPlainAnswer F N (command.Add k) r S T → PassMayAnswer F N S (Add k) (shown r) T
  add_row k given.Yes a = ((a.row.0, room N S a.row.1, sym a.old), same_is T _ a.row.2)
  add_row k given.No a = ((a.row.0, sym a.old), same_is T _ a.row.1)
  add_row k (given.Full counts) a = ((a.row.0, a.row.1, sym a.old), same_is T S a.row.2)
  add_row k given.Worn a = same_is T S a.row
  add_row k given.OldFile a = (sym a.old, same_is T S a.row)
  add_row k given.Halted a = ⊎_elim (λ same. inl (same_is T S same)) (λ same. inr (same_is T (after (command.Add k) S) same)) a.row
  add_row k given.Device a = ⊎_elim (λ same. inl (same_is T S same)) (λ same. inr (same_is T (after (command.Add k) S) same)) a.row

  remove_row : (k : ℕ) (r : Given) → IsPlainAnswer F N (command.Remove k) r S T → PassMayAnswer F N S (Remove k) (shown r) T
  remove_row k given.Yes a = ((a.row.0, tt, sym a.old), same_is T _ a.row.1)
  remove_row k given.No a = ((a.row.0, sym a.old), same_is T _ a.row.1)
  remove_row k (given.Full counts) a = absurd a.row
  remove_row k given.Worn a = same_is T S a.row
  remove_row k given.OldFile a = (sym a.old, same_is T S a.row)
  remove_row k given.Halted a = ⊎_elim (λ same. inl (same_is T S same)) (λ same. inr (same_is T (after (command.Remove k) S) same)) a.row
  remove_row k given.Device a = ⊎_elim (λ same. inl (same_is T S same)) (λ same. inr (same_is T (after (command.Remove k) S) same)) a.row

  has_row : (k : ℕ) (r : Given) → IsPlainAnswer F N (command.Has k) r S T → PassMayAnswer F N S (Has k) (shown r) T
  has_row k given.Yes a = ((a.row.0, tt, sym a.old), same_is T _ a.row.1)
  has_row k given.No a = ((a.row.0, sym a.old), same_is T _ a.row.1)
  has_row k (given.Full counts) a = absurd a.row
  has_row k given.Worn a = same_is T S a.row
  has_row k given.OldFile a = (sym a.old, same_is T S a.row)
  has_row k given.Halted a = ⊎_elim (λ same. same_is T S same) (λ same. same_is T S same) a.row
  has_row k given.Device a = ⊎_elim (λ same. same_is T S same) (λ same. same_is T S same) a.row

  -- the answer of a call is told as one of a set that may halt
  pub told_row : (request : Request) (c : Command) (r : Given) → command_of request ≡ Some c → IsPlainAnswer F N c r S T → PassMayAnswer F N S request (shown r) T
  told_row (Add k) c r asked a = add_row k r (let same : c ≡ command.Add k = cc in subst (λ (d : Command). IsPlainAnswer F N d r S T) same a)
  told_row (Remove k) c r asked a = remove_row k r (let same : c ≡ command.Remove k = cc in subst (λ (d : Command). IsPlainAnswer F N d r S T) same a)
  told_row (Has k) c r asked a = has_row k r (let same : c ≡ command.Has k = cc in subst (λ (d : Command). IsPlainAnswer F N d r S T) same a)
  told_row Quit c r asked a = absurd (let never = asked in cc)

  -- and where it isn't cut off, as the plain set's
  pub passed : (request : Request) (r : Given) → cuts_off r ≡ false → PassMayAnswer F N S request (shown r) T → PassAnswers F N S request (shown r) T
  passed Quit r whole may = absurd may
  passed request given.Halted whole may = absurd (let never : true ≡ false = whole in cc)
  passed request given.Device whole may = absurd (let never : true ≡ false = whole in cc)
  passed (Add k) r whole may = may
  passed (Remove k) r whole may = may
  passed (Has k) r whole may = may
