-- A pass of whose sessions one halted: it has seen that the set was halted.
use Rattle.lz_slot.specs.declared.command.Command.TheVariants as command
use Rattle.lz_machine.specs.declared.event.Reply.TheVariants as given
use Rattle.lz_proto.specs.declared.end.End.TheVariants as ends
use Rattle.lz_set.specs.declared.fault.Fault.TheVariants as fault
use Rattle.std.proofs.Common.{◌≡◌, Bool, true, false, List, [], ◌∷◌, Option, ℕ, Result, Ok, Err, ◌∙◌}
use Rattle.lz_slot.specs.declared.{command.Command.{Command}, format.Format.{Format}}
use Rattle.lz_list.specs.Traces.{halt_word}
use Rattle.lz_proto.specs.declared.{request.Request.TheVariants.{Quit}, reply.Reply.{Reply, TheVariants.{Halted}}, item.Item.{Item, TheVariants.{Asks, Faulty}}}
use Rattle.lz_proto.specs.{declared.{fault.SessionFault.{SessionFault}, end.End.{End}}, Sessions.{Serves, SessionTells, end_of}}
use Rattle.lz_board.specs.{declared.{pass.Pass.{Pass}, view.Part.{Part}}, Seats.{BoardId, part}}
use Rattle.lz_set.specs.{declared.fault.Fault.{Fault}, Answers.{reply_of}}
use Rattle.lz_serve.specs.Replies.{SeatAnswers, client_reply}
use Rattle.lz_refinement.specs.Answers.{Answers}

-- a call that was cut off has seen it
halted_word : (F : Format) (c : Command) (before after : Part) → Answers F c given.Halted before after → halt_word after.known ≡ 1
halted_word F (command.Add k) before after answers = answers.promises.halted
halted_word F (command.Remove k) before after answers = answers.promises.halted
halted_word F (command.Has k) before after answers = answers.promises.halted

device_word : (F : Format) (c : Command) (before after : Part) → Answers F c given.Device before after → halt_word after.known ≡ 1
device_word F (command.Add k) before after answers = answers.promises.halted
device_word F (command.Remove k) before after answers = answers.promises.halted
device_word F (command.Has k) before after answers = answers.promises.halted

-- so has one of which a client is told that the service halted
pub answer_word : (F : Format) (c : Command) (answer : Result Bool Fault) (before after : Part) → Halted ≡ client_reply answer → Answers F c (reply_of answer) before after → halt_word after.known ≡ 1
answer_word F c (Ok true) before after told answers = absurd (cc)
answer_word F c (Ok false) before after told answers = absurd (cc)
answer_word F c (Err (fault.Full counts)) before after told answers = absurd (cc)
answer_word F c (Err fault.Worn) before after told answers = absurd (cc)
answer_word F c (Err fault.OldFile) before after told answers = absurd (cc)
answer_word F c (Err fault.Halted) before after told answers = halted_word F c before after answers
answer_word F c (Err fault.Device) before after told answers = device_word F c before after answers

module _ (b : BoardId) (F : Format) where
  items_halt : (items : List Item) (replies : List Reply) (old new : Pass) → Serves (SeatAnswers b F false) old items replies new → end_of items replies ≡ ends.Halted → halt_word (part new).known ≡ 1
  items_halt [] [] old new served halts = absurd (cc)
  items_halt [] (reply ∷ replies) old new served halts = absurd served
  items_halt (Faulty bad ∷ items) replies old new served halts = items_halt items replies old new served halts
  items_halt (Asks Quit ∷ items) [] old new served halts = absurd (cc)
  items_halt (Asks Quit ∷ items) (reply ∷ replies) old new served halts = absurd served
  items_halt (Asks request ∷ items) [] old new served halts = absurd served
  items_halt (Asks request ∷ items) (Halted ∷ replies) old new served halts = answer_word F served.0.c served.0.answer (part served.0.middle) (part new) served.0.told served.0.last.call
  items_halt (Asks request ∷ items) (reply ∷ replies) old new served halts = items_halt items replies served.0 new served.2 halts

  -- so has the pass at the end of a session that halted
  pub session_halts : (r : Result End SessionFault) (input after : Option (List ℕ)) (old new : Pass) (written : List ℕ) → SessionTells (SeatAnswers b F false) input after old new written r
      → r ≡ Ok ends.Halted → halt_word (part new).known ≡ 1
  session_halts (Ok ended) input after old new written tells is =
      let told = tells.answered in
      let halted : ended ≡ ends.Halted = cc in
      items_halt tells.items told.replies old new told.served (told.ends ∙ halted)
  session_halts (Err wrong) input after old new written tells is = absurd (cc)
