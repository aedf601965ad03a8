-- What comes of frames in a transaction.
use Rattle.std.proofs.Common.{◌≡◌, ℕ, Bool, true, false, length, Option, Some, None, refl, ◌∙◌}
use Rattle.std.specs.Prelude.{if◌then◌else◌}
use Rattle.lz_resp.specs.{Names.{command_of, takes}, Commands.{argument, no_transactions, selected_after}, Transactions.{IsReply, NothingIsDone, after_refused, begins, item_within, refused}}
use Rattle.lz_resp.specs.declared.{command.Command.{Command}, item.Item.TheVariants.{Says}}
use Rattle.lz_resp.specs.declared.command.Command.TheVariants.{Exec, Discard, Reset, Quit}

within : (command : Command) → IsReply (item_within command)
within Exec = tt
within Discard = tt
within Reset = tt
within Quit = tt
within _ = tt

refused_by : (command : Command) (is_taken : Bool) → IsReply (if is_taken then item_within command else Says no_transactions)
refused_by command true = within command
refused_by command false = tt

told : (command : Option Command) (n : ℕ) → IsReply (refused command n)
told None n = tt
told (Some command) n = refused_by command (takes command n)

chosen : {A : Type 0} (b : Bool) (x y : A) → b ≡ true → (if b then x else y) ≡ x
chosen b x y h = rw h refl

pub nothing_is_done : NothingIsDone
nothing_is_done state arguments within_one =
    let command = command_of (argument arguments 0) in (
      rw within_one (told command (length arguments)),
      λ h. chosen state.refuses (after_refused command state arguments) (record { selected = selected_after state.selected arguments; refuses = begins command (length arguments) }) within_one ∙ rw h refl,
    )
