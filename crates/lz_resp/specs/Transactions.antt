-- What frames come to, by whether they stand in a transaction: after a MULTI, and before what ends it. Nothing is done there.
use Rattle.std.specs.Prelude.{◌≡◌, ℕ, Bool, true, false, ◌&&◌, if◌then◌else◌, List, length, codes, Option, None, Some}
use Rattle.lz_resp.specs.{Names.{command_of, takes}, Commands.{argument, item_of, no_transactions, ok_text, reset_text, selected_after, selected_by}}
use Rattle.lz_resp.specs.declared.{state.State.{State}, item.Item.{Item, TheVariants.{Asks, Says, Lists, Tells, Ends}}}
use Rattle.lz_resp.specs.declared.command.Command.{Command, TheVariants.{Multi, Exec, Discard, Reset, Quit}}

-- what Redis tells of a transaction that has a wrong command
abbrev pub exec_aborted : List ℕ
exec_aborted = codes "-EXECABORT Transaction discarded because of previous errors.\r\n"

-- a frame of so many arguments begins a transaction
abbrev pub begins : Option Command → ℕ → Bool
begins (Some Multi) n = takes Multi n
begins command n = false

-- a command ends one
abbrev pub ends : Command → Bool
ends Exec = true
ends Discard = true
ends Reset = true
ends command = false

-- what a command comes to in one
abbrev pub item_within : Command → Item
item_within Exec = Says exec_aborted
item_within Discard = Says ok_text
item_within Reset = Says reset_text
item_within Quit = Ends ok_text
item_within command = Says no_transactions

-- what a frame of so many arguments comes to in one
abbrev pub refused : Option Command → ℕ → Item
refused None n = Says no_transactions
refused (Some command) n = if takes command n then item_within command else Says no_transactions

-- a frame of so many arguments ends one
abbrev pub ends_by : Option Command → ℕ → Bool
ends_by None n = false
ends_by (Some command) n = takes command n && ends command

-- the state after it: until the end it stays the same
abbrev pub after_refused : Option Command → State → List (List ℕ) → State
after_refused command state arguments =
    if ends_by command (length arguments) then record { selected = selected_by command state.selected arguments; refuses = false } else state

-- what a frame of some arguments comes to in this state
abbrev pub item_in : State → List (List ℕ) → Item
item_in state arguments =
    if state.refuses then refused (command_of (argument arguments 0)) (length arguments) else item_of state.selected arguments

-- the state after a frame
abbrev pub state_after : State → List (List ℕ) → State
state_after state arguments =
    if state.refuses then after_refused (command_of (argument arguments 0)) state arguments
    else record { selected = selected_after state.selected arguments; refuses = begins (command_of (argument arguments 0)) (length arguments) }

-- a reply is told, and nothing is asked
abbrev pub IsReply : Item → Type 0
IsReply (Asks form requests) = ⊥
IsReply (Says text) = Unit {0}
IsReply (Lists scan) = ⊥
IsReply (Tells query) = ⊥
IsReply (Ends text) = Unit {0}

-- In a transaction nothing is asked, and what doesn't end it changes nothing.
abbrev pub NothingIsDone : Type 0
NothingIsDone =
    (state : State) (arguments : List (List ℕ)) → state.refuses ≡ true
    → IsReply (item_in state arguments) × (ends_by (command_of (argument arguments 0)) (length arguments) ≡ false → state_after state arguments ≡ state)
