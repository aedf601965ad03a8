-- Worked transactions.
use Rattle.std.proofs.Common.{◌≡◌, ◌≢◌, [], ◌∷◌, None, true, false, refl, ap, codes}
use Rattle.lz_proto.specs.declared.request.Request.TheVariants.{Add}
use Rattle.lz_resp.specs.{Commands.{exec_alone, no_transactions, ok_text, reset_text}, Keys.{at_first}, Transactions.{item_in, state_after}}
use Rattle.lz_resp.specs.declared.{state.State.{State}, form.Form.TheVariants.{Added}, naming.Naming.TheVariants.{Rooms, Texts}}
use Rattle.lz_resp.specs.declared.{naming.Selected.TheVariants.{Room, Nameless}, item.Item.TheVariants.{Asks, Says, Ends}}

abbrev pub free : State
free = record { selected = Room 3; refuses = false }

abbrev pub within : State
within = record { selected = Room 3; refuses = true }

-- what is told at first, and that nothing is refused then
at_start : (at_first Rooms ≡ record { selected = Room 0; refuses = false }) × (at_first (Texts None) ≡ record { selected = Nameless None; refuses = false })
at_start = (refl, refl)

begun :
    (item_in free (codes "MULTI" ∷ []) ≡ Says (codes "-ERR transactions aren't served; nothing is done until EXEC or DISCARD\r\n")) × (state_after free (codes "multi" ∷ []) ≡ within)
    × (item_in free (codes "MULTI" ∷ codes "x" ∷ []) ≡ Says (codes "-ERR wrong number of arguments for 'multi' command\r\n")) × (state_after free (codes "MULTI" ∷ codes "x" ∷ []) ≡ free)
begun = (refl, refl, refl, refl)

-- nothing is asked and nothing selected, and what is no command is told the same
refused :
    (item_in within (codes "SADD" ∷ codes "3" ∷ codes "17" ∷ []) ≡ Says no_transactions) × (state_after within (codes "SADD" ∷ codes "3" ∷ codes "17" ∷ []) ≡ within)
    × (item_in within (codes "SELECT" ∷ codes "5" ∷ []) ≡ Says no_transactions) × (state_after within (codes "SELECT" ∷ codes "5" ∷ []) ≡ within)
    × (item_in within (codes "SHUTDOWN" ∷ []) ≡ Says no_transactions) × (item_in within (codes "MULTI" ∷ []) ≡ Says no_transactions) × (state_after within (codes "MULTI" ∷ []) ≡ within)
    × (item_in within (codes "NOSUCH" ∷ []) ≡ Says no_transactions) × (item_in within (codes "EXEC" ∷ codes "x" ∷ []) ≡ Says no_transactions) × (state_after within (codes "EXEC" ∷ codes "x" ∷ []) ≡ within)
refused = (refl, refl, refl, refl, refl, refl, refl, refl, refl, refl)

-- after the end all is as before it
ended :
    (item_in within (codes "Exec" ∷ []) ≡ Says (codes "-EXECABORT Transaction discarded because of previous errors.\r\n")) × (state_after within (codes "Exec" ∷ []) ≡ free)
    × (item_in within (codes "DISCARD" ∷ []) ≡ Says ok_text) × (state_after within (codes "DISCARD" ∷ []) ≡ free)
    × (item_in free (codes "SADD" ∷ codes "3" ∷ codes "17" ∷ []) ≡ Asks Added (Add 3000000000000000017 ∷ []))
ended = (refl, refl, refl, refl, refl)

-- RESET leaves a transaction and the room, and QUIT the connection
left :
    (item_in within (codes "RESET" ∷ []) ≡ Says reset_text) × (state_after within (codes "RESET" ∷ []) ≡ record { selected = Room 0; refuses = false })
    × (state_after (record { selected = Nameless None; refuses = true }) (codes "RESET" ∷ []) ≡ record { selected = Nameless None; refuses = false }) × (item_in within (codes "QUIT" ∷ []) ≡ Ends ok_text)
left = (refl, refl, refl, refl)

alone :
    (item_in free (codes "EXEC" ∷ []) ≡ Says (codes "-ERR EXEC without MULTI\r\n")) × (item_in free (codes "DISCARD" ∷ []) ≡ Says (codes "-ERR DISCARD without MULTI\r\n"))
    × (state_after free (codes "EXEC" ∷ []) ≡ free) × (state_after free (codes "DISCARD" ∷ []) ≡ free)
    × (item_in free (codes "WATCH" ∷ codes "17" ∷ []) ≡ Says (codes "-ERR unknown command 'WATCH', with args beginning with: '17' \r\n"))
alone = (refl, refl, refl, refl, refl)

-- What must not hold.

-- what is asked in a transaction, a room that is selected there, an EXEC that ends none, and one that goes on
not_refused :
    (item_in within (codes "SADD" ∷ codes "3" ∷ codes "17" ∷ []) ≢ Asks Added (Add 3000000000000000017 ∷ [])) × (state_after within (codes "SELECT" ∷ codes "5" ∷ []) ≢ record { selected = Room 5; refuses = true })
    × (item_in within (codes "EXEC" ∷ []) ≢ Says exec_alone) × (state_after within (codes "EXEC" ∷ []) ≢ within)
not_refused = (
  λ e. cc,
  λ e. let so : Room 3 ≡ Room 5 = ap (λ (s : State). s.selected) e in cc,
  λ e. cc,
  λ e. let so : false ≡ true = ap (λ (s : State). s.refuses) e in cc,
)
