-- A text that holds the set after some first ones of the items.
use Rattle.std.proofs.Common.{◌≡◌, ◌≢◌, ℕ, List, [], ◌∷◌, ◌++◌, refl, ap, ◌∙◌, append_assoc}
use Rattle.lz_slot.specs.{Sets.{Keys}, Bytes.{Holds}}
use Rattle.lz_proto.specs.declared.{request.Request.{Request}, reply.Reply.{Reply, TheVariants.{Halted}}, fault.Bad.{Bad}, item.Item.{Item}}
use Rattle.lz_proto.specs.{declared.item.Item.TheVariants.{Asks, Faulty}, Sessions.{Serves}}
use Rattle.lazyset_set_commands.specs.Runs.{AreFirst, FoundAfter}

-- a reply was given before the first ones of the others
pub first_next : (reply : Reply) (replies all : List Reply) → reply ≢ Halted → AreFirst replies all → AreFirst (reply ∷ replies) (reply ∷ all)
first_next Halted replies all goes first = absurd (goes refl)
first_next reply replies all goes first = (refl, first)

module _ (A : Keys → Request → Reply → Keys → Type 0) (N : ℕ) where
  -- nothing was asked yet
  pub found_here : (S : Keys) (items : List Item) (all : List Reply) (t : List ℕ) → Holds t N S → FoundAfter A N S items all t
  found_here S items all t holds = record { done = []; rest = items; first = refl; replies = []; told = tt; found = S; served = refl; held = holds }

  -- more items follow those asked
  pub found_of_more : (S : Keys) (whole items more : List Item) (all : List Reply) (t : List ℕ) → whole ≡ items ++ more → FoundAfter A N S items all t → FoundAfter A N S whole all t
  found_of_more S whole items more all t is found = record {
    done = found.done;
    rest = found.rest ++ more;
    first = is ∙ ap (λ (x : List Item). x ++ more) found.first ∙ append_assoc found.done found.rest more;
    replies = found.replies;
    told = found.told;
    found = found.found;
    served = found.served;
    held = found.held;
  }

  -- a line's fault was told before them
  pub found_past_fault : (S : Keys) (bad : Bad) (items : List Item) (all : List Reply) (t : List ℕ) → FoundAfter A N S items all t → FoundAfter A N S (Faulty bad ∷ items) all t
  found_past_fault S bad items all t found = record {
    done = Faulty bad ∷ found.done;
    rest = found.rest;
    first = ap (λ (x : List Item). Faulty bad ∷ x) found.first;
    replies = found.replies;
    told = found.told;
    found = found.found;
    served = found.served;
    held = found.held;
  }

  -- the first item is under way, done or not, whatever it is answered
  pub found_amid : (S T : Keys) (request : Request) (items : List Item) (reply : Reply) (all : List Reply) (t : List ℕ) → Serves A S (Asks request ∷ []) (Halted ∷ []) T → Holds t N T
      → FoundAfter A N S (Asks request ∷ items) (reply ∷ all) t
  found_amid S T request items reply all t served holds =
      record { done = Asks request ∷ []; rest = items; first = refl; replies = Halted ∷ []; told = tt; found = T; served = served; held = holds }
