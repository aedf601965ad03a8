-- Worked rows: whose a change is that was published, and the numbers of a glance's faults.
use Rattle.std.proofs.Common.{◌≡◌, [], ◌∷◌, refl}
use Rattle.lz_list.specs.{declared.publishing.Publishing.TheVariants.{Linked as linked, Marked as marked, Unlinked as unlinked}, Traces.{Trace}}
use Rattle.lz_board.specs.{declared.answer.GlanceFault.TheVariants.{Halted, Worn, BusyPass}, Glances.{glance_fault_number}, Notes.{own}}

-- pass 1 linked key 12 in slot 0, and pass 2 took it out
abbrev published : Trace
published = unlinked 12 0 2 ∷ marked 12 0 2 ∷ linked 12 0 1 ∷ []

own_of_adder : own 1 published ≡ linked 12 0 1 ∷ []
own_of_adder = refl

own_of_remover : own 2 published ≡ unlinked 12 0 2 ∷ marked 12 0 2 ∷ []
own_of_remover = refl

-- an unlinking isn't that of the pass that linked the node
not_of_adder : own 1 published ≡ published → ⊥
not_of_adder is = absurd cc

fault_numbers : (glance_fault_number Halted ≡ 1) × (glance_fault_number Worn ≡ 2) × (glance_fault_number BusyPass ≡ 3)
fault_numbers = (refl, refl, refl)
