-- Worked rows of what a crash in a run leaves: the first ones of the replies, computed on small cases.
use Rattle.std.proofs.Common.{[], ◌∷◌, refl}
use Rattle.lz_proto.specs.declared.{request.Request.TheVariants.{Has}, reply.Reply.TheVariants.{Yes, No, Worn, Halted}}
use Rattle.lazyset_set_commands.specs.Runs.{AreFirst, Collects}

-- three additions were answered yes: the first two are done, or the third is under way too
first_two : AreFirst (Yes ∷ Yes ∷ []) (Yes ∷ Yes ∷ Yes ∷ [])
first_two = (refl, (refl, tt))

third_under_way : AreFirst (Yes ∷ Yes ∷ Halted ∷ []) (Yes ∷ Yes ∷ Yes ∷ [])
third_under_way = (refl, (refl, tt))

-- the second can't be left out, neither as one that a worn pass refused nor as one that is under way before the third
not_left_out : AreFirst (Yes ∷ Worn ∷ Yes ∷ []) (Yes ∷ Yes ∷ Yes ∷ []) → ⊥
not_left_out h = let second = h.1.0 in absurd cc

not_cut_before : AreFirst (Yes ∷ Halted ∷ Yes ∷ []) (Yes ∷ Yes ∷ Yes ∷ []) → ⊥
not_cut_before h = let second = h.1.0 in absurd cc

-- and none is under way that got no reply
not_after_the_last : AreFirst (Yes ∷ Halted ∷ []) (Yes ∷ []) → ⊥
not_after_the_last h = h.1

-- the replies are collected in their order
collected : Collects (Yes ∷ []) (Has 7) No (Yes ∷ No ∷ [])
collected = refl
