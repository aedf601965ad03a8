-- A call that was answered is the newest that its pass's own steps tell, with its reply.
use Rattle.std.proofs.{Common.{arith, ◌≡◌, ℕ, List, [], ◌∷◌, ◌++◌, refl, ap, ◌∙◌, append_assoc, Option, Some, None}, lemmas.Bool.Decides.{nat_tests}}
use Rattle.lz_refinement.proofs.Vocabulary.{Command, Format, Progress, Event, Outcome, Reply, progress_after, reply_at, Shape, Note, Part, note_by, unless_replied}
use Rattle.lz_refinement.{proofs.{Vocabulary.{place, placed, shape_of_sizes}, Replies.CallSteps.{place_since}}, specs.Answers.{AreWithin, IsOneCall, Answers}}
use Rattle.lz_refinement.specs.{Marks.{reply_in}, OwnCalls.{told}}
use Rattle.lz_board.specs.declared.view.What.TheVariants.{Called, Played}

-- a call that goes on after a step had no reply before it
unreplied : (shape : Shape) (e : Event) (o : Outcome) (at : Option (Command × Progress)) (call : Command × Progress) → placed shape (Played e o) at ≡ Some call → (reply_in at ≡ None) × ((was : Command × Progress) × (at ≡ Some was))
unreplied shape e o None call is = absurd cc
unreplied shape e o (Some was) call is = (go (reply_at was.1) is, (was, refl))
  where
    go : (r : Option Reply) → unless_replied r was.0 (progress_after shape was.0 was.1 o) ≡ Some call → r ≡ None
    go None is = refl
    go (Some reply) is = absurd cc

module _ (shape : Shape) (p : ℕ) (format : Format) (c : Command) (rest : List Note) where
  abbrev since : List Note → List Note
  since within = within ++ note_by p (Called c format) None ∷ rest

  -- steps within a call leave it as it was made
  going : (within : List Note) → AreWithin within → (call : Command × Progress) → place shape (since within) ≡ Some call → told shape (since within) ≡ (c, None) ∷ told shape rest
  going [] only call at = refl
  going (n ∷ within) only call at = grind (arith, nat_tests, going within only.1, placed, place, unreplied)

  -- and its Answer gives it its reply
  pub told_call : (reply : Reply) (new : List Note) → IsOneCall shape p format c reply new → told shape (new ++ rest) ≡ (c, Some reply) ∷ told shape rest
  told_call reply new one = grind (arith, nat_tests, place, place_since, note_by, append_assoc, going)

pub answers_told : (F : Format) (c : Command) (reply : Reply) (before after : Part) → Answers F c reply before after
    → told (shape_of_sizes before.sizes) after.steps ≡ (c, Some reply) ∷ told (shape_of_sizes before.sizes) before.steps
answers_told F c reply before after a =
    ap (told (shape_of_sizes before.sizes)) a.steps ∙ told_call (shape_of_sizes before.sizes) before.number F c before.steps reply a.new a.one_call
