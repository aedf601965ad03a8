-- An answer tells of an old file exactly where the file can't hold the key of an adding.
use Rattle.std.proofs.Common.{arith, ◌≡◌, ◌⊎◌, inl, inr, ℕ, if◌then◌else◌, Bool, true, List, [], ◌∷◌, ◌++◌, ap, Option, Some, None}
use Rattle.std.{proofs.lemmas.{Bool.Decides.{nat_tests}, Option.{none-some}}, specs.Cmp.{both_ways}}
use mathlib.Core.Bool.{false≢true}
use Rattle.lz_refinement.proofs.Vocabulary.{Command, Format, Trace, Reply, Progress, first_progress, is_old, Shape, What, Note, Part, note_by, place, placed}
use Rattle.lz_refinement.{proofs.Vocabulary.{shape_of_sizes}, specs.{Answers.{Promises, IsWithin, AreWithin, IsOneCall, Answers}, OneCaller.{tells_old}}}
use Rattle.lz_slot.specs.declared.command.Command.TheVariants.{Has}
use Rattle.lz_machine.specs.declared.{event.Reply.TheVariants.{OldFile}, caller.Progress.TheVariants.{Answering}}
use Rattle.lz_board.specs.declared.view.What.TheVariants.{Called, Played}

-- the answer of a call whose file can't hold its key comes first, and no other does
module _ (shape : Shape) (p : ℕ) (F : Format) (c : Command) where
  abbrev called : Note
  called = note_by p (Called c F) None

  -- a call that began with it has its answer, or has ended
  abbrev IsToldAt : Option (Command × Progress) → Type 0
  IsToldAt at = (at ≡ Some (c, Answering OldFile)) ⊎ (at ≡ None)

  told_later : (w : What) (at : Option (Command × Progress)) → IsWithin w → IsToldAt at → IsToldAt (placed shape w at)
  told_later (Played e o) at within (inl is) = inr (ap (placed shape (Played e o)) is)
  told_later (Played e o) at within (inr is) = inr (ap (placed shape (Played e o)) is)
  told_later _ at within h = absurd within

  told_at : (within : List Note) → AreWithin within → is_old F c ≡ true → IsToldAt (place shape (within ++ called ∷ []))
  told_at [] are old = inl (ap (λ (b : Bool). Some (c, if b then Answering OldFile else first_progress)) old)
  told_at (n ∷ within) are old = told_later n.what (place shape (within ++ called ∷ [])) are.0 (told_at within are.1 old)

  old_tells : (told : Reply) (new : List Note) → IsOneCall shape p F c told new → is_old F c ≡ true → tells_old told ≡ true
  old_tells told new one old = grind (arith, nat_tests, none-some, told_at)

-- and it is told of such a key alone
told_is_old : (shape : Shape) (p : ℕ) (F : Format) (c : Command) (told : Reply) (pin : ℕ) (new : List Note) (P Q : Trace) → Promises shape p F c told pin new P Q → tells_old told ≡ true → is_old F c ≡ true
told_is_old shape p F (Has k) OldFile pin new P Q h is = h.0
told_is_old shape p F _ OldFile pin new P Q h is = h.0
told_is_old shape p F c told pin new P Q h is = absurd (false≢true is)

pub old_is_told : (F : Format) (c : Command) (told : Reply) (before after : Part) → Answers F c told before after → tells_old told ≡ is_old F c
old_is_told F c told before after answers =
    let shape = shape_of_sizes before.sizes in
    let p = before.number in
    both_ways (tells_old told) (is_old F c)
    (told_is_old shape p F c told after.pin answers.new before.known after.known answers.promises)
    (old_tells shape p F c told answers.new answers.one_call)
