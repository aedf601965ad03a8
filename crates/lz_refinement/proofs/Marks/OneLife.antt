-- What notes show is one life: no stop, crash or open stands in it.
use Rattle.std.proofs.Common.{◌≡◌, ℕ, suc, List, [], ◌∷◌, ◌++◌, refl, ap, Option, Some, None}
use Rattle.lz_slot.specs.declared.history.HistoryEvent.TheVariants.{Call}
use Rattle.lz_refinement.proofs.Vocabulary.{History, Life, lives, with_mark, Keys, Reply, mark_of, mark_of_turn, Shape, What, Note, place, steps_of}
use Rattle.lz_refinement.specs.Marks.{calls_in, last_call_number, reply_in, marks_with, marks_in}
use Rattle.lz_machine.specs.declared.event.Reply.TheVariants.{Yes}
use Rattle.lz_board.specs.declared.view.What.TheVariants.{Called, Played, Found}

abbrev only_life : Keys → History → List Life
only_life S M = record { start = S; history = M } ∷ []

module _ (S : Keys) (M : History) (same : lives S M ≡ only_life S M) where
  -- a reply is a mark of the life that goes on
  of_reply : (i : ℕ) (reply : Reply) → lives S (mark_of i reply ∷ M) ≡ only_life S (mark_of i reply ∷ M)
  of_reply i Yes = ap (with_mark (mark_of i Yes)) same
  of_reply i x = ap (with_mark (mark_of i x)) same

  of_turn : (i : ℕ) (reply : Option Reply) → lives S (mark_of_turn i reply ++ M) ≡ only_life S (mark_of_turn i reply ++ M)
  of_turn i None = same
  of_turn i (Some reply) = of_reply i reply

  of_note : (shape : Shape) (p : ℕ) (what : What) (ns : List Note) → lives S (marks_with shape p what ns ++ M) ≡ only_life S (marks_with shape p what ns ++ M)
  of_note shape p (Called c format) ns = ap (with_mark (Call (suc (calls_in ns)) p c)) same
  of_note shape p (Played e o) ns = of_turn (last_call_number p ns) (reply_in (place shape (steps_of p ns)))
  of_note shape p (Found q v) ns = same

pub one_life : (shape : Shape) (S : Keys) (ns : List Note) → lives S (marks_in shape ns) ≡ only_life S (marks_in shape ns)
one_life shape S [] = refl
one_life shape S (n ∷ ns) = of_note S (marks_in shape ns) (one_life shape S ns) shape n.by n.what ns
