-- The lines of the members, and of an actor that found a lock taken: they say nothing of the history.
use Rattle.std.proofs.Common.{ℕ, ◌≤◌, List, [], ◌∷◌, ◌++◌, codes, decimal, arith, refl}
use Rattle.lz_slot.specs.{Limits.{most_actors}, MarkTexts.{keys_text}}
use Rattle.lz_judge.{specs.{declared.line.Line.TheVariants.{Other}, MarkLines.{AscendFrom}}, proofs.Texts.LineWord.{IsWritten, plain}}
use Rattle.lz_judge.proofs.Texts.MarkLine.{keys_written, number_field}

pub show_silent : (ks : List ℕ) → AscendFrom 0 ks → IsWritten (codes "show" ++ keys_text ks) Other
show_silent ks ascend = keys_written (codes "show") ks (λ (keys : List ℕ). Other) (plain (codes "show") refl refl) ascend refl

pub busy_silent : (a : ℕ) → 1 ≤ a → a ≤ most_actors → IsWritten (codes "busy " ++ decimal a) Other
busy_silent a some few =
    let actor = number_field 1 most_actors a (omega arith) some few in
    record { kind = codes "busy"; words = decimal a ∷ []; joined = refl; are = (plain (codes "busy") refl refl, (actor.is, tt)); reads = rw (actor.reads) refl }
