-- A pass that was handed back to its set as it closed.
use Rattle.std.proofs.{Common.{◌≡◌, All, List, [], ◌∷◌, map, ap, ◌∙◌, subst}, lemmas.List.Elements.{recursion_from_All}}
use Rattle.lz_list.specs.Traces.{Trace}
use Rattle.lz_board.specs.{declared.{pass.Pass.{Pass}, view.{Note.{Note}, Part.{Part}}}, Notes.{Extends, trace_of}, Plays.{knowing}, Seats.{BoardId, part}}
use Rattle.lz_set.specs.Left.{IsWelcome}

-- what is known of the one pass once it has seen all
pub one_welcome : (b : BoardId) (ns : List Note) (done : Pass) (ps qs : List Pass) → ps ≡ done ∷ [] → map (λ p. part p) qs ≡ map (knowing (trace_of b.opened ns)) (map (λ p. part p) ps)
    → All (IsWelcome b ns) (map (λ p. part p) qs) → IsWelcome b ns (knowing (trace_of b.opened ns) (part done))
one_welcome b ns done ps qs alone seen all =
    let is = seen ∙ ap (λ (l : List Pass). map (knowing (trace_of b.opened ns)) (map (λ p. part p) l)) alone in
    (recursion_from_All (IsWelcome b ns) (knowing (trace_of b.opened ns) (part done) ∷ []) (subst (All (IsWelcome b ns)) is all)).0

-- what it had seen is a beginning of this trace
pub one_since : (K : Trace) (done : Pass) (ps : List Pass) → ps ≡ done ∷ [] → All (λ (h : Part). Extends K h.known) (map (λ p. part p) ps) → Extends K (part done).known
one_since K done ps alone all =
    (recursion_from_All (λ (h : Part). Extends K h.known) (part done ∷ []) (subst (λ (l : List Pass). All (λ (h : Part). Extends K h.known) (map (λ p. part p) l)) alone all)).0
