-- The slot that an event prepares is the one in its actor's hand.
use Rattle.std.proofs.Common.{◌≡◌, ℕ, Bool, true, false, List, ◌∷◌, refl, ap, ◌&&◌, Option, Some, None, is_some, unwrap_or}
use mathlib.Core.Bool.{false≢true}
use Rattle.lz_refinement.proofs.Vocabulary.{Stage, Publishing, Trace, Course, Event, Yard, actor_at, cell_at, course, needs, published_on, publishes, settling}
use Rattle.lz_refinement.proofs.Vocabulary.{line_publishes, Sizes, Note, as_list, AllLeft, MayPrepare}
use Rattle.lz_vault.specs.declared.vault.Stage.TheVariants.{Open}
use Rattle.lz_list.specs.declared.publishing.Publishing.TheVariants.{KeyPrepared as key_prepared, LinkPrepared as link_prepared}
use Rattle.lz_machine.specs.declared.{course.Course.TheVariants.{Plays}, event.Event.TheVariants.{WriteKey, WriteOpen, Settle}}
use Rattle.lz_machine.proofs.Runs.Course.{plays_needs}

-- the slot that is prepared
abbrev pub prepared : List Publishing → Option ℕ
prepared (key_prepared s v ∷ rest) = Some s
prepared (link_prepared s v ∷ rest) = Some s
prepared _ = None

none_some : (s : ℕ) → None ≡ Some s → ⊥
none_some s is = false≢true (ap is_some is)

-- it is the one in the actor's hand
pub prepared_hand : (y : Yard) (a : ℕ) (e : Event) (s : ℕ) → prepared (line_publishes y a e) ≡ Some s → (actor_at y a).slot ≡ Some s
prepared_hand y a e s is = on (course y a e) refl is
  where
    settles : (stage : Stage) (t : ℕ) → prepared (settling stage t) ≡ Some s → ⊥
    settles Open t is = none_some s is
    settles _ t is = none_some s is

    keyed : (slot : Option ℕ) (c : Bool) → (is_some slot && c) ≡ true → Some (unwrap_or slot 0) ≡ Some s → slot ≡ Some s
    keyed None c needs is = absurd (false≢true needs)
    keyed (Some t) c needs is = is

    opens : (checked : Bool) (slot : Option ℕ) (c : Bool) → (checked && is_some slot && c) ≡ true → Some (unwrap_or slot 0) ≡ Some s → slot ≡ Some s
    opens true None c needs is = absurd (false≢true needs)
    opens false None c needs is = absurd (false≢true needs)
    opens checked (Some t) c needs is = is

    go : (e : Event) → needs y a e ≡ true → prepared (publishes y (actor_at y a) a e) ≡ Some s → (actor_at y a).slot ≡ Some s
    go (WriteKey k) has is = keyed (actor_at y a).slot _ has is
    go WriteOpen has is = opens _ (actor_at y a).slot _ has is
    go (Settle t) has is = absurd (settles (cell_at y t).stage t is)
    go e has is = absurd (none_some s is)

    on : (c : Course) → course y a e ≡ c → prepared (published_on c y (actor_at y a) a e) ≡ Some s → (actor_at y a).slot ≡ Some s
    on Plays at is = go e (plays_needs y a e at) is
    on _ at is = absurd (none_some s is)

-- a slot that each pass has left may be prepared
pub prepares_left : (z : Sizes) (opened : Trace) (ns : List Note) (x : Option Publishing) → ((s : ℕ) → prepared (as_list x) ≡ Some s → AllLeft z opened ns s) → MayPrepare z opened ns x
prepares_left z opened ns (Some (key_prepared s v)) left = left s refl
prepares_left z opened ns (Some (link_prepared s v)) left = left s refl
prepares_left z opened ns _ left = tt
