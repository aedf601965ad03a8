-- What a hold stores on the board is what its event publishes.
use Rattle.std.proofs.Common.{arith, ◌≡◌, ◌≢◌, ℕ, Bool, true, false, [], ◌∷◌, refl, sym, ap, subst, get_or-set_other, ne_eqb, ◌+◌, if◌then◌else◌, Some, None}
use Rattle.std.proofs.{Common.{IfSome, is_some}, lemmas.Bool.Decides.{nat_tests}}
use mathlib.Core.Bool.{false≢true}
use Rattle.lz_slot.proofs.Counted.{of_pass_other}
use Rattle.lz_refinement.proofs.Vocabulary.{Stage, Place, Word, Publishing, Words, get, set, redirect, word_of, change_flags, settle, Course, Actor, Event, Yard}
use Rattle.lz_refinement.proofs.Vocabulary.{actor_at, cell_at, course, line, line_on, line_publishes, published_on, publishes, settling, line_changes, changed_on}
use Rattle.lz_refinement.proofs.{Vocabulary.{word_changed, words_after, is_sure, slot_of, node_of, pin_of, stays_out, own, is_for}, Reading.PinWords.{is_counting}}
use Rattle.lz_vault.specs.declared.vault.Stage.TheVariants.{Closed}
use Rattle.lz_list.specs.declared.place.Place.TheVariants.{Bucket, Node}
use Rattle.lz_list.specs.declared.word.Word.TheVariants.{Head, Link as link_at, Key as key_at, Pin as pin_at, Halt as halt_word}
use Rattle.lz_list.specs.declared.publishing.Publishing.TheVariants.{Linked as linked, Marked as marked, Unlinked as unlinked}
use Rattle.lz_machine.specs.declared.course.Course.TheVariants.{Plays}
use Rattle.lz_machine.specs.declared.event.Event.TheVariants.{Pin, WriteKey, WriteOpen, Link, Mark, Settle, Unlink, Answer, Halt}

-- a word that is no pin word
abbrev pub IsWalked : Word → Type 0
IsWalked (pin_at p) = ⊥
IsWalked w = Unit {0}

get_other : (w : Words) (u v : Word) (x : ℕ) → v ≢ u → get (set w u x) v ≡ get w v
get_other w (Head b) (Head c) x away = get_or-set_other w.heads b c x 0 (λ e. away (ap Head e))
get_other w (link_at b) (link_at c) x away = get_or-set_other w.links b c x 0 (λ e. away (ap link_at e))
get_other w (key_at b) (key_at c) x away = get_or-set_other w.keys b c x 0 (λ e. away (ap key_at e))
get_other w (pin_at b) (pin_at c) x away = of_pass_other w.pins b c x 0 (λ e. away (ap pin_at e))
get_other w halt_word halt_word x away = absurd (away refl)
get_other w _ _ x away = refl

redirect_other : (w : Words) (place : Place) (next : ℕ) (v : Word) → v ≢ word_of place → get (redirect w place next) v ≡ get w v
redirect_other w (Bucket b) next v away = get_other w (Head b) v next away
redirect_other w (Node s) next v away = get_other w (link_at s) v _ away

place_walked : (place : Place) → IfSome (Some (word_of place)) IsWalked
place_walked (Bucket b) = tt
place_walked (Node s) = tt

-- an event that is played changes one word at most: the one that its line names
pub others_stay : (y : Yard) (actor : Actor) (a : ℕ) (e : Event) (v : Word) → word_changed y actor a e ≢ Some v → get (words_after y actor a e) v ≡ get y.words v
others_stay y actor a Pin v away = get_other y.words (pin_at a) v _ (λ is. away (ap (λ w. Some w) (sym is)))
others_stay y actor a (WriteKey k) v away = get_other y.words (key_at _) v _ (λ is. away (ap (λ w. Some w) (sym is)))
others_stay y actor a WriteOpen v away = get_other y.words (link_at _) v _ (λ is. away (ap (λ w. Some w) (sym is)))
others_stay y actor a Link v away = redirect_other y.words actor.pred _ v (λ is. away (ap (λ w. Some w) (sym is)))
others_stay y actor a Mark v away = get_other y.words (link_at _) v _ (λ is. away (ap (λ w. Some w) (sym is)))
others_stay y actor a (Settle s) v away = go (is_sure y s) away
  where
    go : (b : Bool) → (if b then Some (link_at s) else None) ≢ Some v → get (if b then change_flags (settle (cell_at y s).stage) y.words s else y.words) v ≡ get y.words v
    go true away = get_other y.words (link_at s) v _ (λ is. away (ap (λ w. Some w) (sym is)))
    go false away = refl
others_stay y actor a Unlink v away = redirect_other y.words actor.pred _ v (λ is. away (ap (λ w. Some w) (sym is)))
others_stay y actor a Answer v away = go (stays_out actor (pin_of y a)) away
  where
    go : (b : Bool) → (if b then None else Some (pin_at a)) ≢ Some v → get (if b then y.words else set y.words (pin_at a) (pin_of y a + 1)) v ≡ get y.words v
    go true away = refl
    go false away = get_other y.words (pin_at a) v _ (λ is. away (ap (λ w. Some w) (sym is)))
others_stay y actor a Halt v away = get_other y.words halt_word v _ (λ is. away (ap (λ w. Some w) (sym is)))
others_stay y actor a _ v away = refl

-- the word of an event that counts no pin word up is one that walkers load
changed_walked : (y : Yard) (a : ℕ) (e : Event) → is_counting y a e ≡ false → IfSome (word_changed y (actor_at y a) a e) IsWalked
changed_walked y a Pin not_one = absurd (false≢true (sym not_one))
changed_walked y a Link not_one = place_walked (actor_at y a).pred
changed_walked y a (Settle s) not_one = elim (is_sure y s) as (λ (b : Bool). IfSome (if b then Some (link_at s) else None) IsWalked) [ true ↦ tt | false ↦ tt ]
changed_walked y a Unlink not_one = place_walked (actor_at y a).pred
changed_walked y a Answer not_one = grind (arith, nat_tests, stays_out, actor_at, pin_of, false≢true)
changed_walked y a e not_one = tt

on_others : (y : Yard) (a : ℕ) (e : Event) (v : Word) (c : Course) → changed_on c y (actor_at y a) a e ≢ Some v → get (line_on c y (actor_at y a) a e).0.words v ≡ get y.words v
on_others y a e v Plays away = others_stay y (actor_at y a) a e v away
on_others y a e v _ away = refl

pub line_others : (y : Yard) (a : ℕ) (e : Event) (v : Word) → line_changes y a e ≢ Some v → get (line y a e).0.words v ≡ get y.words v
line_others y a e v away = on_others y a e v (course y a e) away

-- what an event publishes is published for its actor, or for no pass
pub settling_own : (q : ℕ) (stage : Stage) (s : ℕ) → own q (settling stage s) ≡ []
settling_own q Closed s = refl
settling_own q _ s = refl

none_of : (q : ℕ) (x : Publishing) → is_for q x ≡ false → own q (x ∷ []) ≡ []
none_of q x is = ap (λ b. if b then x ∷ [] else []) is

pub made_own : (y : Yard) (actor : Actor) (a q : ℕ) (e : Event) → q ≢ a → own q (publishes y actor a e) ≡ []
made_own y actor a q Link away = none_of q (linked (get y.words (key_at (slot_of actor))) (slot_of actor) a) (ne_eqb a q (λ is. away (sym is)))
made_own y actor a q Mark away = none_of q (marked (get y.words (key_at (node_of actor))) (node_of actor) a) (ne_eqb a q (λ is. away (sym is)))
made_own y actor a q (Settle s) away = settling_own q (cell_at y s).stage s
made_own y actor a q Unlink away = none_of q (unlinked (get y.words (key_at (node_of actor))) (node_of actor) a) (ne_eqb a q (λ is. away (sym is)))
made_own y actor a q _ away = refl

on_own : (y : Yard) (a q : ℕ) (e : Event) (c : Course) → q ≢ a → own q (published_on c y (actor_at y a) a e) ≡ []
on_own y a q e Plays away = made_own y (actor_at y a) a q e away
on_own y a q e _ away = refl

pub line_own : (y : Yard) (a q : ℕ) (e : Event) → q ≢ a → own q (line_publishes y a e) ≡ []
line_own y a q e away = on_own y a q e (course y a e) away

on_pin : (y : Yard) (a q : ℕ) (e : Event) (c : Course) → changed_on c y (actor_at y a) a e ≡ Some (pin_at q) → (c ≡ Plays) × (word_changed y (actor_at y a) a e ≡ Some (pin_at q))
on_pin y a q e Plays is = (refl, is)
on_pin y a q e _ is = absurd (false≢true (ap is_some is))

-- an event whose line names a pin word is played, and counts its actor's pin word up
pub pin_changed : (y : Yard) (a q : ℕ) (e : Event) → line_changes y a e ≡ Some (pin_at q) → (is_counting y a e ≡ true) × (course y a e ≡ Plays)
pin_changed y a q e is = let h = on_pin y a q e (course y a e) is in (go (is_counting y a e) refl h.1, h.0)
  where
    go : (b : Bool) → is_counting y a e ≡ b → word_changed y (actor_at y a) a e ≡ Some (pin_at q) → is_counting y a e ≡ true
    go true one is = one
    go false not_one is = absurd (subst (λ o. IfSome o IsWalked) is (changed_walked y a e not_one))

-- an event whose row publishes nothing publishes nothing
pub line_silent : (y : Yard) (a : ℕ) (e : Event) → publishes y (actor_at y a) a e ≡ [] → line_publishes y a e ≡ []
line_silent y a e none = on (course y a e)
  where
    on : (c : Course) → published_on c y (actor_at y a) a e ≡ []
    on Plays = none
    on _ = refl

-- as one that counts a pin word up
pub counting_silent : (y : Yard) (a : ℕ) (e : Event) → is_counting y a e ≡ true → line_publishes y a e ≡ []
counting_silent y a e is = grind (arith, nat_tests, line_silent, is_counting, publishes, actor_at, false≢true)
