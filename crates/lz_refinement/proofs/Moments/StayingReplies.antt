-- A reply that was noted stays over each later hold.
use Rattle.std.proofs.lemmas.Bool.Decides.{nat_tests}
use Rattle.std.proofs.Common.{◌≡◌, ◌≤◌, ⊎_elim, ℕ, List, [], ◌∷◌, ◌++◌, length, refl, sym, ap, ◌∙◌, subst, append_assoc, arith, IsTrue}
use Rattle.lz_refinement.proofs.Vocabulary.{Device, IsTimely, IsImage, LeavesEither, Shape, Load, Note, What, as_list, steps_of, insert_load, splice, Quiet, InOrder}
use Rattle.lz_refinement.proofs.{Vocabulary.{place, shape_of_sizes, stamp_of, trace_of, BoardId}, Marks.GrownMarks.{marks_above, marks_insert}}
use Rattle.lz_refinement.{proofs.Moments.GrownNotes.{grows_on, grows_then, later_from, same_grows}, specs.{Marks.{marks_in}, NotedRuns.{AreNext, IsHopAt}}}
use Rattle.lz_refinement.specs.{RunningSets.{HasHistory}, Moments.{ExplainsFrom, GrowsTo, IsReply, RepliesStay, Stays}}
use Rattle.lz_board.{specs.declared.view.What.TheVariants.{Played}, proofs.Upkeep.Splice.{at_place, other_step, quiet_splice, steps_splice, trace_insert}}

-- a reply is noted with the moment at which it is made
pub stamp_now : (w : What) (m : ℕ) → IsReply w → stamp_of w m ≡ m
stamp_now (Played e o) m reply = refl
stamp_now _ m reply = absurd reply

-- A pass's loads are put among the notes.
module _ (b : BoardId) (d : Device) (all : List Note) (p : ℕ) where
  abbrev shape : Shape
  shape = shape_of_sizes b.sizes

  from_same : (was is : List Note) (t : List ℕ) → marks_in shape is ≡ marks_in shape was → trace_of b.opened is ≡ trace_of b.opened was → ExplainsFrom b was all t → ExplainsFrom b is all t
  from_same was is t marks trace e = grind arith

  stays_insert : (h : Load) (ns : List Note) → Quiet b.opened p h.at ns → IsHopAt shape h (place shape (steps_of p ns)) → RepliesStay b d all ns → RepliesStay b d all (insert_load b.opened p h ns)
  stays_insert h [] quiet next stay = ((λ reply. absurd reply), tt)
  stays_insert h (x ∷ xs) quiet next stay = at_place b.opened (RepliesStay b d all) p h x xs
      (λ over.
      let away = quiet.0 over in
      let then = subst (λ l. IsHopAt shape h (place shape l)) (other_step b.opened p x xs away) next in
      let marks = marks_above b.opened shape p h x xs away (marks_insert b.opened shape p h xs quiet.1 then) in (
        (λ reply honest. let s = stay.0 reply honest in (s.0, (λ t left. from_same (x ∷ xs) (x ∷ insert_load b.opened p h xs) t marks (ap (λ P. as_list x.published ++ P) (trace_insert b.opened p h xs)) (s.1 t left)))),
        stays_insert h xs quiet.1 then stay.1,
      ))
      (λ here. ((λ reply. absurd reply), stay))

  pub stays_splice : (base top : ℕ) (hs : List Load) (ns : List Note) → Quiet b.opened p base ns → length b.opened ≤ base → InOrder base hs top → AreNext shape p hs (steps_of p ns)
      → RepliesStay b d all ns → RepliesStay b d all (splice b.opened p hs ns)
  stays_splice base top [] ns quiet low order next stay = stay
  stays_splice base top (h ∷ hs) ns quiet low order next stay = grind (arith, nat_tests, steps_splice, stays_insert, splice, quiet_splice, place, stays_splice base h.at hs ns quiet low order.1 next.1 stay)

-- Notes grow, and time goes on over one device call at most.
module _ (b : BoardId) (dev dev' : Device) (ns is : List Note) (more : GrowsTo b ns is) (honest : dev'.honest ≡ dev.honest) (time : IsTrue dev.honest → LeavesEither dev dev')
    (timely : IsTrue dev.honest → IsTimely dev) (now : HasHistory b is dev') where
  still : (later : List Note) (n : Note) (before : List Note) → ns ≡ later ++ n ∷ before → Stays b dev ns n before → Stays b dev' is n before
  still later n before splits stay now_honest =
      let was = subst IsTrue honest now_honest in
      let s = stay was in
      let over = time was in
      let longer = over.later in
      (omega (arith, s.0, longer), (λ t left. ⊎_elim (past t) (⊎_elim (λ old. past t ((timely was).counts_now n.moment.at t s.0 old)) (fresh t)) (over.before n.moment.at t s.0 left)))
    where
      past : (t : List ℕ) → dev.left_since n.moment.at t → ExplainsFrom b (n ∷ before) is t
      past t left = later_from b (n ∷ before) ns is more t ((stay (subst IsTrue honest now_honest)).1 t left)

      from : GrowsTo b (n ∷ before) is
      from = grows_then b (n ∷ before) ns is (subst (GrowsTo b (n ∷ before)) (sym splits) (grows_on b later (n ∷ before))) more

      fresh : (t : List ℕ) → IsImage dev'.medium t → ExplainsFrom b (n ∷ before) is t
      fresh t image = record { then = is; from = from; upto = same_grows b is; explains = now now_honest t image }

  all_still : (later before : List Note) → ns ≡ later ++ before → RepliesStay b dev ns before → RepliesStay b dev' is before
  all_still later [] splits stay = tt
  all_still later (n ∷ before) splits stay = (
    (λ reply. still later n before splits (stay.0 reply)),
    all_still (later ++ n ∷ []) before (splits ∙ sym (append_assoc later (n ∷ []) before)) stay.1,
  )

  pub go_on_staying : RepliesStay b dev ns ns → RepliesStay b dev' is ns
  go_on_staying stay = all_still [] ns refl stay
