use Rattle.lz_board.proofs.board.Board.list_slot.Goals as goal
use Rattle.std.proofs.Common.{◌≡◌, ◌⊎◌, ◌≤◌, ℕ, inl, inr, Some, IfSome, true, sym, ap, ◌∙◌, subst}
use mathlib.Core.Bool.{false≢true}
use Rattle.lz_slot.specs.Limits.{largest_key}
use Rattle.lz_list.{specs.{Traces.{Lawful}, Pinned.{IsQuiet}}, proofs.Traces.Absence.{begins_itself}}
use Rattle.lz_machine.specs.Yards.{IsInside}
use Rattle.lz_board.specs.{Plays.{IsShownTo}, Seats.{id_of, part}, Glances.{Glanced}, Listings.{WasAway}, Walkers.{glance_of, MeetsAtEnd}}
use Rattle.lz_board.proofs.Walk.{WalkerLemma.{shown_on}, GlanceAnswer.{told}, ListedSlot.{by_link, by_key, told_if, others_if, not_true, all_shown}}
use Rattle.lz_board.proofs.board.Board.list_slot.Goals.{then-flags-via-then-flags, then-flags-via-else-flags+then-not-flags}

pub returns-then-flags-clause-others : goal.returns-then-flags-clause-others
returns-then-flags-clause-others c = λ k low.
    let l = c.look.ensures in
    let f = c.link_of.ensures.flags in
    inr (by_link (id_of c.args.self.now).sizes (part c.args.pass.now) c.requires.here.2.sized c.args.slot k (part c.look.new.pass).known c.look.result l.shown c.args.self.now.walkable.few l.value
    (elim c.then-flags.branch [
      | then-flags-via-then-flags w ↦ inl (sym (ap (λ x. x.mark) f) ∙ w.if-flags.true)
      | then-flags-via-else-flags+then-not-flags w ↦ inr (sym (ap (λ x. x.add_settled) f) ∙ not_true c.link_of.result.flags.add_settled w.if-not-flags.true)
    ]))

pub returns-in_err-key-clause-shown : goal.returns-in_err-key-clause-shown
returns-in_err-key-clause-shown c =
    shown_on (part c.args.pass.now) (part c.look.new.pass).known (part c.look-2.new.pass).known c.look.ensures.shown.since (subst (λ g. IsShownTo (part c.look-2.new.pass).known g) c.look.ensures.part c.look-2.ensures.shown)

pub returns-in_err-key-clause-others : goal.returns-in_err-key-clause-others
returns-in_err-key-clause-others c = λ k low.
    let seen = (part c.look-2.new.pass).known in
    let shown = shown_on (part c.args.pass.now) (part c.look.new.pass).known seen c.look.ensures.shown.since (subst (λ g. IsShownTo seen g) c.look.ensures.part c.look-2.ensures.shown) in
    inr (by_key (id_of c.args.self.now).sizes (part c.args.pass.now) c.requires.here.2.sized c.args.slot k seen seen c.look-2.result shown shown (begins_itself seen) c.look-2.ensures.value
    (λ same. absurd (false≢true (c.in_err-key.ensures.range.1 (subst (λ (n : ℕ). n ≤ largest_key) (sym same) low)))))

pub returns-clause-shown : goal.returns-clause-shown
returns-clause-shown c =
    (all_shown (part c.args.pass.now) (part c.look.new.pass) (part c.look-2.new.pass) (part c.walk.new.pass).known c.look.ensures.shown c.look.ensures.part c.look-2.ensures.shown c.look-2.ensures.part c.walk.ensures.shown).third

pub returns-clause-told : goal.returns-clause-told
returns-clause-told c =
    let z = (id_of c.args.self.now).sizes in
    let h = part c.args.pass.now in
    let here = c.requires.here.2 in
    let last = (part c.walk.new.pass).known in
    let s = all_shown h (part c.look.new.pass) (part c.look-2.new.pass) last c.look.ensures.shown c.look.ensures.part c.look-2.ensures.shown c.look-2.ensures.part c.walk.ensures.shown in
    let met = subst (λ g. MeetsAtEnd z c.in_ok-key.key g last c.walk.result) s.same c.walk.ensures.met in
    subst (λ r. IfSome r (λ k. Glanced k h.begun last true)) (sym c.sure_key.ensures)
    (told_if c.in_ok-key.key h.begun last (glance_of c.walk.result)
    (told z.buckets z.slots h.begun last (subst (λ y. Lawful y.buckets y.slots last) here.sized s.third.lawful) (subst (λ y. IsQuiet y.buckets h.begun last) here.sized (s.third.kept (subst (λ n. IsInside n) here.pin c.requires.inside))) c.in_ok-key.key met.0 met.1 c.walk.result met.2))

pub returns-clause-others : goal.returns-clause-others
returns-clause-others c = λ k low.
    let z = (id_of c.args.self.now).sizes in
    let h = part c.args.pass.now in
    let here = c.requires.here.2 in
    let last = (part c.walk.new.pass).known in
    let s = all_shown h (part c.look.new.pass) (part c.look-2.new.pass) last c.look.ensures.shown c.look.ensures.part c.look-2.ensures.shown c.look-2.ensures.part c.walk.ensures.shown in
    let met = subst (λ g. MeetsAtEnd z c.in_ok-key.key g last c.walk.result) s.same c.walk.ensures.met in
    subst (λ r. (r ≡ Some k) ⊎ WasAway c.args.slot k h.begun last) (sym c.sure_key.ensures)
    (others_if z h here.sized c.args.slot k c.in_ok-key.key last s.third (glance_of c.walk.result)
    (told z.buckets z.slots h.begun last (subst (λ y. Lawful y.buckets y.slots last) here.sized s.third.lawful) (subst (λ y. IsQuiet y.buckets h.begun last) here.sized (s.third.kept (subst (λ n. IsInside n) here.pin c.requires.inside))) c.in_ok-key.key met.0 met.1 c.walk.result met.2)
    (λ apart. by_key z h here.sized c.args.slot k (part c.look-2.new.pass).known last c.look-2.result s.second s.third s.upto c.look-2.ensures.value (λ same. apart (c.in_ok-key.ensures.rank ∙ same))))
