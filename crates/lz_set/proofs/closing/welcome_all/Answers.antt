use Rattle.lz_set.proofs.closing.welcome_all.Goals as goal
use Rattle.std.proofs.{Common.{◌≡◌, ◌<◌, ◌+◌, arith, ℕ, suc, List, length, map, slice_set, slice_index_or, refl, sym, ap, ◌∙◌, subst}, lemmas.List.{length-map}}
use Rattle.std.proofs.lemmas.List.Elements.{All-set}
use Rattle.lz_board.specs.{declared.{pass.Pass.{Pass}, view.Note.{Note}}, Notes.{Extends, trace_of}, Plays.{knowing}, Seats.{IsOf, part}}
use Rattle.lz_set.{specs.Left.{IsWelcome}, proofs.Welcome.{Welcomed, none_yet, one_more, all_seen, all_own, all_since}}

pub loop-i-init : goal.loop-i-init
loop-i-init g c = record {
  same = refl;
  here = c.requires.passes;
  so = none_yet g.N.Named.board c.args.locked.now.notes (trace_of g.N.Named.board.opened c.args.locked.now.notes) (map (λ p. part p) c.args.passes.now);
}

pub loop-i-preserved : goal.loop-i-preserved
loop-i-preserved g c =
    let b = g.N.Named.board in
    let ns = c.args.locked.now.notes in
    let K = trace_of b.opened ns in
    let low = c.loop-i-test.true in
    let long = c.loop-i.auto.passes in
    let lt : c.loop-i.i < length c.loop-i.passes = omega (arith, low, long) in
    let notes_are = ap (λ l. l.notes) c.loop-i.invariant.same in
    let next : c.loop-i.i + 1 ≡ suc c.loop-i.i = omega arith in
    record {
      same = c.welcome.ensures.same ∙ c.loop-i.invariant.same;
      here = All-set (λ p. IsOf b p) c.loop-i.passes c.loop-i.i c.welcome.new.pass c.welcome.ensures.pass c.loop-i.invariant.here;
      so = subst (λ (n : ℕ). Welcomed b ns K n (map (λ p. part p) c.args.passes.now) (map (λ p. part p) (slice_set c.loop-i.passes c.loop-i.i c.welcome.new.pass))) (sym next)
          (one_more b ns K c.loop-i.passes (map (λ p. part p) c.args.passes.now) c.loop-i.i c.index-passes-i.result c.welcome.new.pass lt c.loop-i.invariant.so
          (subst (λ (l : List Note). part c.welcome.new.pass ≡ knowing (trace_of b.opened l) (part (slice_index_or c.loop-i.passes c.loop-i.i c.index-passes-i.result))) notes_are c.welcome.ensures.part)
          (subst (λ (l : List Note). IsWelcome b l (part c.welcome.new.pass)) notes_are (record { noted = c.welcome.ensures.noted; own = c.welcome.ensures.own; alone = c.welcome.ensures.alone }))
          (subst (λ (l : List Note). Extends (trace_of b.opened l) (part (slice_index_or c.loop-i.passes c.loop-i.i c.index-passes-i.result)).known) notes_are c.welcome.ensures.since));
    }

pub returns-clause-seen : goal.returns-clause-seen
returns-clause-seen g c =
    let over = c.loop-i-test.false in
    let long = c.loop-i.auto.passes in
    let count : length (map (λ (p : Pass). part p) c.loop-i.passes) ≡ length c.loop-i.passes = length-map c.loop-i.passes (λ (p : Pass). part p) in
    all_seen g.N.Named.board c.args.locked.now.notes (trace_of g.N.Named.board.opened c.args.locked.now.notes) (map (λ p. part p) c.args.passes.now) (map (λ p. part p) c.loop-i.passes) c.loop-i.i (omega (arith, over, long, count)) c.loop-i.invariant.so

pub returns-clause-welcome : goal.returns-clause-welcome
returns-clause-welcome g c =
    let over = c.loop-i-test.false in
    let long = c.loop-i.auto.passes in
    let count : length (map (λ (p : Pass). part p) c.loop-i.passes) ≡ length c.loop-i.passes = length-map c.loop-i.passes (λ (p : Pass). part p) in
    all_own g.N.Named.board c.args.locked.now.notes (trace_of g.N.Named.board.opened c.args.locked.now.notes) (map (λ p. part p) c.args.passes.now) (map (λ p. part p) c.loop-i.passes) c.loop-i.i (omega (arith, over, long, count)) c.loop-i.invariant.so

pub returns-clause-since : goal.returns-clause-since
returns-clause-since g c =
    let over = c.loop-i-test.false in
    let long = c.loop-i.auto.passes in
    let count : length (map (λ (p : Pass). part p) c.loop-i.passes) ≡ length c.loop-i.passes = length-map c.loop-i.passes (λ (p : Pass). part p) in
    all_since g.N.Named.board c.args.locked.now.notes (trace_of g.N.Named.board.opened c.args.locked.now.notes) (map (λ p. part p) c.args.passes.now) (map (λ p. part p) c.loop-i.passes) c.loop-i.i (omega (arith, over, long, count)) c.loop-i.invariant.so
