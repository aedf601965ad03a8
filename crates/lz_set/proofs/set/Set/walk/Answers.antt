use Rattle.lz_set.proofs.set.Set.walk.Goals as goal
use Rattle.std.proofs.{Common.{◌≡◌, Some, sym, ap, ◌∙◌}, lemmas.Option.{none-some, same_Some}}
use Rattle.lz_list.specs.declared.word.Word.{Word}
use Rattle.lz_machine.specs.{declared.event.Event.{Event, TheVariants.{Hop}}, Laws.{hop_of}}

hop_is : (e : Event) (w : Word) → hop_of e ≡ Some w → e ≡ Hop w
hop_is (Hop v) w is = ap Hop (same_Some v w is)
hop_is e w is = absurd (none-some w is)

pub load-requires-clause-counted : goal.load-requires-clause-counted
load-requires-clause-counted g c =
    let was = c.requires.counted in
    (was.0, was.1, was.2, c.loop.invariant.counts was.0 was.1 was.2 was.3)

pub returns-in-None-wants-clause-counts : goal.returns-in-None-wants-clause-counts
returns-in-None-wants-clause-counts g c = λ asked format before counts. c.load.ensures.counts asked format before (c.loop.invariant.counts asked format before counts)

pub loop-preserved : goal.loop-preserved
loop-preserved g c = record {
  pass = c.load.ensures.pass;
  counts = λ asked format before counts. c.load.ensures.counts asked format before (c.loop.invariant.counts asked format before counts);
  steps = c.load.ensures.steps ∙ c.loop.invariant.steps;
  wants = hop_is _ c.in-Some-wants.next (sym c.wants-in-loop.ensures ∙ c.in-Some-wants.is);
}
