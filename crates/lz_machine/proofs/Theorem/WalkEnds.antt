-- The end of a walk, in each state that is reached, from what its call relies on.
use Rattle.std.proofs.{Common.{arith, ◌≡◌, ℕ, suc, ◌≤◌, if◌then◌else◌, Bool, length, Option, ap, ◌∙◌, subst}, lemmas.Bool.Decides.{nat_tests}}
use Rattle.lz_slot.specs.{Limits.{most_slots}, Sets.{key_of}}
use Rattle.lz_list.specs.{declared.{flags.Flags.{Flags}, walk.{Look.{Look}, Met.TheVariants.{Unmarked, Marked}}}, Words.{Words, get, link_to, place_number}}
use Rattle.lz_list.specs.{Walks.{wants, hopped}, Traces.{Trace, Begins, bucket_of, key_word, flags_after}, Pinned.{Stood, IsQuiet}}
use Rattle.lz_list.proofs.Traces.{Hindsight.{absent_since}, WalkEnd.{marked_was_sure, unsure_node, unmarked_surely}}
use Rattle.lz_machine.specs.{declared.caller.Progress.{Progress}, Yards.{Shape, IsInside, pin_in}}
use Rattle.lz_machine.specs.{CallersSound.{IsCaller, IsLooking, Relies, view_of, is_before_pin, side_of}, CallsStand.{own_change, trace_outside}}
use Rattle.lz_machine.specs.{Runs.{Caller, run, first_point}, Sound.{TraceSound}, WalkEnds.{MetTells, HopTells, WalkEnds}}
use Rattle.lz_machine.proofs.{Frames.{OneLoad.{there_since, loaded, wanted}, Ranges.{few_slots}, Outside.{side_even}}, Theorem.Reached.{reached_sound, up_at}}
use Rattle.lz_machine.proofs.Theorem.TraceOutside.{calls_stand}

module _ (shape : Shape) (words : Words) (P : Trace) (trace : TraceSound shape words P) (few : shape.slots ≤ most_slots) (P0 : Trace) (quiet : IsQuiet shape.buckets P0 P) (begins : Begins P0 P) (k : ℕ) where
  abbrev buckets : ℕ
  buckets = shape.buckets

  abbrev slots : ℕ
  slots = shape.slots

  -- by the flags of k's node
  met_tells : (s : ℕ) → Stood buckets (bucket_of buckets k) P0 P (suc s) → key_word s P ≡ k → (flags : Flags) → flags ≡ flags_after s P → (mark : Bool) → flags.mark ≡ mark → MetTells k P0 P (if mark then Marked s flags else Unmarked s flags)
  met_tells s stood key flags shown mark is = grind (arith, nat_tests, unsure_node, unmarked_surely, marked_was_sure)

  -- what a load tells
  hop_tells : (look : Look) → IsLooking buckets k P0 P look → HopTells k P0 P (hopped buckets k look (get words (wants buckets k look)))
  hop_tells look h = rw (wanted shape words P trace few P0 quiet begins k look h)
      (loaded buckets slots few P0 P trace.lawful quiet begins k (HopTells k P0 P)
      (λ next on. tt)
      (λ pred curr between high. absent_since buckets slots P0 k (place_number pred) (link_to curr) P trace.lawful quiet between.were between.low high)
      (λ pred s flags between key shown mark is. met_tells s (there_since buckets slots few P0 P trace.lawful quiet begins k pred s between) key flags shown mark is)
      look h)

pub walk_ends : WalkEnds
walk_ends start steps service disk a caller aim look is runs state calls walking =
    let p = run (first_point start) steps in
    let B = trace_outside (first_point start) steps a in
    let pin = pin_in service.yard.words.pins a in
    let v = view_of service.yard.shape service.yard.vault service.yard.actors a in
    let here = up_at start p service disk (reached_sound start steps is runs) state in
    let own = subst (λ (who : Option Caller). IsCaller v pin who (here.notes.begun a) p.trace (here.notes.changed a)) calls (here.up.sound.callers.each a).stands in
    let inside : IsInside pin = side_even pin caller.progress own.0 ∙ ap (λ (at : Progress). side_of (is_before_pin at)) walking in
    let stands = calls_stand start steps service disk a is runs state inside in
    let me = subst (λ (who : Option Caller). IsCaller v pin who B p.trace (own_change a (length B) p.trace)) calls stands.stands in
    let h = subst (λ (at : Progress). Relies v caller.command at B p.trace (own_change a (length B) p.trace)) walking me.2 in
    hop_tells service.yard.shape service.yard.words p.trace here.up.sound.trace (few_slots here.up.sound.images) B (stands.quiet inside) (stands.begins inside) (key_of caller.command) look h.2
