-- The calls of a pass that has looked at a key before the first of them: what they say of the time since it looked they say of the time
-- since before.
use Rattle.lz_board.specs.declared.answer.GlanceFault.TheVariants as fault
use Rattle.lz_machine.specs.declared.event.Reply.TheVariants.{Yes, No, Full, Worn, OldFile, Halted, Device as failed}
use Rattle.std.proofs.Common.{◌≡◌, ℕ, ◌≤◌, Bool, true, false, List, [], ◌∷◌, ◌++◌, length, length-append, Result, Ok, Err, refl, sym, ap, ◌∙◌, subst, append_assoc, arith}
use Rattle.std.proofs.lemmas.List.{append-nil, append_cancel_right, Elements.{filter-append}}
use Rattle.lz_slot.specs.declared.{command.Command.{Command, TheVariants.{Add, Remove, Has}}, format.Format.{Format}}
use Rattle.lz_disk.specs.Devices.{Device}
use Rattle.lz_list.specs.{Traces.{Trace, Begins, Lawful}, declared.{layout.Sizes.{Sizes}, publishing.Publishing.TheVariants.{Linked as linked, Marked as marked, Unlinked as unlinked}}}
use Rattle.lz_list.proofs.Traces.WalkEnd.{begins_before}
use Rattle.lz_machine.specs.{declared.event.Reply.{Reply}, Yards.{Shape, Yard}}
use Rattle.lz_board.specs.declared.{answer.{Glance.{Glance, TheVariants.{Yes as there, No as absent, Unsettled}}, GlanceFault.{GlanceFault}}, view.{Note.{Note}, Part.{Part}}}
use Rattle.lz_board.specs.{Glances.{Between, Changes, Glances}, Kept.{Knows}, Seats.{BoardId}, Walkers.{KeepsCall}, Ways.{Rests}}
use Rattle.lz_board.specs.Notes.{Extends, Quiet, as_list, is_for, own, shape_of_sizes, steps_of, trace_of}
use Rattle.lz_board.proofs.{Upkeep.Growth.{begins_of, extends_length, extends_more, extends_refl, extends_trans, found_all}, Walk.GlanceAnswer.{halt_since}}
use Rattle.lz_refinement.specs.{Answers.{Answers, IsOneCall, Promises, WasCut}, Holds.{IsLocked}, OnePass.{AreOwn, OnlyOwn}, OwnCalls.{told}}
use Rattle.lz_refinement.{specs.Sessions.{AnsweredCalls, Served, TellsAlone, marks_alone}, proofs.Reading.{OnePass.{own_trace}, OwnTraces.{own_append}}}
use Rattle.lazyset_set_commands.specs.Looks.{HasLooked}

-- nothing is published for a pass that looks
unchanged : (k : ℕ) (told : Result Glance GlanceFault) (before after : Part) → Glances k told before after → Changes before.number before.known after.known []
unchanged k (Ok there) before after h = h.1
unchanged k (Ok absent) before after h = h.1
unchanged k (Ok (Unsettled s)) before after h = h.1
unchanged k (Err fault.Halted) before after h = h.1
unchanged k (Err fault.Worn) before after h = h.1
unchanged k (Err fault.BusyPass) before after h = record { since = []; goes_on = ap (λ (p : Part). p.known) h.1; own = refl }

-- It has seen R, and P before it looked. What is said of the time since R is so of the time since P.
module _ (p : ℕ) (P R : Trace) (look : Changes p P R []) where
  changes_since : (Q more : Trace) → Changes p R Q more → Changes p P Q more
  changes_since Q more c = record {
    since = c.since ++ look.since;
    goes_on = c.goes_on ∙ ap (λ (l : Trace). c.since ++ l) look.goes_on ∙ sym (append_assoc c.since look.since P);
    own = filter-append (is_for p) c.since look.since ∙ ap (λ (l : Trace). own p c.since ++ l) look.own ∙ append-nil (own p c.since) ∙ c.own;
  }

  begins_since : (T : Trace) → Begins R T → Begins P T
  begins_since T later = begins_before P R T (begins_of P R (look.since, look.goes_on)) later

  between_since : (T Q : Trace) → Between R T Q → Between P T Q
  between_since T Q h = record { from = begins_since T h.from; upto = h.upto }

  rests_since : (k : ℕ) (side : Bool) (Q : Trace) → Rests k side R Q → Rests k side P Q
  rests_since k side Q h = record { then = h.then; between = between_since h.then Q h.between; settled = h.settled }

  cut_since : (c : Command) (Q : Trace) → WasCut p c R Q → WasCut p c P Q
  cut_since c Q h = record { halted = h.halted; own = h.own; changes = changes_since Q h.own h.changes; may = h.may }

  promises_since : (shape : Shape) (F : Format) (c : Command) (reply : Reply) (pin : ℕ) (new : List Note) (Q : Trace) → Promises shape p F c reply pin new R Q → Promises shape p F c reply pin new P Q
  promises_since shape F (Has k) Yes pin new Q h = (rests_since k true Q h.0, changes_since Q [] h.1)
  promises_since shape F (Has k) No pin new Q h = (rests_since k false Q h.0, changes_since Q [] h.1)
  promises_since shape F (Add k) Yes pin new Q h = record { slot = h.slot; changes = changes_since Q _ h.changes; earlier = h.earlier; from = begins_since h.earlier h.from; upto = h.upto; settled = h.settled }
  promises_since shape F (Add k) No pin new Q h = (rests_since k true Q h.0, changes_since Q [] h.1)
  promises_since shape F (Remove k) Yes pin new Q h = record { slot = h.slot; changes = changes_since Q _ h.changes; earlier = h.earlier; from = begins_since h.earlier h.from; upto = h.upto; settled = h.settled }
  promises_since shape F (Remove k) No pin new Q h = (rests_since k false Q h.0, changes_since Q [] h.1)
  promises_since shape F (Add k) (Full counts) pin new Q h = record {
    reserve = h.reserve;
    free = h.free;
    sum = h.sum;
    then = h.then;
    between = between_since h.then Q h.between;
    no_member = h.no_member;
    alone = h.alone;
    changes = changes_since Q [] h.changes;
  }
  promises_since shape F (Remove k) (Full counts) pin new Q h = absurd h
  promises_since shape F (Has k) (Full counts) pin new Q h = absurd h
  promises_since shape F c Worn pin new Q h = (h.0, changes_since Q [] h.1)
  promises_since shape F c OldFile pin new Q h = (h.0, changes_since Q [] h.1)
  promises_since shape F c Halted pin new Q h = cut_since c Q h
  promises_since shape F c failed pin new Q h = cut_since c Q h

-- so a call's answer is that of a call before which it didn't look
answers_since : (F : Format) (c : Command) (reply : Reply) (first looked after : Part) (look : Changes first.number first.known looked.known []) → KeepsCall first looked
    → (first.sizes.passes ≡ 1 → AreOwn first.number look.since) → Answers F c reply looked after → Answers F c reply first after
answers_since F c reply first looked after look keeps mine a =
    let promised = subst (λ (x : Sizes × ℕ). Promises (shape_of_sizes x.0) x.1 F c reply after.pin a.new looked.known after.known) (λ i. (keeps.sizes i, keeps.number i)) a.promises in
    record {
      number = a.number ∙ keeps.number;
      new = a.new;
      steps = a.steps ∙ ap (λ (l : List Note). a.new ++ l) keeps.steps;
      one_call = subst (λ (x : Sizes × ℕ). IsOneCall (shape_of_sizes x.0) x.1 F c reply a.new) (λ i. (keeps.sizes i, keeps.number i)) a.one_call;
      promises = promises_since first.number first.known looked.known look (shape_of_sizes first.sizes) F c reply after.pin a.new after.known promised;
      lawful = subst (λ (z : Sizes). Lawful z.buckets z.slots after.known) keeps.sizes a.lawful;
      alone = λ one.
          let only = a.alone (ap (λ (z : Sizes). z.passes) keeps.sizes ∙ one) in
          record {
            since = only.since ++ look.since;
            goes_on = only.goes_on ∙ ap (λ (l : Trace). only.since ++ l) look.goes_on ∙ sym (append_assoc only.since look.since first.known);
            own = own_append first.number only.since look.since (subst (λ (p : ℕ). AreOwn p only.since) keeps.number only.own) (mine one);
          };
      late = λ halted. a.late (halt_since first.known looked.known (look.since, look.goes_on) halted);
    }

-- what was published first was for the pass where all was
own_older : (p : ℕ) (P Q : Trace) → AreOwn p (P ++ Q) → AreOwn p Q
own_older p [] Q are = are
own_older p (linked k s q ∷ P) Q are = own_older p P Q are.1
own_older p (marked k s q ∷ P) Q are = own_older p P Q are.1
own_older p (unlinked k s q ∷ P) Q are = own_older p P Q are.1
own_older p (e ∷ P) Q are = own_older p P Q are

-- In a set of one pass all was: the pass that has seen all knows it.
module _ (b : BoardId) (ns : List Note) (yard : Yard) (disk : Device) (locked : IsLocked b ns yard disk) (p : ℕ) (low : 1 ≤ p) (high : p ≤ b.sizes.passes) where
  abbrev all : Trace
  all = trace_of b.opened ns

  abbrev seen : Part
  seen = record { sizes = b.sizes; number = p; pin = 0; begun = all; known = all; steps = steps_of p ns; base = length all; loads = [] }

  quiet : (n : ℕ) (xs : List Note) → length (trace_of b.opened xs) ≤ n → Quiet b.opened p n xs
  quiet n [] le = tt
  quiet n (x ∷ xs) le = let l = length-append (as_list x.published) (trace_of b.opened xs) in ((λ over is. omega (arith, over, le)), quiet n xs (omega (arith, l, le)))

  goes_on : (xs : List Note) → Extends (trace_of b.opened xs) b.opened
  goes_on [] = extends_refl b.opened
  goes_on (x ∷ xs) = extends_more (as_list x.published) b.opened (trace_of b.opened xs) (goes_on xs)

  knows : Knows b.sizes b.opened ns seen
  knows = record {
    sized = refl;
    numbered = (low, high);
    since = ([], refl, refl);
    noted = refl;
    quiet = quiet (length all) ns (omega arith);
    least = extends_length b.opened all (goes_on ns);
    order = omega arith;
    shown = tt;
    found = found_all b.opened ns seen (omega arith);
    began = goes_on ns;
    from = extends_refl all;
    kept = λ inside. absurd (omega (arith, inside));
    turned = λ inside called. absurd (omega (arith, inside));
  }

  own_first : b.sizes.passes ≡ 1 → (R more : Trace) → Extends all R → R ≡ more ++ b.opened → AreOwn p more
  own_first one R more (later, goes) is =
      let only = own_trace b ns yard disk seen locked knows one in
      let both : only.since ++ b.opened ≡ (later ++ more) ++ b.opened = sym only.goes_on ∙ goes ∙ ap (λ (l : Trace). later ++ l) is ∙ sym (append_assoc later more b.opened) in
      own_older p later more (subst (AreOwn p) (append_cancel_right only.since (later ++ more) b.opened both) only.own)

-- the pass of a set of one pass goes on from what it has seen
served_grows : (z : Sizes) (F : Format) → z.passes ≡ 1 → (calls : AnsweredCalls) (old new : Part) → Served z F calls old new → Extends new.known old.known
served_grows z F one [] old new is = subst (λ (h : Part). Extends h.known old.known) (sym is) (extends_refl old.known)
served_grows z F one (call ∷ calls) old new (size, (mid, answers, rest)) =
    let only = answers.alone (ap (λ (y : Sizes). y.passes) size ∙ one) in
    extends_trans old.known mid.known new.known (only.since, only.goes_on) (served_grows z F one calls mid new rest)

-- Calls of a pass that had done nothing before, to which the notes' history belongs.
pub record FromFirst (b : BoardId) (F : Format) (ns : List Note) (calls : AnsweredCalls) (first : Part) : Type 0 where
  pub last : Part
  pub served : Served b.sizes F calls first last
  pub tells : TellsAlone b ns last

module _ (b : BoardId) (F : Format) (ns : List Note) (yard : Yard) (disk : Device) (locked : IsLocked b ns yard disk) (one : b.sizes.passes ≡ 1) (first looked new : Part) (low : 1 ≤ first.number) (high : first.number ≤ b.sizes.passes)
    (known : first.known ≡ b.opened) (k : ℕ) (yes : Bool) (look : HasLooked k yes first looked) (since : Extends (trace_of b.opened ns) new.known) (tells : TellsAlone b ns new) where
  -- such are the calls that it made once it had looked
  pub from_first : (calls : AnsweredCalls) → Served b.sizes F calls looked new → FromFirst b F ns calls first
  from_first [] is =
      let number : new.number ≡ first.number = ap (λ (h : Part). h.number) is ∙ look.keeps.number in
      let steps : new.steps ≡ first.steps = ap (λ (h : Part). h.steps) is ∙ look.keeps.steps in
      record { last = first; served = refl; tells = tells ∙ ap (λ (x : ℕ × List Note). marks_alone x.0 (told (shape_of_sizes b.sizes) x.1)) (λ i. (number i, steps i)) }
  from_first (call ∷ calls) (size, (mid, answers, rest)) =
      let changes = unchanged k look.answer first looked look.glances in
      let grows = served_grows b.sizes F one (call ∷ calls) looked new (size, (mid, answers, rest)) in
      let seen = extends_trans looked.known new.known (trace_of b.opened ns) grows since in
      let opens = changes.goes_on ∙ ap (λ (l : Trace). changes.since ++ l) known in
      let mine = own_first b ns yard disk locked first.number low high one looked.known changes.since seen opens in
      record { last = new; served = (sym look.keeps.sizes ∙ size, (mid, answers_since F call.0 call.1 first looked mid changes look.keeps (λ _. mine) answers, rest)); tells = tells }
