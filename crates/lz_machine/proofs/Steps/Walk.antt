-- A load on a walk keeps the invariant: what the walk relies on next follows from the word that it loaded.
use Rattle.std.proofs.lemmas.Bool.Decides.{nat_tests}
use Rattle.std.proofs.Common.{◌≡◌, inl, inr, ℕ, suc, ◌≤◌, if◌then◌else◌, not, Bool, true, false, List, [], ◌∷◌, Option, Some, None, refl, sym, ap, ◌∙◌, arith}
use Rattle.lz_slot.specs.{declared.{format.Format.{Format}, command.Command.{Command, TheVariants.{Add, Remove, Has}}}, Limits.{most_slots}, Sets.{key_of}}
use Rattle.lz_list.specs.declared.{place.Place.{Place}, flags.Flags.{Flags}, walk.{Look.{Look}, Met.TheVariants.{Absent, Unmarked, Marked}}}
use Rattle.lz_list.specs.{Words.{Words, get, place_number, link_to}, Walks.{wants, hopped}}
use Rattle.lz_list.specs.{Traces.{Trace, Begins, bucket_of, key_word, is_marked, flags_after, SettledNo}, Pinned.{Once, Stood, IsQuiet}, Laws.{IsHigh}}
use Rattle.lz_list.proofs.Traces.{Absence.{begins_itself}, Hindsight.{absent_since}, NodeBits.{node}}
use Rattle.lz_list.proofs.Traces.WalkEnd.{left_surely, marked_rests, unmarked_rests, removed_later}
use Rattle.lz_flush.specs.{declared.need.Need.{Need, TheVariants.{Now, Sync as needs_sync}}, Settling.{may_answer}}
use Rattle.lz_machine.specs.declared.{event.Reply.{Reply, TheVariants.{Yes, No}}, actor.Actor.{Actor}, caller.Progress.{Progress, TheVariants.{Answering}}}
use Rattle.lz_machine.specs.{Yards.{Shape}, Calls.{walked, hops_on, rests}, Stands.{WasBetween}}
use Rattle.lz_machine.specs.CallersSound.{View, HasLetGo, IsAimed, MayAim, IsLooking, HasMet, RestsYes, RestsNo, WasAbsent, MayRest, Relies, is_before_pin}
use Rattle.lz_machine.{specs.Sound.{TraceSound}, proofs.Frames.{Ranges.{added_tells, removed_tells}, OneLoad.{there_since, loaded, wanted}}}
use Rattle.lz_vault.specs.Stages.{Cell}

-- what a call relies on next, inside
pub record GoesOn (v : View) (c : Command) (next : Progress) (P0 P : Trace) (changed : Option ℕ) : Type 0 where
  pub relies : Relies v c next P0 P changed
  pub inside : is_before_pin next ≡ false

-- some trace since the pin
pub once_some : (P0 P : Trace) (A : Trace → Type 0) → Once P0 P A → (R : Trace) × Begins P0 R × Begins R P × A R
once_some P0 [] A once = ([], once.0, refl, once.1)
once_some P0 (e ∷ P) A (inl now) = (e ∷ P, now.0, inl refl, now.1)
once_some P0 (e ∷ P) A (inr before) = let r = once_some P0 P A before in (r.0, r.1, inr r.2, r.3)

pub no_since : (k : ℕ) (P0 P : Trace) → Once P0 P (λ R. SettledNo R P k) → RestsNo k P0 P
no_since k P0 P once = let r = once_some P0 P (λ R. SettledNo R P k) once in record { then = r.0; since = record { from = r.1; upto = r.2 }; settled = r.3 }

-- what is settled at a trace is settled later
absent_rests : (k : ℕ) (P0 P : Trace) → Once P0 P (λ R. SettledNo R R k) → RestsNo k P0 P
absent_rests k P0 P once = grind (arith, nat_tests, once_some, removed_later)

absent_then : (k : ℕ) (P0 P : Trace) → Once P0 P (λ R. SettledNo R R k) → WasAbsent k P0 P
absent_then k P0 P once = let r = once_some P0 P (λ R. SettledNo R R k) once in record { then = r.0; since = record { from = r.1; upto = r.2 }; gone = r.3.no_member }

-- flags by which an answer may be given at once
unmarked_settled : (flags : Flags) → flags.mark ≡ false → may_answer flags ≡ Now → flags.add_settled ≡ true
unmarked_settled flags mark now = grind (arith, mark, now)

marked_settled : (flags : Flags) → flags.mark ≡ true → may_answer flags ≡ Now → flags.remove_settled ≡ true
marked_settled flags mark now = grind (arith, mark, now)

module _ (shape : Shape) (words : Words) (P : Trace) (trace : TraceSound shape words P) (few : shape.slots ≤ most_slots) (P0 : Trace) (quiet : IsQuiet shape.buckets P0 P) (begins : Begins P0 P) where
  abbrev buckets : ℕ
  buckets = shape.buckets

  abbrev slots : ℕ
  slots = shape.slots

  module _ (passes : ℕ) (format : Format) (cells : List Cell) (dead : Bool) (actor : Actor) (changed : Option ℕ) where
    abbrev v : View
    v = record { buckets = buckets; passes = passes; format = format; cells = cells; dead = dead; actor = actor }

    answers_no : (k : ℕ) → HasLetGo v changed → RestsNo k P0 P → (GoesOn v (Has k) (Answering No) P0 P changed) × (GoesOn v (Remove k) (Answering No) P0 P changed)
    answers_no k fresh gone = (record { relies = ((fresh.none, gone), inl fresh.hold); inside = refl }, record { relies = ((fresh.none, gone), inl fresh.hold); inside = refl })

    answers_yes : (k : ℕ) → HasLetGo v changed → RestsYes k P0 P → (GoesOn v (Has k) (Answering Yes) P0 P changed) × (GoesOn v (Add k) (Answering No) P0 P changed)
    answers_yes k fresh there = (record { relies = ((fresh.none, there), inl fresh.hold); inside = refl }, record { relies = ((fresh.none, there), inl fresh.hold); inside = refl })

    -- it has passed the key's place
    absent_after : (c : Command) (aim : Option ℕ) (pred : Place) (curr : Option ℕ) → HasLetGo v changed → IsAimed v (key_of c) P aim → MayAim c aim → WasBetween buckets (key_of c) pred (link_to curr) P0 P → IsHigh (key_of c) (link_to curr) P → GoesOn v c (walked c aim pred curr Absent) P0 P changed
    absent_after (Has k) aim pred curr fresh aimed may between high = (answers_no k fresh (absent_rests k P0 P (absent_since buckets slots P0 k (place_number pred) (link_to curr) P trace.lawful quiet between.were between.low high))).0
    absent_after (Remove k) aim pred curr fresh aimed may between high = (answers_no k fresh (absent_rests k P0 P (absent_since buckets slots P0 k (place_number pred) (link_to curr) P trace.lawful quiet between.were between.low high))).1
    absent_after (Add k) None pred curr fresh aimed may between high = record {
      relies = (fresh, aimed, tt, absent_then k P0 P (absent_since buckets slots P0 k (place_number pred) (link_to curr) P trace.lawful quiet between.were between.low high));
      inside = refl;
    }
    absent_after (Add k) (Some s) pred curr fresh aimed may between high = record { relies = (fresh, aimed, (between, inl high)); inside = refl }

    since : (k : ℕ) (pred : Place) (s : ℕ) → WasBetween buckets k pred (suc s) P0 P → Stood buckets (bucket_of buckets k) P0 P (suc s)
    since k = there_since buckets slots few P0 P trace.lawful quiet begins k

    met_now : (k s : ℕ) (mark : Bool) → Stood buckets (bucket_of buckets k) P0 P (suc s) → key_word s P ≡ k → is_marked s P ≡ mark → HasMet buckets k s mark P0 P
    met_now k s mark stood key is = record { then = P; since = record { from = begins; upto = begins_itself P }; stood = stood; key = key; met = is }

    module _ (k s : ℕ) (stood : Stood buckets (bucket_of buckets k) P0 P (suc s)) (key : key_word s P ≡ k) (flags : Flags) (fresh : HasLetGo v changed) where
      -- it rests on the node that it met, where its last change isn't settled
      rests_on : (c : Command) (reply : Reply) → MayRest buckets c reply s P0 P → (need : Need) → (need ≡ Now → GoesOn v c (Answering reply) P0 P changed) → GoesOn v c (rests s need reply) P0 P changed
      rests_on c reply rest Now answer = answer refl
      rests_on c reply rest needs_sync answer = record { relies = (fresh, rest); inside = refl }

      -- a settled node tells at once
      unmarked_now : flags ≡ flags_after s P → flags.mark ≡ false → may_answer flags ≡ Now → RestsYes k P0 P
      unmarked_now shown mark now = record {
        then = P;
        since = record { from = begins; upto = begins_itself P };
        settled = unmarked_rests buckets slots P0 k s P P trace.lawful quiet stood key (begins_itself P) (sym (ap (λ (f : Flags). f.mark) shown) ∙ mark)
            (added_tells buckets slots s P trace.lawful (sym (ap (λ (f : Flags). f.add_settled) shown) ∙ unmarked_settled flags mark now));
      }

      marked_now : flags ≡ flags_after s P → flags.mark ≡ true → may_answer flags ≡ Now → RestsNo k P0 P
      marked_now shown mark now = grind (arith, no_since, marked_rests, begins_itself, removed_tells, marked_settled)

    -- where it is marked, the key was no member
    marked_gone : (k s : ℕ) → Stood buckets (bucket_of buckets k) P0 P (suc s) → key_word s P ≡ k → is_marked s P ≡ true → WasAbsent k P0 P
    marked_gone k s stood key mark = elim (left_surely buckets slots P0 k s P trace.lawful quiet stood key) [
      | inl there ↦ record { then = P; since = record { from = begins; upto = begins_itself P }; gone = (node buckets slots k s P trace.lawful there key).is_member ∙ ap not mark }
      | inr gone ↦ absent_then k P0 P gone.0
    ]

    -- it has met the key's node, unmarked or marked
    met_after : (c : Command) (aim : Option ℕ) (pred : Place) (s : ℕ) (flags : Flags) → HasLetGo v changed → IsAimed v (key_of c) P aim → MayAim c aim → WasBetween buckets (key_of c) pred (suc s) P0 P → key_word s P ≡ key_of c
        → flags ≡ flags_after s P → (mark : Bool) → flags.mark ≡ mark → GoesOn v c (walked c aim pred (Some s) (if mark then Marked s flags else Unmarked s flags)) P0 P changed
    met_after c aim pred s flags fresh aimed may between key shown mark is = grind (arith, nat_tests, since, rests_on, met_now, answers_yes, unmarked_now, answers_no, marked_now, marked_gone)

    -- what follows a load
    pub hop_after : (c : Command) (aim : Option ℕ) (look : Look) → HasLetGo v changed → IsAimed v (key_of c) P aim → MayAim c aim → IsLooking buckets (key_of c) P0 P look → GoesOn v c (hops_on c aim (hopped buckets (key_of c) look (get words (wants buckets (key_of c) look)))) P0 P changed
    hop_after c aim look fresh aimed may h = rw (wanted shape words P trace few P0 quiet begins (key_of c) look h)
        (loaded buckets slots few P0 P trace.lawful quiet begins (key_of c) (λ x. GoesOn v c (hops_on c aim x) P0 P changed)
        (λ next on. record { relies = (fresh, aimed, on, may); inside = refl })
        (λ pred curr between high. absent_after c aim pred curr fresh aimed may between high)
        (λ pred s flags between key shown mark is. met_after c aim pred s flags fresh aimed may between key shown mark is)
        look h)
