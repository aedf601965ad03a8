-- One adding to a freshly made set of one slot, in any format, is a run; and each state that is reached may leave a text.
use Rattle.std.proofs.lemmas.Bool.Decides.{nat_tests}
use Rattle.std.proofs.Common.{◌≡◌, ◌≢◌, ℕ, zero, suc, ◌<◌, ◌≤◌, false, List, [], ◌∷◌, slice_get, take, Some, is_some, refl, sym, ◌∙◌, subst, arith}
use mathlib.Core.Bool.{false≢true}
use Rattle.lz_slot.specs.declared.{format.Format.{Format, TheVariants.{One, Two, Three, Four}}, slot.SlotRead.TheVariants.{Closed, Member, BadKey}}
use Rattle.lz_slot.specs.{Limits.{most_slots_of}, Bytes.{open_byte, header_body, format_of, slot_at}, Rooms.{largest_of}, Histories.{Life, lives}}
use Rattle.lz_slot.proofs.Files.ExactBytes.{zero_fits}
use Rattle.lz_vault.specs.{Stages.{Cell, Suits}, Members.{no_cell}}
use Rattle.lz_list.specs.Traces.{bucket_of}
use Rattle.lz_disk.specs.Images.{IsImage, IsSound, at_rest}
use Rattle.lz_machine.specs.declared.event.Outcome.TheVariants.{Done, Value, Slot, Taken, True, NotNow}
use Rattle.lz_machine.specs.OneAdd.{is_bytewise, one_slot, one_add, OneAddRuns, LeavesText}
use Rattle.lz_machine.specs.Runs.{Start, IsStart, State, Transition, Point, IsRun, MayLeave, disk_of, run, first_point, made_text, start_keys}
use Rattle.lz_machine.{specs.Sound.{PointSound}, proofs.{Open.Texts.{text_bytes}, Theorem.Reached.{reached_sound}}}

-- what was just made
closed_slot : (F : Format) → slot_at (made_text F 1) 0 ≡ Closed
closed_slot F = grind (arith, nat_tests)

made_head : (F : Format) → take 16 (made_text F 1) ≡ open_byte ∷ header_body (format_of (made_text F 1)) 1
made_head F = grind (arith, nat_tests)

made_room : (F : Format) → 1 ≤ most_slots_of (format_of (made_text F 1))
made_room F = grind (arith, nat_tests)

made_suits : (F : Format) → Suits (format_of (made_text F 1)) (at_rest (is_bytewise F) (made_text F 1))
made_suits F is = grind (arith, nat_tests)

no_bad : (F : Format) (i : ℕ) → i < 1 → slot_at (made_text F 1) i ≢ BadKey
no_bad F zero lt bad = absurd (cc (closed_slot F, bad))
no_bad F (suc i) lt bad = absurd (omega (arith, lt))

no_member : (F : Format) (i k : ℕ) → i < 1 → slot_at (made_text F 1) i ≢ Member k
no_member F zero k lt is = absurd (cc (closed_slot F, is))
no_member F (suc i) k lt is = absurd (omega (arith, lt))

no_key : (F : Format) (k : ℕ) → start_keys (one_slot F) k ≡ false
no_key F k = grind (arith, nat_tests)

-- the key of a slot that was just made is one of any format
fresh_keys : (F : Format) (i : ℕ) (cell : Cell) → slice_get (no_cell ∷ []) i ≡ Some cell → cell.key ≤ largest_of F
fresh_keys F i cell is = grind (arith, nat_tests, zero_fits, false≢true, is_some)

starts : (F : Format) → IsStart (one_slot F)
starts F = record {
  buckets = (omega arith, omega arith);
  passes = (omega arith, omega arith);
  bytes = text_bytes F (no_cell ∷ []) (fresh_keys F);
  text = record {
    count = (omega arith, made_room F);
    size = refl;
    head = made_head F;
    no_bad_key = no_bad F;
    no_key_twice = λ i j k one two first second. omega (arith, one, two);
    set = λ k. (λ has. absurd (false≢true (sym (no_key F k) ∙ has)), λ found. absurd (no_member F found.0 k found.1 found.2));
  };
  suits = made_suits F;
}

-- an outcome that isn't NotNow
done : Done ≢ NotNow
done = λ h. cc

valued : (value : ℕ) → Value value ≢ NotNow
valued value = λ h. cc

given : (s : ℕ) → Slot s ≢ NotNow
given s = λ h. cc

taken : Taken ≢ NotNow
taken = λ h. cc

passed : True ≢ NotNow
passed = λ h. cc

-- each of the fifteen turns may be taken, the last one first
runs : (F : Format) → IsRun (first_point (one_slot F)) one_add
unfolding bucket_of
runs One = (done, (done, (done, (done, (done, (done, (passed, (taken, (valued 0, (done, (done, (given 0, (valued 0, (valued 0, (done, (((omega arith, omega arith), refl, refl, omega arith), tt))))))))))))))))
runs _ = (done, (done, (done, (done, (done, (done, (passed, (taken, (valued 0, (done, (done, (given 0, (valued 0, (valued 0, (done, (((omega arith, omega arith), refl, refl, omega arith), tt))))))))))))))))

pub one_add_runs : OneAddRuns
unfolding bucket_of
one_add_runs One = record { starts = starts One; runs = runs One; marks = refl; calls = refl }
one_add_runs Two = record { starts = starts Two; runs = runs Two; marks = refl; calls = refl }
one_add_runs Three = record { starts = starts Three; runs = runs Three; marks = refl; calls = refl }
one_add_runs Four = record { starts = starts Four; runs = runs Four; marks = refl; calls = refl }

-- what is durable, and what is read now, are images of the disk
sound_disk : (start : Start) (p : Point) (w : State) (L : List Life) → PointSound start p L → p.state ≡ w → IsSound (disk_of w)
sound_disk start p w L sound is = grind arith

pub run_sound : (start : Start) (steps : List Transition) → IsStart start → IsRun (first_point start) steps → IsSound (disk_of (run (first_point start) steps).state)
run_sound start steps is runs =
    let p = run (first_point start) steps in
    sound_disk start p p.state (lives (start_keys start) p.marks) (reached_sound start steps is runs) refl

-- a crash may leave each image of the disk
pub image_left : (w : State) (t : List ℕ) → IsImage (disk_of w) t → MayLeave w t
image_left w t image = grind (arith, nat_tests)

pub leaves_text : LeavesText
leaves_text start w M P reached =
    let sound = subst (λ (v : State). IsSound (disk_of v)) reached.state (run_sound start reached.steps reached.starts reached.runs) in
    ((disk_of w).seen, image_left w (disk_of w).seen sound.seen)
