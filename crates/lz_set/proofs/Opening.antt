-- A set that was just opened.
use Rattle.std.proofs.Common.{◌≡◌, ◌≤◌, [], ℕ, All, List, length, map, refl, sym, ap, ◌∙◌, subst}
use Rattle.lz_slot.specs.Limits.{most_buckets, most_passes}
use Rattle.lz_disk.specs.Devices.{Device}
use Rattle.lz_list.specs.{Words.{Words}, declared.layout.Sizes.{Sizes}, Addresses.{sizes_in}}
use Rattle.lz_machine.specs.Yards.{Yard}
use Rattle.lz_yard.specs.Filling.{OpensYard}
use Rattle.lz_board.specs.{declared.{board.Pen.{Pen}, pass.Pass.{Pass}}, Opened.{opened_by}, Plays.{parts_from}, Seats.{BoardId, IsNew, IsPenOf, notes, part}}
use Rattle.lz_refinement.{specs.Holds.{sizes_of}, proofs.Start.OpenedYard.{opened_locked, opened_sizes}}
use Rattle.lz_set.{specs.Blanks.{IsBlank}, proofs.Members.{begins_with}}

pub blank : (b : BoardId) (p : Pen) (before after : Device) (B S : ℕ) (y : Yard) (w : Words) (ps : List Pass) → OpensYard before after B S y → w ≡ y.words
    → b.sizes ≡ sizes_in w → b.opened ≡ opened_by w → IsPenOf b p → notes p ≡ []
    → length ps ≡ length w.pins → All (IsNew b) ps → map (λ q. part q) ps ≡ parts_from b.sizes b.opened (length w.pins) 1
    → (1 ≤ B) × (B ≤ most_buckets) → (1 ≤ S) × (S ≤ most_passes) → IsBlank b p y after ps B
blank b p before after B S y w ps opens words sizes opened pen none count new parts some_buckets some_passes =
    let first = opens.first in
    let large : b.sizes ≡ sizes_of y.shape = sizes ∙ ap sizes_in words ∙ opened_sizes y first.text first.starts first.yard in
    let pins : length w.pins ≡ b.sizes.passes = sym (ap (λ (z : Sizes). z.passes) sizes) in
    let B_is : B ≡ b.sizes.buckets = sym opens.buckets ∙ sym (ap (λ (z : Sizes). z.buckets) large) in
    let S_is : length ps ≡ S = count ∙ pins ∙ ap (λ (z : Sizes). z.passes) large ∙ opens.passes in
    record {
      pen = pen;
      notes = none;
      locked = opened_locked b [] before after B S y opens (sizes ∙ ap sizes_in words) (opened ∙ ap opened_by words) refl;
      passes = record { new = new; parts = subst (λ (n : ℕ). map (λ q. part q) ps ≡ parts_from b.sizes b.opened n 1) pins parts };
      sized = record {
        buckets = (B_is, some_buckets.0, some_buckets.1);
        passes = (count ∙ pins, subst (λ (n : ℕ). 1 ≤ n) (sym S_is) some_passes.0, subst (λ (n : ℕ). n ≤ most_passes) (sym S_is) some_passes.1);
      };
      begins = begins_with b before after B S y opens (opened ∙ ap opened_by words);
    }
