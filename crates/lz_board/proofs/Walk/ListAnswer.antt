-- What the look at the slots of a page tells to a list.
use Rattle.std.proofs.Common.{◌≡◌, ℕ, suc, Option, List, Result, Ok, Err, IfOk, IfErr, arith}
use Rattle.lz_list.specs.Traces.{Trace, Begins, halt_word}
use Rattle.lz_board.specs.declared.{answer.GlanceFault.TheVariants.{Halted, Worn, BusyPass}, page.{Page.{Page}, ListFault.{ListFault}}}
use Rattle.lz_board.specs.{declared.{page.ListFault.TheVariants.{Memory, Glance}, view.Part.{Part}}, Notes.{Since}, Glances.{IsUnhalted}}
use Rattle.lz_board.{specs.Listings.{reached, IsPage, WentInside, Lists}, proofs.{Upkeep.Growth.{begins_of}, Walk.WalkerLemma.{since_trans}}}
use Rattle.lz_board.proofs.Walk.{GlanceAnswer.{halt_since, no_changes, unhalted_before}, ListedMore.{listed_longer}}

-- a page stays one for who had seen less before and has seen more after
page_longer : (slots from most : ℕ) (told : List ℕ) (next : Option ℕ) (A P Q B : Trace) → Begins A P → Begins Q B → IsPage slots from most told next P Q → IsPage slots from most told next A B
page_longer slots from most told next A P Q B before after page = record {
  listed = listed_longer A P Q B before after from (reached slots next) told page.listed;
  few = page.few;
  each = page.each;
  near = page.near;
  stops = page.stops;
}

-- the rows of a list that was inside from P to Q
pub list_rows : (slots from most : ℕ) (before after : Part) (P Q : Trace) → Since before.number P before.known → Since before.number Q P → Since before.number after.known Q → after.pin ≡ suc (suc before.pin)
    → (r : Result Page ListFault) → IfOk r (λ page. IsPage slots from most page.keys.items page.next P Q) → IfOk r (λ page. IsUnhalted P) → IfErr r (λ f. (f ≡ Glance Halted) × (halt_word Q ≡ 1)) → Lists slots from most r before after
list_rows slots from most before after P Q a b c pin r ok un err = go r ok un err
  where
    went : WentInside before after
    went = record {
      changes = no_changes before.number before.known after.known (since_trans before.number before.known Q after.known (since_trans before.number before.known P Q a b) c);
      pin = pin;
    }

    go : (r : Result Page ListFault) → IfOk r (λ page. IsPage slots from most page.keys.items page.next P Q) → IfOk r (λ page. IsUnhalted P) → IfErr r (λ f. (f ≡ Glance Halted) × (halt_word Q ≡ 1)) → Lists slots from most r before after
    go (Ok page) ok un err = (
      page_longer slots from most page.keys.items page.next before.known P Q after.known (begins_of before.known P (a.0, a.1)) (begins_of Q after.known (c.0, c.1)) ok,
      went,
      unhalted_before before.number before.known P a (λ is. omega (arith, un, is)),
    )
    go (Err (Glance Halted)) ok un err = (halt_since Q after.known (c.0, c.1) err.1, went)
    go (Err (Glance Worn)) ok un err = absurd cc
    go (Err (Glance BusyPass)) ok un err = absurd cc
    go (Err Memory) ok un err = absurd cc
