-- What the rule says between any two steps: of the words, of what passes have seen, and of slots that are prepared again.
use Rattle.std.proofs.Common.{◌≡◌, inr, ℕ, suc, ◌∷◌, true, sym, subst}
use Rattle.atomic_table.specs.Table.{State}
use Rattle.lz_list.specs.declared.publishing.Publishing.{Publishing, TheVariants.{Linked as linked, Marked as marked, Unlinked as unlinked, Settled as settled}}
use Rattle.lz_list.specs.declared.publishing.Publishing.TheVariants.{KeyPrepared as key_prepared, LinkPrepared as link_prepared, Halted as halted}
use Rattle.lz_list.{specs.{Traces.{Trace, Lawful, on, chain, bucket_of}, Pinned.{Stood, IsKept, IsQuiet}}, proofs.Traces.Absence.{begins_itself}}
use Rattle.lz_list.proofs.Traces.{Hindsight.{once_from, lawful_begins, quiet_begins}, WalkEnd.{begins_before}}
use Rattle.lz_board.specs.{declared.view.{Note.{Note}, Part.{Part}, View.{View}, Opening.{Opening}}, Kept.{PartFits}, Opened.{opened_by}, Handles.{holds_of}}
use Rattle.lz_board.specs.Laws.{IsPass, IsPublished, Prepares, LeavesFirst, WordsFollowTheTrace, PassesSeeBeginnings, SlotsAreLeftFirst}
use Rattle.lz_board.proofs.Upkeep.Growth.{begins_of}

module _ (o : Opening) (s : State Note View) (k : holds_of o s) where
  published : IsPublished o.sizes (opened_by o.words.value) s k.notes
  published = record { pens = λ v is pen. ((k.views is.0 v is.1).whole pen).3; lawful = k.lawful; words = k.words }

  fits : (h : Part) (is : IsPass s h) → PartFits o.sizes (opened_by o.words.value) k.notes k.owner s.words is.1.0 h
  fits h is = (k.views is.1.0 is.0 is.1.1).parts h is.2

-- a slot that was unlinked since P0 stood on a chain since
module _ (buckets slots : ℕ) (P0 P : Trace) (law : Lawful buckets slots P) (quiet : IsQuiet buckets P0 P) where
  never : (s : ℕ) (e : Publishing) (R : Trace) → IsKept buckets P0 e R → Prepares s e → (b : ℕ) → Stood buckets b P0 R (suc s) → ⊥
  never s (key_prepared t v) R kept is b stood = kept b (subst (λ (x : ℕ). Stood buckets b P0 R (suc x)) (sym is) stood)
  never s (link_prepared t v) R kept is b stood = kept b (subst (λ (x : ℕ). Stood buckets b P0 R (suc x)) (sym is) stood)
  never s (linked j t p) R kept is b stood = is
  never s (marked j t p) R kept is b stood = is
  never s (unlinked j t p) R kept is b stood = is
  never s (settled t c) R kept is b stood = is
  never s halted R kept is b stood = is

  leaves_first : LeavesFirst P0 P
  leaves_first k s p e U R from since to prepares =
      let kept = (quiet_begins buckets P0 (e ∷ R) P to quiet).0 in
      let lawful = (lawful_begins buckets slots (e ∷ R) P to law).1 in
      let there = (lawful_begins buckets slots (unlinked k s p ∷ U) R since lawful).0.stands in
      let before = begins_before U (unlinked k s p ∷ U) R (inr (begins_itself U)) since in
      never s e R kept prepares (bucket_of buckets k) (once_from P0 U R (λ Q. on 0 (chain buckets (bucket_of buckets k) Q) (suc s) ≡ true) from before there)

pub words_follow_the_trace : WordsFollowTheTrace
words_follow_the_trace o s k = (k.notes, published o s k)

pub passes_see_beginnings : PassesSeeBeginnings
passes_see_beginnings o s k = (
  k.notes,
  published o s k,
  λ h is. let f = fits o s k h is in record { seen = f.knows.since; begun = begins_of _ _ f.knows.from; steps = f.knows.noted; pin = f.pinned },
)

pub slots_are_left_first : SlotsAreLeftFirst
slots_are_left_first o s k = (
  k.notes,
  published o s k,
  λ h is inside. leaves_first o.sizes.buckets o.sizes.slots h.begun _ k.lawful ((fits o s k h is).knows.kept inside),
)
