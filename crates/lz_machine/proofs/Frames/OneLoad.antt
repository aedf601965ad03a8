-- One load of a walk: what holds where a walk goes on and where it ends holds after each load, by hindsight.
use Rattle.std.proofs.Common.{◌≡◌, ℕ, zero, suc, ◌<◌, ◌≤◌, ◌^◌, nat_lt, if◌then◌else◌, Bool, true, Option, Some, refl, sym, subst, arith}
use Rattle.std.proofs.lemmas.Bool.Decides.{nat_tests, eqb_tells}
use Rattle.lz_slot.specs.Limits.{most_slots}
use Rattle.lz_list.specs.declared.{flags.Flags.{Flags}, place.Place.{Place, TheVariants.{Bucket, Node}}, word.Word.TheVariants.{Head, Link}, walk.Look.{Look}}
use Rattle.lz_list.specs.declared.walk.{Look.TheVariants.{AtHead, AtKey, AtMet, AtBelow}, Met.TheVariants.{Absent, Unmarked, Marked}}
use Rattle.lz_list.specs.{Words.{Words, get, flags_of, next_of, link_to, place_number}, Walks.{Hopped, More, End, wants, hopped, reaches}}
use Rattle.lz_list.specs.Traces.{Trace, Begins, Lawful, on, chain, bucket_of, key_word, head_word, node_next, next_link, flags_after, word_after}
use Rattle.lz_list.{specs.{Pinned.{Stood, IsQuiet}, Laws.{IsHigh}}, proofs.Chains.PlaceRank.{on_start}}
use Rattle.lz_list.proofs.{Tables.PackedLink.{next_of_link, mark_of_link, added_of_link, removed_of_link, small_next}, Traces.Absence.{begins_itself}}
use Rattle.lz_list.proofs.Traces.Hindsight.{once_from, hindsight, next_stood}
use Rattle.lz_machine.{specs.{Stands.{WasBetween}, CallersSound.{IsLooking}, Yards.{Shape}, Sound.{TraceSound}}, proofs.Frames.Ranges.{stood_range, head_range}}
use Rattle.lz_machine.proofs.Frames.LoadedWord.{bucket_range, head_load, link_load, key_load}

module _ (buckets slots : ℕ) (few : slots ≤ most_slots) (P0 P : Trace) (law : Lawful buckets slots P) (quiet : IsQuiet buckets P0 P) (begins : Begins P0 P) (k : ℕ) where
  abbrev b : ℕ
  b = bucket_of buckets k

  -- a place that stood on the chain leads to the end, or to a slot that stood there too
  pub leads : (x : ℕ) → Stood buckets b P0 P x → next_link buckets b P x ≤ slots
  leads x stood = go (next_link buckets b P x) refl
    where
      go : (n : ℕ) → next_link buckets b P x ≡ n → n ≤ slots
      go zero is = omega arith
      go (suc s) is = stood_range buckets slots P0 P b s law (subst (λ (n : ℕ). Stood buckets b P0 P n) is (next_stood buckets slots P0 b x (next_link buckets b P x) P (hindsight buckets slots P0 b x P law quiet stood) (λ none. grind (arith, is, none))))

  pub there_since : (pred : Place) (s : ℕ) → WasBetween buckets k pred (suc s) P0 P → Stood buckets b P0 P (suc s)
  there_since pred s h = next_stood buckets slots P0 b (place_number pred) (suc s) P h.were (λ none. grind arith)

  pub head_stood : Stood buckets b P0 P 0
  head_stood = once_from P0 P P (λ R. on 0 (chain buckets b R) 0 ≡ true) begins (begins_itself P) (on_start 0 (chain buckets b P))

  pub head_next : next_of (word_after buckets P (Head b)) ≡ head_word buckets b P
  head_next = small_next (head_word buckets b P) (omega (arith, head_range buckets slots P b law, few))

  node_small : (s : ℕ) → Stood buckets b P0 P (suc s) → node_next buckets s P < 2 ^ 32
  node_small s stood = omega (arith, leads (suc s) stood, few)

  pub link_next : (s : ℕ) → Stood buckets b P0 P (suc s) → next_of (word_after buckets P (Link s)) ≡ node_next buckets s P
  link_next s stood = next_of_link (node_next buckets s P) (node_small s stood) (flags_after s P)

  link_flags : (s : ℕ) → Stood buckets b P0 P (suc s) → flags_of (word_after buckets P (Link s)) ≡ flags_after s P
  link_flags s stood = grind (arith, nat_tests, mark_of_link, node_small, added_of_link, removed_of_link)

  module _ (A : Hopped → Type 0) (more : (look : Look) → IsLooking buckets k P0 P look → A (More look))
      (past : (pred : Place) (curr : Option ℕ) → WasBetween buckets k pred (link_to curr) P0 P → IsHigh k (link_to curr) P → A (End pred curr Absent))
      (meets : (pred : Place) (s : ℕ) (flags : Flags) → WasBetween buckets k pred (suc s) P0 P → key_word s P ≡ k → flags ≡ flags_after s P
      → (mark : Bool) → flags.mark ≡ mark → A (End pred (Some s) (if mark then Marked s flags else Unmarked s flags))) where
    -- along a next link
    reached : (pred : Place) (n : ℕ) → WasBetween buckets k pred n P0 P → A (reaches pred n)
    reached pred n h = grind (arith, nat_tests)

    -- by the node's key
    compared : (pred : Place) (s word : ℕ) → WasBetween buckets k pred (suc s) P0 P → key_word s P ≡ word → A (hopped buckets k (AtKey pred s) word)
    compared pred s word h is = grind (arith, nat_tests, eqb_tells, nat_lt, there_since)

    pub loaded : (look : Look) → IsLooking buckets k P0 P look → A (hopped buckets k look (word_after buckets P (wants buckets k look)))
    loaded AtHead h = subst (λ (n : ℕ). A (reaches (Bucket b) n)) (sym head_next) (reached (Bucket b) (head_word buckets b P) (record { bucket = refl; low = omega arith; were = hindsight buckets slots P0 b 0 P law quiet head_stood }))
    loaded (AtKey pred s) h = compared pred s (key_word s P) h refl
    loaded (AtMet pred s) h = meets pred s (flags_of (word_after buckets P (Link s))) h.0 h.1 (link_flags s (there_since pred s h.0)) (flags_of (word_after buckets P (Link s))).mark refl
    loaded (AtBelow s) h = subst (λ (n : ℕ). A (reaches (Node s) n)) (sym (link_next s h.stood)) (reached (Node s) (node_next buckets s P) (record { bucket = tt; low = h.low; were = hindsight buckets slots P0 b (suc s) P law quiet h.stood }))

-- the word that a walk wants is that of the trace
module _ (shape : Shape) (words : Words) (P : Trace) (trace : TraceSound shape words P) (few : shape.slots ≤ most_slots) (P0 : Trace) (quiet : IsQuiet shape.buckets P0 P) (begins : Begins P0 P) (k : ℕ) where
  pub wanted : (look : Look) → IsLooking shape.buckets k P0 P look → get words (wants shape.buckets k look) ≡ word_after shape.buckets P (wants shape.buckets k look)
  wanted AtHead h = head_load shape words P trace few (bucket_of shape.buckets k) (bucket_range shape words P trace few k)
  wanted (AtKey pred s) h = key_load shape words P trace few s (stood_range shape.buckets shape.slots P0 P (bucket_of shape.buckets k) s trace.lawful (there_since shape.buckets shape.slots few P0 P trace.lawful quiet begins k pred s h))
  wanted (AtMet pred s) h = link_load shape words P trace few s (stood_range shape.buckets shape.slots P0 P (bucket_of shape.buckets k) s trace.lawful (there_since shape.buckets shape.slots few P0 P trace.lawful quiet begins k pred s h.0))
  wanted (AtBelow s) h = link_load shape words P trace few s (stood_range shape.buckets shape.slots P0 P (bucket_of shape.buckets k) s trace.lawful h.stood)
