-- One store for each publishing: the words are those after the longer trace.
use Rattle.std.proofs.Common.{◌≡◌, ◌≢◌, ◌⊎◌, inl, inr, ℕ, zero, suc, ◌<◌, ◌≤◌, ◌==◌, true, false, List, ◌∷◌, refl, sym, ap, ◌∙◌, subst, arith}
use Rattle.std.{proofs.lemmas.Bool.Decides.{nat_tests}, specs.Prelude.{slice_set}}
use Rattle.lz_slot.specs.Limits.{most_slots}
use Rattle.lz_list.specs.declared.{place.Place.{Place, TheVariants.{Bucket, Node}}, publishing.Publishing.{Publishing, TheVariants.{Linked as linked}}}
use Rattle.lz_list.specs.declared.publishing.Publishing.TheVariants.{Marked as marked, Unlinked as unlinked, KeyPrepared as key_prepared}
use Rattle.lz_list.specs.declared.publishing.Publishing.TheVariants.{LinkPrepared as link_prepared}
use Rattle.lz_list.specs.declared.word.Word.TheVariants.{Head as head_at, Link as link_at, Key as key_at}
use Rattle.lz_list.specs.{Words.{Words, get, set, redirect, place_number, link_with, next_of, flags_of, marked_flags, change_flags}, Traces.{Trace, Lawful}}
use Rattle.lz_list.specs.Traces.{May, IsLoose, place_of, bucket_of, key_word, node_next, next_link, head_word, halt_word, flags_after, word_after, table}
use Rattle.lz_list.proofs.{Tables.WordTable.{table_set}, Chains.TraceChain.{linked_at, linked_off, unlinked_at, unlinked_off}}
use Rattle.lz_machine.{specs.{Yards.{Shape}, Stands.{InBucket}, Sound.{TraceSound}}, proofs.Frames.Ranges.{small_stays}}
use Rattle.lz_machine.proofs.Frames.LoadedWord.{bucket_range, link_next, link_mark, link_added, link_removed}

-- tables of functions that agree
pub table_same : (n : ℕ) (f g : ℕ → ℕ) → ((i : ℕ) → g i ≡ f i) → table n f ≡ table n g
table_same zero f g same = refl
table_same (suc n) f g same = cc (table_same n f g same, same n)

module _ (shape : Shape) (words : Words) (P : Trace) (trace : TraceSound shape words P) (few : shape.slots ≤ most_slots) where
  abbrev buckets : ℕ
  buckets = shape.buckets

  -- a node is marked
  module _ (k s p : ℕ) (lt : s < shape.slots) (may : May shape.buckets shape.slots (marked k s p) P) where
    marked_word : link_with (next_of (get words (link_at s))) (marked_flags (flags_of (get words (link_at s)))) ≡ word_after buckets (marked k s p ∷ P) (link_at s)
    marked_word = grind (arith, nat_tests, link_next, link_added, link_removed)

    marked_other : (t : ℕ) → t ≢ s → word_after buckets (marked k s p ∷ P) (link_at t) ≡ word_after buckets P (link_at t)
    marked_other t other = let apart : (s == t) ≡ false = grind (arith, nat_tests, other) in cc apart

    pub trace_marked : TraceSound shape (change_flags marked_flags words s) (marked k s p ∷ P)
    trace_marked = grind (arith, nat_tests, table_set, marked_word, marked_other)

  -- a key is written
  module _ (s v : ℕ) (lt : s < shape.slots) (loose : IsLoose shape.buckets s P) where
    key_same : key_word s (key_prepared s v ∷ P) ≡ v
    key_same = let same : (s == s) ≡ true = grind (arith, nat_tests) in rw same refl

    key_other : (t : ℕ) → t ≢ s → key_word t (key_prepared s v ∷ P) ≡ key_word t P
    key_other t other = let apart : (s == t) ≡ false = grind (arith, nat_tests, other) in rw apart refl

    pub trace_key : TraceSound shape (set words (key_at s) v) (key_prepared s v ∷ P)
    trace_key = grind (arith, table_set, key_same, key_other)

    -- a next link is written, without bits
    link_same : word_after buckets (link_prepared s v ∷ P) (link_at s) ≡ v
    link_same = let same : (s == s) ≡ true = grind (arith, nat_tests) in rw same (omega arith)

    link_other : (t : ℕ) → t ≢ s → word_after buckets (link_prepared s v ∷ P) (link_at t) ≡ word_after buckets P (link_at t)
    link_other t other = let apart : (s == t) ≡ false = grind (arith, nat_tests, other) in cc apart

    pub trace_link : v ≤ shape.slots → TraceSound shape (set words (link_at s) v) (link_prepared s v ∷ P)
    trace_link short = grind (arith, nat_tests, small_stays, table_set, link_same, link_other)

  -- the place before k is redirected, by a linking or an unlinking
  redirected : (e : Publishing) (k n : ℕ) (pred : Place) → Lawful shape.buckets shape.slots (e ∷ P) → ((t : ℕ) → node_next buckets t (e ∷ P) ≤ shape.slots)
      → InBucket buckets k pred → ((t : ℕ) → pred ≡ Node t → t < shape.slots)
      → next_link buckets (bucket_of buckets k) (e ∷ P) (place_number pred) ≡ n
      → ((t : ℕ) → suc t ≢ place_number pred → node_next buckets t (e ∷ P) ≡ node_next buckets t P)
      → ((b : ℕ) → (b ≢ bucket_of buckets k) ⊎ (place_number pred ≢ 0) → head_word buckets b (e ∷ P) ≡ head_word buckets b P)
      → ((t : ℕ) → flags_after t (e ∷ P) ≡ flags_after t P) → ((t : ℕ) → key_word t (e ∷ P) ≡ key_word t P) → halt_word (e ∷ P) ≡ halt_word P
      → TraceSound shape (redirect words pred n) (e ∷ P)
  redirected e k n (Bucket b) law small bucket range at node_off head_off flags word halt =
      let lt : b < shape.buckets = subst (λ (q : ℕ). q < shape.buckets) (sym bucket) (bucket_range shape words P trace few k) in
      record {
        lawful = law;
        some = trace.some;
        small = small;
        heads = ap (λ (l : List ℕ). slice_set l b n) trace.heads ∙ table_set shape.buckets (λ c. word_after buckets P (head_at c))
            (λ c. word_after buckets (e ∷ P) (head_at c)) b n lt (subst (λ (q : ℕ). head_word buckets q (e ∷ P) ≡ n) (sym bucket) at)
            (λ c other. head_off c (inl (λ same. other (same ∙ sym bucket))));
        links = trace.links ∙ table_same shape.slots (λ t. word_after buckets P (link_at t)) (λ t. word_after buckets (e ∷ P) (link_at t)) (λ t. cc (node_off t (λ is. absurd (omega (arith, is))), flags t));
        keys = trace.keys ∙ table_same shape.slots (λ t. word_after buckets P (key_at t)) (λ t. word_after buckets (e ∷ P) (key_at t)) word;
        halt = trace.halt ∙ sym halt;
        pins = trace.pins;
      }
  redirected e k n (Node t) law small bucket range at node_off head_off flags word halt =
      let lt : t < shape.slots = range t refl in
      record {
        lawful = law;
        some = trace.some;
        small = small;
        heads = trace.heads ∙ table_same shape.buckets (λ c. word_after buckets P (head_at c)) (λ c. word_after buckets (e ∷ P) (head_at c)) (λ c. head_off c (inr (λ is. absurd (omega (arith, is)))));
        links = ap (λ (l : List ℕ). slice_set l t (link_with n (flags_of (get words (link_at t))))) trace.links
            ∙ table_set shape.slots (λ u. word_after buckets P (link_at u)) (λ u. word_after buckets (e ∷ P) (link_at u)) t _ lt
            (cc (at, flags t, link_mark shape words P trace few t lt, link_added shape words P trace few t lt, link_removed shape words P trace few t lt))
            (λ u other. cc (node_off u (λ is. other (omega (arith, is))), flags u));
        keys = trace.keys ∙ table_same shape.slots (λ u. word_after buckets P (key_at u)) (λ u. word_after buckets (e ∷ P) (key_at u)) word;
        halt = trace.halt ∙ sym halt;
        pins = trace.pins;
      }

  -- a node is linked after the place before its key
  pub trace_linked : (k s p : ℕ) (pred : Place) → May shape.buckets shape.slots (linked k s p) P → InBucket buckets k pred → ((t : ℕ) → pred ≡ Node t → t < shape.slots) → place_of buckets k P ≡ place_number pred
      → TraceSound shape (redirect words pred (suc s)) (linked k s p ∷ P)
  trace_linked k s p pred may bucket range at =
      redirected (linked k s p) k (suc s) pred (may, trace.lawful) (small_stays buckets shape.slots (linked k s p) P (may, trace.lawful) tt trace.small) bucket range
      (linked_at buckets k s p P (place_number pred) (sym at))
      (λ t other. linked_off buckets k s p P 0 (suc t) (λ is. other (is ∙ at)))
      (λ b why. head_off b why)
      (λ t. refl) (λ t. refl) refl
    where
      head_off : (b : ℕ) → (b ≢ bucket_of buckets k) ⊎ (place_number pred ≢ 0) → head_word buckets b (linked k s p ∷ P) ≡ head_word buckets b P
      head_off b h = grind (arith, nat_tests)

  -- a node is taken out from after the place before its key
  pub trace_unlinked : (k s p : ℕ) (pred : Place) → May shape.buckets shape.slots (unlinked k s p) P → InBucket buckets k pred → ((t : ℕ) → pred ≡ Node t → t < shape.slots) → place_of buckets k P ≡ place_number pred
      → TraceSound shape (redirect words pred (node_next buckets s P)) (unlinked k s p ∷ P)
  trace_unlinked k s p pred may bucket range at =
      redirected (unlinked k s p) k (node_next buckets s P) pred (may, trace.lawful) (small_stays buckets shape.slots (unlinked k s p) P (may, trace.lawful) tt trace.small) bucket range
      (unlinked_at buckets k s p P (place_number pred) (sym at))
      (λ t other. unlinked_off buckets k s p P 0 (suc t) (λ is. other (is ∙ at)))
      (λ b why. head_off b why)
      (λ t. refl) (λ t. refl) refl
    where
      head_off : (b : ℕ) → (b ≢ bucket_of buckets k) ⊎ (place_number pred ≢ 0) → head_word buckets b (unlinked k s p ∷ P) ≡ head_word buckets b P
      head_off b h = grind (arith, nat_tests)
