-- What a load gives: the word that the trace decides.
use Rattle.std.proofs.Common.{◌≡◌, ℕ, ◌<◌, ◌≤◌, ◌^◌, List, get_or, ap, ◌∙◌, arith}
use Rattle.lz_slot.specs.Limits.{most_slots}
use Rattle.lz_list.specs.{declared.word.Word.TheVariants.{Head, Link, Key}, Words.{Words, get, link_with, next_of, flags_of}}
use Rattle.lz_list.specs.Traces.{Trace, bucket_of, key_word, node_next, head_word, is_marked, has_added, has_removed, flags_after, word_after}
use Rattle.lz_list.proofs.Tables.{WordTable.{table_at}, PackedLink.{next_of_link, mark_of_link, added_of_link, removed_of_link, small_next}}
use Rattle.lz_machine.{specs.{Yards.{Shape}, Sound.{TraceSound}}, proofs.Frames.Ranges.{head_range}}

module _ (shape : Shape) (words : Words) (P : Trace) (trace : TraceSound shape words P) (few : shape.slots ≤ most_slots) where
  pub bucket_range : (k : ℕ) → bucket_of shape.buckets k < shape.buckets
  unfolding bucket_of
  bucket_range k = omega (arith, trace.some)

  pub head_load : (b : ℕ) → b < shape.buckets → get words (Head b) ≡ head_word shape.buckets b P
  head_load b lt = ap (λ (l : List ℕ). get_or l b 0) trace.heads ∙ table_at shape.buckets (λ b. word_after shape.buckets P (Head b)) b 0 lt

  pub link_load : (s : ℕ) → s < shape.slots → get words (Link s) ≡ link_with (node_next shape.buckets s P) (flags_after s P)
  link_load s lt = ap (λ (l : List ℕ). get_or l s 0) trace.links ∙ table_at shape.slots (λ s. word_after shape.buckets P (Link s)) s 0 lt

  pub key_load : (s : ℕ) → s < shape.slots → get words (Key s) ≡ key_word s P
  key_load s lt = ap (λ (l : List ℕ). get_or l s 0) trace.keys ∙ table_at shape.slots (λ s. word_after shape.buckets P (Key s)) s 0 lt

  small_link : (s : ℕ) → node_next shape.buckets s P < 2 ^ 32
  small_link s = omega (arith, trace.small s, few)

  pub head_next : (b : ℕ) → b < shape.buckets → next_of (get words (Head b)) ≡ head_word shape.buckets b P
  head_next b lt = ap next_of (head_load b lt) ∙ small_next (head_word shape.buckets b P) (omega (arith, head_range shape.buckets shape.slots P b trace.lawful, few))

  pub link_next : (s : ℕ) → s < shape.slots → next_of (get words (Link s)) ≡ node_next shape.buckets s P
  link_next s lt = ap next_of (link_load s lt) ∙ next_of_link (node_next shape.buckets s P) (small_link s) (flags_after s P)

  pub link_mark : (s : ℕ) → s < shape.slots → (flags_of (get words (Link s))).mark ≡ is_marked s P
  link_mark s lt = ap (λ (w : ℕ). (flags_of w).mark) (link_load s lt) ∙ mark_of_link (node_next shape.buckets s P) (small_link s) (flags_after s P)

  pub link_added : (s : ℕ) → s < shape.slots → (flags_of (get words (Link s))).add_settled ≡ has_added s P
  link_added s lt = ap (λ (w : ℕ). (flags_of w).add_settled) (link_load s lt) ∙ added_of_link (node_next shape.buckets s P) (small_link s) (flags_after s P)

  pub link_removed : (s : ℕ) → s < shape.slots → (flags_of (get words (Link s))).remove_settled ≡ has_removed s P
  link_removed s lt = ap (λ (w : ℕ). (flags_of w).remove_settled) (link_load s lt) ∙ removed_of_link (node_next shape.buckets s P) (small_link s) (flags_after s P)
