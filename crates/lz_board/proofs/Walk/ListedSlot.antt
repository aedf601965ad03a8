-- A key that is settled as a member by its node in a slot: what that slot's words say, and what a glance says.
use Rattle.std.proofs.Common.{◌≡◌, ◌≢◌, ◌⊎◌, inl, inr, ℕ, zero, suc, ◌<◌, ◌≤◌, ◌^◌, Bool, true, false, not, Some, IfSome, refl, sym, ap, ◌∙◌, subst, arith}
use Rattle.std.proofs.lemmas.Bool.{cases_eq}
use mathlib.Core.Bool.{false≢true}
use Rattle.lz_slot.specs.Limits.{most_slots}
use Rattle.lz_list.specs.{declared.{word.Word.TheVariants.{Link}, layout.Sizes.{Sizes}}, Words.{flags_of}, Traces.{Trace, Begins, has_key, on, bucket_of}}
use Rattle.lz_list.specs.Traces.{chain_of, key_word, next_link, node_next, is_marked, has_added, flags_after, word_after, Lawful, IsNode}
use Rattle.lz_list.proofs.{Tables.PackedLink.{mark_of_link, added_of_link}, Chains.{PlaceRank.{adjacent, adjacent_next}, TraceChain.{words_show_chain}}}
use Rattle.lz_list.proofs.Traces.{Absence.{begins_itself, unlinked_is_settled}, Hindsight.{lawful_begins}, NodeBits.{linking_apart, node}}
use Rattle.lz_list.proofs.Traces.TraceWords.{node_of_key}
use Rattle.lz_machine.proofs.Frames.Ranges.{on_range}
use Rattle.lz_board.specs.{declared.{view.Part.{Part}, answer.Glance.{Glance, TheVariants.{Yes, No, Unsettled}}}, Plays.{IsShownTo, knowing}}
use Rattle.lz_board.specs.{Walkers.{key_if, IsGlance}, Glances.{Between, Glanced, GlancedUnsettled}, Listings.{IsDurableIn, WasAway}}
use Rattle.lz_board.proofs.{Walk.WalkerLemma.{shown_on}, Upkeep.Growth.{begins_of}}
use Rattle.lz_flush.specs.{declared.need.Need.{Need, TheVariants.{Now, Sync as asks_sync}}, Settling.{may_answer}}

module _ (buckets slots s k : ℕ) (R : Trace) (law : Lawful buckets slots R) (d : IsDurableIn s k R) where
  has_node : (b : Bool) → has_key k (chain_of buckets k R) ≡ b → has_key k (chain_of buckets k R) ≡ true
  has_node true is = is
  has_node false is = absurd (false≢true (sym (unlinked_is_settled buckets k slots R law is).0 ∙ d.settled.member))

  pub its_node : (on 0 (chain_of buckets k R) (suc s) ≡ true) × (key_word s R ≡ k) × IsNode k s R
  its_node =
      let shown = words_show_chain buckets slots R law (bucket_of buckets k) in
      let at = node_of_key (next_link buckets (bucket_of buckets k) R) (λ t. key_word t R) k 0 (chain_of buckets k R) shown.shows (has_node (has_key k (chain_of buckets k R)) refl) in
      let its = node buckets slots k at.0 R law at.1 at.2 in
      let same : at.0 ≡ s = linking_apart at.0 s R (its.same ∙ sym d.here) (subst (λ (n : ℕ). 0 < n) (sym its.same) its.some) in
      subst (λ (t : ℕ). (on 0 (chain_of buckets k R) (suc t) ≡ true) × (key_word t R ≡ k) × IsNode k t R) same (at.1, at.2, its)

  -- its slot has its key, no mark and the flag of its adding
  pub key_here : key_word s R ≡ k
  key_here = its_node.1

  pub no_mark : is_marked s R ≡ false
  no_mark = unmarked (is_marked s R) refl
    where
      unmarked : (b : Bool) → is_marked s R ≡ b → is_marked s R ≡ false
      unmarked false is = is
      unmarked true is = absurd (false≢true (sym (its_node.2.is_member ∙ ap not is) ∙ d.settled.member))

  pub added : has_added s R ≡ true
  added = its_node.2.added ∙ d.settled.settled

  pub answers : may_answer (flags_after s R) ≡ Now
  answers = rw (no_mark, added) refl

  small : slots ≤ most_slots → node_next buckets s R < 2 ^ 32
  small few = go (node_next buckets s R) refl
    where
      go : (n : ℕ) → node_next buckets s R ≡ n → n < 2 ^ 32
      go zero is = omega arith
      go (suc t) is =
          let b = bucket_of buckets k in
          let near = adjacent (next_link buckets b R) (λ t. key_word t R) 0 (chain_of buckets k R) (words_show_chain buckets slots R law b).shows (suc s) its_node.0 in
          let there = adjacent_next 0 (chain_of buckets k R) (suc s) (node_next buckets s R) near (λ none. omega (arith, is, none)) in
          let low = on_range buckets slots R b t law (subst (λ (n : ℕ). on 0 (chain_of buckets k R) n ≡ true) is there) in
          omega (arith, low, few)

  -- and so says its link word
  pub word_no_mark : slots ≤ most_slots → (flags_of (word_after buckets R (Link s))).mark ≡ false
  word_no_mark few = mark_of_link (node_next buckets s R) (small few) (flags_after s R) ∙ no_mark

  pub word_added : slots ≤ most_slots → (flags_of (word_after buckets R (Link s))).add_settled ≡ true
  word_added few = added_of_link (node_next buckets s R) (small few) (flags_after s R) ∙ added

module _ (buckets slots s k : ℕ) (P Q : Trace) (law : Lawful buckets slots Q) where
  -- a slot whose key is another, or whose flags are others, at a trace from P to Q
  pub other_key : (R : Trace) → Between P R Q → key_word s R ≢ k → WasAway s k P Q
  other_key R between other = record { then = R; between = between; away = λ d. other (key_here buckets slots s k R (lawful_begins buckets slots R Q between.upto law) d) }

  -- a glance at its key says no, or that it isn't settled
  pub glanced_no : Glanced k P Q false → WasAway s k P Q
  glanced_no g = record { then = g.then; between = g.between; away = λ d. false≢true (sym g.settled.no_member ∙ d.settled.member) }

  pub glanced_unsettled : (t : ℕ) → GlancedUnsettled k t P Q → WasAway s k P Q
  glanced_unsettled t g = record {
    then = g.then;
    between = g.between;
    away = λ d.
        let same : t ≡ s = linking_apart t s g.then (g.in_slot ∙ sym d.here) (subst (λ (n : ℕ). 0 < n) (sym g.in_slot) g.some) in
        let now : may_answer (flags_after t g.then) ≡ Now = subst (λ (q : ℕ). may_answer (flags_after q g.then) ≡ Now) (sym same) (answers buckets slots s k g.then (lawful_begins buckets slots g.then Q g.between.upto law) d) in
        apart (sym now ∙ g.asks);
  }
    where
      apart : Now ≡ asks_sync → ⊥
      apart is = subst (λ (n : Need). IsNow n) is tt
        where
          IsNow : Need → Type 0
          IsNow Now = Unit {0}
          IsNow asks_sync = ⊥

-- What a pass that is inside learns of a slot: by its link word, by its key word, and by a glance at that key.
module _ (z : Sizes) (h : Part) (sized : h.sizes ≡ z) (s k : ℕ) where
  law : (seen : Trace) → IsShownTo seen h → Lawful z.buckets z.slots seen
  law seen shown = subst (λ (y : Sizes). Lawful y.buckets y.slots seen) sized shown.lawful

  pub by_link : (seen : Trace) (value : ℕ) → IsShownTo seen h → z.slots ≤ most_slots → value ≡ word_after z.buckets seen (Link s)
      → ((flags_of value).mark ≡ true) ⊎ ((flags_of value).add_settled ≡ false) → WasAway s k h.begun seen
  by_link seen value shown few is which = record {
    then = seen;
    between = record { from = begins_of h.begun seen shown.from; upto = begins_itself seen };
    away = λ d. elim which [
      | inl mark ↦ false≢true (sym (ap (λ (v : ℕ). (flags_of v).mark) is ∙ word_no_mark z.buckets z.slots s k seen (law seen shown) d few) ∙ mark)
      | inr none ↦ false≢true (sym none ∙ ap (λ (v : ℕ). (flags_of v).add_settled) is ∙ word_added z.buckets z.slots s k seen (law seen shown) d few)
    ];
  }

  pub by_key : (seen last : Trace) (value : ℕ) → IsShownTo seen h → IsShownTo last h → Begins seen last → value ≡ key_word s seen → value ≢ k → WasAway s k h.begun last
  by_key seen last value shown later upto is other =
      other_key z.buckets z.slots s k h.begun last (law last later) seen (record { from = begins_of h.begun seen shown.from; upto = upto }) (λ same. other (is ∙ same))

-- what such a glance at the slot's key tells of all keys
pub told_if : (key : ℕ) (P Q : Trace) (g : Glance) → IsGlance key P Q g → IfSome (key_if g key) (λ k. Glanced k P Q true)
told_if key P Q Yes glanced = glanced
told_if key P Q No glanced = tt
told_if key P Q (Unsettled t) glanced = tt

pub others_if : (z : Sizes) (h : Part) (sized : h.sizes ≡ z) (s k key : ℕ) (last : Trace) → IsShownTo last h → (g : Glance) → IsGlance key h.begun last g
    → (key ≢ k → WasAway s k h.begun last) → (key_if g key ≡ Some k) ⊎ WasAway s k h.begun last
others_if z h sized s k key last shown g glanced other = elim (cases_eq key k) [
  | inl same ↦ go g (subst (λ (j : ℕ). IsGlance j h.begun last g) same glanced) same
  | inr apart ↦ inr (other apart)
]
  where
    go : (g : Glance) → IsGlance k h.begun last g → key ≡ k → (key_if g key ≡ Some k) ⊎ WasAway s k h.begun last
    go Yes glanced same = inl (ap Some same)
    go No glanced same = inr (glanced_no z.buckets z.slots s k h.begun last (law z h sized s k last shown) glanced)
    go (Unsettled t) glanced same = inr (glanced_unsettled z.buckets z.slots s k h.begun last (law z h sized s k last shown) t glanced)

pub not_true : (b : Bool) → not b ≡ true → b ≡ false
not_true false is = refl
not_true true is = absurd (false≢true is)

-- What a part is shown by two loads and by a walk, one after the other.
pub record AllShown (h p2 : Part) (last : Trace) : Type 0 where
  pub second : IsShownTo p2.known h
  pub third : IsShownTo last h
  pub same : p2 ≡ knowing p2.known h
  pub upto : Begins p2.known last

pub all_shown : (h p1 p2 : Part) (last : Trace) → IsShownTo p1.known h → p1 ≡ knowing p1.known h → IsShownTo p2.known p1 → p2 ≡ knowing p2.known p1 → IsShownTo last p2 → AllShown h p2 last
all_shown h p1 p2 last one is two then three =
    let second = shown_on h p1.known p2.known one.since (subst (λ (g : Part). IsShownTo p2.known g) is two) in
    let same : p2 ≡ knowing p2.known h = then ∙ ap (λ (g : Part). knowing p2.known g) is in
    record {
      second = second;
      third = shown_on h p2.known last second.since (subst (λ (g : Part). IsShownTo last g) same three);
      same = same;
      upto = begins_of p2.known last (three.since.0, three.since.1);
    }
