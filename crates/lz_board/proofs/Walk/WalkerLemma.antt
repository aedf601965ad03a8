-- A walker's loads: what it knows goes on as the trace does, and each load takes it further.
use Rattle.lz_machine.proofs.Frames.OneLoad as load
use Rattle.std.proofs.Common.{◌≡◌, inl, inr, ℕ, zero, suc, ◌-◌, ◌*◌, ◌<◌, ◌≤◌, nat_lt, if◌then◌else◌, Bool, true, false, [], ◌∷◌, ◌++◌, Some, refl, sym, ap}
use Rattle.std.proofs.{Common.{◌∙◌, subst, append_assoc, arith}, lemmas.Bool.Decides.{nat_tests, eqb_tells}}
use Rattle.lz_slot.specs.Limits.{most_slots}
use Rattle.lz_list.specs.declared.{flags.Flags.{Flags}, place.Place.{Place, TheVariants.{Bucket, Node}}, publishing.Publishing.{Publishing}, word.Word.{Word}}
use Rattle.lz_list.specs.declared.{word.Word.TheVariants.{Head, Link}, walk.Look.{Look, TheVariants.{AtHead, AtKey, AtMet, AtBelow}}}
use Rattle.lz_list.specs.{declared.{walk.Met.TheVariants.{Absent, Unmarked, Marked}, layout.Sizes.{Sizes}}, Words.{next_of, place_number}}
use Rattle.lz_list.specs.{Walks.{Hopped, More, End, wants, hopped, reaches, met}, Hops.{LeadsOn}, Traces.{Trace, Begins, Lawful, Adjacent, on, chain, chain_of}}
use Rattle.lz_list.specs.{Traces.{bucket_of, key_word, head_word, node_next, next_link, rank_at, flags_after, word_after}, Pinned.{Stood, IsQuiet}}
use Rattle.lz_list.proofs.Chains.{PlaceRank.{adjacent_on, adjacent_next}, TraceChain.{words_show_chain}, ChainNode.{bucket_low}}
use Rattle.lz_list.proofs.{Traces.Hindsight.{lawful_begins, key_since}, Searches.KeySearch.{next_rank}}
use Rattle.lz_machine.{specs.{Stands.{WasBetween}, CallersSound.{IsLooking}, Yards.{IsInside}}, proofs.Frames.Ranges.{stood_range}}
use Rattle.lz_machine.proofs.{Frames.Publishing.{rank_stays, pred_stood, looking_stays}, Steps.Walk.{once_some}}
use Rattle.lz_board.specs.{declared.view.Part.{Part}, Notes.{own, Extends, is_for, Since, IsShared}, Plays.{knowing, IsShownTo}}
use Rattle.lz_board.{specs.Walkers.{IsWalkable, Ended, IsOnWalk, Walked, keys_left, hops_left, IsNearer, AtWalk, IsHop}, proofs.Upkeep.Growth.{begins_of}}

-- a walk goes on, or has ended
abbrev pub GoneOn : ℕ → ℕ → Trace → Trace → Hopped → Type 0
GoneOn buckets k P0 P (More look) = IsLooking buckets k P0 P look
GoneOn buckets k P0 P (End pred curr met) = Ended buckets k P0 P pred curr met

-- What a walker knows, and how far it is from its key, stays as the trace goes on.
module _ (buckets slots : ℕ) (P0 : Trace) (k : ℕ) where
  left_stays : (e : Publishing) (P : Trace) → Lawful buckets slots (e ∷ P) → IsQuiet buckets P0 (e ∷ P) → (look : Look) → IsLooking buckets k P0 P look → hops_left k (e ∷ P) look ≡ hops_left k P look
  left_stays e P law quiet AtHead h = refl
  left_stays e P law quiet (AtKey pred s) h =
      let r = rank_stays buckets slots e P law P0 quiet.0 quiet.1 (bucket_of buckets k) (place_number pred) (pred_stood buckets slots e P law P0 quiet.0 quiet.1 k pred (suc s) h) in
      ap (λ (n : ℕ). 2 * (suc k - n)) r
  left_stays e P law quiet (AtMet pred s) h = refl
  left_stays e P law quiet (AtBelow s) h = grind (arith, rank_stays)

  pub looking_on : (more P : Trace) → Lawful buckets slots (more ++ P) → IsQuiet buckets P0 (more ++ P) → (look : Look) → IsLooking buckets k P0 P look → IsLooking buckets k P0 (more ++ P) look
  looking_on [] P law quiet look h = h
  looking_on (e ∷ more) P law quiet look h = looking_stays buckets slots e (more ++ P) law P0 quiet.0 quiet.1 k look (looking_on more P law.1 quiet.1 look h)

  pub left_on : (more P : Trace) → Lawful buckets slots (more ++ P) → IsQuiet buckets P0 (more ++ P) → (look : Look) → IsLooking buckets k P0 P look → hops_left k (more ++ P) look ≡ hops_left k P look
  left_on [] P law quiet look h = refl
  left_on (e ∷ more) P law quiet look h = left_stays e (more ++ P) law quiet look (looking_on more P law.1 quiet.1 look h) ∙ left_on more P law.1 quiet.1 look h

-- One load of a walk, at the trace P.
module _ (z : Sizes) (walkable : IsWalkable z) (P0 P : Trace) (law : Lawful z.buckets z.slots P) (quiet : IsQuiet z.buckets P0 P) (begins : Begins P0 P) (k : ℕ) where
  abbrev buckets : ℕ
  buckets = z.buckets

  abbrev slots : ℕ
  slots = z.slots

  abbrev b : ℕ
  b = bucket_of z.buckets k

  leads : (x : ℕ) → Stood buckets b P0 P x → next_link buckets b P x ≤ slots
  leads = load.leads buckets slots walkable.few P0 P law quiet begins k

  there_since : (pred : Place) (s : ℕ) → WasBetween buckets k pred (suc s) P0 P → Stood buckets b P0 P (suc s)
  there_since = load.there_since buckets slots walkable.few P0 P law quiet begins k

  -- the words that a walk wants are the table's
  pub wants_shared : (look : Look) → IsLooking buckets k P0 P look → IsShared z (wants buckets k look)
  wants_shared AtHead h = bucket_low buckets k walkable.some
  wants_shared (AtKey pred s) h = stood_range buckets slots P0 P b s law (there_since pred s h)
  wants_shared (AtMet pred s) h = stood_range buckets slots P0 P b s law (there_since pred s h.0)
  wants_shared (AtBelow s) h = stood_range buckets slots P0 P b s law h.stood

  head_next : next_of (word_after buckets P (Head b)) ≡ head_word buckets b P
  head_next = load.head_next buckets slots walkable.few P0 P law quiet begins k

  link_next : (s : ℕ) → Stood buckets b P0 P (suc s) → next_of (word_after buckets P (Link s)) ≡ node_next buckets s P
  link_next = load.link_next buckets slots walkable.few P0 P law quiet begins k

  -- the links by which it goes on lead to slots
  pub leads_on : (look : Look) → IsLooking buckets k P0 P look → LeadsOn look (word_after buckets P (wants buckets k look))
  leads_on AtHead h = subst (λ (n : ℕ). n ≤ most_slots) (sym head_next) (omega (arith, leads 0 (load.head_stood buckets slots walkable.few P0 P law quiet begins k), walkable.few))
  leads_on (AtBelow s) h = subst (λ (n : ℕ). n ≤ most_slots) (sym (link_next s h.stood)) (omega (arith, leads (suc s) h.stood, walkable.few))
  leads_on (AtKey pred s) h = tt
  leads_on (AtMet pred s) h = tt

  -- what a walk knows after the load of the word that it wants
  pub hop : (look : Look) → IsLooking buckets k P0 P look → GoneOn buckets k P0 P (hopped buckets k look (word_after buckets P (wants buckets k look)))
  hop look h = load.loaded buckets slots walkable.few P0 P law quiet begins k (GoneOn buckets k P0 P) (λ next on. on) (λ pred curr between high. (between, high)) met_node look h
    where
      met_node : (pred : Place) (s : ℕ) (flags : Flags) → WasBetween buckets k pred (suc s) P0 P → key_word s P ≡ k → flags ≡ flags_after s P → (mark : Bool) → flags.mark ≡ mark
          → GoneOn buckets k P0 P (End pred (Some s) (if mark then Marked s flags else Unmarked s flags))
      met_node pred s flags h key shown true mark = (refl, h, record { stood = there_since pred s h; key = key; shown = shown; marked = mark })
      met_node pred s flags h key shown false mark = (refl, h, record { stood = there_since pred s h; key = key; shown = shown; marked = mark })

  -- keys rise along a walk
  rises : (pred : Place) (s : ℕ) → WasBetween buckets k pred (suc s) P0 P → rank_at (λ t. key_word t P) (place_number pred) ≤ key_word s P
  rises pred s h =
      let r = once_some P0 P (λ R. Adjacent 0 (chain_of buckets k R) (place_number pred) (suc s)) h.were in
      let shown = words_show_chain buckets slots r.0 (lawful_begins buckets slots r.0 P r.2 law) b in
      let up = next_rank (next_link buckets b r.0) (λ t. key_word t r.0) 0 (chain buckets b r.0) shown.shows (place_number pred) s r.3 in
      let low = key_since buckets slots P0 b (place_number pred) r.0 P quiet r.1 r.2 (adjacent_on 0 (chain buckets b r.0) (place_number pred) (suc s) r.3) in
      let high = key_since buckets slots P0 b (suc s) r.0 P quiet r.1 r.2 (adjacent_next 0 (chain buckets b r.0) (place_number pred) (suc s) r.3 (λ none. grind arith)) in
      omega (arith, up, low, high)

  near : (look : Look) (pred : Place) (n : ℕ) → 2 * keys_left k P pred < hops_left k P look → IsNearer k P (hops_left k P look) (reaches pred n)
  near look pred zero lt = tt
  near look pred (suc s) lt = lt

  nearer_key : (pred : Place) (s word : ℕ) → WasBetween buckets k pred (suc s) P0 P → key_word s P ≡ word → IsNearer k P (hops_left k P (AtKey pred s)) (hopped buckets k (AtKey pred s) word)
  nearer_key pred s word h is = elim (eqb_tells word k) [
    | inl same ↦ rw same.0 (let low = h.low in omega (arith, low))
    | inr other ↦ rw other.0 (go (nat_lt word k) refl)
  ]
    where
      go : (below : Bool) → nat_lt word k ≡ below → IsNearer k P (hops_left k P (AtKey pred s)) (if below then More (AtBelow s) else End pred (Some s) Absent)
      go true lt =
          let low = rises pred s h in
          let less : word < k = grind (arith, nat_tests, lt) in
          omega (arith, low, less, is)
      go false ge = tt

  -- and each load takes it nearer to its key
  pub nearer : (look : Look) → IsLooking buckets k P0 P look → IsNearer k P (hops_left k P look) (hopped buckets k look (word_after buckets P (wants buckets k look)))
  nearer AtHead h = subst (λ (n : ℕ). IsNearer k P (hops_left k P AtHead) (reaches (Bucket b) n)) (sym head_next) (near AtHead (Bucket b) (head_word buckets b P) (omega arith))
  nearer (AtKey pred s) h = nearer_key pred s (key_word s P) h refl
  nearer (AtMet pred s) h = tt
  nearer (AtBelow s) h = subst (λ (n : ℕ). IsNearer k P (hops_left k P (AtBelow s)) (reaches (Node s) n)) (sym (link_next s h.stood)) (near (AtBelow s) (Node s) (node_next buckets s P) (omega arith))

-- the first look of a walk
pub first_look : (z : Sizes) → IsWalkable z → (k : ℕ) (P0 P : Trace) → IsOnWalk z k P0 P AtHead
first_look z walkable k P0 P = record { looking = tt; shared = bucket_low z.buckets k walkable.some }

own_append : (p : ℕ) (a b : Trace) → own p a ≡ [] → own p b ≡ [] → own p (a ++ b) ≡ []
own_append p [] b none rest = rest
own_append p (e ∷ a) b none rest = go (is_for p e) refl (λ less. own_append p a b less rest)
  where
    go : (mine : Bool) → is_for p e ≡ mine → (own p a ≡ [] → own p (a ++ b) ≡ []) → own p (e ∷ (a ++ b)) ≡ []
    go true is more = absurd (cc (is, none))
    go false is more = rw is (more (rw is at none))

pub since_refl : (p : ℕ) (P : Trace) → Since p P P
since_refl p P = ([], refl, refl)

pub since_trans : (p : ℕ) (P Q R : Trace) → Since p Q P → Since p R Q → Since p R P
since_trans p P Q R a b = (b.0 ++ a.0, b.1 ∙ ap (λ (l : Trace). b.0 ++ l) a.1 ∙ sym (append_assoc b.0 a.0 P), own_append p b.0 a.0 b.2 a.2)

-- what a part is shown that has seen more since
pub shown_on : (h : Part) (P seen : Trace) → Since h.number P h.known → IsShownTo seen (knowing P h) → IsShownTo seen h
shown_on h P seen since s = record { lawful = s.lawful; since = since_trans h.number h.known P seen since s.since; from = s.from; kept = s.kept }

-- what a walk knows it knows later
pub on_later : (z : Sizes) → IsWalkable z → (k : ℕ) (P0 P Q : Trace) → Lawful z.buckets z.slots Q → IsQuiet z.buckets P0 Q → Begins P0 Q → Extends Q P → (look : Look) → IsOnWalk z k P0 P look → IsOnWalk z k P0 Q look
on_later z walkable k P0 P Q law quiet begins (more, is) look on =
    let longer : IsLooking z.buckets k P0 Q look = subst (λ (R : Trace). IsLooking z.buckets k P0 R look) (sym is) (looking_on z.buckets z.slots P0 k more P (subst (λ (R : Trace). Lawful z.buckets z.slots R) is law) (subst (λ (R : Trace). IsQuiet z.buckets P0 R) is quiet) look on.looking) in
    record { looking = longer; shared = wants_shared z walkable P0 Q law quiet begins k look longer }

left_later : (z : Sizes) (k : ℕ) (P0 P Q : Trace) → Lawful z.buckets z.slots Q → IsQuiet z.buckets P0 Q → Extends Q P → (look : Look) → IsLooking z.buckets k P0 P look → hops_left k Q look ≡ hops_left k P look
left_later z k P0 P Q law quiet (more, is) look h = ap (λ (R : Trace). hops_left k R look) is ∙ left_on z.buckets z.slots P0 k more P (subst (λ (R : Trace). Lawful z.buckets z.slots R) is law) (subst (λ (R : Trace). IsQuiet z.buckets P0 R) is quiet) look h

-- THE WALKER LEMMA: one load of a walk, by a pass that is inside. It holds of a look and of a call's load alike.
pub hop_shown : (z : Sizes) → IsWalkable z → (h : Part) → h.sizes ≡ z → IsInside h.pin → (k : ℕ) (look : Look) (seen : Trace) → IsOnWalk z k h.begun h.known look → IsShownTo seen h → IsHop z k h h.known seen look (word_after z.buckets seen (wants z.buckets k look))
hop_shown z walkable h sized inside k look seen on s = record {
  shown = s;
  leads = leads_on z walkable h.begun seen law quiet begins k look longer.looking;
  walked = next (hopped z.buckets k look value) (hop z walkable h.begun seen law quiet begins k look longer.looking);
  nearer = subst (λ (n : ℕ). IsNearer k seen n (hopped z.buckets k look value)) (left_later z k h.begun h.known seen law quiet (s.since.0, s.since.1) look on.looking) (nearer z walkable h.begun seen law quiet begins k look longer.looking);
}
  where
    value : ℕ
    value = word_after z.buckets seen (wants z.buckets k look)

    law : Lawful z.buckets z.slots seen
    law = subst (λ (y : Sizes). Lawful y.buckets y.slots seen) sized s.lawful

    quiet : IsQuiet z.buckets h.begun seen
    quiet = subst (λ (y : Sizes). IsQuiet y.buckets h.begun seen) sized (s.kept inside)

    begins : Begins h.begun seen
    begins = begins_of h.begun seen s.from

    longer : IsOnWalk z k h.begun seen look
    longer = on_later z walkable k h.begun h.known seen law quiet begins (s.since.0, s.since.1) look on

    next : (x : Hopped) → GoneOn z.buckets k h.begun seen x → Walked z k h.begun seen x
    next (More look) g = record { looking = g; shared = wants_shared z walkable h.begun seen law quiet begins k look g }
    next (End pred curr met) g = g

-- the same within a walk's loop
hops : (z : Sizes) → IsWalkable z → (h now : Part) → h.sizes ≡ z → IsInside h.pin → (k : ℕ) (look : Look) (seen : Trace) → AtWalk z k h now look → IsShownTo seen now → IsHop z k h now.known seen look (word_after z.buckets seen (wants z.buckets k look))
hops z walkable h now sized inside k look seen at told =
    let s = subst (λ (g : Part). IsShownTo seen g) at.part told in
    let r = hop_shown z walkable (knowing now.known h) sized inside k look seen at.on s in
    record { shown = shown_on h now.known seen at.since s; leads = r.leads; walked = r.walked; nearer = r.nearer }

-- and as its code has it
pub hops_at : (z : Sizes) → IsWalkable z → (h now : Part) → h.sizes ≡ z → IsInside h.pin → (k : ℕ) (look : Look) (seen : Trace) (count key value : ℕ) (w : Word) → key ≡ k → count ≡ z.buckets
    → w ≡ wants count key look → value ≡ word_after z.buckets seen w → AtWalk z k h now look → IsShownTo seen now → IsHop z k h now.known seen look value
hops_at z walkable h now sized inside k look seen count key value w same_key same_buckets wanted is at told =
    let word : word_after z.buckets seen (wants z.buckets k look) ≡ value = sym (is ∙ ap (λ (v : Word). word_after z.buckets seen v) (wanted ∙ (λ i. wants (same_buckets i) (same_key i) look))) in
    subst (λ (v : ℕ). IsHop z k h now.known seen look v) word (hops z walkable h now sized inside k look seen at told)

pub hopped_as : (z : Sizes) (k : ℕ) (look : Look) (count key value : ℕ) (x : Hopped) → key ≡ k → count ≡ z.buckets → x ≡ hopped count key look value → hopped z.buckets k look value ≡ x
hopped_as z k look count key value x same_key same_buckets is = sym (is ∙ (λ i. hopped (same_buckets i) (same_key i) look value))
