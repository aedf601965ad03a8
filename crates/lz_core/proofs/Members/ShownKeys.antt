-- The keys that a yard shows: those of its slots that are members. Of a yard that was just opened they are the keys found.
use Rattle.lz_machine.proofs.Theorem.ShownChains as showing
use Rattle.std.proofs.lemmas.{Bool.{cases_eq, or_cases, Decides.{nat_tests, leb_tells}}, List.{length-map, Elements.{All-cons}}, Option.{slice_get-get_or}}
use Rattle.std.proofs.Common.{◌≡◌, inl, inr, ◌↔◌, ℕ, suc, ◌+◌, ◌<◌, ◌≤◌, ◌==◌, ◌||◌, Bool, true, false, IsTrue, List, [], ◌∷◌, length, map, Option, Some}
use Rattle.std.{proofs.Common.{Result, Ok, Err, IfOk, refl, sym, ap, ◌∙◌, subst, arith}, specs.List.{All}}
use mathlib.Core.Bool.{false≢true}
use Rattle.lz_slot.specs.{Limits.{largest_key, most_slots}, Sets.{Keys, members}, Histories.{Life}, Bytes.{Holds, held}}
use Rattle.lz_slot.proofs.Files.ExactBytes.{key_of_format}
use Rattle.lz_disk.specs.{Images.{Medium, IsImage, AreBytes, at_rest}, Devices.{Device}, Records.{Past, after}}
use Rattle.lz_list.specs.{Words.{Words}, Lists.{home, IsMember}}
use Rattle.lz_list.{specs.Traces.{Trace, Chain, IsFound, has_key, insert, on, chain, chain_of, bucket_of, key_word, member}, proofs.Traces.Absence.{has_insert}}
use Rattle.lz_list.proofs.{Traces.{OpeningTrace.{opening_members}, TraceWords.{members_after}}, Chains.SortedChain.{node_on, node_slot}}
use Rattle.lz_vault.specs.{Opens.{keys_of as cell_keys}, Members.{no_cell}}
use Rattle.lz_machine.specs.Yards.{Shape, Yard, cell_read, slots_read, first_trace, opened_yard}
use Rattle.lz_machine.specs.{Runs.{Service, Up, Point, Start, by_key, keys_found, opened_service}, Points.{IsReached}, Notes.{Notes}, Sound.{IsSound, UpSound}}
use Rattle.lz_machine.proofs.{Crash.ImageSlots.{node_stands}, Open.{FoundSlots.{first_notes}, FirstState.{opened_up}, FirstNodes.{held_found}}}
use Rattle.lz_machine.proofs.{Open.ListedKeys.{any_key, key_by}, Frames.{LoadedWord.{bucket_range}, Ranges.{few_slots}}, Theorem.Reached.{up_at, reached_sound}}
use Rattle.lz_yard.{specs.{Filling.{OpensYard}, Parts.{YardOver}}, proofs.Opening.SlotReads.{read_length}}
use Rattle.lz_core.specs.{declared.open_calls.OpenCall.{OpenCall}, Worlds.{Ascend, IsAmong, IsWorld, Shows, call_shown, state_shown}}
use Rattle.lz_core.proofs.Members.AscendingKeys.{eq_of, first_of, later_of}
use Rattle.lz_judge.specs.MarkLines.{AscendFrom}

-- in a sound open service
module _ (n calls : ℕ) (service : Service) (disk : Medium) (life : Life) (P : Trace) (notes : Notes) (up : UpSound n calls service disk life P notes) where
  abbrev at : Yard
  at = service.yard

  abbrev words : Words
  words = service.yard.words

  few : at.shape.slots ≤ most_slots
  few = few_slots up.sound.images

  -- a member is the key of one of the slots
  is_among : (k : ℕ) → IsMember words k → IsAmong words (length words.links) k
  is_among k is =
      let trace = up.sound.trace in
      let s = is.0 in
      let low : s < length words.links = node_slot words (home words k) k s is.1 in
      let lt : s < at.shape.slots = omega (arith, low, showing.links_are at.shape words P trace few words refl refl refl) in
      let at_home : home words k ≡ bucket_of at.shape.buckets k = ap (λ (n : ℕ). bucket_of n k) (showing.heads_are at.shape words P trace few words refl refl refl) in
      let in_table : home words k < at.shape.buckets = subst (λ (b : ℕ). b < at.shape.buckets) (sym at_home) (bucket_range at.shape words P trace few k) in
      let stands : on 0 (chain at.shape.buckets (home words k) P) (suc s) ≡ true = node_on words (home words k) k s (chain at.shape.buckets (home words k) P) (showing.shows at.shape words P trace few words refl refl refl (home words k) in_table) is.1 in
      let word : key_word s P ≡ k = sym (showing.key_is at.shape words P trace few words refl refl refl s lt) ∙ is.1.key in
      let there : on 0 (chain_of at.shape.buckets (key_word s P) P) (suc s) ≡ true = subst (λ (b : ℕ). on 0 (chain at.shape.buckets b P) (suc s) ≡ true) (at_home ∙ ap (bucket_of at.shape.buckets) (sym word)) stands in
      let node = node_stands n calls at service.callers disk life.history P notes up.sound s lt there in
      let cell = slice_get-get_or at.vault.cells s no_cell (omega (arith, lt, up.sound.images.count)) in
      let high = key_of_format at.vault.format _ (up.sound.images.keys s _ cell) in
      (s, low, (is.1.key, is, omega (arith, high, node.0.key, word)))

  pub among_members : (k : ℕ) → IsAmong words (length words.links) k ↔ IsMember words k
  among_members k = ((λ among. among.2.1), is_among k)

-- where a run has led
pub members_reached : (start : Start) (p : Point) (service : Service) (disk : Medium) → IsReached start p → p.state ≡ Up service disk
    → (k : ℕ) → IsAmong service.yard.words (length service.yard.words.links) k ↔ IsMember service.yard.words k
members_reached start p service disk reached is =
    let sound : IsSound start p = subst (IsSound start) reached.point (reached_sound start reached.steps reached.starts reached.runs) in
    let here = up_at start p service disk sound is in
    among_members here.n p.calls service disk here.life p.trace here.notes here.up

-- a world shows the keys that are among its slots
pub world_members : (shape : Shape) (yard : Option (YardOver Past)) (disk : Option Past) (callers : List (Option OpenCall)) (calls : ℕ) (over : YardOver Past)
    → IsWorld shape yard disk callers calls → yard ≡ Some over
    → (keys : List ℕ) → ((k : ℕ) → (members keys k ≡ true) ↔ IsAmong over.yard.words (length over.yard.words.links) k) → Shows (state_shown shape yard disk callers) keys
world_members shape yard disk callers calls over world is keys same =
    let ran = world.ran in
    let among = members_reached ran.start ran.point (record { yard = over.yard; callers = map call_shown callers }) (after over.disk.bytewise over.disk.start over.disk.records) ran.reached
    (ran.at.state ∙ ap (λ (q : Option (YardOver Past)). state_shown shape q disk callers) is) in
    subst (λ (q : Option (YardOver Past)). Shows (state_shown shape q disk callers) keys) (sym is)
    (λ k. ((λ there. (among k).0 ((same k).0 there)), (λ there. (same k).1 ((among k).1 there))))

-- all keys of a list are above one where its members are
from_all : (x : ℕ) (ys : List ℕ) → All (λ j. x < j) ys → (k : ℕ) → members ys k ≡ true → x < k
from_all x [] all k is = absurd (false≢true is)
from_all x (y ∷ ys) all k is = elim (or_cases (y == k) (members ys k) is) [
  | inl same ↦ let first = all 0 y (omega arith) in omega (arith, first, eq_of y k same)
  | inr later ↦ from_all x ys (λ i d within. all (suc i) d (omega arith)) k later
]

to_all : (x : ℕ) (ys : List ℕ) → ((k : ℕ) → members ys k ≡ true → x < k) → All (λ j. x < j) ys
to_all x [] above = λ i d within. omega arith
to_all x (y ∷ ys) above = All-cons (λ j. x < j) y ys (above y (first_of y ys)) (to_all x ys (λ k is. above k (later_of y k ys is)))

-- the keys of a yard's slots ascend as those of a history do
from_least : (least : ℕ) (ks : List ℕ) → Ascend ks → ((k : ℕ) → members ks k ≡ true → (least ≤ k) × (k ≤ largest_key)) → AscendFrom least ks
from_least least [] up within = tt
from_least least (k ∷ ks) up within =
    let here = within k (first_of k ks) in
    (here.0, here.1, from_least (k + 1) ks up.1 (λ j is. let above = from_all k ks up.0 j is in (omega (arith, above), (within j (later_of k j ks is)).1)))

pub ascend_from : (w : Words) (n : ℕ) (ks : List ℕ) → ((k : ℕ) → (members ks k ≡ true) ↔ IsAmong w n k) → Ascend ks → AscendFrom 0 ks
ascend_from w n ks same up = grind (arith, nat_tests, from_least)

-- ascending lists with the same members are one
pub same_keys : (xs ys : List ℕ) → Ascend xs → Ascend ys → ((k : ℕ) → members xs k ≡ true → members ys k ≡ true) → ((k : ℕ) → members ys k ≡ true → members xs k ≡ true) → xs ≡ ys
same_keys [] [] up up' in' out = refl
same_keys [] (y ∷ ys) up up' in' out = absurd (false≢true (out y (first_of y ys)))
same_keys (x ∷ xs) [] up up' in' out = absurd (false≢true (in' x (first_of x xs)))
same_keys (x ∷ xs) (y ∷ ys) up up' in' out = elim (or_cases (y == x) (members ys x) (in' x (first_of x xs))) [
  | inl same ↦
      let is : y ≡ x = eq_of y x same in
      ap (λ (q : ℕ). q ∷ xs) (sym is) ∙ ap (λ (l : List ℕ). y ∷ l) (same_keys xs ys up.1 up'.1 (rest x y xs ys up.0 in' is) (rest y x ys xs up'.0 out (sym is)))
  | inr later ↦ elim (or_cases (x == y) (members xs y) (out y (first_of y ys))) [
    | inl same ↦ let low = from_all y ys up'.0 x later in absurd (omega (arith, low, eq_of x y same))
    | inr after ↦ let low = from_all y ys up'.0 x later in let high = from_all x xs up.0 y after in absurd (omega (arith, low, high))
  ]
]
  where
    rest : (x y : ℕ) (xs ys : List ℕ) → All (λ j. x < j) xs → ((k : ℕ) → members (x ∷ xs) k ≡ true → members (y ∷ ys) k ≡ true) → y ≡ x → (k : ℕ) → members xs k ≡ true → members ys k ≡ true
    rest x y xs ys all in' same k is = elim (or_cases (y == k) (members ys k) (in' k (later_of x k xs is))) [
      | inl first ↦ let low = from_all x xs all k is in absurd (omega (arith, low, same, eq_of y k first))
      | inr later ↦ later
    ]

-- the keys of a chain
abbrev keys_of : Chain → List ℕ
keys_of c = map (λ (f : ℕ × ℕ). f.0) c

-- an insertion keeps them ascending
ascend_key : (k s : ℕ) (c : Chain) → Ascend (keys_of c) → has_key k c ≡ false → Ascend (keys_of (insert k s c))
ascend_key k s [] up none = ((λ i d within. omega arith), tt)
ascend_key k s (f ∷ c) up none = elim (leb_tells (suc f.0) k) [
  | inl e ↦ rw e.0 (to_all f.0 (keys_of (insert k s c)) (later (e.1)), ascend_key k s c up.1 (none_later (f.0 == k) (has_key k c) none))
  | inr g ↦ rw g.0 (to_all k (keys_of (f ∷ c)) (from (lower g.1)), up)
]
  where
    none_later : (a b : Bool) → (a || b) ≡ false → b ≡ false
    none_later true b is = absurd (false≢true (sym is))
    none_later false b is = is

    later : f.0 < k → (j : ℕ) → members (keys_of (insert k s c)) j ≡ true → f.0 < j
    later low j is = elim (or_cases (k == j) (has_key j c) (sym (has_insert j k s c) ∙ sym (any_key j (insert k s c)) ∙ is)) [
      | inl same ↦ omega (arith, low, eq_of k j same)
      | inr rest ↦ from_all f.0 (keys_of c) up.0 j (any_key j c ∙ rest)
    ]

    apart : f.0 ≡ k → ⊥
    apart same = false≢true (sym none ∙ ap (λ (q : ℕ). has_key q (f ∷ c)) (sym same) ∙ sym (any_key f.0 (f ∷ c)) ∙ first_of f.0 (keys_of c))

    lower : k < suc f.0 → k < f.0
    lower low = elim (cases_eq f.0 k) [ inl same ↦ absurd (apart same) | inr other ↦ omega (arith, low, other) ]

    from : k < f.0 → (j : ℕ) → members (keys_of (f ∷ c)) j ≡ true → k < j
    from low j is = elim (or_cases (f.0 == j) (members (keys_of c) j) is) [
      | inl same ↦ omega (arith, low, eq_of f.0 j same)
      | inr rest ↦ let high = from_all f.0 (keys_of c) up.0 j rest in omega (arith, low, high)
    ]

pub ascend_by : (N : ℕ) (c : Chain) → IsFound N c → Ascend (keys_of (by_key c))
ascend_by N [] found = tt
ascend_by N (f ∷ c) found = ascend_key f.0 f.1 (by_key c) (ascend_by N c found.3) (key_by f.0 c ∙ found.1)

-- a yard that was just opened shows the keys that were found
module _ (shape : Shape) (t : List ℕ) (found : Keys) (some : 1 ≤ shape.buckets) (holds : Holds t shape.slots found) (bytes : AreBytes t) where
  abbrev first : Trace
  first = first_trace shape t

  abbrev first_words : Words
  first_words = (opened_yard shape t).words

  first_up : UpSound (length first) 0 (opened_service shape t) (at_rest true t) (record { start = found; history = [] }) first (first_notes shape t)
  first_up = opened_up shape t found some holds bytes true 0 (λ four. refl)

  found_here : (k : ℕ) → member k first ≡ members (keys_found t shape.slots) k
  found_here k = opening_members shape.buckets k (held t shape.slots) ∙ sym (key_by k (held t shape.slots)) ∙ sym (any_key k (by_key (held t shape.slots)))

  found_among : (k : ℕ) → IsAmong first_words (length first_words.links) k ↔ (members (keys_found t shape.slots) k ≡ true)
  found_among k =
      let among = among_members (length first) 0 (opened_service shape t) (at_rest true t) (record { start = found; history = [] }) first (first_notes shape t) first_up k in
      let tells = members_after shape.slots shape.buckets first (few_slots first_up.sound.images) first_up.sound.trace.lawful first_words refl refl refl some k in
      ((λ is. sym (found_here k) ∙ tells.0 (among.0 is)), (λ is. among.1 (tells.1 (found_here k ∙ is))))

  keys_here : (keys : List ℕ) → ((k : ℕ) → (members keys k ≡ true) ↔ IsAmong first_words (length first_words.links) k) → Ascend keys → keys ≡ keys_found t shape.slots
  keys_here keys same up = same_keys keys (keys_found t shape.slots) up (ascend_by shape.slots (held t shape.slots) (held_found t shape.slots shape.slots holds.no_key_twice (omega arith)))
      (λ k is. (found_among k).0 ((same k).0 is)) (λ k is. (same k).1 ((found_among k).1 is))

-- where the device is honest the yard is that of the text read
pub yard_read : (before after : Device) (B S : ℕ) (y : Yard) → OpensYard before after B S y → IsTrue before.honest → y ≡ opened_yard y.shape before.medium.seen
yard_read before after B S y opens honest = opens.first.yard ∙ ap (opened_yard y.shape) (opens.first.read honest).1

pub opened_keys : (before after : Device) (B S : ℕ) (y : Yard) → OpensYard before after B S y → IsTrue before.honest → 1 ≤ B
    → (keys : List ℕ) → ((k : ℕ) → (members keys k ≡ true) ↔ IsAmong y.words (length y.words.links) k) → Ascend keys → keys ≡ keys_found before.medium.seen y.shape.slots
opened_keys before after B S y opens honest some keys same up =
    let t = before.medium.seen in
    let is : y ≡ opened_yard y.shape t = yard_read before after B S y opens honest in
    let found = opens.vault.found honest in
    let count : length y.vault.cells ≡ y.shape.slots = ap (λ (q : Yard). length q.vault.cells) is ∙ length-map (slots_read t y.shape.slots) cell_read ∙ read_length t y.shape.slots in
    let holds : Holds t y.shape.slots (cell_keys y.vault.cells) = subst (λ (n : ℕ). Holds t n (cell_keys y.vault.cells)) count found.held in
    let seen = subst (λ (q : Medium). IsImage q q.seen) (opens.vault.medium honest) (opens.vault.kept honest).sound.seen in
    keys_here y.shape t (cell_keys y.vault.cells) (omega (arith, some, opens.buckets)) holds seen.bytes keys
    (subst (λ (q : Yard). (k : ℕ) → (members keys k ≡ true) ↔ IsAmong q.words (length q.words.links) k) is same) up

-- what follows of a value of success
pub if_ok : {A E : Type 0} {P Q : A → Type 0} → ((a : A) → P a → Q a) → (r : Result A E) → IfOk r P → IfOk r Q
if_ok turn (Ok a) is = turn a is
if_ok turn (Err e) is = tt
