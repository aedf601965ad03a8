-- The items of texts.
use Rattle.std.proofs.Common.{◌≡◌, ℕ, zero, suc, ◌<◌, ◌≤◌, ◌⊎◌, inl, inr, List, [], ◌∷◌, ◌++◌, length, Option, Some, None, Ok, Err, refl, sym, ap, subst, ◌∙◌}
use Rattle.std.{proofs.{Common.{arith, append_assoc}, lemmas.List.{append-nil, nil_from_length}}, specs.List.{concat}}
use Rattle.lz_resp.specs.{Limits.{most_frame}, Reading.{Front, first_of}, Keys.{at_first}, Transactions.{item_in, state_after}, Replies.{fault_text}}
use Rattle.lz_resp.specs.Pieces.{AnyPieces, Feeds, FeedsAll, Items, OneListOfItems, Place, Reads, Step, followed, goes, start, step, step_by, step_of}
use Rattle.lz_resp.specs.{Pieces.{step_with, stopped, stops, unfinished, waits}, declared.{fault.Fault.{Fault}, state.State.{State}, item.Item.{Item}}}
use Rattle.lz_resp.{specs.declared.item.Item.TheVariants.{Ends}, proofs.LongerTexts.{first_fault, first_value, short_waits}}

by_goes : (item : Item) (state : State) (after more : List ℕ) (items : List Item) (next : State) (rest : List ℕ) → step_by item state after ≡ goes items next rest
    → (step_by item state (after ++ more) ≡ goes items next (rest ++ more)) × (after ≡ rest)
by_goes (Ends text) state after more items next rest h = absurd (cc)
by_goes _ state after more items next rest h = let same : after ≡ rest = cc in (cc (ap (λ (t : List ℕ). t ++ more) same), same)

with_goes : (state : State) (arguments : List (List ℕ)) (after more : List ℕ) (items : List Item) (next : State) (rest : List ℕ) → step_with state arguments after ≡ goes items next rest
    → (step_with state arguments (after ++ more) ≡ goes items next (rest ++ more)) × (after ≡ rest)
with_goes state [] after more items next rest h = let same : after ≡ rest = cc in (cc (ap (λ (t : List ℕ). t ++ more) same), same)
with_goes state (argument ∷ arguments) after more items next rest h = by_goes (item_in state (argument ∷ arguments)) (state_after state (argument ∷ arguments)) after more items next rest h

by_stops : (item : Item) (state : State) (after more : List ℕ) (items : List Item) → step_by item state after ≡ stops items → step_by item state (after ++ more) ≡ stops items
by_stops (Ends text) state after more items h = h
by_stops _ state after more items h = absurd (cc)

with_stops : (state : State) (arguments : List (List ℕ)) (after more : List ℕ) (items : List Item) → step_with state arguments after ≡ stops items → step_with state arguments (after ++ more) ≡ stops items
with_stops state [] after more items h = absurd (cc)
with_stops state (argument ∷ arguments) after more items h = by_stops (item_in state (argument ∷ arguments)) (state_after state (argument ∷ arguments)) after more items h

pub record StepStays (state : State) (text more : List ℕ) (items : List Item) (next : State) (rest : List ℕ) : Type 0 where
  pub still : step state (text ++ more) ≡ goes items next (rest ++ more)
  pub shorter : length rest < length text

of_goes : (state : State) (text more : List ℕ) (items : List Item) (next : State) (rest : List ℕ) (r : Front (List (List ℕ))) → first_of text ≡ r → step_of state r ≡ goes items next rest
    → StepStays state text more items next rest
unfolding step
of_goes state text more items next rest (Ok None) is h = absurd (cc)
of_goes state text more items next rest (Ok (Some p)) is h =
    let first = first_value text more p.0 p.1 is in
    let so = with_goes state p.0 p.1 more items next rest h in
    record { still = ap (step_of state) first.still ∙ so.0; shorter = omega (arith, first.shorter, ap length so.1) }
of_goes state text more items next rest (Err f) is h = absurd (cc)

-- what comes first of a text comes first of a longer one
pub step_goes : (state : State) (text more : List ℕ) (items : List Item) (next : State) (rest : List ℕ) → step state text ≡ goes items next rest → StepStays state text more items next rest
unfolding step
step_goes state text more items next rest h = of_goes state text more items next rest (first_of text) refl h

of_stops : (state : State) (text more : List ℕ) (items : List Item) (r : Front (List (List ℕ))) → first_of text ≡ r → step_of state r ≡ stops items → step state (text ++ more) ≡ stops items
unfolding step
of_stops state text more items (Ok None) is h = absurd (cc)
of_stops state text more items (Ok (Some p)) is h = ap (step_of state) (first_value text more p.0 p.1 is).still ∙ with_stops state p.0 p.1 more items h
of_stops state text more items (Err f) is h = ap (step_of state) (first_fault text more f is) ∙ h

pub step_stops : (state : State) (text more : List ℕ) (items : List Item) → step state text ≡ stops items → step state (text ++ more) ≡ stops items
unfolding step
step_stops state text more items h = of_stops state text more items (first_of text) refl h

-- the items told are those of the text's first frames, up to the rest
abbrev pub GoesOn : State → List ℕ → List Item → State → List ℕ → Type 0
GoesOn state text told next rest = (tail : List ℕ) (others : List Item) → Items next (rest ++ tail) others → Items state (text ++ tail) (told ++ others)

pub goes_first : (state : State) (text : List ℕ) (items : List Item) (next : State) (rest : List ℕ) → step state text ≡ goes items next rest → GoesOn state text items next rest
goes_first state text items next rest h tail others is = followed state (text ++ tail) items next (rest ++ tail) others (step_goes state text tail items next rest h).still is

pub goes_more : (state : State) (text : List ℕ) (told : List Item) (mid : State) (rest : List ℕ) (items : List Item) (next : State) (left : List ℕ) → GoesOn state text told mid rest
    → step mid rest ≡ goes items next left → GoesOn state text (told ++ items) next left
goes_more state text told mid rest items next left goes_on h tail others is = grind (arith, append_assoc, others, goes_first)

pub goes_stops : (state : State) (text : List ℕ) (told : List Item) (next : State) (rest : List ℕ) (items : List Item) → GoesOn state text told next rest → step next rest ≡ stops items
    → Reads (record { state = state; text = text }) (told ++ items) None
goes_stops state text told next rest items goes_on h tail = goes_on tail items (stopped next (rest ++ tail) items (step_stops next rest tail items h))

pub goes_waits : (state : State) (text : List ℕ) (told : List Item) (next : State) (rest : List ℕ) → GoesOn state text told next rest → step next rest ≡ waits
    → Reads (record { state = state; text = text }) told (Some (record { state = next; text = rest }))
goes_waits state text told next rest goes_on h = (h, goes_on)

-- what a list of items comes from
pub record Follows (state : State) (text : List ℕ) (items : List Item) : Type 0 where
  pub first : List Item
  pub next : State
  pub rest : List ℕ
  pub others : List Item
  pub goes_so : step state text ≡ goes first next rest
  pub its : Items next rest others
  pub all : items ≡ first ++ others

abbrev pub Begins : State → List ℕ → List Item → Type 0
Begins state text items = ((step state text ≡ waits) × (items ≡ [])) ⊎ ((step state text ≡ stops items) ⊎ Follows state text items)

begins : (state : State) (text : List ℕ) (items : List Item) → Items state text items → Begins state text items
begins _ _ _ (unfinished state text h) = inl (h, refl)
begins _ _ _ (stopped state text items h) = inr (inl h)
begins _ _ _ (followed state text items next rest others h its) = inr (inr (record { first = items; next = next; rest = rest; others = others; goes_so = h; its = its; all = refl }))

-- a text has no other items
only : (state : State) (text : List ℕ) (items : List Item) → Items state text items → (others : List Item) → Items state text others → others ≡ items
only _ _ _ (unfinished state text h) others is = elim (begins state text others is) [
  | inl none ↦ none.1
  | inr (inl so) ↦ absurd (cc)
  | inr (inr f) ↦ absurd (let so = f.goes_so in cc)
]
only _ _ _ (stopped state text items h) others is = elim (begins state text others is) [
  | inl none ↦ absurd (let so = none.0 in cc)
  | inr (inl so) ↦ let same : stops others ≡ stops items = sym so ∙ h in cc
  | inr (inr f) ↦ absurd (let so = f.goes_so in cc)
]
only _ _ _ (followed state text items next rest more h its) others is = elim (begins state text others is) [
  | inl none ↦ absurd (let so = none.0 in cc)
  | inr (inl so) ↦ absurd (cc)
  | inr (inr f) ↦
      let same : goes f.first f.next f.rest ≡ goes items next rest = sym f.goes_so ∙ h in
      let first : f.first ≡ items = cc in
      let set_is : f.next ≡ next = cc in
      let rest_is : f.rest ≡ rest = cc in
      let tail : f.others ≡ more = only next rest more its f.others (subst (λ (n : State). Items n rest f.others) set_is (subst (λ (t : List ℕ). Items f.next t f.others) rest_is f.its)) in
      f.all ∙ cc (first, tail)
]

abbrev pub SomeItems : State → List ℕ → Type 0
SomeItems state text = (items : List Item) × Items state text items

some_by : (state : State) (text : List ℕ) (s : Step) → step state text ≡ s → ((next : State) (rest : List ℕ) → length rest < length text → SomeItems next rest) → SomeItems state text
some_by state text waits is more = ([], unfinished state text is)
some_by state text (stops items) is more = (items, stopped state text items is)
some_by state text (goes items next rest) is more =
    let so = more next rest (step_goes state text [] items next rest is).shorter in
    (items ++ so.0, followed state text items next rest so.0 is so.1)

some_within : (n : ℕ) (state : State) (text : List ℕ) → length text < n → SomeItems state text
some_within zero state text low = absurd (omega (arith, low))
some_within (suc n) state text low = some_by state text (step state text) refl (λ next rest shorter. some_within n next rest (omega (arith, shorter, low)))

pub one_list : OneListOfItems
one_list state text = let some = some_within (suc (length text)) state text (omega arith) in (some.0, some.1, λ others is. only state text some.0 some.1 others is)

-- a piece more
pub reads_more : (state : State) (taken piece : List ℕ) (items more : List Item) (kept new : Option Place) → Reads (record { state = state; text = taken }) items kept → Feeds kept piece more new
    → Reads (record { state = state; text = taken ++ piece }) (items ++ more) new
reads_more state taken piece items more None new h f = grind (arith, append-nil, append_assoc)
reads_more state taken piece items more (Some left) None h f = λ rest. rw append_assoc (h.1 (piece ++ rest) more (rw append_assoc at (f rest)))
reads_more state taken piece items more (Some left) (Some after) h f =
    (f.0, λ rest others is. rw (append_assoc taken piece rest, append_assoc items more others) (h.1 (piece ++ rest) (more ++ others) (rw (append_assoc left.text piece rest) at (f.1 rest others is))))

fed_all : (state : State) (taken : List ℕ) (items : List Item) (kept : Option Place) (pieces : List (List ℕ)) (more : List Item) (new : Option Place)
    → Reads (record { state = state; text = taken }) items kept → FeedsAll kept pieces more new → Reads (record { state = state; text = taken ++ concat pieces }) (items ++ more) new
fed_all state taken items kept [] more new r f = rw (f.0, f.1, append-nil taken, append-nil items) r
fed_all state taken items kept (piece ∷ pieces) more new r (first, mid, others, feeds, feeds_all, all) =
    let so = fed_all state (taken ++ piece) (items ++ first) mid pieces others new (reads_more state taken piece items first kept mid r feeds) feeds_all in
    rw (all, ← append_assoc taken piece (concat pieces), ← append_assoc items first others) so

-- the items of the input, where it ends after what was taken
pub items_end : (state : State) (taken : List ℕ) (items : List Item) (new : Option Place) → Reads (record { state = state; text = taken }) items new → Items state taken items
items_end state taken items None r = rw (append-nil taken) at (r [])
items_end state taken items (Some left) r =
    rw (append-nil taken, append-nil items) at (r.1 [] [] (rw (append-nil left.text) (unfinished left.state left.text r.0)))

-- nothing comes of no text
pub step_empty : (state : State) (text : List ℕ) → length text ≡ 0 → step state text ≡ waits
unfolding step first_of
step_empty state text none = ap (step state) (nil_from_length text none)

pub any_pieces : AnyPieces
any_pieces naming pieces items new fed =
    let first = at_first naming in
    items_end first (concat pieces) items new (fed_all first [] [] (Some (start naming)) pieces items new (step_empty first [] refl, λ rest others is. is) fed)

by_waits : (item : Item) (state : State) (rest : List ℕ) → step_by item state rest ≡ waits → ⊥
by_waits (Ends text) state rest h = absurd (cc)
by_waits _ state rest h = absurd (cc)

of_waits : (state : State) (r : Front (List (List ℕ))) → step_of state r ≡ waits → r ≡ Ok None
of_waits state (Ok None) h = refl
of_waits state (Ok (Some (argument ∷ arguments, rest))) h = absurd (by_waits (item_in state (argument ∷ arguments)) (state_after state (argument ∷ arguments)) rest h)
of_waits state _ h = absurd (cc)

-- what is kept is no longer than a frame
pub step_short : (state : State) (text : List ℕ) → step state text ≡ waits → length text ≤ most_frame
unfolding step
step_short state text h = short_waits text (of_waits state (first_of text) h)

pub first_waits : (state : State) (text : List ℕ) → first_of text ≡ Ok None → step state text ≡ waits
unfolding step
first_waits state text h = ap (step_of state) h

pub first_frame : (state : State) (text : List ℕ) (arguments : List (List ℕ)) (rest : List ℕ) → first_of text ≡ Ok (Some (arguments, rest)) → step state text ≡ step_with state arguments rest
unfolding step
first_frame state text arguments rest h = ap (step_of state) h

pub first_wrong : (state : State) (text : List ℕ) (fault : Fault) → first_of text ≡ Err fault → step state text ≡ stops (Ends (fault_text fault) ∷ [])
unfolding step
first_wrong state text fault h = ap (step_of state) h
