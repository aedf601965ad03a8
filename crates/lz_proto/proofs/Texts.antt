-- The items of texts.
use Rattle.std.proofs.Common.{◌≡◌, ◌≢◌, ℕ, ◌+◌, ◌-◌, ◌<◌, ◌≤◌, ◌⊎◌, inl, inr, List, [], ◌∷◌, ◌++◌, length, take, drop, get_or, min, Bool, true, false, nat_eq}
use Rattle.std.proofs.Common.{nat_lt, Option, Some, None, Result, Ok, Err, IfOk, OnOk, is_ok, if◌then◌else◌, refl, sym, ap, subst, ◌∙◌, arith, rules}
use Rattle.std.proofs.{Common.{append_assoc, length-append}, Math.Seq.{take-append-add, take-append_seam}}
use Rattle.std.proofs.lemmas.List.{take-append-drop, drop_more, get_or-take, get_or_default, take_rest, take_all, append-nil, length-take, nil_from_length}
use Rattle.std.{proofs.lemmas.{List.Folds.{list_any-append, list_any_none}, Bool.{eq-eqb, eqb-true, cond_both, Decides.{nat_tests}}}, specs.List.{concat}}
use Rattle.memchr.specs.Find.{IsFirstByte, Nowhere, Passes, is_byte}
use Rattle.lz_proto.specs.declared.{request.Request.TheVariants.{Quit}, fault.Bad.{Bad, TheVariants.{TooLong, NoEnd}}, item.Item.{Item}}
use Rattle.lz_proto.specs.declared.item.Item.TheVariants.{Asks, Faulty}
use Rattle.lz_proto.specs.{Lines.{IsItem, Items, nothing, no_end, line, quits, has_line_feed, line_feed, without_return, item_of}, Limits.{most_kept}}
use Rattle.lz_proto.specs.{Pieces.{Adds, AnyPieces, Ends, FeedsAll, OneListOfItems, Reads, Feeds, faults_of}, Reading.{request_read}}
use Rattle.lz_proto.proofs.LineReads.{item_read, item_only}

-- a text whose first line ends
pub record HasLine (text : List ℕ) (items : List Item) : Type 0 where
  pub line : List ℕ
  pub rest : List ℕ
  pub item : Item
  pub others : List Item
  pub whole : text ≡ line ++ line_feed ∷ rest
  pub clear : has_line_feed line ≡ false
  pub says : IsItem line item
  pub all : items ≡ item ∷ others
  pub after : ((item ≡ Asks Quit) × (others ≡ [])) ⊎ ((item ≢ Asks Quit) × Items rest others)

pub record HasNoEnd (text : List ℕ) (items : List Item) : Type 0 where
  pub some : text ≢ []
  pub clear : has_line_feed text ≡ false
  pub all : items ≡ Faulty NoEnd ∷ []

-- a text is empty, without a line feed, or a line and a rest
abbrev pub Begins : List ℕ → List Item → Type 0
Begins text items = ((text ≡ []) × (items ≡ [])) ⊎ (HasNoEnd text items ⊎ HasLine text items)

pub begins : (text : List ℕ) (items : List Item) → Items text items → Begins text items
begins _ _ nothing = inl (refl, refl)
begins _ _ (no_end t some clear) = inr (inl (record { some = some; clear = clear; all = refl }))
begins _ _ (line t item rest items clear says goes its) =
    inr (inr (record { line = t; rest = rest; item = item; others = items; whole = refl; clear = clear; says = says; all = refl; after = inr (goes, its) }))
begins _ _ (quits t rest clear says) =
    inr (inr (record { line = t; rest = rest; item = Asks Quit; others = []; whole = refl; clear = clear; says = says; all = refl; after = inl (refl, refl) }))

-- a line feed stands in a line that ends, and an empty text is none
ended : (t rest : List ℕ) → has_line_feed (t ++ line_feed ∷ rest) ≡ true
ended [] rest = refl
ended (b ∷ t) rest = rw (ended t rest) (grind arith)

not_empty : (t rest : List ℕ) → [] ≢ t ++ line_feed ∷ rest
not_empty [] rest e = cc
not_empty (b ∷ t) rest e = cc

clear_first : (b : ℕ) (t : List ℕ) → has_line_feed (b ∷ t) ≡ false → (b ≢ line_feed) × (has_line_feed t ≡ false)
clear_first b t h = (λ e. grind (arith, nat_tests), grind (arith, nat_tests))

-- where a text begins with a clear line's bytes, they are its first line
first_cut : (t u rest others : List ℕ) → has_line_feed t ≡ false → has_line_feed u ≡ false → t ++ line_feed ∷ rest ≡ u ++ line_feed ∷ others → (t ≡ u) × (rest ≡ others)
first_cut [] [] rest others p q e = (refl, cc)
first_cut [] (c ∷ u) rest others p q e = absurd ((clear_first c u q).0 (cc))
first_cut (b ∷ t) [] rest others p q e = absurd ((clear_first b t p).0 (cc))
first_cut (b ∷ t) (c ∷ u) rest others p q e =
    let both = first_cut t u rest others (clear_first b t p).1 (clear_first c u q).1 (cc) in (cc (both.0), both.1)

-- a clear front of a text is one of its first line
pub record Goes (front line after : List ℕ) (rest : List ℕ) : Type 0 where
  pub more : List ℕ
  pub line_is : line ≡ front ++ more
  pub after_is : after ≡ more ++ line_feed ∷ rest

front_of : (front t after rest : List ℕ) → has_line_feed front ≡ false → front ++ after ≡ t ++ line_feed ∷ rest → Goes front t after rest
front_of [] t after rest p e = record { more = t; line_is = refl; after_is = e }
front_of (b ∷ front) [] after rest p e = absurd ((clear_first b front p).0 (cc))
front_of (b ∷ front) (c ∷ t) after rest p e =
    let g = front_of front t after rest (clear_first b front p).1 (cc) in
    let same : b ≡ c = cc in
    record { more = g.more; line_is = ap (λ (x : ℕ). x ∷ t) (sym same) ∙ ap (λ (x : List ℕ). b ∷ x) g.line_is; after_is = g.after_is }

-- the items of the rest of a text
its_only : (front rest : List ℕ) (item : Item) (others all : List Item) → has_line_feed front ≡ false → IsItem front item
    → ((more : List Item) → Items rest more → (item ≢ Asks Quit) → more ≡ others) → (item ≡ Asks Quit → others ≡ []) → Begins (front ++ line_feed ∷ rest) all → all ≡ item ∷ others
its_only front rest item others all clear says goes ends (inl empty) = absurd (not_empty front rest (sym empty.0))
its_only front rest item others all clear says goes ends (inr (inl un)) = absurd (let both : true ≡ false = sym (ended front rest) ∙ un.clear in cc)
its_only front rest item others all clear says goes ends (inr (inr h)) =
    let cut = first_cut front h.line rest h.rest clear h.clear h.whole in
    let same : h.item ≡ item = item_only h.line h.item h.says ∙ ap (λ t. item_of (request_read (without_return t))) (sym cut.0) ∙ sym (item_only front item says) in
    let tail : h.others ≡ others = elim h.after [
      | inl quit ↦ quit.1 ∙ sym (ends (sym same ∙ quit.0))
      | inr more ↦ goes h.others (subst (λ t. Items t h.others) (sym cut.1) more.1) (λ e. more.0 (same ∙ e))
    ] in
    h.all ∙ cc (same, tail)

-- a text has no other items
pub only : (text : List ℕ) (items : List Item) → Items text items → (others : List Item) → Items text others → others ≡ items
only _ _ nothing others is = elim (begins [] others is) [
  | inl empty ↦ empty.1
  | inr (inl un) ↦ absurd (un.some refl)
  | inr (inr h) ↦ absurd (not_empty h.line h.rest h.whole)
]
only _ _ (no_end t some clear) others is = elim (begins t others is) [
  | inl empty ↦ absurd (some empty.0)
  | inr (inl un) ↦ un.all
  | inr (inr h) ↦ absurd (let both : true ≡ false = sym (ended h.line h.rest) ∙ ap has_line_feed (sym h.whole) ∙ clear in cc)
]
only _ _ (line t item rest items clear says goes its) others is =
    its_only t rest item items others clear says (λ more h _. only rest items its more h) (λ e. absurd (goes e)) (begins (t ++ line_feed ∷ rest) others is)
only _ _ (quits t rest clear says) others is =
    its_only t rest (Asks Quit) [] others clear says (λ more h goes. absurd (goes refl)) (λ _. refl) (begins (t ++ line_feed ∷ rest) others is)

-- one more byte that is no line feed
clear_more : (t : List ℕ) (b : ℕ) → has_line_feed t ≡ false → nat_eq line_feed b ≡ false → has_line_feed (t ++ b ∷ []) ≡ false
clear_more t b p q = list_any-append (nat_eq line_feed) t (b ∷ []) ∙ rw (p, q) refl

abbrev pub SomeItems : List ℕ → Type 0
SomeItems text = (items : List Item) × Items text items

-- a first line that ends, and the items of the rest
first_items : (t rest : List ℕ) (item : Item) → has_line_feed t ≡ false → IsItem t item → (item ≡ Asks Quit) ⊎ (item ≢ Asks Quit) → SomeItems rest → SomeItems (t ++ line_feed ∷ rest)
first_items t rest item clear says (inl quit) its = (Asks Quit ∷ [], quits t rest clear (subst (IsItem t) quit says))
first_items t rest item clear says (inr goes) its = (item ∷ its.0, line t item rest its.0 clear says goes its.1)

quit_or_not : (item : Item) → (item ≡ Asks Quit) ⊎ (item ≢ Asks Quit)
quit_or_not (Asks Quit) = inl refl
quit_or_not _ = inr (λ e. cc)

some_step : (front text : List ℕ) (b : ℕ) (ends : Bool) → nat_eq line_feed b ≡ ends → has_line_feed front ≡ false → SomeItems text
    → (has_line_feed (front ++ b ∷ []) ≡ false → SomeItems ((front ++ b ∷ []) ++ text)) → SomeItems (front ++ b ∷ text)
some_step front text b true e clear here more =
    subst (λ (x : ℕ). SomeItems (front ++ x ∷ text)) (eqb-true line_feed b e) (first_items front text _ clear (item_read front) (quit_or_not _) here)
some_step front text b false e clear here more = subst SomeItems (append_assoc front (b ∷ []) text) (more (clear_more front b clear e))

-- a text that begins with a clear front has items
some_from : (front text : List ℕ) → has_line_feed front ≡ false → SomeItems (front ++ text)
some_from [] [] clear = ([], nothing)
some_from (b ∷ front) [] clear = (Faulty NoEnd ∷ [], no_end ((b ∷ front) ++ []) (λ e. cc) (ap has_line_feed (append-nil (b ∷ front)) ∙ clear))
some_from front (b ∷ text) clear =
    some_step front text b (nat_eq line_feed b) refl clear (some_from [] text refl) (λ more. some_from (front ++ b ∷ []) text more)

-- each text has items
pub some_items : (text : List ℕ) → SomeItems text
some_items text = some_from [] text refl

-- a line of more than 65 bytes is too long
long_read : (t : List ℕ) → 65 < length t → item_of (request_read (without_return t)) ≡ Faulty TooLong
long_read t h =
    let far : List ℕ → Type 0 = λ x. nat_lt 64 (length x) ≡ true in
    let whole : far t = grind (arith, nat_tests) in
    let less : far (take (length t - 1) t) = grind (arith, nat_tests, length-take (length t - 1) t) in
    let long : nat_lt 64 (length (without_return t)) ≡ true = cond_both _ _ _ far (λ _. less) (λ _. whole) in
    rw long refl

front_clear : (front text : List ℕ) → has_line_feed front ≡ false → has_line_feed (front ++ text) ≡ has_line_feed text
front_clear front text h = list_any-append (nat_eq line_feed) front text ∙ rw h refl

-- two clear fronts of more than 65 bytes, with the same after them, have the same items
long_front : (short long rest : List ℕ) (items : List Item) → 65 < length short → 65 < length long → has_line_feed short ≡ false → has_line_feed long ≡ false
    → Begins (short ++ rest) items → Items (long ++ rest) items
long_front short long rest items s l cs cl (inl empty) = absurd (omega (arith, simp length-append at (ap length empty.0)))
long_front short long rest items s l cs cl (inr (inl un)) =
    subst (Items (long ++ rest)) (sym un.all) (no_end (long ++ rest) (λ e. absurd (omega (arith, simp length-append at (ap length e))))
    (front_clear long rest cl ∙ sym (front_clear short rest cs) ∙ un.clear))
long_front short long rest items s l cs cl (inr (inr h)) =
    let g = front_of short h.line rest h.rest cs h.whole in
    let far : 65 < length h.line = rw g.line_is (omega (arith, length-append short g.more)) in
    let farther : 65 < length (long ++ g.more) = omega (arith, length-append long g.more) in
    let too_long : h.item ≡ Faulty TooLong = item_only h.line h.item h.says ∙ long_read h.line far in
    let says : IsItem (long ++ g.more) (Faulty TooLong) = subst (IsItem (long ++ g.more)) (long_read (long ++ g.more) farther) (item_read (long ++ g.more)) in
    let clear : has_line_feed (long ++ g.more) ≡ false = front_clear long g.more cl ∙ sym (front_clear short g.more cs) ∙ ap has_line_feed (sym g.line_is) ∙ h.clear in
    let its : (h.item ≢ Asks Quit) × Items h.rest h.others = elim h.after [
      | inl quit ↦ absurd (let both : Asks Quit ≡ Faulty TooLong = sym quit.0 ∙ too_long in cc)
      | inr more ↦ more
    ] in
    let whole : (long ++ g.more) ++ line_feed ∷ h.rest ≡ long ++ rest = append_assoc long g.more (line_feed ∷ h.rest) ∙ ap (λ (t : List ℕ). long ++ t) (sym g.after_is) in
    let all : Faulty TooLong ∷ h.others ≡ items = ap (λ (i : Item). i ∷ h.others) (sym too_long) ∙ sym h.all in
    subst (Items (long ++ rest)) all (subst (λ (t : List ℕ). Items t (Faulty TooLong ∷ h.others)) whole
    (line (long ++ g.more) (Faulty TooLong) h.rest h.others clear says (λ e. cc) its.1))

clear_front : (front text : List ℕ) → has_line_feed (front ++ text) ≡ false → has_line_feed front ≡ false
clear_front [] text h = refl
clear_front (b ∷ front) text h =
    let both = clear_first b (front ++ text) h in
    rw (clear_front front text both.1) (grind (arith, nat_tests))

clear_take : (n : ℕ) (text : List ℕ) → has_line_feed text ≡ false → has_line_feed (take n text) ≡ false
clear_take n text h = clear_front (take n text) (drop n text) (rw (take-append-drop n text) h)

kept_case : (text rest : List ℕ) (items : List Item) (far : Bool) → nat_lt most_kept (length text) ≡ far → has_line_feed text ≡ false
    → Items (take most_kept text ++ rest) items → Items (text ++ rest) items
kept_case text rest items true e clear is =
    let far : most_kept < length text = grind (arith, nat_tests) in
    long_front (take most_kept text) text rest items (omega (arith, length-take most_kept text)) (omega arith) (clear_take most_kept text clear) clear (begins (take most_kept text ++ rest) items is)
kept_case text rest items false e clear is =
    let near : length text ≤ most_kept = grind (arith, nat_tests) in
    subst (λ (t : List ℕ). Items (t ++ rest) items) (take_all most_kept text near) is

-- of an unfinished line its first 66 bytes tell as much as all
pub reads_kept : (text left : List ℕ) (items : List Item) → Reads text items (Some left) → Reads text items (Some (take most_kept left))
reads_kept text left items h = (clear_take most_kept left h.0, λ rest more is. h.1 rest more (kept_case left rest more (nat_lt most_kept (length left)) refl h.0 is))

pub one_list : OneListOfItems
one_list text = let some = some_items text in (some.0, some.1, λ others is. only text some.0 some.1 others is)

-- a piece more
pub reads_more : (taken piece : List ℕ) (items more : List Item) (kept new : Option (List ℕ)) → Reads taken items kept → Feeds kept piece more new → Reads (taken ++ piece) (items ++ more) new
reads_more taken piece items more None new h f = grind (arith, append-nil, append_assoc)
reads_more taken piece items more (Some left) None h f =
    λ rest. rw append_assoc (h.1 (piece ++ rest) more (rw append_assoc at (f rest)))
reads_more taken piece items more (Some left) (Some after) h f =
    (f.0, λ rest others is. rw (append_assoc taken piece rest, append_assoc items more others) (h.1 (piece ++ rest) (more ++ others) (rw (append_assoc left piece rest) at (f.1 rest others is))))

unlike : (x : ℕ) → x ≢ line_feed → nat_eq line_feed x ≡ false
unlike x h = grind (arith, nat_tests)

-- no line feed stands before the first one
clear_below : (r : List ℕ) (e : ℕ) → e ≤ length r → Nowhere (Passes (is_byte 10) r) 0 e → has_line_feed (take e r) ≡ false
clear_below r e inside none = list_any_none (nat_eq line_feed) (take e r) (λ k d h.
    let low : k < e = omega (arith, length-take e r) in
    unlike (get_or (take e r) k d) (λ is.
    none k (omega arith) low (eq-eqb _ _ (get_or_default r k 0 d (omega arith) ∙ sym (get_or-take e r k d low) ∙ is))))

pub clear_all : (r : List ℕ) → IsFirstByte (is_byte 10) r None → has_line_feed r ≡ false
clear_all r none = ap has_line_feed (sym (take_all (length r) r (omega arith))) ∙ clear_below r (length r) (omega arith) none

-- a text is the part before place e, the byte there and the rest
split_at : (r : List ℕ) (e : ℕ) → IsFirstByte (is_byte 10) r (Some e) → (tail : List ℕ) → take e r ++ 10 ∷ (drop (e + 1) r ++ tail) ≡ r ++ tail
split_at r e first tail =
    let at : get_or r e 0 ≡ 10 = eqb-true _ _ first.1 in
    let rest : drop e r ≡ 10 ∷ drop (e + 1) r = drop_more r e 0 first.0.high ∙ ap (λ (x : ℕ). x ∷ drop (e + 1) r) at in
    sym (append_assoc (take e r) (10 ∷ drop (e + 1) r) tail) ∙ ap (λ (x : List ℕ). take e r ++ x ++ tail) (sym rest) ∙ ap (λ (x : List ℕ). x ++ tail) (take-append-drop e r)

before_first : (r : List ℕ) (e : ℕ) → IsFirstByte (is_byte 10) r (Some e) → has_line_feed (take e r) ≡ false
before_first r e first = clear_below r e (omega (arith, first.0.high)) first.0.before

-- the items told are those of the text's first lines, up to the rest
abbrev pub GoesOn : List ℕ → List Item → List ℕ → Type 0
GoesOn text told rest = (tail : List ℕ) (more : List Item) → Items (rest ++ tail) more → Items (text ++ tail) (told ++ more)

clear_line : (kept r : List ℕ) (e : ℕ) → has_line_feed kept ≡ false → IsFirstByte (is_byte 10) r (Some e) → has_line_feed (kept ++ take e r) ≡ false
clear_line kept r e clear first = front_clear kept (take e r) clear ∙ before_first r e first

-- what was kept and the part before place e are a line
line_at : (kept r : List ℕ) (e : ℕ) → IsFirstByte (is_byte 10) r (Some e) → (tail : List ℕ) → (kept ++ take e r) ++ 10 ∷ (drop (e + 1) r ++ tail) ≡ (kept ++ r) ++ tail
line_at kept r e first tail = grind (arith, append_assoc, split_at)

pub first_line : (kept r : List ℕ) (e : ℕ) (item : Item) (old new : List Item) (is_quit : Bool) → has_line_feed kept ≡ false → IsFirstByte (is_byte 10) r (Some e)
    → Adds (kept ++ take e r) item old new is_quit → is_quit ≡ false → GoesOn (kept ++ r) (item ∷ []) (drop (e + 1) r)
first_line kept r e item old new is_quit clear first a goes tail more left =
    let other : item ≢ Asks Quit = λ q. let yes : is_quit ≡ true = search (rules, a.told.1 q) in cc in
    subst (λ (x : List ℕ). Items x (item ∷ more)) (line_at kept r e first tail) (line (kept ++ take e r) item (drop (e + 1) r ++ tail) more (clear_line kept r e clear first) a.says other left)

pub first_quit : (kept r : List ℕ) (e : ℕ) (item : Item) (old new : List Item) (is_quit : Bool) → has_line_feed kept ≡ false → IsFirstByte (is_byte 10) r (Some e)
    → Adds (kept ++ take e r) item old new is_quit → is_quit ≡ true → Reads (kept ++ r) (item ∷ []) None
first_quit kept r e item old new is_quit clear first a ends tail =
    let quit : item ≡ Asks Quit = a.told.0 (search rules) in
    rw quit (subst (λ (x : List ℕ). Items x (Asks Quit ∷ [])) (line_at kept r e first tail)
    (quits (kept ++ take e r) (drop (e + 1) r ++ tail) (clear_line kept r e clear first) (subst (IsItem (kept ++ take e r)) quit a.says)))

-- what follows the first lines was read
pub goes_on_read : (text rest : List ℕ) (told items : List Item) (left : Option (List ℕ)) → GoesOn text told rest → Reads rest items left → Reads text (told ++ items) left
goes_on_read text rest told items None goes read = λ tail. goes tail items (read tail)
goes_on_read text rest told items (Some left) goes read = (read.0, λ tail more is. rw append_assoc (goes tail (items ++ more) (read.1 tail more is)))

pub goes_on_more : (text rest left : List ℕ) (told items : List Item) → GoesOn text told rest → GoesOn rest items left → GoesOn text (told ++ items) left
goes_on_more text rest left told items goes more tail others is = rw append_assoc (goes tail (items ++ others) (more tail others is))

-- the first line was read, and then the others
pub read_rest : (kept piece rest : List ℕ) (e : ℕ) (item : Item) (old now new more : List Item) (is_quit : Bool) (left : Option (List ℕ)) → has_line_feed kept ≡ false
    → IsFirstByte (is_byte 10) piece (Some e) → Adds (kept ++ take e piece) item old now is_quit → is_quit ≡ false → rest ≡ drop (e + 1) piece → Reads rest more left → new ≡ now ++ more
    → (items : List Item) × Reads (kept ++ piece) items left × (new ≡ old ++ items)
read_rest kept piece rest e item old now new more is_quit left clear first a goes from read is = (
  item ∷ more,
  goes_on_read (kept ++ piece) (drop (e + 1) piece) (item ∷ []) more left (first_line kept piece e item old now is_quit clear first a goes) (subst (λ (t : List ℕ). Reads t more left) from read),
  is ∙ ap (λ (x : List Item). x ++ more) a.added ∙ append_assoc old (item ∷ []) more,
)

-- after a line's end
pub after_end : (r ended : List ℕ) (e : ℕ) → IsFirstByte (is_byte 10) r (Some e) → ended ≡ drop e r → take (length ended - 1) (drop 1 ended) ≡ drop (e + 1) r
after_end r ended e first from = take_rest ended 1 ∙ ap (λ (x : List ℕ). drop 1 x) (from ∙ drop_more r e 0 first.0.high)

pub end_items : (kept : List ℕ) → has_line_feed kept ≡ false → length kept ≢ 0 → Items kept (faults_of (Some NoEnd))
end_items kept clear some = no_end kept (λ e. some (ap length e)) clear

pub no_items : (kept : List ℕ) → length kept ≡ 0 → Items kept (faults_of None)
no_items kept e = subst (λ (t : List ℕ). Items t []) (sym (nil_from_length kept e)) nothing

-- a text without a line's end is kept
pub no_line : (kept piece new : List ℕ) → has_line_feed kept ≡ false → IsFirstByte (is_byte 10) piece None → new ≡ take most_kept (kept ++ piece) → Reads (kept ++ piece) [] (Some new)
no_line kept piece new clear none is =
    rw is (reads_kept (kept ++ piece) (kept ++ piece) [] (front_clear kept piece clear ∙ clear_all piece none, λ rest more its. its))

-- of a line its first 66 bytes tell as much as all
item_case : (text : List ℕ) (item : Item) (far : Bool) → nat_lt most_kept (length text) ≡ far → IsItem (take most_kept text) item → IsItem text item
item_case text item true e says =
    let far : most_kept < length text = grind (arith, nat_tests) in
    let long : item ≡ Faulty TooLong = item_only (take most_kept text) item says ∙ long_read (take most_kept text) (omega (arith, length-take most_kept text)) in
    subst (IsItem text) (long_read text (omega arith) ∙ sym long) (item_read text)
item_case text item false e says =
    let near : length text ≤ most_kept = grind (arith, nat_tests) in
    subst (λ (t : List ℕ). IsItem t item) (take_all most_kept text near) says

-- what is kept of a line has its item
pub adds_kept : {E : Type 0} (r : Result Bool E) (text front : List ℕ) (old new : List Item) → front ≡ take most_kept text → IfOk r (λ is_quit. (item : Item) × Adds front item old new is_quit)
    → IfOk r (λ is_quit. (item : Item) × Adds text item old new is_quit)
adds_kept (Ok is_quit) text front old new is a = grind (arith, item_case, nat_lt)
adds_kept (Err fault) text front old new is a = tt

least_case : (n : ℕ) (text : List ℕ) (far : Bool) → nat_lt n (length text) ≡ far → take (min (length text) n) text ≡ take n text
least_case n text true e =
    let less : min (length text) n ≡ n = grind (arith, nat_tests) in
    ap (λ (k : ℕ). take k text) less
least_case n text false e =
    let near : length text ≤ n = grind (arith, nat_tests) in
    let less : min (length text) n ≡ length text = omega arith in
    ap (λ (k : ℕ). take k text) less ∙ take_all (length text) text (omega arith) ∙ sym (take_all n text near)

pub take_least : (n : ℕ) (text : List ℕ) → take (min (length text) n) text ≡ take n text
take_least n text = least_case n text (nat_lt n (length text)) refl

pub short_take : (text new : List ℕ) → new ≡ take most_kept text → length new ≤ most_kept
short_take text new is = rw is (omega (arith, length-take most_kept text))

-- as much more is kept as there is room for
pub kept_more : (kept more : List ℕ) (n room : ℕ) → n ≡ min (length more) room → room + length kept ≡ most_kept → kept ++ take n more ≡ take most_kept (kept ++ more)
kept_more kept more n room is whole =
    let far : most_kept ≡ length kept + room = omega (arith, whole) in
    ap (λ (k : ℕ). kept ++ take k more) is ∙ ap (λ (x : List ℕ). kept ++ x) (take_least room more) ∙ sym (take-append-add kept more room) ∙ ap (λ (k : ℕ). take k (kept ++ more)) (sym far)

-- what was kept stands before it
pub kept_before : (kept more : List ℕ) (n : ℕ) → n ≡ length kept → length kept ≤ most_kept → take n (take most_kept (kept ++ more)) ≡ kept
kept_before kept more n is short =
    let room = most_kept - length kept in
    rw (← kept_more kept more (min (length more) room) room refl (omega arith)) (ap (λ (k : ℕ). take k (kept ++ take (min (length more) room) more)) is ∙ take-append_seam kept (take (min (length more) room) more))

-- a text was put behind another, where there was room
pub extended : {T E : Type 0} (r : Result T E) (old new more whole : List ℕ) → new ≡ (if is_ok r then old ++ more else old) → old ++ more ≡ whole → OnOk r (new ≡ whole)
extended (Ok x) old new more whole is all = is ∙ all
extended (Err fault) old new more whole is all = tt

-- the items of the input, where it ends after what was taken
pub items_end : (taken : List ℕ) (items : List Item) (left : Option (List ℕ)) (fault : Option Bad) → Reads taken items left → Ends left fault → Items (taken ++ []) (items ++ faults_of fault)
items_end taken items None fault r e = rw (e, append-nil items) (r [])
items_end taken items (Some left) fault r e = r.1 [] (faults_of fault) (rw (append-nil left) e)

fed_all : (taken : List ℕ) (items : List Item) (kept : Option (List ℕ)) (pieces : List (List ℕ)) (more : List Item) (new : Option (List ℕ))
    → Reads taken items kept → FeedsAll kept pieces more new → Reads (taken ++ concat pieces) (items ++ more) new
fed_all taken items kept [] more new r f = rw (f.0, f.1, append-nil taken, append-nil items) r
fed_all taken items kept (piece ∷ pieces) more new r (first, mid, rest, feeds, feeds_all, all) =
    let so = fed_all (taken ++ piece) (items ++ first) mid pieces rest new (reads_more taken piece items first kept mid r feeds) feeds_all in
    rw (all, ← append_assoc taken piece (concat pieces), ← append_assoc items first rest) so

pub any_pieces : AnyPieces
any_pieces pieces items kept fault fed ends =
    rw (append-nil (concat pieces)) at (items_end (concat pieces) items kept fault (fed_all [] [] (Some []) pieces items kept (refl, λ rest more is. is) fed) ends)
