-- A conversation of lines is a session.
use Rattle.lz_proto.specs.declared.reply.Reply.TheVariants as reply
use Rattle.lz_proto.specs.declared.end.End.TheVariants as ends
use Rattle.lz_serve.specs.declared.language.Language.TheVariants as language
use Rattle.lz_serve.specs.declared.reader.Reader.TheVariants as reader
use Rattle.std.proofs.Common.{◌≡◌, ◌≢◌, ◌⊎◌, ◌++◌, ◌+◌, inl, inr, ℕ, suc, Bool, true, false, List, [], ◌∷◌, length, map, Option, Some, None, refl, sym, ap, subst, ◌∙◌, arith, length-append, append_assoc}
use Rattle.std.proofs.lemmas.List.{append-nil, map-append}
use mathlib.Core.Bool.{true≢false}
use Rattle.lz_proto.specs.declared.{request.Request.{Request, TheVariants.{Add, Remove, Has, Quit}}, item.Item.{Item, TheVariants.{Asks, Faulty}}}
use Rattle.lz_proto.specs.{declared.{reply.Reply.{Reply}, end.End.{End}}, Sessions.{Answered, bad_text, reply_text}, Steps.{end_after}}
use Rattle.lz_proto.proofs.Serving.{answered_more, fault_answered, request_answered}
use Rattle.lz_serve.specs.declared.{line.Line.{Line as UnderWay}, language.Language.{Language}, reader.Reader.{Reader}, turn.{Wording.TheVariants.{Line}, Turn.{Turn}}}
use Rattle.lz_serve.specs.Exchanges.{CameFrom, CameOfAll, Exchange, asks, end_by, of_line, read_as, refusal, refused as refused_of, requests_in, taken, turn_of}
use Rattle.lz_serve.specs.{Conversations.{AreTold, IsTold, Talk, more, nothing}, Grants.{Grant}, Lines.{asked_by}}
use Rattle.lz_serve.specs.{Listings.{Listing}, LineSessions.{EndsAfter, IsGranted, IsSession, LinesAreSessions, LinesCame, refused_end, refused_text}}
use Rattle.lz_serve.proofs.{Cuts.{refused_asks}, Languages.{untold_yet}}

-- the items of a front of exchanges
record Fronts (f : Item → Exchange) (items : List Item) (xs ys : List Exchange) : Type 0 where
  front : List Item
  rest : List Item
  whole : items ≡ front ++ rest
  first : map f front ≡ xs
  others : map f rest ≡ ys

fronts : (f : Item → Exchange) (items : List Item) (xs ys : List Exchange) → map f items ≡ xs ++ ys → Fronts f items xs ys
fronts f items [] ys are = record { front = []; rest = items; whole = refl; first = refl; others = are }
fronts f [] (x ∷ xs) ys are = absurd (cc)
fronts f (item ∷ items) (x ∷ xs) ys are =
    let first : f item ≡ x = cc in
    let others : map f items ≡ xs ++ ys = cc in
    let r = fronts f items xs ys others in
    record { front = item ∷ r.front; rest = r.rest; whole = ap (λ (l : List Item). item ∷ l) r.whole; first = ap (λ (e : Exchange). e ∷ map f r.front) first ∙ ap (λ (l : List Exchange). x ∷ l) r.first; others = r.others }

goes_on_so : (r : Reply) → end_by (r ∷ []) ≡ end_after r
goes_on_so reply.Yes = refl
goes_on_so reply.No = refl
goes_on_so reply.Full = refl
goes_on_so reply.Halted = refl
goes_on_so reply.Worn = refl
goes_on_so reply.OldFile = refl

module _ (L : Listing → Type 0) (connection : ℕ) (grants : List Grant) where
  request_told : (request : Request) (its : List Grant) (said : List ℕ) (ended : End) → request ≢ Quit → IsTold L connection grants (asks Line (request ∷ [])) its said ended
      → Answered (IsGranted connection) grants (Asks request ∷ []) (grants ++ its) said ended
  request_told request [] said ended other (for, text, goes) = absurd for
  request_told request (g ∷ []) said ended other (for, text, goes) =
      subst (Answered (IsGranted connection) grants (Asks request ∷ []) (grants ++ g ∷ []) said) (sym (goes ∙ goes_on_so g.reply))
      (request_answered (IsGranted connection) grants (grants ++ g ∷ []) request g.reply said other (g, refl, for.0) (text ∙ append-nil (reply_text g.reply)))
  request_told request (g ∷ h ∷ its) said ended other (for, text, goes) = absurd for.1

  item_told : (item : Item) (its : List Grant) (said : List ℕ) (ended : End) → IsTold L connection grants (of_line item) its said ended → Answered (IsGranted connection) grants (item ∷ []) (grants ++ its) said ended
  item_told (Asks Quit) its said ended (none, text, goes) =
      record { replies = []; served = ap (λ (gs : List Grant). grants ++ gs) none ∙ append-nil grants; text = text; ends = sym goes }
  item_told (Asks (Add k)) its said ended told = request_told (Add k) its said ended (λ e. cc) told
  item_told (Asks (Remove k)) its said ended told = request_told (Remove k) its said ended (λ e. cc) told
  item_told (Asks (Has k)) its said ended told = request_told (Has k) its said ended (λ e. cc) told
  item_told (Faulty bad) its said ended (none, text, goes) =
      subst (λ (e : End). Answered (IsGranted connection) grants (Faulty bad ∷ []) (grants ++ its) said e) (sym goes)
      (subst (λ (gs : List Grant). Answered (IsGranted connection) grants (Faulty bad ∷ []) gs said ends.Done) (sym (ap (λ (gs : List Grant). grants ++ gs) none ∙ append-nil grants))
      (fault_answered (IsGranted connection) grants bad said text))

one_item : (items : List Item) (e : Exchange) → map of_line items ≡ e ∷ [] → (item : Item) × (items ≡ item ∷ []) × (of_line item ≡ e)
one_item [] e are = absurd (cc)
one_item (item ∷ []) e are = (item, refl, cc)
one_item (item ∷ other ∷ items) e are = absurd (cc)

no_items : (items : List Item) → map of_line items ≡ [] → [] ≡ items
no_items [] are = refl
no_items (item ∷ items) are = absurd (cc)

answered : (L : Listing → Type 0) (connection : ℕ) (exchanges : List Exchange) (grants : List Grant) (text : List ℕ) (ended : End) → AreTold L connection exchanges grants text ended → (items : List Item) → map of_line items ≡ exchanges
    → Answered (IsGranted connection) [] items grants text ended
answered L _ _ _ _ _ (nothing connection) items are =
    subst (λ (l : List Item). Answered (IsGranted connection) [] l [] [] ends.Done) (no_items items are) (record { replies = []; served = refl; text = refl; ends = refl })
answered L _ _ _ _ _ (more connection exchanges grants text exchange its said ended before told) items are =
    let f = fronts of_line items exchanges (exchange ∷ []) are in
    let one = one_item f.rest exchange f.others in
    let first = answered L connection exchanges grants text ends.Done before f.front f.first in
    let last = item_told L connection grants one.0 its said ended (subst (λ (e : Exchange). IsTold L connection grants e its said ended) (sym one.2) told) in
    subst (λ (l : List Item). Answered (IsGranted connection) [] l (grants ++ its) (text ++ said) ended) (sym (f.whole ∙ ap (λ (l : List Item). f.front ++ l) one.1))
    (answered_more (IsGranted connection) [] grants (grants ++ its) f.front (one.0 ∷ []) text said ended first last)

length_map : {A B : Type 0} (f : A → B) (l : List A) → length l ≡ length (map f l)
length_map f [] = refl
length_map f (x ∷ l) = ap (λ (n : ℕ). suc n) (length_map f l)

-- what a line comes to that is refused
abbrev as_refused : Item → Exchange
as_refused item = refused_of (of_line item)

refused_lines : (items : List Item) → map refused_of (map of_line items) ≡ map as_refused items
refused_lines [] = refl
refused_lines (item ∷ items) = ap (λ (l : List Exchange). as_refused item ∷ l) (refused_lines items)

-- the items of exchanges that were told, of which the last ones were refused, and of the others
record Parts (s : Bool) (done left : List Exchange) (kept cut : List Item) : Type 0 where
  front : List Item
  refused : List Item
  rest : List Item
  whole : kept ++ cut ≡ front ++ (refused ++ rest)
  told : done ≡ map of_line front ++ map as_refused refused
  many : length rest ≡ length left
  goes : s ≡ false → refused ≡ []
  rests : refused ≢ [] → requests_in left ≡ []

refused_parts : (done left : List Exchange) (kept cut : List Item) → done ++ left ≡ map of_line kept ++ map as_refused cut → Parts true done left kept cut
refused_parts [] left kept cut same =
    let both = length-append kept cut in
    let many : length left ≡ length (map of_line kept) + length (map as_refused cut) = ap (λ (l : List Exchange). length l) same ∙ length-append (map of_line kept) (map as_refused cut) in
    let k = length_map of_line kept in
    let c = length_map as_refused cut in
    record { front = []; refused = []; rest = kept ++ cut; whole = refl; told = refl; many = omega (arith, both, many, k, c); goes = λ _. refl; rests = λ some. absurd (some refl) }
refused_parts (x ∷ done) left (item ∷ kept) cut same =
    let first : x ≡ of_line item = cc in
    let others : done ++ left ≡ map of_line kept ++ map as_refused cut = cc in
    let p = refused_parts done left kept cut others in
    record {
      front = item ∷ p.front;
      refused = p.refused;
      rest = p.rest;
      whole = ap (λ (l : List Item). item ∷ l) p.whole;
      told = ap (λ (e : Exchange). e ∷ done) first ∙ ap (λ (l : List Exchange). of_line item ∷ l) p.told;
      many = p.many;
      goes = λ going. absurd (true≢false going);
      rests = p.rests;
    }
refused_parts (x ∷ done) left [] cut same =
    let f = fronts as_refused cut (x ∷ done) left (sym same) in
    record {
      front = [];
      refused = f.front;
      rest = f.rest;
      whole = f.whole;
      told = sym f.first;
      many = length_map as_refused f.rest ∙ ap (λ (l : List Exchange). length l) f.others;
      goes = λ going. absurd (true≢false going);
      rests = λ some. ap (λ (l : List Exchange). requests_in l) (sym f.others ∙ sym (refused_lines f.rest)) ∙ refused_asks (map of_line f.rest);
    }

parts : (s : Bool) (done left : List Exchange) (kept cut : List Item) → done ++ left ≡ map of_line kept ++ taken s (map of_line cut) → Parts s done left kept cut
parts true done left kept cut same = refused_parts done left kept cut (same ∙ ap (λ (l : List Exchange). map of_line kept ++ l) (refused_lines cut))
parts false done left kept cut same =
    let f = fronts of_line (kept ++ cut) done left (map-append of_line kept cut ∙ sym same) in
    record {
      front = f.front;
      refused = [];
      rest = f.rest;
      whole = f.whole;
      told = sym f.first ∙ sym (append-nil (map of_line f.front));
      many = length_map of_line f.rest ∙ ap (λ (l : List Exchange). length l) f.others;
      goes = λ _. refl;
      rests = λ some. absurd (some refl);
    }

last_of : (items : List Item) → (items ≡ []) ⊎ ((front : List Item) × (item : Item) × (items ≡ front ++ item ∷ []))
last_of [] = inl refl
last_of (first ∷ items) = elim (last_of items) [
  | inl none ↦ inr ([], first, ap (λ (l : List Item). first ∷ l) none)
  | inr some ↦ inr (first ∷ some.0, some.1, ap (λ (l : List Item). first ∷ l) some.2)
]

-- where the last one is the same
last_same : (xs ys : List Exchange) (x y : Exchange) → xs ++ x ∷ [] ≡ ys ++ y ∷ [] → (xs ≡ ys) × (x ≡ y)
last_same [] [] x y same = (refl, cc)
last_same [] (b ∷ []) x y same = absurd (cc)
last_same [] (b ∷ c ∷ ys) x y same = absurd (cc)
last_same (a ∷ []) [] x y same = absurd (cc)
last_same (a ∷ c ∷ xs) [] x y same = absurd (cc)
last_same (a ∷ xs) (b ∷ ys) x y same =
    let first : a ≡ b = cc in
    let others : xs ++ x ∷ [] ≡ ys ++ y ∷ [] = cc in
    let both = last_same xs ys x y others in
    (ap (λ (e : Exchange). e ∷ xs) first ∙ ap (λ (l : List Exchange). b ∷ l) both.0, both.1)

-- the text before it
before_more : (text : List ℕ) (first : List Item) (item : Item) → refused_text (first ++ item ∷ []) ≡ refused_text first ++ refused_text (item ∷ []) → text ++ refused_text (first ++ item ∷ []) ≡ (text ++ refused_text first) ++ refused_text (item ∷ [])
before_more text first item so = ap (λ (w : List ℕ). text ++ w) so ∙ sym (append_assoc text (refused_text first) (refused_text (item ∷ [])))

-- what is told of one line more that is refused, where the conversation goes on before it
one_more : (first : List Item) (item : Item) → refused_end first ≡ ends.Done
    → (refused_text (first ++ item ∷ []) ≡ refused_text first ++ refused_text (item ∷ [])) × (refused_end (first ++ item ∷ []) ≡ refused_end (item ∷ []))
one_more [] item goes = (refl, refl)
one_more (Asks Quit ∷ first) item goes = absurd (cc)
one_more (Faulty bad ∷ first) item goes = let r = one_more first item goes in (before_more (bad_text bad) first item r.0, r.1)
one_more (Asks (Add k) ∷ first) item goes = let r = one_more first item goes in (before_more (refusal Line) first item r.0, r.1)
one_more (Asks (Remove k) ∷ first) item goes = let r = one_more first item goes in (before_more (refusal Line) first item r.0, r.1)
one_more (Asks (Has k) ∷ first) item goes = let r = one_more first item goes in (before_more (refusal Line) first item r.0, r.1)

-- those that were refused go on where all do
goes_before : (before : End) (first : List Item) → EndsAfter before first ends.Done → (before ≡ ends.Done) × (refused_end first ≡ ends.Done)
goes_before before [] goes = (sym goes, refl)
goes_before before (item ∷ first) goes = (goes.0, sym goes.1)

ends_after : (before after : End) (first : List Item) (item : Item) → before ≡ ends.Done → after ≡ refused_end (first ++ item ∷ []) → EndsAfter before (first ++ item ∷ []) after
ends_after before after [] item goes is = (goes, is)
ends_after before after (x ∷ first) item goes is = (goes, is)

-- the session of the first items, and what is told of those that were refused
record Said (connection : ℕ) (front refused : List Item) (grants : List Grant) (text : List ℕ) (ended : End) : Type 0 where
  said : List ℕ
  before : End
  answered : Answered (IsGranted connection) [] front grants said before
  told : text ≡ said ++ refused_text refused
  ends : EndsAfter before refused ended

-- one that was refused is told by no grant
record Refusal (item : Item) (its : List Grant) (said : List ℕ) (ended : End) : Type 0 where
  none : its ≡ []
  text : said ≡ refused_text (item ∷ [])
  ends : ended ≡ refused_end (item ∷ [])

refusal_told : (L : Listing → Type 0) (connection : ℕ) (grants its : List Grant) (item : Item) (said : List ℕ) (ended : End) → IsTold L connection grants (as_refused item) its said ended → Refusal item its said ended
refusal_told L connection grants its (Asks Quit) said ended told = record { none = told.0; text = told.1; ends = told.2 }
refusal_told L connection grants its (Asks (Add k)) said ended told = record { none = told.0; text = told.1 ∙ sym (append-nil (refusal Line)); ends = told.2 }
refusal_told L connection grants its (Asks (Remove k)) said ended told = record { none = told.0; text = told.1 ∙ sym (append-nil (refusal Line)); ends = told.2 }
refusal_told L connection grants its (Asks (Has k)) said ended told = record { none = told.0; text = told.1 ∙ sym (append-nil (refusal Line)); ends = told.2 }
refusal_told L connection grants its (Faulty bad) said ended told = record { none = told.0; text = told.1 ∙ sym (append-nil (bad_text bad)); ends = told.2 }

none_refused : (L : Listing → Type 0) (connection : ℕ) (exchanges : List Exchange) (grants : List Grant) (text : List ℕ) (ended : End) → AreTold L connection exchanges grants text ended → (front refused : List Item) → refused ≡ []
    → exchanges ≡ map of_line front ++ map as_refused refused → Said connection front refused grants text ended
none_refused L connection exchanges grants text ended told front refused none are =
    let its : map of_line front ≡ exchanges = sym (append-nil (map of_line front)) ∙ ap (λ (l : List Item). map of_line front ++ map as_refused l) (sym none) ∙ sym are in
    record {
      said = text;
      before = ended;
      answered = answered L connection exchanges grants text ended told front its;
      told = sym (append-nil text) ∙ ap (λ (l : List Item). text ++ refused_text l) (sym none);
      ends = subst (λ (l : List Item). EndsAfter ended l ended) (sym none) refl;
    }

no_front : (xs : List Exchange) (front : List Item) (item : Item) → [] ≡ xs ++ map as_refused (front ++ item ∷ []) → ⊥
no_front [] [] item is = cc
no_front [] (first ∷ front) item is = cc
no_front (x ∷ xs) front item is = cc

told_so : (L : Listing → Type 0) (connection : ℕ) (exchanges : List Exchange) (grants : List Grant) (text : List ℕ) (ended : End) → AreTold L connection exchanges grants text ended → (front refused : List Item) → exchanges ≡ map of_line front ++ map as_refused refused
    → Said connection front refused grants text ended
told_so L _ _ _ _ _ (nothing connection) front refused are = elim (last_of refused) [
  | inl none ↦ none_refused L connection [] [] [] ends.Done (nothing connection) front refused none are
  | inr some ↦ absurd (no_front (map of_line front) some.0 some.1 (are ∙ ap (λ (l : List Item). map of_line front ++ map as_refused l) some.2))
]
told_so L _ _ _ _ _ (more connection exchanges grants text exchange its said ended before told) front refused are = elim (last_of refused) [
  | inl none ↦ none_refused L connection (exchanges ++ exchange ∷ []) (grants ++ its) (text ++ said) ended (more connection exchanges grants text exchange its said ended before told) front refused none are
  | inr some ↦
      let first = some.0 in
      let item = some.1 in
      let is = some.2 in
      let all : exchanges ++ exchange ∷ [] ≡ (map of_line front ++ map as_refused first) ++ as_refused item ∷ [] =
      are ∙ ap (λ (l : List Item). map of_line front ++ map as_refused l) is ∙ ap (λ (l : List Exchange). map of_line front ++ l) (map-append as_refused first (item ∷ [])) ∙ sym (append_assoc (map of_line front) (map as_refused first) (as_refused item ∷ [])) in
      let same = last_same exchanges (map of_line front ++ map as_refused first) exchange (as_refused item) all in
      let was = told_so L connection exchanges grants text ends.Done before front first same.0 in
      let now = refusal_told L connection grants its item said ended (subst (λ (e : Exchange). IsTold L connection grants e its said ended) same.1 told) in
      let goes = goes_before was.before first was.ends in
      let both = one_more first item goes.1 in
      record {
        said = was.said;
        before = was.before;
        answered = subst (λ (gs : List Grant). Answered (IsGranted connection) [] front gs was.said was.before) (sym (append-nil grants) ∙ ap (λ (gs : List Grant). grants ++ gs) (sym now.none)) was.answered;
        told = ap (λ (w : List ℕ). w ++ said) was.told ∙ ap (λ (w : List ℕ). (was.said ++ refused_text first) ++ w) now.text ∙ append_assoc was.said (refused_text first) (refused_text (item ∷ [])) ∙ ap (λ (w : List ℕ). was.said ++ w) (sym both.0)
            ∙ ap (λ (l : List Item). was.said ++ refused_text l) (sym is);
        ends = subst (λ (l : List Item). EndsAfter was.before l ended) (sym is) (ends_after was.before ended first item goes.0 (now.ends ∙ sym both.1));
      }
]

-- where nothing is asked, no line is under way, and none waits
none_asked : (under : List UnderWay) (waiting : List Request) → asked_by under ++ waiting ≡ [] → (under ≡ []) × (waiting ≡ [])
none_asked [] waiting none = (refl, none)
none_asked (line ∷ under) waiting none = absurd (cc)

lines_came : (spoken : Language) (text : List ℕ) (exchanges : List Exchange) (r : Option Reader) → read_as spoken text ≡ language.Lines → CameFrom spoken text exchanges r → (items : List Item) × LinesCame text items r × (exchanges ≡ map of_line items)
lines_came spoken text exchanges (Some (reader.Lines kept)) lines came = came.1
lines_came spoken text exchanges (Some (reader.Frames place)) lines came =
    let apart : ◌≡◌ {A = Language} language.Lines (language.Frames came.0) = sym lines ∙ came.1 in absurd (cc)
lines_came spoken text exchanges (Some (reader.Unread naming)) lines came =
    let apart : ◌≡◌ {A = Language} language.Lines (language.Either naming) = sym lines ∙ untold_yet spoken naming text came.0 came.1 in absurd (cc)
lines_came spoken text exchanges None lines came = subst (λ (l : Language). CameOfAll l text exchanges) lines came

pub lines_are_sessions : (L : Listing → Type 0) → LinesAreSessions L
lines_are_sessions L connection grants text sent t lines at =
    let kept = at.came.0 in
    let cut = at.came.1 in
    let came = lines_came t.spoken text (kept ++ cut) t.reader lines at.came.2 in
    let f = fronts of_line came.0 kept cut (sym came.2) in
    let are : at.done ++ at.left ≡ map of_line f.front ++ taken t.stops (map of_line f.rest) =
    at.came.3 ∙ ap (λ (l : List Exchange). l ++ taken t.stops cut) (sym f.first) ∙ ap (λ (l : List Exchange). map of_line f.front ++ taken t.stops l) (sym f.others) in
    let p = parts t.stops at.done at.left f.front f.rest are in
    let s = told_so L connection at.done grants (sent ++ t.unsent) t.ended at.told p.front p.refused p.told in
    record {
      done = p.front;
      refused = p.refused;
      left = p.rest;
      came = subst (λ (l : List Item). LinesCame text l t.reader) (f.whole ∙ p.whole) came.1;
      many = p.many ∙ length_map turn_of at.left ∙ ap (λ (l : List Turn). length l) at.turns;
      said = s.said;
      ended = s.before;
      answered = s.answered;
      told = s.told;
      ends = s.ends;
      goes = p.goes;
      unbegun = λ some. none_asked t.under t.waiting (sym at.asked ∙ p.rests some);
    }

-- a service that nobody can ask to stop goes on
pub unasked : (stops : Bool) → (stops ≡ true → ⊥) → stops ≡ false
unasked false asked = refl
unasked true asked = absurd (asked refl)

-- The session of a service that goes on: nothing was refused.
pub record GoesOn (connection : ℕ) (grants : List Grant) (text sent : List ℕ) (t : Talk) : Type 0 where
  pub done : List Item
  pub left : List Item
  pub came : LinesCame text (done ++ left) t.reader
  pub many : length left ≡ length t.turns
  pub answered : Answered (IsGranted connection) [] done grants (sent ++ t.unsent) t.ended

pub going_on : (connection : ℕ) (grants : List Grant) (text sent : List ℕ) (t : Talk) → IsSession connection grants text sent t → t.stops ≡ false → GoesOn connection grants text sent t
going_on connection grants text sent t s goes =
    let none = s.goes goes in
    let said : s.said ≡ sent ++ t.unsent = sym (append-nil s.said) ∙ ap (λ (l : List Item). s.said ++ refused_text l) (sym none) ∙ sym s.told in
    let ended : s.ended ≡ t.ended = sym (subst (λ (l : List Item). EndsAfter s.ended l t.ended) none s.ends) in
    record {
      done = s.done;
      left = s.left;
      came = subst (λ (l : List Item). LinesCame text (s.done ++ (l ++ s.left)) t.reader) none s.came;
      many = s.many;
      answered = subst (λ (e : End). Answered (IsGranted connection) [] s.done grants (sent ++ t.unsent) e) ended (subst (λ (w : List ℕ). Answered (IsGranted connection) [] s.done grants w s.ended) said s.answered);
    }
