-- What was begun is parted from what is refused.
use Rattle.std.proofs.Common.{◌≡◌, ◌<◌, ◌≤◌, ◌+◌, ◌-◌, ◌++◌, ℕ, zero, suc, Bool, true, false, List, [], ◌∷◌, Option, length, map, take, refl, sym, ap, subst, ◌∙◌, arith, append_assoc}
use Rattle.std.proofs.{Math.Seq.{take-append-add, take-nil}, lemmas.List.{append-nil}}
use Rattle.lz_proto.specs.declared.request.Request.{Request}
use Rattle.lz_serve.specs.declared.{language.Language.{Language}, reader.Reader.{Reader}, turn.Turn.{Turn}}
use Rattle.lz_serve.specs.Exchanges.{CameFrom, Exchange, asks, ends, lists, refused, requests_in, says, taken, tells, turn_of}
use Rattle.lz_serve.{specs.Refusals.{TakenFrom, asked_in, cut_turns, kept_waiting, refused_turn}, proofs.ExchangesMore.{map_more, requests_more}}

-- where none is left
pub waits_none : (turns : List Turn) (left : ℕ) → left ≡ 0 → kept_waiting left turns ≡ 0
waits_none [] left none = refl
waits_none (t ∷ turns) zero none = refl
waits_none (t ∷ turns) (suc n) none = absurd (omega (arith, none))

-- the last of which some were begun
pub waits_last : (t : Turn) (turns : List Turn) (left : ℕ) → 0 < left → left ≤ asked_in t → kept_waiting left (t ∷ turns) ≡ asked_in t - left
waits_last t turns zero some last = absurd (omega (arith, some))
waits_last t turns (suc n) some last = let none = waits_none turns (suc n - asked_in t) (omega (arith, last)) in omega (arith, none)

turn_refused : (e : Exchange) → turn_of (refused e) ≡ refused_turn (turn_of e)
turn_refused (asks wording requests) = refl
turn_refused (says text) = refl
turn_refused (lists scan) = refl
turn_refused (tells query) = refl
turn_refused (ends text) = refl

turns_refused : (xs : List Exchange) → map turn_of (map refused xs) ≡ cut_turns 0 (map turn_of xs)
turns_refused [] = refl
turns_refused (x ∷ xs) = ap (λ (t : Turn). t ∷ map turn_of (map refused xs)) (turn_refused x) ∙ ap (λ (l : List Turn). refused_turn (turn_of x) ∷ l) (turns_refused xs)

-- one that was refused asks nothing
pub refused_asks : (xs : List Exchange) → requests_in (map refused xs) ≡ []
refused_asks [] = refl
refused_asks (asks wording requests ∷ xs) = refused_asks xs
refused_asks (says text ∷ xs) = refused_asks xs
refused_asks (lists scan ∷ xs) = refused_asks xs
refused_asks (tells query ∷ xs) = refused_asks xs
refused_asks (ends text ∷ xs) = refused_asks xs

asked_many : (e : Exchange) → asked_in (turn_of e) ≡ length (requests_in (e ∷ []))
asked_many (asks wording requests) = ap (λ (l : List Request). length l) (sym (append-nil requests))
asked_many (says text) = refl
asked_many (lists scan) = refl
asked_many (tells query) = refl
asked_many (ends text) = refl

-- Exchanges of which so many requests were begun: those that are as they were, and those that are refused.
pub record Cut (begun : ℕ) (left : List Exchange) : Type 0 where
  pub front : List Exchange
  pub rest : List Exchange
  pub whole : left ≡ front ++ rest
  pub turns : map turn_of (front ++ map refused rest) ≡ cut_turns begun (map turn_of left)
  pub asked : requests_in (front ++ map refused rest) ≡ take (begun + kept_waiting begun (map turn_of left)) (requests_in left)

pub cut : (begun : ℕ) (left : List Exchange) → Cut begun left
cut begun [] = record { front = []; rest = []; whole = refl; turns = refl; asked = sym (take-nil (begun + 0)) }
cut zero (x ∷ xs) = record { front = []; rest = x ∷ xs; whole = refl; turns = turns_refused (x ∷ xs); asked = refused_asks (x ∷ xs) }
cut (suc n) (x ∷ xs) =
    let t = turn_of x in
    let ts = map turn_of xs in
    let c = cut (suc n - asked_in t) xs in
    let its = requests_in (x ∷ []) in
    let others = requests_in xs in
    let more = (suc n - asked_in t) + kept_waiting (suc n - asked_in t) ts in
    let many = asked_many x in
    let so_many : length its + more ≡ suc n + kept_waiting (suc n) (t ∷ ts) = omega (arith, many) in
    record {
      front = x ∷ c.front;
      rest = c.rest;
      whole = ap (λ (l : List Exchange). x ∷ l) c.whole;
      turns = ap (λ (l : List Turn). t ∷ l) c.turns;
      asked = requests_more (x ∷ []) (c.front ++ map refused c.rest) ∙ ap (λ (l : List Request). its ++ l) c.asked ∙ sym (take-append-add its others more)
          ∙ ap (λ (k : ℕ). take k (its ++ others)) so_many ∙ ap (λ (l : List Request). take (suc n + kept_waiting (suc n) (t ∷ ts)) l) (sym (requests_more (x ∷ []) xs));
    }

-- one that was refused is refused no further
again : (e : Exchange) → refused (refused e) ≡ refused e
again (asks wording requests) = refl
again (says text) = refl
again (lists scan) = refl
again (tells query) = refl
again (ends text) = refl

all_again : (xs : List Exchange) → map refused (map refused xs) ≡ map refused xs
all_again [] = refl
all_again (x ∷ xs) = ap (λ (e : Exchange). e ∷ map refused (map refused xs)) (again x) ∙ ap (λ (l : List Exchange). refused x ∷ l) (all_again xs)

taken_again : (s : Bool) (xs : List Exchange) → map refused (taken s xs) ≡ map refused xs
taken_again false xs = refl
taken_again true xs = all_again xs

rest_again : (xs rest cut : List Exchange) → xs ++ rest ≡ map refused cut → xs ++ map refused rest ≡ map refused cut
rest_again [] rest cut same = ap (λ (l : List Exchange). map refused l) same ∙ all_again cut
rest_again (x ∷ xs) rest [] same = absurd (cc)
rest_again (x ∷ xs) rest (e ∷ cut) same =
    let first : x ≡ refused e = cc in
    let others : xs ++ rest ≡ map refused cut = cc in
    ap (λ (y : Exchange). y ∷ (xs ++ map refused rest)) first ∙ ap (λ (l : List Exchange). refused e ∷ l) (rest_again xs rest cut others)

-- what was taken, of which a rest more is refused
record Recut (xs rest kept cut : List Exchange) : Type 0 where
  front : List Exchange
  others : List Exchange
  whole : kept ++ cut ≡ front ++ others
  are : xs ++ map refused rest ≡ front ++ map refused others

recut : (s : Bool) (xs rest kept cut : List Exchange) → xs ++ rest ≡ kept ++ taken s cut → Recut xs rest kept cut
recut s [] rest kept cut same =
    record {
      front = [];
      others = kept ++ cut;
      whole = refl;
      are = ap (λ (l : List Exchange). map refused l) same ∙ map_more refused kept (taken s cut) ∙ ap (λ (l : List Exchange). map refused kept ++ l) (taken_again s cut) ∙ sym (map_more refused kept cut);
    }
recut s (x ∷ xs) rest (k ∷ kept) cut same =
    let first : x ≡ k = cc in
    let others : xs ++ rest ≡ kept ++ taken s cut = cc in
    let r = recut s xs rest kept cut others in
    record {
      front = x ∷ r.front;
      others = r.others;
      whole = ap (λ (e : Exchange). e ∷ (kept ++ cut)) (sym first) ∙ ap (λ (l : List Exchange). x ∷ l) r.whole;
      are = ap (λ (l : List Exchange). x ∷ l) r.are;
    }
recut false (x ∷ xs) rest [] cut same = record { front = x ∷ xs; others = rest; whole = sym same; are = refl }
recut true (x ∷ xs) rest [] cut same = record { front = []; others = cut; whole = refl; are = rest_again (x ∷ xs) rest cut same }

-- what was taken of a text was taken so where its service stops
pub taken_later : (stops : Bool) (spoken : Language) (text : List ℕ) (done front rest : List Exchange) (r : Option Reader) → TakenFrom stops spoken text (done ++ (front ++ rest)) r → TakenFrom true spoken text (done ++ (front ++ map refused rest)) r
taken_later stops spoken text done front rest r (kept, cut, came, are) =
    let c = recut stops (done ++ front) rest kept cut (append_assoc done front rest ∙ are) in
    (c.front, c.others, subst (λ (l : List Exchange). CameFrom spoken text l r) c.whole came, sym (append_assoc done front (map refused rest)) ∙ c.are)
