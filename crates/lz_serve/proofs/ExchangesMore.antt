-- Exchanges after others.
use Rattle.std.proofs.Common.{◌≡◌, Bool, true, false, List, [], ◌∷◌, ◌++◌, map, refl, sym, ap, ◌∙◌, append_assoc}
use Rattle.lz_proto.specs.declared.request.Request.{Request}
use Rattle.lz_serve.specs.{declared.turn.Turn.{Turn}, Exchanges.{Exchange, Pending, adding, asks, ends, lists, refused, requests_in, says, taken, tells, turn_of}}

pub map_more : {A B : Type 0} (f : A → B) (xs ys : List A) → map f (xs ++ ys) ≡ map f xs ++ map f ys
map_more f [] ys = refl
map_more f (x ∷ xs) ys = ap (λ (l : List _). f x ∷ l) (map_more f xs ys)

pub requests_more : (xs ys : List Exchange) → requests_in (xs ++ ys) ≡ requests_in xs ++ requests_in ys
requests_more [] ys = refl
requests_more (asks wording requests ∷ xs) ys = ap (λ (l : List Request). requests ++ l) (requests_more xs ys) ∙ sym (append_assoc requests (requests_in xs) (requests_in ys))
requests_more (says text ∷ xs) ys = requests_more xs ys
requests_more (lists scan ∷ xs) ys = requests_more xs ys
requests_more (tells query ∷ xs) ys = requests_more xs ys
requests_more (ends text ∷ xs) ys = requests_more xs ys

pub taken_more : (s : Bool) (xs ys : List Exchange) → taken s (xs ++ ys) ≡ taken s xs ++ taken s ys
taken_more false xs ys = refl
taken_more true xs ys = map_more refused xs ys

-- these after those
pub adding_both : (xs ys : List Exchange) (p : Pending) → adding ys (adding xs p) ≡ adding (xs ++ ys) p
adding_both xs ys p =
    let these = taken p.stops xs in
    let those = taken p.stops ys in
    let both : taken p.stops (xs ++ ys) ≡ these ++ those = taken_more p.stops xs ys in
    let turns : (p.turns ++ map turn_of these) ++ map turn_of those ≡ p.turns ++ map turn_of (these ++ those) = append_assoc p.turns (map turn_of these) (map turn_of those) ∙ ap (λ (l : List Turn). p.turns ++ l) (sym (map_more turn_of these those)) in
    let waiting : (p.waiting ++ requests_in these) ++ requests_in those ≡ p.waiting ++ requests_in (these ++ those) = append_assoc p.waiting (requests_in these) (requests_in those) ∙ ap (λ (l : List Request). p.waiting ++ l) (sym (requests_more these those)) in
    ap (λ (l : List Turn). record p { turns = l; waiting = (p.waiting ++ requests_in these) ++ requests_in those }) turns ∙ ap (λ (l : List Request). record p { turns = p.turns ++ map turn_of (these ++ those); waiting = l }) waiting
    ∙ ap (λ (l : List Exchange). record p { turns = p.turns ++ map turn_of l; waiting = p.waiting ++ requests_in l }) (sym both)

-- one more of a language
pub adding_one : {A : Type 0} (of : A → Exchange) (items : List A) (item : A) (p : Pending) → adding (of item ∷ []) (adding (map of items) p) ≡ adding (map of (items ++ item ∷ [])) p
adding_one of items item p = adding_both (map of items) (of item ∷ []) p ∙ ap (λ (l : List Exchange). adding l p) (sym (map_more of items (item ∷ [])))
