-- Worked conversations.
use Rattle.lz_proto.specs.declared.end.End.TheVariants as ends
use Rattle.lz_serve.specs.declared.reader.Reader.TheVariants as reader
use Rattle.lz_serve.specs.declared.turn.Wording.TheVariants as wording
use Rattle.lz_serve.specs.Exchanges as exchange
use Rattle.std.{specs.{Prelude.{⊤}, Fmt.{digits}}, proofs.Common.{◌≡◌, inl, inr, ℕ, List, [], ◌∷◌, ◌++◌, ◌+◌, suc, length, Option, Some, None, false, refl}}
use Rattle.std.proofs.{Common.{sym, ap, subst, ◌∙◌, arith, codes, length-append}, lemmas.List.{append-nil, nil_from_length}}
use Rattle.lz_proto.specs.declared.{request.Request.{Request, TheVariants.{Add, Has, Quit}}, fault.Bad.TheVariants.{NoNumber}, item.Item.{Item}}
use Rattle.lz_proto.specs.declared.{item.Item.TheVariants.{Asks, Faulty}, reply.Reply.{Reply, TheVariants.{Yes, No, Full, Halted, Worn, OldFile}}}
use Rattle.lz_proto.{specs.{declared.end.End.{End}, Lines.{line, nothing}, Pieces.{Reads}, Sessions.{Serves, session_text}}, proofs.LineReads.{item_read}}
use Rattle.lz_proto.proofs.Texts.{only}
use Rattle.lz_board.specs.declared.pass.Pass.{Pass}
use Rattle.lz_serve.specs.declared.{line.Line.{Line}, language.Language.{Language, TheVariants.{Lines, Frames}}, turn.Turn.{Turn, TheVariants.{Asks as asks, Says as says}}}
use Rattle.lz_serve.specs.{Grants.{Grant, IsOfLine, key_asked}, Lines.{IsFree, awaited}, Listings.{Listing}, Exchanges.{CameFrom, Exchange, read_as}}
use Rattle.lz_serve.specs.{Conversations.{AreTold, IsAt, IsTold, Rests, Talk, more, nothing as none_told}, LineSessions.{IsGranted}}
use Rattle.lz_serve.proofs.LineSessions.{GoesOn, going_on, lines_are_sessions}
use Rattle.lz_resp.specs.declared.{form.Form.TheVariants.{Added}, naming.Naming.{Naming}}

-- whatever is so of pages
abbrev pub any : Listing → Type 0
any l = ⊤

-- a request and a fault
abbrev pub lines : List ℕ
lines = codes "add 1\nhas x\n"

abbrev pub items : List Item
items = Asks (Add 1) ∷ Faulty NoNumber ∷ []

-- the request was granted this reply, and nothing else was
abbrev pub get : Pass → Reply → Grant
get pass reply = record { question = record { connection = 1; line = 1; request = Add 1; before = pass; earlier = false }; reply = reply; after = pass }

-- the same of the next line of the connection
abbrev late : Pass → Reply → Grant
late pass reply = record { question = record { connection = 1; line = 2; request = Add 1; before = pass; earlier = false }; reply = reply; after = pass }

abbrev pub gets : Pass → Reply → List Grant
gets pass reply = get pass reply ∷ []

of_first : (p : Pass) → IsOfLine 1 1 (Add 1) Yes (get p Yes)
of_first p = record { of_connection = refl; of_number = refl; of_request = refl; of_reply = refl }

pub lines_read : Reads lines items (Some [])
lines_read = (
  refl,
  λ rest more its.
      line (codes "add 1") (Asks (Add 1)) (codes "has x\n" ++ rest) (Faulty NoNumber ∷ more) refl (item_read (codes "add 1")) (λ e. cc)
      (line (codes "has x") (Faulty NoNumber) rest more refl (item_read (codes "has x")) (λ e. cc) its),
)

-- the state of a conversation of these lines
abbrev pub stands : List Turn → List Request → ℕ → List ℕ → End → Talk
stands turns waiting told unsent ended =
    record { spoken = Lines; reader = Some (reader.Lines (Some [])); turns = turns; waiting = waiting; told = told; under = []; unsent = unsent; ended = ended; stops = false }

abbrev pub its_turns : List Turn
its_turns = asks wording.Line 1 ∷ says (codes "bad 3\n") ∷ []

abbrev pub first : Exchange
first = exchange.asks wording.Line (Add 1 ∷ [])

abbrev pub second : Exchange
second = exchange.says (codes "bad 3\n")

pub came : CameFrom Lines lines (first ∷ second ∷ []) (Some (reader.Lines (Some [])))
came = (refl, (items, lines_read, refl))

-- the lines came, and nothing was told
has_come : IsAt any 1 [] lines [] (stands its_turns (Add 1 ∷ []) 0 [] ends.Done)
has_come = record { done = []; left = first ∷ second ∷ []; came = ([], first ∷ second ∷ [], came, refl); turns = refl; asked = refl; told = none_told 1; counted = refl }

-- the request is asked
is_asked : IsAt any 1 [] lines [] (record (stands its_turns [] 0 [] ends.Done) { under = awaited (Add 1) ∷ [] })
is_asked = record { done = []; left = first ∷ second ∷ []; came = ([], first ∷ second ∷ [], came, refl); turns = refl; asked = refl; told = none_told 1; counted = refl }

first_told : (p : Pass) → AreTold any 1 (first ∷ []) (gets p Yes) (codes "yes\n") ends.Done
first_told p = more 1 [] [] [] first (gets p Yes) (codes "yes\n") ends.Done (none_told 1) ((of_first p, tt), refl, refl)

both_told : (p : Pass) → AreTold any 1 (first ∷ second ∷ []) (gets p Yes) (codes "yes\nbad 3\n") ends.Done
both_told p = more 1 (first ∷ []) (gets p Yes) (codes "yes\n") second [] (codes "bad 3\n") ends.Done (first_told p) (refl, refl, refl)

abbrev pub awaits_one : List Line
awaits_one = awaited (Add 1) ∷ []

two_is_free : IsFree awaits_one (Some 2)
two_is_free = grind arith

-- a request with another key isn't held up by one that is under way
rests_not : Rests (record (stands [] (Has 2 ∷ []) 0 [] ends.Done) { under = awaits_one }) → ⊥
rests_not (inl ended) = ended refl
rests_not (inr (inl none)) = absurd (cc)
rests_not (inr (inr (inl (request, held)))) = let same : Has 2 ≡ request = cc (held.0) in held.1 (subst (λ (r : Request). IsFree awaits_one (key_asked r)) same two_is_free)
rests_not (inr (inr (inr all))) = absurd (omega (arith, all))

-- its reply is to be sent
is_replied : (p : Pass) → IsAt any 1 (gets p Yes) lines [] (stands (says (codes "bad 3\n") ∷ []) [] 1 (codes "yes\n") ends.Done)
is_replied p = record { done = first ∷ []; left = second ∷ []; came = ([], first ∷ second ∷ [], came, refl); turns = refl; asked = refl; told = first_told p; counted = refl }

-- the fault was told too, and a part of both texts was sent
is_half_sent : (p : Pass) → IsAt any 1 (gets p Yes) lines (codes "yes\nba") (stands [] [] 1 (codes "d 3\n") ends.Done)
is_half_sent p = record { done = first ∷ second ∷ []; left = []; came = ([], first ∷ second ∷ [], came, refl); turns = refl; asked = refl; told = both_told p; counted = refl }

-- a frame with two members is told by two grants, and one text
two_members : (p : Pass) → IsTold any 1 [] (exchange.asks (wording.Frame Added) (Add 1 ∷ Add 1 ∷ [])) (get p Yes ∷ late p No ∷ []) (codes ":1\r\n") ends.Done
unfolding digits
two_members p = ((of_first p, (record { of_connection = refl; of_number = refl; of_request = refl; of_reply = refl }, tt)), refl, refl)

-- What must not hold.

-- a frame with two members that one grant tells
not_two_members : (p : Pass) (said : List ℕ) (ended : End) → IsTold any 1 [] (exchange.asks (wording.Frame Added) (Add 1 ∷ Add 1 ∷ [])) (gets p Yes) said ended → ⊥
not_two_members p said ended told = told.0.1

-- lines that are read as frames
not_as_frames : (naming : Naming) (text : List ℕ) (exchanges : List Exchange) → CameFrom (Frames naming) text exchanges (Some (reader.Lines (Some []))) → ⊥
not_as_frames naming text exchanges came = let apart = came.0 in cc

pub session : (grants : List Grant) (text : List ℕ) (t : Talk) → t.spoken ≡ Lines → t.stops ≡ false → IsAt any 1 grants text [] t → GoesOn 1 grants text [] t
session grants text t spoken goes at = going_on 1 grants text [] t (lines_are_sessions any 1 grants text [] t (ap (λ (l : Language). read_as l text) spoken) at) goes

-- lines that ended have these items alone
pub only_items : (text : List ℕ) (all done left : List Item) → Reads text all (Some []) → Reads text (done ++ left) (Some []) → length left ≡ 0 → done ≡ all
only_items text all done left r s none =
    sym (append-nil done) ∙ ap (λ (l : List Item). done ++ l) (sym (nil_from_length left none)) ∙ sym (append-nil (done ++ left)) ∙ only (text ++ []) (all ++ []) (r.1 [] [] nothing) ((done ++ left) ++ []) (s.1 [] [] nothing) ∙ append-nil all

turned_read : Reads (codes "has x\nadd 1\n") (Faulty NoNumber ∷ Asks (Add 1) ∷ []) (Some [])
turned_read = (
  refl,
  λ rest more its.
      line (codes "has x") (Faulty NoNumber) (codes "add 1\n" ++ rest) (Asks (Add 1) ∷ more) refl (item_read (codes "has x")) (λ e. cc)
      (line (codes "add 1") (Asks (Add 1)) rest more refl (item_read (codes "add 1")) (λ e. cc) its),
)

fault_begins : (replies : List Reply) → codes "yes\nbad 3\n" ≡ session_text (Faulty NoNumber ∷ Asks (Add 1) ∷ []) replies → ⊥
fault_begins replies e = cc

-- a reply's text before that of an earlier fault
not_before_a_fault : (grants : List Grant) → ¬ IsAt any 1 grants (codes "has x\nadd 1\n") [] (stands [] [] 1 (codes "yes\nbad 3\n") ends.Done)
not_before_a_fault grants stood =
    let at = session grants (codes "has x\nadd 1\n") (stands [] [] 1 (codes "yes\nbad 3\n") ends.Done) refl refl stood in
    let done = only_items (codes "has x\nadd 1\n") (Faulty NoNumber ∷ Asks (Add 1) ∷ []) at.done at.left turned_read at.came at.many in
    fault_begins at.answered.replies (subst (λ (all : List Item). codes "yes\nbad 3\n" ≡ session_text all at.answered.replies) done at.answered.text)

ends_there : (replies : List Reply) → codes "halted\nbad 3\n" ≡ session_text items replies → ⊥
ends_there [] e = cc
ends_there (Yes ∷ replies) e = cc
ends_there (No ∷ replies) e = cc
ends_there (Full ∷ replies) e = cc
ends_there (Halted ∷ replies) e = cc
ends_there (Worn ∷ replies) e = cc
ends_there (OldFile ∷ replies) e = cc

-- a text after `halted`
not_after_halted : (grants : List Grant) → ¬ IsAt any 1 grants lines [] (stands [] [] 1 (codes "halted\nbad 3\n") ends.Halted)
not_after_halted grants stood =
    let at = session grants lines (stands [] [] 1 (codes "halted\nbad 3\n") ends.Halted) refl refl stood in
    let done = only_items lines items at.done at.left lines_read at.came at.many in
    ends_there at.answered.replies (subst (λ (all : List Item). codes "halted\nbad 3\n" ≡ session_text all at.answered.replies) done at.answered.text)

has_read : Reads (codes "has 1\n") (Asks (Has 1) ∷ []) (Some [])
has_read = (refl, λ rest more its. line (codes "has 1") (Asks (Has 1)) rest more refl (item_read (codes "has 1")) (λ e. cc) its)

abbrev first_request : List Grant → Option Request
first_request [] = None
first_request (g ∷ grants) = Some g.question.request

no_reply : (p : Pass) (reply : Reply) (mid : List Grant) → IsGranted 1 [] (Has 1) reply mid → gets p Yes ≡ mid → ⊥
no_reply p reply mid so is = grind arith

unserved : (p : Pass) (replies : List Reply) → Serves (IsGranted 1) [] (Asks (Has 1) ∷ []) replies (gets p Yes) → ⊥
unserved p [] s = s
unserved p (Yes ∷ []) s = no_reply p Yes s.0 s.1 s.2
unserved p (No ∷ []) s = no_reply p No s.0 s.1 s.2
unserved p (Full ∷ []) s = no_reply p Full s.0 s.1 s.2
unserved p (Halted ∷ replies) s = no_reply p Halted (gets p Yes) s.0 refl
unserved p (Worn ∷ []) s = no_reply p Worn s.0 s.1 s.2
unserved p (OldFile ∷ []) s = no_reply p OldFile s.0 s.1 s.2
unserved p (Yes ∷ r ∷ replies) s = s.2
unserved p (No ∷ r ∷ replies) s = s.2
unserved p (Full ∷ r ∷ replies) s = s.2
unserved p (Worn ∷ r ∷ replies) s = s.2
unserved p (OldFile ∷ r ∷ replies) s = s.2

-- a reply that was granted to another request
not_of_another : (p : Pass) → ¬ IsAt any 1 (gets p Yes) (codes "has 1\n") [] (stands [] [] 1 (codes "yes\n") ends.Done)
not_of_another p stood =
    let at = session (gets p Yes) (codes "has 1\n") (stands [] [] 1 (codes "yes\n") ends.Done) refl refl stood in
    let done = only_items (codes "has 1\n") (Asks (Has 1) ∷ []) at.done at.left has_read at.came at.many in
    unserved p at.answered.replies (subst (λ (all : List Item). Serves (IsGranted 1) [] all at.answered.replies (gets p Yes)) done at.answered.served)

abbrev both : List Item
both = Asks (Add 1) ∷ Asks (Add 1) ∷ []

both_read : Reads (codes "add 1\nadd 1\n") both (Some [])
both_read = (
  refl,
  λ rest more its.
      line (codes "add 1") (Asks (Add 1)) (codes "add 1\n" ++ rest) (Asks (Add 1) ∷ more) refl (item_read (codes "add 1")) (λ e. cc)
      (line (codes "add 1") (Asks (Add 1)) rest more refl (item_read (codes "add 1")) (λ e. cc) its),
)

-- there are as many grants as replies
pub as_many : (old new : List Grant) (asked : List Item) (replies : List Reply) → Serves (IsGranted 1) old asked replies new → length new ≡ length old + length replies
as_many old new [] [] s = let e : length new ≡ length old = ap (λ (x : List Grant). length x) s in omega (arith, e)
as_many old new [] (reply ∷ replies) s = absurd s
as_many old new (Faulty bad ∷ asked) replies s = as_many old new asked replies s
as_many old new (Asks Quit ∷ asked) [] s = let e : length new ≡ length old = ap (λ (x : List Grant). length x) s in omega (arith, e)
as_many old new (Asks Quit ∷ asked) (reply ∷ replies) s = absurd s
as_many old new (Asks request ∷ asked) [] s = absurd s
as_many old new (Asks request ∷ asked) (Halted ∷ replies) s = grind (arith, length-append)
as_many old new (Asks request ∷ asked) (reply ∷ replies) s =
    let e : length s.0 ≡ length old + 1 = ap (λ (x : List Grant). length x) s.1.1 ∙ length-append old (s.1.0 ∷ []) in
    let n : length new ≡ length s.0 + length replies = as_many s.0 new asked replies s.2 in
    omega (arith, e, n)

not_two : (p : Pass) (first second : Reply) (replies : List Reply) → Serves (IsGranted 1) [] both (first ∷ second ∷ replies) (gets p Yes) → ⊥
not_two p first second replies s = let n : 1 ≡ 0 + suc (suc (length replies)) = as_many [] (gets p Yes) both (first ∷ second ∷ replies) s in absurd (omega (arith, n))

one_for_two : (p : Pass) (replies : List Reply) → Serves (IsGranted 1) [] both replies (gets p Yes) → codes "yes\nyes\n" ≡ session_text both replies → ⊥
one_for_two p [] s e = s
one_for_two p (Halted ∷ replies) s e = cc
one_for_two p (Yes ∷ []) s e = s.2
one_for_two p (No ∷ []) s e = s.2
one_for_two p (Full ∷ []) s e = s.2
one_for_two p (Worn ∷ []) s e = s.2
one_for_two p (OldFile ∷ []) s e = s.2
one_for_two p (first ∷ second ∷ replies) s e = not_two p first second replies s

-- two lines that ask the same, of which one was granted a reply
not_both_by_one : (p : Pass) → ¬ IsAt any 1 (gets p Yes) (codes "add 1\nadd 1\n") [] (stands [] [] 1 (codes "yes\nyes\n") ends.Done)
not_both_by_one p stood =
    let at = session (gets p Yes) (codes "add 1\nadd 1\n") (stands [] [] 1 (codes "yes\nyes\n") ends.Done) refl refl stood in
    let done = only_items (codes "add 1\nadd 1\n") both at.done at.left both_read at.came at.many in
    one_for_two p at.answered.replies (subst (λ (all : List Item). Serves (IsGranted 1) [] all at.answered.replies (gets p Yes)) done at.answered.served)
    (subst (λ (all : List Item). codes "yes\nyes\n" ≡ session_text all at.answered.replies) done at.answered.text)

abbrev first_line : List Grant → ℕ
first_line [] = 0
first_line (g ∷ grants) = g.question.line

too_late : (p : Pass) (reply : Reply) (mid : List Grant) → IsGranted 1 [] (Add 1) reply mid → late p Yes ∷ [] ≡ mid → ⊥
too_late p reply mid so is = grind arith

unserved_late : (p : Pass) (replies : List Reply) → Serves (IsGranted 1) [] (Asks (Add 1) ∷ []) replies (late p Yes ∷ []) → ⊥
unserved_late p [] s = s
unserved_late p (Yes ∷ []) s = too_late p Yes s.0 s.1 s.2
unserved_late p (No ∷ []) s = too_late p No s.0 s.1 s.2
unserved_late p (Full ∷ []) s = too_late p Full s.0 s.1 s.2
unserved_late p (Halted ∷ replies) s = too_late p Halted (late p Yes ∷ []) s.0 refl
unserved_late p (Worn ∷ []) s = too_late p Worn s.0 s.1 s.2
unserved_late p (OldFile ∷ []) s = too_late p OldFile s.0 s.1 s.2
unserved_late p (Yes ∷ r ∷ replies) s = s.2
unserved_late p (No ∷ r ∷ replies) s = s.2
unserved_late p (Full ∷ r ∷ replies) s = s.2
unserved_late p (Worn ∷ r ∷ replies) s = s.2
unserved_late p (OldFile ∷ r ∷ replies) s = s.2

pub add_read : Reads (codes "add 1\n") (Asks (Add 1) ∷ []) (Some [])
add_read = (refl, λ rest more its. line (codes "add 1") (Asks (Add 1)) rest more refl (item_read (codes "add 1")) (λ e. cc) its)

-- a reply that was granted to a later line, which asks the same
not_of_a_later_line : (p : Pass) → ¬ IsAt any 1 (late p Yes ∷ []) (codes "add 1\n") [] (stands [] [] 1 (codes "yes\n") ends.Done)
not_of_a_later_line p stood =
    let at = session (late p Yes ∷ []) (codes "add 1\n") (stands [] [] 1 (codes "yes\n") ends.Done) refl refl stood in
    let done = only_items (codes "add 1\n") (Asks (Add 1) ∷ []) at.done at.left add_read at.came at.many in
    unserved_late p at.answered.replies (subst (λ (all : List Item). Serves (IsGranted 1) [] all at.answered.replies (late p Yes ∷ [])) done at.answered.served)
