-- Worked rows of what a service that stops tells of what it hasn't begun.
use Rattle.lz_proto.specs.declared.end.End.TheVariants as ends
use Rattle.lz_serve.specs.declared.turn.Wording.TheVariants as wording
use Rattle.lz_serve.specs.Exchanges as exchange
use Rattle.std.proofs.Common.{◌≡◌, ◌++◌, ◌+◌, ℕ, suc, true, false, nat_eq, get_or, List, [], ◌∷◌, Option, Some, None, is_none, length, map, refl, sym, ap, subst, ◌∙◌, arith, codes, append_assoc}
use mathlib.Core.Bool.{true≢false}
use Rattle.std.proofs.lemmas.Bool.Decides.{nat_tests}
use Rattle.lz_proto.specs.declared.{request.Request.{TheVariants.{Add, Remove, Has, Quit}}, item.Item.{Item, TheVariants.{Asks, Faulty}}, reply.Reply.{Reply, TheVariants.{Yes, No, Full, Halted, Worn, OldFile}}}
use Rattle.lz_proto.specs.{declared.fault.Bad.TheVariants.{NoNumber}, Lines.{Items, nothing}, Pieces.{Reads}, Sessions.{Serves, session_text}}
use Rattle.lz_proto.proofs.Texts.{only}
use Rattle.lz_resp.specs.declared.{form.Form.TheVariants.{Added}, query.Query.{Query}, scan.Scan.{Scan}}
use Rattle.lz_board.specs.declared.pass.Pass.{Pass}
use Rattle.lz_serve.specs.declared.turn.Turn.{Turn, TheVariants.{Asks as asks, Says as says, Lists as lists, Tells as tells}}
use Rattle.lz_serve.specs.{Clients.{Asker, Refuses}, Conversations.{IsAt, nothing as none_told, stopped}, Exchanges.{Exchange, frame_refusal, read_as, refused, requests_in, turn_of}, Grants.{Grant}}
use Rattle.lz_serve.specs.{LineSessions.{EndsAfter, IsGranted, LinesCame, refused_text}, Refusals.{cut_turns, kept_waiting}}
use Rattle.lz_serve.specs.{declared.{language.Language.{Language, TheVariants.{Lines}}, reader.Reader.{Reader}}, Listings.{Listing}, Streams.{MayTake, Traffic}}
use Rattle.lz_serve.proofs.ConversationRows.{add_read, any, as_many, awaits_one, came, first, gets, its_turns, lines, only_items, second, session, stands}
use Rattle.lz_serve.proofs.{ClientRows.{asks as asker}, LineSessions.{going_on, lines_are_sessions, unasked}}

abbrev line : Turn
line = asks wording.Line 1

abbrev frame : Turn
frame = asks (wording.Frame Added) 3

abbrev nothing_done : Turn
nothing_done = says (codes "stopping\n")

-- of two lines the first was begun
second_refused : cut_turns 1 (line ∷ line ∷ []) ≡ line ∷ nothing_done ∷ []
second_refused = refl

-- of a frame one member was: the others wait, and the frame after it is refused
rest_of_a_frame : (cut_turns 1 (frame ∷ frame ∷ []) ≡ frame ∷ says (codes "-ERR stopping; nothing was done\r\n") ∷ []) × (kept_waiting 1 (frame ∷ frame ∷ []) ≡ 2)
rest_of_a_frame = (refl, refl)

-- a text, a page and what is known of the service are told as ever where a line after them was begun; else no page is
before_a_line : (scan : Scan) (query : Query) → cut_turns 1 (lists scan ∷ tells query ∷ line ∷ lists scan ∷ tells query ∷ []) ≡ lists scan ∷ tells query ∷ line ∷ says frame_refusal ∷ tells query ∷ []
before_a_line scan query = refl

-- a request and a fault came, and nothing was begun
has_stopped : stopped (stands its_turns (Add 1 ∷ []) 0 [] ends.Done) ≡ record (stands (nothing_done ∷ says (codes "bad 3\n") ∷ []) [] 0 [] ends.Done) { stops = true }
has_stopped = refl

is_refused : IsAt any 1 [] lines [] (record (stands (nothing_done ∷ says (codes "bad 3\n") ∷ []) [] 0 [] ends.Done) { stops = true })
is_refused = record { done = []; left = map refused (first ∷ second ∷ []); came = ([], first ∷ second ∷ [], came, refl); turns = refl; asked = refl; told = none_told 1; counted = refl }

-- a request, a fault and a request are refused, and after `quit` nothing is told
until_quit : refused_text (Asks (Add 1) ∷ Faulty NoNumber ∷ Asks (Has 1) ∷ Asks Quit ∷ Asks (Add 1) ∷ []) ≡ codes "stopping\nbad 3\nstopping\n"
until_quit = refl

ends_by_quit : EndsAfter ends.Done (Asks (Add 1) ∷ Asks Quit ∷ []) ends.Quit
ends_by_quit = (refl, refl)

-- a client whose first line is under way
abbrev busy : Pass → Asker
busy p = record (asker p []) { turns = line ∷ line ∷ []; waiting = Has 6 ∷ [] }

refuses : (p : Pass) → Refuses (busy p) (record (busy p) { turns = line ∷ nothing_done ∷ []; waiting = [] })
refuses p there = refl

-- What must not hold.

-- a line is refused after `halted`
refused_after_halted : EndsAfter ends.Halted (Asks (Add 1) ∷ []) ends.Done → ⊥
refused_after_halted is = let apart = is.0 in cc

-- a conversation goes on after `quit`
goes_on_after_quit : EndsAfter ends.Done (Asks Quit ∷ []) ends.Done → ⊥
goes_on_after_quit is = let apart = is.1 in cc

-- a line that was begun is refused
begun_refused : cut_turns 1 (line ∷ []) ≡ nothing_done ∷ [] → ⊥
begun_refused is = cc

-- a frame of which a member was begun is
frame_refused : cut_turns 1 (frame ∷ []) ≡ says frame_refusal ∷ [] → ⊥
frame_refused is = cc

-- its other members are left undone
rest_dropped : kept_waiting 1 (frame ∷ []) ≡ 0 → ⊥
rest_dropped is = absurd (omega (arith, is))

-- a line that wasn't begun is left without a word
unsaid : (p : Pass) → Refuses (busy p) (busy p) → ⊥
unsaid p is = let same : line ∷ line ∷ [] ≡ line ∷ nothing_done ∷ [] = ap (λ (a : Asker). a.turns) (is refl) in cc

no_requests : (left : List Exchange) → map turn_of left ≡ nothing_done ∷ [] → requests_in left ≡ Add 1 ∷ [] → ⊥
no_requests [] turns asked = cc
no_requests (exchange.asks wording requests ∷ left) turns asked = cc
no_requests (exchange.says text ∷ []) turns asked = cc
no_requests (exchange.says text ∷ e ∷ left) turns asked = cc
no_requests (exchange.lists scan ∷ left) turns asked = cc
no_requests (exchange.tells query ∷ left) turns asked = cc
no_requests (exchange.ends text ∷ left) turns asked = cc

-- a line is refused that is under way
refused_under_way : (grants : List Grant) (text : List ℕ) → IsAt any 1 grants text [] (record (stands (nothing_done ∷ []) [] 0 [] ends.Done) { under = awaits_one; stops = true }) → ⊥
refused_under_way grants text at = no_requests at.left at.turns at.asked

-- or that waits to be handed out
refused_and_waits : (grants : List Grant) (text : List ℕ) → IsAt any 1 grants text [] (record (stands (nothing_done ∷ []) (Add 1 ∷ []) 0 [] ends.Done) { stops = true }) → ⊥
refused_and_waits grants text at = no_requests at.left at.turns at.asked

unserved : (replies : List Reply) → Serves (IsGranted 1) [] (Asks (Add 1) ∷ []) replies [] → ⊥
unserved [] s = s
unserved (reply ∷ replies) s = let n : 0 ≡ 0 + suc (length replies) = as_many [] [] (Asks (Add 1) ∷ []) (reply ∷ replies) s in absurd (omega (arith, n))

-- a line is told so while the service goes on
told_while_it_goes_on : IsAt any 1 [] (codes "add 1\n") [] (stands [] [] 0 (codes "stopping\n") ends.Done) → ⊥
told_while_it_goes_on stood =
    let at = session [] (codes "add 1\n") (stands [] [] 0 (codes "stopping\n") ends.Done) refl refl stood in
    let done = only_items (codes "add 1\n") (Asks (Add 1) ∷ []) at.done at.left add_read at.came at.many in
    unserved at.answered.replies (subst (λ (all : List Item). Serves (IsGranted 1) [] all at.answered.replies []) done at.answered.served)

abbrev first_byte : List ℕ → ℕ
first_byte bytes = get_or bytes 0 0

not_s : (byte : ℕ) → 115 ≡ byte → nat_eq 115 byte ≡ false → ⊥
not_s byte is other = grind (arith, nat_tests)

granted_and_told : (p : Pass) (done refused : List Item) (replies : List Reply) → done ++ refused ≡ Asks (Add 1) ∷ [] → Serves (IsGranted 1) [] done replies (gets p Yes) → codes "stopping\n" ≡ session_text done replies ++ refused_text refused → ⊥
granted_and_told p [] refused [] all served told = cc
granted_and_told p [] refused (reply ∷ replies) all served told = served
granted_and_told p (Faulty bad ∷ done) refused replies all served told = cc
granted_and_told p (Asks Quit ∷ done) refused replies all served told = cc
granted_and_told p (Asks (Remove k) ∷ done) refused replies all served told = cc
granted_and_told p (Asks (Has k) ∷ done) refused replies all served told = cc
granted_and_told p (Asks (Add k) ∷ item ∷ done) refused replies all served told = cc
granted_and_told p (Asks (Add k) ∷ []) refused [] all served told = served
granted_and_told p (Asks (Add k) ∷ []) refused (Yes ∷ replies) all served told = not_s 121 (ap first_byte told) refl
granted_and_told p (Asks (Add k) ∷ []) refused (No ∷ replies) all served told = not_s 110 (ap first_byte told) refl
granted_and_told p (Asks (Add k) ∷ []) refused (Full ∷ replies) all served told = not_s 102 (ap first_byte told) refl
granted_and_told p (Asks (Add k) ∷ []) refused (Halted ∷ replies) all served told = not_s 104 (ap first_byte told) refl
granted_and_told p (Asks (Add k) ∷ []) refused (Worn ∷ replies) all served told = not_s 119 (ap first_byte told) refl
granted_and_told p (Asks (Add k) ∷ []) refused (OldFile ∷ replies) all served told = not_s 111 (ap first_byte told) refl

-- or though its request was granted a reply
told_of_a_granted_line : (p : Pass) → IsAt any 1 (gets p Yes) (codes "add 1\n") [] (record (stands [] [] 1 (codes "stopping\n") ends.Done) { stops = true }) → ⊥
told_of_a_granted_line p stood =
    let s = lines_are_sessions any 1 (gets p Yes) (codes "add 1\n") [] (record (stands [] [] 1 (codes "stopping\n") ends.Done) { stops = true }) refl stood in
    let all = only_items (codes "add 1\n") (Asks (Add 1) ∷ []) (s.done ++ s.refused) s.left add_read (subst (λ (l : List Item). Reads (codes "add 1\n") l (Some [])) (sym (append_assoc s.done s.refused s.left)) s.came) s.many in
    granted_and_told p s.done s.refused s.answered.replies all s.answered.served (s.told ∙ ap (λ (w : List ℕ). w ++ refused_text s.refused) s.answered.text)

abbrev traffic : Traffic
traffic = record { spoken = Lines; received = codes "add 1\n"; ended = true; taken = [] }

whole_text : (items : List Item) (r : Option Reader) → is_none r ≡ true → LinesCame (codes "add 1\n") items r → Items (codes "add 1\n") items
whole_text items (Some r) goes came = absurd (true≢false (sym goes))
whole_text items None goes came = came

not_told : (done left : List Item) (replies : List Reply) (rest : List ℕ) → done ++ left ≡ Asks (Add 1) ∷ [] → codes "stopping\n" ++ rest ≡ session_text done replies → ⊥
not_told [] left replies rest all told = cc
not_told (Faulty bad ∷ done) left replies rest all told = cc
not_told (Asks Quit ∷ done) left replies rest all told = cc
not_told (Asks (Remove k) ∷ done) left replies rest all told = cc
not_told (Asks (Has k) ∷ done) left replies rest all told = cc
not_told (Asks (Add k) ∷ done) left [] rest all told = cc
not_told (Asks (Add k) ∷ done) left (Yes ∷ replies) rest all told = not_s 121 (ap first_byte told) refl
not_told (Asks (Add k) ∷ done) left (No ∷ replies) rest all told = not_s 110 (ap first_byte told) refl
not_told (Asks (Add k) ∷ done) left (Full ∷ replies) rest all told = not_s 102 (ap first_byte told) refl
not_told (Asks (Add k) ∷ done) left (Halted ∷ replies) rest all told = not_s 104 (ap first_byte told) refl
not_told (Asks (Add k) ∷ done) left (Worn ∷ replies) rest all told = not_s 119 (ap first_byte told) refl
not_told (Asks (Add k) ∷ done) left (OldFile ∷ replies) rest all told = not_s 111 (ap first_byte told) refl

-- or though nobody has asked the service to stop
told_unasked : (P : List Grant → Type 0) (L : Listing → Type 0) → MayTake P L ⊥ (Some traffic) (codes "stopping\n") → ⊥
told_unasked P L (connection, t, (grants, may, at, spoken, goes), asked, rest, begins) =
    let s = going_on connection grants (codes "add 1\n") [] t (lines_are_sessions L connection grants (codes "add 1\n") [] t (ap (λ (l : Language). read_as l (codes "add 1\n")) spoken) at) (unasked t.stops asked) in
    let all = only (codes "add 1\n") (Asks (Add 1) ∷ []) (add_read.1 [] [] nothing) (s.done ++ s.left) (whole_text (s.done ++ s.left) t.reader goes s.came) in
    not_told s.done s.left s.answered.replies rest all (sym begins ∙ s.answered.text)
