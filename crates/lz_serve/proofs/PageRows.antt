-- Worked exchanges that ask for a page.
use Rattle.lz_board.specs.declared.answer.GlanceFault.TheVariants as fault
use Rattle.lz_serve.specs.declared.turn.Turn.TheVariants as turn
use Rattle.std.specs.Prelude.{unwrap_or}
use Rattle.std.proofs.Common.{◌≡◌, ℕ, zero, suc, true, false, List, [], ◌∷◌, All, Ok, Err, Some, None, refl, sym, ap, ◌∙◌, subst, arith, codes, lit<}
use Rattle.std.specs.Fmt.{digits}
use Rattle.lz_list.specs.{Traces.{Begins}, declared.publishing.Publishing.{Publishing}}
use Rattle.lz_proto.specs.declared.end.End.TheVariants.{Done, Quit}
use Rattle.lz_resp.specs.declared.scan.Scan.{Scan}
use Rattle.lz_board.specs.{declared.{page.Page.{Page}, pass.Pass.{Pass}}, Seats.{part}}
use Rattle.lz_serve.specs.Clients.{Asker, Askers, AwaitsNoPage, AwaitsNoneAt, AwaitsPage, AwaitsPageAt, ChangesAt, MayTellPage, TakesScan, TellsPage}
use Rattle.lz_serve.specs.{Clients.{TellsPageAt, left, listed, nobody}, Conversations.{IsPageFor, IsTold}, Exchanges.{lists}, Grants.{Grant}}
use Rattle.lz_serve.{specs.{Listings.{Listing, listing_text, told_text}, declared.turn.Turn.{Turn}}, proofs.ConversationRows.{any}}

abbrev first : Scan
first = record { room = Some 3; from = 0; most = 10 }

-- what was listed for it, whatever was told before
abbrev Is : Listing → List Grant → Type 0
Is l before = (l.scan ≡ first) × All (λ e. Begins (part e.after).known (part l.before).known) before

for_it : (l : Listing) (before : List Grant) → Is l before → IsPageFor any first before l
for_it l before is = record { so = tt; its = is.0; late = is.1 }

text_of_it : (l : Listing) (page : Page) → l.scan ≡ first → l.told ≡ Ok page → listing_text l ≡ told_text first (Ok page)
text_of_it l page is told = ap (λ s. told_text s l.told) is ∙ ap (λ t. told_text first t) told

-- a page: the keys of the room alone, and the slot to go on from
paged : (l : Listing) (page : Page) (before : List Grant) → Is l before → l.told ≡ Ok page → page.keys.items ≡ 3000000000000000017 ∷ 17 ∷ [] → page.next ≡ Some 12
    → listing_text l ≡ codes "*2\r\n$2\r\n12\r\n*1\r\n$2\r\n17\r\n"
unfolding digits
paged l page before is told keys next = text_of_it l page is.0 told ∙ cc

-- a service that has halted tells none
halted : (l : Listing) → l.told ≡ Err fault.Halted → listing_text l ≡ codes "-HALTED the device failed\r\n"
halted l told = ap (λ t. told_text l.scan t) told

-- a client of connection 1 whose exchanges ask for these
abbrev lister : List Turn → Asker
lister turns = record { connection = 1; lines = 0; told = 0; under = []; puts = []; seen = []; turns = turns; waiting = []; ended = Done; lost = false }

-- it awaits the page for which the first asks
asks_first : AwaitsPage (lister (turn.Lists first ∷ turn.Ends [] ∷ [])) first
asks_first = (refl, refl, refl)

-- it was told, or is lost
told : TellsPage (lister (turn.Lists first ∷ turn.Ends [] ∷ [])) first (lister (turn.Ends [] ∷ []))
told awaits there = lit< tt

lost : TellsPage (lister (turn.Lists first ∷ [])) first (record (lister (turn.Lists first ∷ [])) { lost = true })
lost awaits there = absurd (cc)

-- the second place's client waits for a page
abbrev at_second : List Turn → Askers
at_second turns = record { admitted = 1; clients = None ∷ Some (lister turns) ∷ []; queue = []; scans = []; begun = 0 }

abbrev waits : List Turn → Askers
waits turns = record (at_second turns) { scans = 1 ∷ [] }

-- it was told it
told_there : TellsPageAt (at_second (turn.Lists first ∷ [])) 1 first (at_second [])
told_there awaits there = lit< tt

no_other : ChangesAt 1 (waits (turn.Lists first ∷ [])) (at_second [])
no_other zero other = refl
no_other (suc zero) other = absurd (other refl)
no_other (suc (suc t)) other = refl

page_told : (p q : Pass) → MayTellPage (waits (turn.Lists first ∷ [])) (at_second []) p q
page_told p q = listed 1 first refl (record { awaited = asks_it; told = told_there; others = no_other })
  where
    asks_it : AwaitsPageAt (waits (turn.Lists first ∷ [])) 1 first
    asks_it = (refl, refl, refl)

-- a page was listed for none where none awaits one
awaits_none : AwaitsNoPage (lister [])
awaits_none scan awaits = let its = awaits.2 in absurd (cc)

none_there : (p : Pass) → MayTellPage (waits []) (at_second []) p p
none_there p = left 1 (record { stood = refl; same = refl }) awaits_none refl

none_waits : (p : Pass) → MayTellPage (at_second (turn.Lists first ∷ [])) (at_second (turn.Lists first ∷ [])) p p
none_waits p = nobody refl refl refl

-- What must not hold.

nothing_begun : (e : Publishing) → Begins (e ∷ []) [] → ⊥
nothing_begun e begins = absurd (cc)

-- a page of a pass that had seen nothing, where a reply was told before whose pass had
too_old : (g : Grant) (l : Listing) (change : Publishing) → (part g.after).known ≡ change ∷ [] → (part l.before).known ≡ [] → IsPageFor any first (g ∷ []) l → ⊥
too_old g l change had none for = grind (arith, nothing_begun)

-- a page that was listed for another room
another_room : (l : Listing) → l.scan ≡ record { room = Some 2; from = 0; most = 10 } → IsPageFor any first [] l → ⊥
another_room l is for = let same : 2 ≡ 3 = ap (λ (s : Scan). unwrap_or s.room 0) (sym is ∙ for.its) in absurd (omega (arith, same))

-- a page that nobody listed
not_without_a_page : (said : List ℕ) (grants : List Grant) → IsTold (λ l. ⊥) 1 [] (lists first) grants said Done → ⊥
not_without_a_page said grants told = told.1.1.so

-- who is lost awaits a page
lost_awaits : AwaitsPage (record (lister (turn.Lists first ∷ [])) { lost = true }) first → ⊥
lost_awaits awaits = let there = awaits.0 in absurd (cc)

-- who has ended awaits one
ended_awaits : AwaitsPage (record (lister (turn.Lists first ∷ [])) { ended = Quit }) first → ⊥
ended_awaits awaits = let goes = awaits.1 in absurd (cc)

-- it awaits the page for which its second exchange asks, or one for another room
second_awaits : AwaitsPage (lister (turn.Says [] ∷ turn.Lists first ∷ [])) first → ⊥
second_awaits awaits = let its = awaits.2 in absurd (cc)

abbrev room_of : List Turn → ℕ
room_of (turn.Lists scan ∷ turns) = unwrap_or scan.room 0
room_of other = 0

another_awaits : AwaitsPage (lister (turn.Lists first ∷ [])) (record first { room = Some 2 }) → ⊥
another_awaits awaits = let same : ◌≡◌ {A = ℕ} 3 2 = ap room_of awaits.2 in absurd (omega (arith, same))

-- none was told
untold : TellsPage (lister (turn.Lists first ∷ [])) first (lister (turn.Lists first ∷ [])) → ⊥
untold tells = let fewer = tells (refl, refl, refl) refl in absurd (omega (arith, fewer))

-- at the second place none was told
untold_there : TellsPageAt (at_second (turn.Lists first ∷ [])) 1 first (at_second (turn.Lists first ∷ [])) → ⊥
untold_there tells = untold tells

-- who awaits one awaits none
awaits_and_not : AwaitsNoneAt (at_second (turn.Lists first ∷ [])) 1 → ⊥
awaits_and_not none = none first (refl, refl, refl)

-- nobody awaits one
nobody_awaits : AwaitsPageAt (at_second (turn.Lists first ∷ [])) 0 first → ⊥
nobody_awaits awaits = awaits

which : (token : ℕ) → 1 ∷ [] ≡ token ∷ [] → token ≡ 1
which token is = cc

-- a page was listed for one that waited, and told to nobody
told_to_nobody : (p q : Pass) → MayTellPage (waits (turn.Lists first ∷ [])) (at_second (turn.Lists first ∷ [])) p q → ⊥
told_to_nobody p q (nobody none same kept) = absurd (cc)
told_to_nobody p q (left token taken none kept) = awaits_and_not (subst (AwaitsNoneAt (waits (turn.Lists first ∷ []))) (which token taken.stood) none)
told_to_nobody p q (listed token scan stood paged) = grind (arith, which)

-- it was told to the first, where the second waited
abbrev both : List Turn → List Turn → List ℕ → Askers
both one two scans = record { admitted = 2; clients = Some (lister one) ∷ Some (lister two) ∷ []; queue = []; scans = scans; begun = 0 }

told_to_another : (p q : Pass) → MayTellPage (both (turn.Lists first ∷ []) (turn.Lists first ∷ []) (1 ∷ [])) (both [] (turn.Lists first ∷ []) []) p q → ⊥
told_to_another p q (nobody none same kept) = absurd (cc)
told_to_another p q (left token taken none kept) = grind arith
told_to_another p q (listed token scan stood paged) = grind (arith, which)

-- who awaited none has left
left_for_nothing : (p q : Pass) → MayTellPage (waits []) (record (at_second []) { clients = None ∷ None ∷ [] }) p q → ⊥
left_for_nothing p q (nobody none same kept) = absurd (cc)
left_for_nothing p q (left token taken none kept) = let same = ap (λ (a : Askers). a.clients) taken.same in absurd (cc)
left_for_nothing p q (listed token scan stood paged) = grind (arith, which, awaits_none)

-- where none waits the pass has seen more
listed_for_none : (p q : Pass) → (q ≡ p → ⊥) → MayTellPage (at_second []) (at_second []) p q → ⊥
listed_for_none p q other (nobody none same kept) = other kept
listed_for_none p q other (left token taken none kept) = other kept
listed_for_none p q other (listed token scan stood paged) = absurd (cc)

-- who waits no more still stands there
not_taken : TakesScan (waits []) (waits []) 1 → ⊥
not_taken taken = let stood = taken.stood in absurd (cc)
