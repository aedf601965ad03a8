-- Worked rows of clients and their questions, most of which must not hold.
use Rattle.std.proofs.Common.{◌≡◌, ◌≢◌, ◌++◌, ℕ, false, All, List, [], ◌∷◌, Some, None, refl, ap, subst, arith, lit<, lit≤}
use Rattle.std.proofs.lemmas.List.Elements.{All-head, All-nil}
use Rattle.lz_list.specs.{Traces.{Begins, Trace}, declared.publishing.Publishing.{Publishing}}
use Rattle.lz_proto.specs.declared.{request.Request.{Request, TheVariants.{Add, Has}}, end.End.TheVariants.{Done}, reply.Reply.TheVariants.{Yes}}
use Rattle.lz_board.specs.declared.pass.Pass.{Pass}
use Rattle.lz_serve.specs.Clients.{Asker, Askers, AwaitsBefore, HasLine, HasNoneAt, HasRepliedBefore, HasSeenIn, IsAwaited, IsHeard, IsOwn, TakesTurn}
use Rattle.lz_serve.specs.{declared.line.Line.{Line}, Grants.{Posed, key_asked}, Lines.{awaited, replied}, Queues.{queued}}
use Rattle.lz_serve.proofs.LinesUnderWay.{noted_heard}

-- a client of connection 1 whose first line, for key 5, was put to this pass, and the question of such a line
abbrev pub asks : Pass → Trace → Asker
asks put seen = record { connection = 1; lines = 1; told = 0; under = awaited (Add 5) ∷ []; puts = put ∷ []; seen = seen; turns = []; waiting = []; ended = Done; lost = false }

abbrev pub posed : ℕ → Pass → Posed
posed connection put = record { connection = connection; line = 1; request = Add 5; before = put; earlier = false }

-- its question is its own, and one of another connection may be
pub its_own : (p : Pass) → IsOwn (asks p []) (posed 1 p)
its_own p same = (lit≤ tt, λ under. refl)

not_its : (p q : Pass) → IsOwn (asks p []) (posed 2 q)
not_its p q same = absurd (cc)

-- once its line has its reply, none awaits one
heard : (p : Pass) → IsHeard (record (asks p []) { under = replied (Add 5) Yes ∷ [] }) (posed 1 p)
heard p same stands = noted_heard (awaited (Add 5) ∷ []) 0 (Add 5) (Add 5) Yes stands.1

-- it has a line before its second one that awaits its reply, and nothing is before the first
pub before_the_second : (p : Pass) → AwaitsBefore 2 (Some (asks p []))
before_the_second p all = All-head (λ (l : Line). l.reply ≢ None) (awaited (Add 5)) [] all refl

pub before_the_first_line : (p : Pass) → HasRepliedBefore 1 (asks p [])
before_the_first_line p = All-nil (λ (l : Line). l.reply ≢ None)

-- where its next line is for another key, it has a line for a pass
abbrev pub asks_on : Pass → Request → Asker
asks_on p request = record (asks p []) { waiting = request ∷ [] }

pub has_line : (p : Pass) → HasLine (asks_on p (Has 6))
has_line p = grind arith

-- it is put behind the others once
behind : queued 3 (4 ∷ []) ≡ 4 ∷ 3 ∷ []
behind = refl

once : queued 3 (3 ∷ 4 ∷ []) ≡ 3 ∷ 4 ∷ []
once = refl

-- What must not hold.

-- a line for the same key is one
same_key : (p : Pass) → HasLine (asks_on p (Has 5)) → ⊥
same_key p line =
    let waits = line.waits in
    let next : Has 5 ≡ line.request = cc in
    All-head (λ (l : Line). l.reply ≡ None → key_asked l.request ≢ key_asked line.request) (awaited (Add 5)) [] line.free refl (ap key_asked next)

-- the second has its turn, though the first has a line
abbrev pub two : Pass → List ℕ → Askers
two p queue = record { admitted = 2; clients = Some (asks_on p (Has 6)) ∷ None ∷ []; queue = queue; scans = []; begun = 0 }

before_the_first : (p : Pass) (passed rest : List ℕ) → 0 ∷ 1 ∷ [] ≡ passed ++ 1 ∷ rest → All (HasNoneAt (two p [])) passed → ⊥
before_the_first p [] rest is none = let one : ◌≡◌ {A = ℕ} 0 1 = cc in absurd (omega (arith, one))
before_the_first p (token ∷ passed) rest is none = let first : token ≡ 0 = cc in subst (HasNoneAt (two p [])) first (All-head (HasNoneAt (two p [])) token passed none) (has_line p)

overtakes : (p : Pass) → TakesTurn (two p (0 ∷ 1 ∷ [])) (two p []) 1 → ⊥
overtakes p turn = before_the_first p turn.passed turn.rest turn.stood turn.none

-- its line awaits the reply, and none awaits it
unheard : (p : Pass) → IsHeard (asks p []) (posed 1 p) → ⊥
unheard p heard = heard refl (lit< tt, refl)

-- it is its own where it was put to another pass
put_elsewhere : (p q : Pass) → p ≢ q → IsOwn (asks p []) (posed 1 q) → ⊥
put_elsewhere p q other own = let put = (own refl).1 (lit< tt) in other (cc)

-- a question is awaited of a connection that wasn't admitted
of_nobody : (p : Pass) → IsAwaited (record { admitted = 0; clients = None ∷ []; queue = []; scans = []; begun = 0 }) 0 (posed 1 p) → ⊥
of_nobody p is = let low = is.admitted in absurd (omega (arith, low))

nothing_begun : (e : Publishing) → Begins (e ∷ []) [] → ⊥
nothing_begun e begins = absurd (cc)

-- a pass has seen what a client has that has seen a change, though it has seen nothing
seen_by_none : (p : Pass) (change : Publishing) → HasSeenIn 1 [] (Some (asks p (change ∷ []))) → ⊥
seen_by_none p change seen = nothing_begun change seen.1
