-- Clients at their places: what each operation on a place keeps.
use Rattle.std.proofs.Common.{◌≡◌, ◌≢◌, ◌≤◌, ◌<◌, ◌+◌, inr, ℕ, zero, suc, All, List, [], ◌∷◌, Option, Some, None, IfSome, length, map, get_or, set, slice_get}
use Rattle.std.proofs.{Common.{refl, sym, ap, ◌∙◌, subst, arith}, lemmas.List.Elements.{All-cons, All-head, All-nil, All-tail, All-weaker}}
use Rattle.std.proofs.lemmas.Option.{slice_get_read}
use Rattle.lz_list.specs.Traces.{Trace, Begins}
use Rattle.lz_resp.specs.declared.scan.Scan.{Scan}
use Rattle.lz_serve.specs.Clients.{Asker, Askers, ChangesAt, ComesAfter, HasSeenIn, HaveSeenIn, IsAskedBy, IsAwaited, IsHeard, IsHeardAt, IsHeardOf, IsNext}
use Rattle.lz_serve.specs.Clients.{IsOwn, IsOwnOf, Keeps, KeepsAwaited, KeepsHeard, KeepsLinesOf, KeepsOwn, KeepsReplies, KeepsSeen, OnlyLeave, Remains, TakesScan}
use Rattle.lz_serve.specs.{Clients.{RefusesAt, RefusesOf, TellsPageAt, TellsPageOf}, Grants.{Posed}}

pub from_nothing : (known : Trace) → Begins [] known
from_nothing [] = refl
from_nothing (e ∷ known) = inr (from_nothing known)

pub keeps_itself : (a : Askers) → Keeps a a
keeps_itself a = record { awaited = λ token q is. is; heard = λ token q is heard. heard; seen = λ known are. are }

pub keeps_same : (a b : Askers) → b ≡ a → Keeps a b
keeps_same a b is = subst (Keeps a) (sym is) (keeps_itself a)

pub keeps_then : (a b c : Askers) → Keeps a b → Keeps b c → Keeps a c
keeps_then a b c one two = grind arith

-- a question that is awaited, if there is one
pub some_kept : (a b : Askers) (token : ℕ) (r : Option Posed) → Keeps a b → IfSome r (λ q. IsAwaited a token q) → IfSome r (λ q. IsAwaited b token q)
some_kept a b token None keeps is = tt
some_kept a b token (Some q) keeps is = keeps.awaited token q is

-- where one doesn't wait for a page any more
pub takes_keeps : (a b : Askers) (token : ℕ) → TakesScan a b token → Keeps a b
takes_keeps a b token taken = grind arith

-- where no client has come or changed

pub leave_same : (a b : Askers) → b ≡ a → OnlyLeave a b
leave_same a b is = subst (OnlyLeave a) (sym is) (record { admitted = refl; begun = refl; stay = λ token x there. there })

left_so : (P : Asker → Type 0) (old new : Option (Option Asker)) → ((a : Asker) → new ≡ Some (Some a) → old ≡ Some (Some a)) → IfSome old (λ c. IfSome c P) → IfSome new (λ c. IfSome c P)
left_so P old None stay so = tt
left_so P old (Some None) stay so = tt
left_so P old (Some (Some a)) stay so = subst (λ (o : Option (Option Asker)). IfSome o (λ c. IfSome c P)) (stay a refl) so

-- what was so of the client of a place is so of the one that is still there
pub leave_so : (P : Asker → Type 0) (a b : Askers) (token : ℕ) → OnlyLeave a b → IfSome (slice_get a.clients token) (λ c. IfSome c P) → IfSome (slice_get b.clients token) (λ c. IfSome c P)
leave_so P a b token leave so = left_so P (slice_get a.clients token) (slice_get b.clients token) (leave.stay token) so

seen_left : (n : ℕ) (known : Trace) (old new : List (Option Asker)) → ((token : ℕ) (a : Asker) → slice_get new token ≡ Some (Some a) → slice_get old token ≡ Some (Some a)) → All (HasSeenIn n known) old → All (HasSeenIn n known) new
seen_left n known old [] stay all = All-nil (HasSeenIn n known)
seen_left n known [] (c ∷ new) stay all =
    All-cons (HasSeenIn n known) c new (left_so (λ (a : Asker). (a.connection ≤ n) × Begins a.seen known) None (Some c) (stay zero) tt) (seen_left n known [] new (λ token. stay (suc token)) all)
seen_left n known (o ∷ old) (c ∷ new) stay all =
    All-cons (HasSeenIn n known) c new (left_so (λ (a : Asker). (a.connection ≤ n) × Begins a.seen known) (Some o) (Some c) (stay zero) (All-head (HasSeenIn n known) o old all))
    (seen_left n known old new (λ token. stay (suc token)) (All-tail (HasSeenIn n known) o old all))

pub leave_keeps : (a b : Askers) → OnlyLeave a b → Keeps a b
leave_keeps a b leave = record {
  awaited = λ token q is. record { admitted = subst (λ (n : ℕ). q.connection ≤ n) (sym leave.admitted) is.admitted; own = leave_so (λ (x : Asker). IsOwn x q) a b token leave is.own };
  heard = λ token q is heard. leave_so (λ (x : Asker). IsHeard x q) a b token leave heard;
  seen = λ known are. subst (λ (n : ℕ). All (HasSeenIn n known) b.clients) (sym leave.admitted) (seen_left a.admitted known a.clients b.clients leave.stay are);
}

-- a place whose client is the same

pub same_own : (old new : Option Asker) → new ≡ old → KeepsOwn old new
same_own old new is q own = subst (λ (c : Option Asker). IsOwnOf c q) (sym is) own

pub same_heard : (old new : Option Asker) → new ≡ old → KeepsHeard old new
same_heard old new is q own heard = subst (λ (c : Option Asker). IsHeardOf c q) (sym is) heard

pub same_seen : (old new : Option Asker) → new ≡ old → KeepsSeen old new
same_seen old new is admitted known seen = subst (HasSeenIn admitted known) (sym is) seen

-- a place whose client's lines are the same

pub lines_own : (old new : Option Asker) → KeepsLinesOf old new → KeepsOwn old new
lines_own None None same q own = tt
lines_own None (Some b) same q own = absurd same
lines_own (Some a) None same q own = tt
lines_own (Some a) (Some b) same q own = subst (λ (x : Asker). IsOwn x q) (sym same) own

pub lines_heard : (old new : Option Asker) → KeepsLinesOf old new → KeepsHeard old new
lines_heard None None same q own heard = tt
lines_heard None (Some b) same q own heard = absurd same
lines_heard (Some a) None same q own heard = tt
lines_heard (Some a) (Some b) same q own heard = subst (λ (x : Asker). IsHeard x q) (sym same) heard

pub lines_seen : (old new : Option Asker) → KeepsLinesOf old new → KeepsSeen old new
lines_seen None None same admitted known seen = tt
lines_seen None (Some b) same admitted known seen = absurd same
lines_seen (Some a) None same admitted known seen = tt
lines_seen (Some a) (Some b) same admitted known seen = subst (λ (x : Asker). HasSeenIn admitted known (Some x)) (sym same) seen

pub lines_stay : (old told new : Option Asker) → Remains old told → KeepsLinesOf told new → Remains old new
lines_stay None None None stays same = tt
lines_stay None None (Some c) stays same = absurd same
lines_stay None (Some b) new stays same = absurd stays
lines_stay (Some a) None new stays same = absurd stays
lines_stay (Some a) (Some b) None stays same = absurd same
lines_stay (Some a) (Some b) (Some c) stays same = ap (λ (x : Asker). x.connection) same ∙ stays

-- what a client has seen, whatever its number
pub only_seen : (admitted : ℕ) (known : Trace) (client : Option Asker) → HasSeenIn admitted known client → IfSome client (λ a. Begins a.seen known)
only_seen admitted known None seen = tt
only_seen admitted known (Some a) seen = seen.1

module _ {X : Type 0} (f : X → Option Asker) where
  pub client_there : (places : List X) (at : ℕ) (p : X) → slice_get places at ≡ Some p → slice_get (map f places) at ≡ Some (f p)
  client_there [] at p is = absurd (cc)
  client_there (x ∷ places) zero p is = let same : x ≡ p = cc in ap (λ (y : X). Some (f y)) same
  client_there (x ∷ places) (suc at) p is = client_there places at p is

  -- what was so of the client of a place is so of the one that is there now
  so_there : (P : Option Asker → Type 0) (places : List X) (at : ℕ) (old new : X) (token : ℕ) → slice_get places at ≡ Some old → (token ≡ at → P (f old) → P (f new)) → IfSome (slice_get (map f places) token) P → IfSome (slice_get (map f (set places at new)) token) P
  so_there P [] at old new token is keeps so = absurd (cc)
  so_there P (p ∷ places) zero old new zero is keeps so = let same : p ≡ old = cc in keeps refl (subst (λ (x : X). P (f x)) same so)
  so_there P (p ∷ places) zero old new (suc token) is keeps so = so
  so_there P (p ∷ places) (suc at) old new zero is keeps so = so
  so_there P (p ∷ places) (suc at) old new (suc token) is keeps so = so_there P places at old new token is (λ same. keeps (ap suc same)) so

  all_there : (P Q : Option Asker → Type 0) → ((c : Option Asker) → P c → Q c) → (places : List X) (at : ℕ) (old new : X) → slice_get places at ≡ Some old → (P (f old) → Q (f new)) → All P (map f places) → All Q (map f (set places at new))
  all_there P Q weaker [] at old new is keeps all = absurd (cc)
  all_there P Q weaker (p ∷ places) zero old new is keeps all =
      let same : p ≡ old = cc in
      All-cons Q (f new) (map f places) (keeps (subst (λ (x : X). P (f x)) same (All-head P (f p) (map f places) all))) (All-weaker P Q weaker (map f places) (All-tail P (f p) (map f places) all))
  all_there P Q weaker (p ∷ places) (suc at) old new is keeps all =
      All-cons Q (f p) (map f (set places at new)) (weaker (f p) (All-head P (f p) (map f places) all)) (all_there P Q weaker places at old new is keeps (All-tail P (f p) (map f places) all))

  one_there : (P : Option Asker → Type 0) (places : List X) (at : ℕ) (p : X) → slice_get places at ≡ Some p → All P (map f places) → P (f p)
  one_there P [] at p is all = absurd (cc)
  one_there P (x ∷ places) zero p is all = let same : x ≡ p = cc in subst (λ (y : X). P (f y)) same (All-head P (f x) (map f places) all)
  one_there P (x ∷ places) (suc at) p is all = one_there P places at p is (All-tail P (f x) (map f places) all)

  -- what is so of the client that is now at a place
  pub one_so : (P : Option Asker → Type 0) (places : List X) (at : ℕ) (new : X) → P (f new) → IfSome (slice_get (map f (set places at new)) at) P
  one_so P [] at new so = tt
  one_so P (p ∷ places) zero new so = so
  one_so P (p ∷ places) (suc at) new so = one_so P places at new so

  left_there : (places : List X) (at : ℕ) (new : X) (token : ℕ) (a : Asker) → f new ≡ None → slice_get (map f (set places at new)) token ≡ Some (Some a) → slice_get (map f places) token ≡ Some (Some a)
  left_there [] at new token a gone is = is
  left_there (p ∷ places) zero new zero a gone is = absurd (cc)
  left_there (p ∷ places) zero new (suc token) a gone is = is
  left_there (p ∷ places) (suc at) new zero a gone is = is
  left_there (p ∷ places) (suc at) new (suc token) a gone is = left_there places at new token a gone is

  -- no other client has changed
  pub other_at : (places : List X) (at : ℕ) (new : X) (token : ℕ) → token ≢ at → slice_get (map f (set places at new)) token ≡ slice_get (map f places) token
  other_at [] at new token other = refl
  other_at (p ∷ places) zero new zero other = absurd (other refl)
  other_at (p ∷ places) zero new (suc token) other = refl
  other_at (p ∷ places) (suc at) new zero other = refl
  other_at (p ∷ places) (suc at) new (suc token) other = other_at places at new token (λ same. other (ap suc same))

  abbrev pub at_places : ℕ → ℕ → List ℕ → List ℕ → List X → Askers
  at_places begun n queue scans places = record { admitted = n; clients = map f places; queue = queue; scans = scans; begun = begun }

  -- no other client has changed, as its owner sees it
  pub changes_at : (a : Askers) (n : ℕ) {begun : ℕ} {queue scans : List ℕ} (places : List X) (at : ℕ) (new : X) → at_places begun n queue scans places ≡ a → ChangesAt at a (at_places begun n queue scans (set places at new))
  changes_at a n {begun} {queue} {scans} places at new view_is = subst (λ (b : Askers). ChangesAt at b (at_places begun n queue scans (set places at new))) view_is (λ t other. other_at places at new t other)

  -- where others wait for their turn
  pub keeps_here : (a : Askers) (n : ℕ) {begun now : ℕ} {queue later scans : List ℕ} (places : List X) → at_places begun n queue scans places ≡ a → Keeps a (at_places now n later scans places)
  keeps_here a n {begun} {now} {queue} {later} {scans} places view_is = grind arith

  -- the client of a place leaves
  pub leaves_at : (a : Askers) (n : ℕ) {begun : ℕ} {queue later scans : List ℕ} (places : List X) (at : ℕ) (new : X) → at_places begun n queue scans places ≡ a → f new ≡ None → OnlyLeave a (at_places begun n later scans (set places at new))
  leaves_at a n {begun} {queue} {later} {scans} places at new view_is gone = grind (arith, left_there)

  module _ (a : Askers) (n : ℕ) {begun : ℕ} {queue scans : List ℕ} (places : List X) (at : ℕ) (old : X) (view_is : at_places begun n queue scans places ≡ a) (within : at < length places) (here : old ≡ get_or places at old) where
    there : slice_get places at ≡ Some old
    there = slice_get_read places (length places) at old refl within here

    -- a question that is awaited by the client of this place is one of its own
    pub own_here : (q : Posed) → IsAwaited a at q → IsOwnOf (f old) q
    own_here q is = let mine = subst (λ (b : Askers). IsAwaited b at q) (sym view_is) is in subst (λ (o : Option (Option Asker)). IfSome o (λ c. IsOwnOf c q)) (client_there places at old there) mine.own

    -- a question that this client puts comes after those that are awaited
    pub next_here : (r : Option Posed) → IfSome r (ComesAfter (f old)) → IfSome r (IsNext a at)
    next_here None is = tt
    next_here (Some question) is = λ q awaited same. is q (own_here q awaited) same

    -- where no line of this client awaits the reply, none here does
    pub heard_here : (q : Posed) → IsHeardOf (f old) q → IsHeardAt a at q
    heard_here q heard = subst (λ (b : Askers). IsHeardAt b at q) view_is (subst (λ (o : Option (Option Asker)). IfSome o (λ c. IsHeardOf c q)) (sym (client_there places at old there)) heard)

    -- what this client was told of a page the one here was
    pub paged_here : (scan : Scan) (b : Askers) → IfSome (slice_get b.clients at) (TellsPageOf (f old) scan) → TellsPageAt a at scan b
    paged_here scan b paged = grind (arith, slice_get, client_there, there)

    -- what the client of this place is refused the one here is
    pub refused_here : (new : X) → RefusesOf (f old) (f new) → RefusesAt a at (at_places begun n queue scans (set places at new))
    refused_here new is =
        subst (λ (b : Askers). RefusesAt b at (at_places begun n queue scans (set places at new))) view_is
        (subst (λ (o : Option (Option Asker)). IfSome o (λ was. IfSome (slice_get (map f (set places at new)) at) (RefusesOf was))) (sym (client_there places at old there)) (one_so (RefusesOf (f old)) places at new is))

    -- what all clients have seen this one has
    pub seen_here : (known : Trace) → HaveSeenIn a known → HasSeenIn a.admitted known (f old)
    seen_here known are =
        subst (λ (b : Askers). HasSeenIn b.admitted known (f old)) view_is (one_there (HasSeenIn n known) places at old there (subst (λ (b : Askers). HaveSeenIn b known) (sym view_is) are))

    module _ (new : X) where
      pub keeps_awaited : {now : ℕ} {later : List ℕ} → KeepsOwn (f old) (f new) → KeepsAwaited a (at_places now n later scans (set places at new))
      keeps_awaited {now} {later} own token q is = grind (arith, so_there, there)

      pub keeps_heard : (now : ℕ) (later : List ℕ) → KeepsHeard (f old) (f new) → KeepsReplies a (at_places now n later scans (set places at new))
      keeps_heard now later keeps token q is heard =
          so_there (λ (c : Option Asker). IsHeardOf c q) places at old new token there (λ same was. keeps q (own_here q (subst (λ (m : ℕ). IsAwaited a m q) same is)) was) (subst (λ (b : Askers). IsHeardAt b token q) (sym view_is) heard)

      pub keeps_at : {now : ℕ} {later : List ℕ} → KeepsOwn (f old) (f new) → KeepsHeard (f old) (f new) → KeepsSeen (f old) (f new) → Keeps a (at_places now n later scans (set places at new))
      keeps_at {now} {later} own heard seen = record {
        awaited = keeps_awaited own;
        heard = keeps_heard now later heard;
        seen = λ known are. all_there (HasSeenIn n known) (HasSeenIn n known) (λ c is. is) places at old new there (seen n known) (subst (λ (b : Askers). HaveSeenIn b known) (sym view_is) are);
      }

      -- the client of this place has seen what was seen there
      pub seen_at : (known : Trace) → ((admitted : ℕ) → HasSeenIn admitted known (f old) → HasSeenIn admitted known (f new)) → HaveSeenIn a known → All (HasSeenIn n known) (map f (set places at new))
      seen_at known seen are = all_there (HasSeenIn n known) (HasSeenIn n known) (λ c is. is) places at old new there (seen n) (subst (λ (b : Askers). HaveSeenIn b known) (sym view_is) are)

      -- a question that the client of this place puts is awaited here
      pub asked_at : {now : ℕ} {later : List ℕ} → (q : Posed) (known : Trace) → KeepsSeen (f old) (f new) → HaveSeenIn a known → IsAskedBy (f new) q → IsAwaited (at_places now n later scans (set places at new)) at q
      asked_at {now} {later} q known seen are asked = record { admitted = numbered (f new) asked (seen n known mine); own = one_so (λ (c : Option Asker). IsOwnOf c q) places at new (of_asked (f new) asked) }
        where
          mine : HasSeenIn n known (f old)
          mine = one_there (HasSeenIn n known) places at old there (subst (λ (b : Askers). HaveSeenIn b known) (sym view_is) are)

          numbered : (c : Option Asker) → IsAskedBy c q → HasSeenIn n known c → q.connection ≤ n
          numbered None is so = absurd is
          numbered (Some x) is so = subst (λ (m : ℕ). m ≤ n) (sym is.0) so.0

          of_asked : (c : Option Asker) → IsAskedBy c q → IsOwnOf c q
          of_asked None is = tt
          of_asked (Some x) is = is.1

      pub some_asked : (now : ℕ) (later : List ℕ) (r : Option Posed) (known : Trace) → KeepsSeen (f old) (f new) → HaveSeenIn a known → IfSome r (λ q. IsAskedBy (f new) q) → IfSome r (λ q. IsAwaited (at_places now n later scans (set places at new)) at q)
      some_asked now later None known seen are asked = tt
      some_asked now later (Some q) known seen are asked = asked_at q known seen are asked

  module _ (a : Askers) (n : ℕ) {begun : ℕ} {queue later scans : List ℕ} (places : List X) (at : ℕ) (old new : X) (client : Asker) (view_is : at_places begun n queue scans places ≡ a) (within : at < length places) (here : old ≡ get_or places at old) where
    -- a client is admitted, with a number of its own
    pub admits_at : f new ≡ Some client → client.connection ≡ n + 1 → client.seen ≡ [] → Keeps a (at_places begun (n + 1) later scans (set places at new))
    admits_at is numbered unseen = record {
      awaited = λ token q awaited.
          let mine = subst (λ (b : Askers). IsAwaited b token q) (sym view_is) awaited in
          let low = mine.admitted in
          record { admitted = omega (arith, low); own = so_there (λ (c : Option Asker). IsOwnOf c q) places at old new token there (λ _ _. subst (λ (c : Option Asker). IsOwnOf c q) (sym is) (λ same. absurd (omega (arith, low, same, numbered)))) mine.own };
      heard = λ token q awaited heard.
          let low = awaited.admitted in
          let here = ap (λ (b : Askers). b.admitted) view_is in
          so_there (λ (c : Option Asker). IsHeardOf c q) places at old new token there (λ _ _. subst (λ (c : Option Asker). IsHeardOf c q) (sym is) (λ same. absurd (omega (arith, low, here, same, numbered))))
          (subst (λ (b : Askers). IsHeardAt b token q) (sym view_is) heard);
      seen = λ known are.
          all_there (HasSeenIn n known) (HasSeenIn (n + 1) known) (more known) places at old new there
          (λ _. subst (HasSeenIn (n + 1) known) (sym is) (omega (arith, numbered), subst (λ (t : Trace). Begins t known) (sym unseen) (from_nothing known))) (subst (λ (b : Askers). HaveSeenIn b known) (sym view_is) are);
    }
      where
        there : slice_get places at ≡ Some old
        there = slice_get_read places (length places) at old refl within here

        more : (known : Trace) (c : Option Asker) → HasSeenIn n known c → HasSeenIn (n + 1) known c
        more known None so = tt
        more known (Some x) so = let low = so.0 in (omega (arith, low), so.1)

-- no client is there
pub none_seen : {X : Type 0} (f : X → Option Asker) (n : ℕ) (places : List X) (known : Trace) → All (λ p. f p ≡ None) places → All (HasSeenIn n known) (map f places)
none_seen {X} f n [] known none = All-nil (HasSeenIn n known)
none_seen {X} f n (p ∷ places) known none =
    All-cons (HasSeenIn n known) (f p) (map f places) (subst (HasSeenIn n known) (sym (All-head (λ (x : X). f x ≡ None) p places none)) tt) (none_seen f n places known (All-tail (λ (x : X). f x ≡ None) p places none))
