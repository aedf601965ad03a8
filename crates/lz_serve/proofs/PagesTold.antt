-- Pages that were told, and the clients that awaited them.
use Rattle.lz_serve.specs.declared.turn.Turn.TheVariants as turn
use Rattle.std.proofs.Common.{◌≡◌, ◌<◌, ◌≤◌, ◌++◌, ℕ, zero, suc, Bool, true, false, IfSome, IsSomeAnd, List, [], ◌∷◌, Option, Some, None, drop, get_or, length}
use Rattle.std.proofs.{Common.{map, slice_get, refl, sym, ap, ◌∙◌, subst, arith}, lemmas.Option.{slice_get_past, slice_get_read}}
use mathlib.Core.Bool.{true≢false}
use Rattle.lz_list.specs.Traces.{Trace}
use Rattle.lz_proto.specs.declared.end.End.TheVariants.{Done}
use Rattle.lz_board.specs.declared.pass.Pass.{Pass}
use Rattle.lz_resp.specs.declared.scan.Scan.{Scan}
use Rattle.lz_serve.specs.Clients.{Asker, Askers, AwaitsNoPage, AwaitsPage, AwaitsPageAt, ChangesAt, MayTellPage, OnlyLeave, TakesScan, TellsPage, TellsPageAt}
use Rattle.lz_serve.{specs.{Clients.{TellsPageOf, listed}, Conversations.{Paged, Talk}, Listings.{Listing}}, proofs.Crowds.{client_there, leave_so}}

-- a page that was listed for the first exchange is told, and fewer wait
pub page_told : (told : Bool) (l : Listing) (old new : Talk) → (told ≡ true → (old.turns ≡ turn.Lists l.scan ∷ drop 1 old.turns) × (old.ended ≡ Done) × Paged l old new)
    → (told ≡ false → old.ended ≡ Done → old.turns ≡ turn.Lists l.scan ∷ drop 1 old.turns → ⊥) → old.ended ≡ Done → old.turns ≡ turn.Lists l.scan ∷ drop 1 old.turns → length new.turns < length old.turns
page_told true l old new some rests goes first = grind arith
page_told false l old new some rests goes first = absurd (rests refl goes first)

still_there : (was is : Bool) → (was ≡ true → is ≡ was) → is ≡ false → was ≡ false
still_there false is stays there = refl
still_there true is stays there = absurd (true≢false (sym (stays refl) ∙ there))

-- what is seen and told after that brings no exchange back, and no client that was lost
pub told_on : (old paged noted new : Asker) (scan : Scan) (seen : Trace) → TellsPage old scan paged → noted ≡ record paged { seen = seen } → (noted.lost ≡ true → new ≡ noted) → length new.turns ≤ length noted.turns → TellsPage old scan new
told_on old paged noted new scan seen tells is lost fewer awaits there = grind (arith, still_there)

none_was : (scan : Scan) (o : Option (Option Asker)) → IfSome o (TellsPageOf None scan)
none_was scan None = tt
none_was scan (Some client) = tt

-- so it is of who is still there
pub leave_paged : (was : Option Asker) (scan : Scan) (a b : Askers) (token : ℕ) → OnlyLeave a b → IfSome (slice_get a.clients token) (TellsPageOf was scan) → IfSome (slice_get b.clients token) (TellsPageOf was scan)
leave_paged None scan a b token leave paged = none_was scan (slice_get b.clients token)
leave_paged (Some x) scan a b token leave paged = leave_so (TellsPage x scan) a b token leave paged

-- a client that has left awaits nothing
left_told : (was : Option Asker) (scan : Scan) → TellsPageOf was scan None
left_told None scan = tt
left_told (Some a) scan = tt

gone_told : (was : Option Asker) (scan : Scan) (o : Option (Option Asker)) → IfSome o (λ client. client ≡ None) → IfSome o (TellsPageOf was scan)
gone_told was scan None gone = tt
gone_told was scan (Some client) gone = subst (TellsPageOf was scan) (sym gone) (left_told was scan)

gone_told_at : (o : Option (Option Asker)) (scan : Scan) (b : Askers) (token : ℕ) → IfSome (slice_get b.clients token) (λ client. client ≡ None) → IfSome o (λ was. IfSome (slice_get b.clients token) (TellsPageOf was scan))
gone_told_at None scan b token gone = tt
gone_told_at (Some was) scan b token gone = gone_told was scan (slice_get b.clients token) gone

pub gone_paged : (a b : Askers) (token : ℕ) (scan : Scan) → IfSome (slice_get b.clients token) (λ client. client ≡ None) → TellsPageAt a token scan b
gone_paged a b token scan gone = gone_told_at (slice_get a.clients token) scan b token gone

-- one that waited for a page, which it awaits, was told it, is lost or has left
pub one_listed : (a b c : Askers) (token : ℕ) (awaited : Option Scan) (scan told : Scan) {before after : Pass} → TakesScan a b token → IfSome awaited (AwaitsPageAt a token) → awaited ≡ Some scan → told ≡ scan → TellsPageAt b token told c → ChangesAt token b c → c.scans ≡ b.scans
    → MayTellPage a c before after
one_listed a b c token awaited scan told taken asks some same paged others scans =
    listed token scan (taken.stood ∙ ap (λ (l : List ℕ). l ++ token ∷ []) (sym scans)) (record {
      awaited = subst (λ (r : Option Scan). IfSome r (AwaitsPageAt a token)) some asks;
      told = subst (λ (x : Askers). TellsPageAt x token scan c) taken.same (subst (λ (s : Scan). TellsPageAt b token s c) same paged);
      others = subst (λ (x : Askers). ChangesAt token x c) taken.same others;
    })

-- what the client of a place awaits
module _ {X : Type 0} (f : X → Option Asker) (clients : List (Option Asker)) (places xs : List X) (at : ℕ) (same : xs ≡ places) (are : map f places ≡ clients) where
  there : (p : X) → at < length xs → p ≡ get_or xs at p → slice_get clients at ≡ Some (f p)
  there p within here = ap (λ (l : List (Option Asker)). slice_get l at) (sym (ap (λ (l : List X). map f l) same ∙ are)) ∙ client_there f xs at p (slice_get_read xs (length xs) at p refl within here)

  -- what is so of the client of the place is so of the one at its token
  pub here : (P : Option (Option Asker) → Type 0) (p : X) → at < length xs → p ≡ get_or xs at p → P (Some (f p)) → P (slice_get clients at)
  here P p within is = subst P (sym (there p within is))

nobody_there : {X : Type 0} (f : X → Option Asker) (places : List X) (at : ℕ) → slice_get places at ≡ None → slice_get (map f places) at ≡ None
nobody_there f [] at is = refl
nobody_there f (x ∷ places) zero is = absurd (cc)
nobody_there f (x ∷ places) (suc at) is = nobody_there f places at is

pub nobody_here : {X : Type 0} (P : Asker → Type 0) (f : X → Option Asker) (clients : List (Option Asker)) (places xs : List X) (at : ℕ) → xs ≡ places → map f places ≡ clients → length xs ≤ at → IfSome (slice_get clients at) (λ client. IfSome client P)
nobody_here {X} P f clients places xs at same are past = grind (arith, slice_get, nobody_there, slice_get_past)

-- who awaits what is the same where the clients are
pub awaits_same : (old new : List (Option Asker)) (token : ℕ) (r : Option Scan) → new ≡ old → IfSome r
    (λ scan. IsSomeAnd (slice_get new token) (λ client. IsSomeAnd client (λ a. AwaitsPage a scan))) → IfSome r
    (λ scan. IsSomeAnd (slice_get old token) (λ client. IsSomeAnd client (λ a. AwaitsPage a scan)))
awaits_same old new token r same = subst (λ (l : List (Option Asker)). IfSome r (λ scan. IsSomeAnd (slice_get l token) (λ client. IsSomeAnd client (λ a. AwaitsPage a scan)))) same

pub awaits_none_same : (old new : List (Option Asker)) (token : ℕ) → new ≡ old → IfSome (slice_get new token) (λ client. IfSome client AwaitsNoPage) → IfSome (slice_get old token) (λ client. IfSome client AwaitsNoPage)
awaits_none_same old new token same = subst (λ (l : List (Option Asker)). IfSome (slice_get l token) (λ client. IfSome client AwaitsNoPage)) same
