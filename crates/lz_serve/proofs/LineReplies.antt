-- Requests under way: what they ask, and the replies that they have.
use Rattle.std.proofs.Common.{◌≡◌, ◌<◌, ◌≤◌, ℕ, zero, suc, List, [], ◌∷◌, ◌++◌, take, length, Option, Some, None, slice_get, slice_set, option_and_then}
use Rattle.std.proofs.Common.{option_map, refl, sym, ap, arith}
use Rattle.lz_proto.specs.declared.{request.Request.{Request}, reply.Reply.{Reply}}
use Rattle.lz_serve.specs.{declared.line.Line.{Line}, Lines.{asked_by, awaited, replied, replies_of}}

pub asked_more : (under more : List Line) → asked_by (under ++ more) ≡ asked_by under ++ asked_by more
asked_more [] more = refl
asked_more (line ∷ under) more = ap (λ (x : List Request). line.request ∷ x) (asked_more under more)

-- a line that is noted to be answered asks the same
pub asked_noted : (under : List Line) (at : ℕ) (request : Request) (reply : Reply) → slice_get under at ≡ Some (awaited request) → asked_by (slice_set under at (replied request reply)) ≡ asked_by under
asked_noted [] at request reply is = refl
asked_noted (line ∷ under) zero request reply is = let same : line ≡ awaited request = cc in ap (λ (l : Line). l.request ∷ asked_by under) (sym same)
asked_noted (line ∷ under) (suc at) request reply is = ap (λ (x : List Request). line.request ∷ x) (asked_noted under at request reply is)

by_first : (first : Option Reply) (rest more : Option (List Reply)) (replies : List Reply) (reply : Reply) → option_and_then (λ x. option_map (λ others. x ∷ others) rest) first ≡ Some replies
    → ((others : List Reply) → rest ≡ Some others → more ≡ Some (others ++ reply ∷ [])) → option_and_then (λ x. option_map (λ others. x ∷ others) more) first ≡ Some (replies ++ reply ∷ [])
by_first None rest more replies reply are on = absurd (cc)
by_first (Some x) None more replies reply are on = absurd (cc)
by_first (Some x) (Some others) more replies reply are on = let same : x ∷ others ≡ replies = cc in rw (on others refl) (ap (λ (l : List Reply). Some (l ++ reply ∷ [])) same)

-- the replies of one line more
pub replies_more : (under : List Line) (line : Line) (replies : List Reply) (reply : Reply) → replies_of under ≡ Some replies → line.reply ≡ Some reply → replies_of (under ++ line ∷ []) ≡ Some (replies ++ reply ∷ [])
replies_more [] line replies reply are is = let none : [] ≡ replies = cc in rw (is, ← none) refl
replies_more (first ∷ under) line replies reply are is =
    by_first first.reply (replies_of under) (replies_of (under ++ line ∷ [])) replies reply are (λ others rest. replies_more under line others reply rest is)

-- no line that awaits its reply stands among lines that have theirs
pub replies_none : (under more : List Line) (line : Line) → line.reply ≡ None → replies_of (under ++ line ∷ more) ≡ None
replies_none [] more line is = rw is refl
replies_none (first ∷ under) more line is = rw (replies_none under more line is) (by_first first.reply)
  where
    by_first : (r : Option Reply) → option_and_then (λ x. option_map (λ rest. x ∷ rest) None) r ≡ None
    by_first None = refl
    by_first (Some x) = refl

-- The line at a place, with those before it.
pub record There (under : List Line) (at : ℕ) : Type 0 where
  pub line : Line
  pub is : slice_get under at ≡ Some line
  pub next : take (suc at) under ≡ take at under ++ line ∷ []

pub there : (under : List Line) (at : ℕ) → at < length under → There under at
there [] at low = absurd (omega (arith, low))
there (line ∷ under) zero low = record { line = line; is = refl; next = refl }
there (first ∷ under) (suc at) low =
    let t = there under at (omega (arith, low)) in
    record { line = t.line; is = t.is; next = ap (λ (l : List Line). first ∷ l) t.next }

-- The line at a place, among the first ones.
pub record Taken (under : List Line) (at count : ℕ) : Type 0 where
  pub line : Line
  pub is : slice_get under at ≡ Some line
  pub more : List Line
  pub first : take count under ≡ take at under ++ line ∷ more

pub taken : (under : List Line) (at count : ℕ) → at < count → count ≤ length under → Taken under at count
taken [] at count low few = absurd (omega (arith, low, few))
taken (line ∷ under) at zero low few = absurd (omega (arith, low))
taken (line ∷ under) zero (suc count) low few = record { line = line; is = refl; more = take count under; first = refl }
taken (first ∷ under) (suc at) (suc count) low few =
    let t = taken under at count (omega (arith, low)) (omega (arith, few)) in
    record { line = t.line; is = t.is; more = t.more; first = ap (λ (l : List Line). first ∷ l) t.first }
