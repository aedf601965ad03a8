-- Lines under way of which so many first ones have their replies.
use Rattle.std.proofs.Common.{◌≡◌, ◌≢◌, ◌<◌, ◌≤◌, ◌-◌, ◌+◌, ◌⊎◌, inl, inr, ℕ, zero, suc, List, [], ◌∷◌, ◌++◌, take, drop, length, Option, None, IfSome}
use Rattle.std.proofs.{Common.{IsSomeAnd, slice_get, slice_set, sym, ap, ◌∙◌, subst, arith, length-append, length-set}, lemmas.Option.{slice_get_past}}
use Rattle.std.proofs.lemmas.List.{take-append-le, take_all, Elements.{All-cons, All-head, All-nil, All-push, All-tail, All-weaker}}
use Rattle.lz_proto.specs.declared.{request.Request.{Request}, reply.Reply.{Reply}}
use Rattle.lz_serve.specs.{declared.{line.Line.{Line}, turn.{Turn.TheVariants.{Asks}, Wording.{Wording}}}, Conversations.{IsReady}, Grants.{key_asked}}
use Rattle.lz_serve.{specs.Lines.{AreReady, AreReplied, IsFree, replied, replies_of}, proofs.LineReplies.{replies_none, taken, there}}

abbrev HasReply : Line → Type 0
HasReply line = line.reply ≢ None

abbrev Awaits : Option ℕ → Line → Type 0
Awaits key line = (line.reply ≡ None) × (key_asked line.request ≡ key)

next_more : (ready : ℕ) (under : List Line) (line : Line) → line.reply ≡ None → ready ≤ length under → IfSome (slice_get under ready) (λ l. l.reply ≡ None) → IfSome (slice_get (under ++ line ∷ []) ready) (λ l. l.reply ≡ None)
next_more zero [] line none low so = none
next_more (suc ready) [] line none low so = absurd (omega (arith, low))
next_more zero (first ∷ under) line none low so = so
next_more (suc ready) (first ∷ under) line none low so = next_more ready under line none (omega (arith, low)) so

-- one that awaits its reply comes behind
pub ready_more : (ready : ℕ) (under : List Line) (line : Line) → line.reply ≡ None → AreReady ready under → AreReady ready (under ++ line ∷ [])
ready_more ready under line none was =
    let low = was.within in
    let long = length-append under (line ∷ []) in
    record {
      within = omega (arith, low, long);
      replied = subst AreReplied (sym (take-append-le ready under (line ∷ []) low)) was.replied;
      next = next_more ready under line none low was.next;
    }

-- one of them has its reply
pub ready_noted : (ready : ℕ) (under : List Line) (at : ℕ) (request : Request) (reply : Reply) → AreReplied (take ready under) → AreReplied (take ready (slice_set under at (replied request reply)))
ready_noted ready [] at request reply are = are
ready_noted zero (line ∷ under) at request reply are = All-nil HasReply
ready_noted (suc ready) (line ∷ under) zero request reply are = All-cons HasReply (replied request reply) (take ready under) (λ none. absurd (cc)) (All-tail HasReply line (take ready under) are)
ready_noted (suc ready) (line ∷ under) (suc at) request reply are =
    All-cons HasReply line (take ready (slice_set under at (replied request reply))) (All-head HasReply line (take ready under) are) (ready_noted ready under at request reply (All-tail HasReply line (take ready under) are))

pub noted_within : (ready : ℕ) (under : List Line) (at : ℕ) (line : Line) → ready ≤ length under → ready ≤ length (slice_set under at line)
noted_within ready under at line low = let same = length-set under at line in omega (arith, low, same)

-- the first ones were told
pub ready_dropped : (count ready : ℕ) (under : List Line) → count ≤ ready → AreReady ready under → AreReady (ready - count) (drop count under)
ready_dropped zero ready under low was = let same : ready ≡ ready - 0 = omega arith in subst (λ (n : ℕ). AreReady n under) same was
ready_dropped (suc count) zero under low was = absurd (omega (arith, low))
ready_dropped (suc count) (suc ready) [] low was = let within = was.within in absurd (omega (arith, within))
ready_dropped (suc count) (suc ready) (line ∷ under) low was =
    let within = was.within in
    let same : ready - count ≡ suc ready - suc count = omega arith in
    subst (λ (n : ℕ). AreReady n (drop count under)) same
    (ready_dropped count ready under (omega (arith, low)) (record { within = omega (arith, within); replied = All-tail HasReply line (take ready under) was.replied; next = was.next }))

-- those before a place have their replies, if they are among these, or all do
pub ready_before : (count ready : ℕ) (under : List Line) → AreReplied (take ready under) → (length under ≤ ready) ⊎ (count ≤ ready) → AreReplied (take count under)
ready_before zero ready under are which = All-nil HasReply
ready_before (suc count) ready [] are which = All-nil HasReply
ready_before (suc count) zero (line ∷ under) are (inl low) = absurd (omega (arith, low))
ready_before (suc count) zero (line ∷ under) are (inr low) = absurd (omega (arith, low))
ready_before (suc count) (suc ready) (line ∷ under) are (inl low) =
    All-cons HasReply line (take count under) (All-head HasReply line (take ready under) are) (ready_before count ready under (All-tail HasReply line (take ready under) are) (inl (omega (arith, low))))
ready_before (suc count) (suc ready) (line ∷ under) are (inr low) =
    All-cons HasReply line (take count under) (All-head HasReply line (take ready under) are) (ready_before count ready under (All-tail HasReply line (take ready under) are) (inr (omega (arith, low))))

-- those before a later place don't
pub ready_not : (count ready : ℕ) (under : List Line) → IfSome (slice_get under ready) (λ l. l.reply ≡ None) → ready < length under → ready < count → AreReplied (take count under) → ⊥
ready_not count ready [] next low less are = absurd (omega (arith, low))
ready_not zero ready (line ∷ under) next low less are = absurd (omega (arith, less))
ready_not (suc count) zero (line ∷ under) next low less are = All-head HasReply line (take count under) are next
ready_not (suc count) (suc ready) (line ∷ under) next low less are = ready_not count ready under next (omega (arith, low)) (omega (arith, less)) (All-tail HasReply line (take count under) are)

-- and no exchange that has more of them is told
pub not_ready : (count ready : ℕ) (under : List Line) (wording : Wording) → AreReady ready under → ready < count → IsReady (Asks wording count) under → ⊥
not_ready count ready under wording are less (replies, few, is) =
    let t = taken under ready count less few in
    let none : t.line.reply ≡ None = subst (λ (o : Option Line). IfSome o (λ l. l.reply ≡ None)) t.is are.next in
    let unreplied = ap (λ (l : List Line). replies_of l) t.first ∙ replies_none (take ready under) t.more t.line none in absurd (cc (is, unreplied))

within_some : (P : Line → Type 0) (under : List Line) (at : ℕ) → IsSomeAnd (slice_get under at) P → at < length under
within_some P [] at is = absurd is
within_some P (line ∷ under) zero is = omega arith
within_some P (line ∷ under) (suc at) is = let low = within_some P under at is in omega (arith, low)

-- one more has its reply
pub replied_more : (under : List Line) (at : ℕ) → IsSomeAnd (slice_get under at) (λ line. line.reply ≢ None) → AreReplied (take at under) → AreReplied (take (at + 1) under)
replied_more under at is are =
    let t = there under at (within_some HasReply under at is) in
    let more : suc at ≡ at + 1 = omega arith in
    subst (λ (n : ℕ). AreReplied (take n under)) more
    (subst AreReplied (sym t.next) (All-push HasReply (take at under) t.line are (subst (λ (o : Option Line). IsSomeAnd o HasReply) t.is is)))

-- all have theirs
pub all_ready : (under : List Line) (at n : ℕ) → length under ≤ at → n ≡ length under → AreReplied (take at under) → AreReady n under
all_ready under at n past is are =
    record {
      within = omega (arith, is);
      replied = subst AreReplied (take_all at under past ∙ sym (take_all n under (omega (arith, is)))) are;
      next = subst (λ (o : Option Line). IfSome o (λ l. l.reply ≡ None)) (sym (slice_get_past under n (omega (arith, is)))) tt;
    }

-- those that have their replies await none
pub free_start : (ready : ℕ) (under : List Line) (key : Option ℕ) → AreReplied (take ready under) → IsFree (take ready under) key
free_start ready under key are = All-weaker HasReply (λ (line : Line). line.reply ≡ None → key_asked line.request ≢ key) (λ line has none. absurd (has none)) (take ready under) are

pub free_more : (under : List Line) (at : ℕ) (key : Option ℕ) → at < length under → (IsSomeAnd (slice_get under at) (Awaits key) → ⊥) → IsFree (take at under) key → IsFree (take (at + 1) under) key
free_more under at key low nobody free =
    let t = there under at low in
    let more : suc at ≡ at + 1 = omega arith in
    subst (λ (n : ℕ). IsFree (take n under) key) more
    (subst (λ (l : List Line). IsFree l key) (sym t.next)
    (All-push (λ (line : Line). line.reply ≡ None → key_asked line.request ≢ key) (take at under) t.line free (λ none same. nobody (subst (λ (o : Option Line). IsSomeAnd o (Awaits key)) (sym t.is) (none, same)))))

pub free_all : (under : List Line) (at : ℕ) (key : Option ℕ) → length under ≤ at → IsFree (take at under) key → IsFree under key
free_all under at key past free = subst (λ (l : List Line). IsFree l key) (take_all at under past) free

pub not_free : (under : List Line) (at : ℕ) (key : Option ℕ) → IsSomeAnd (slice_get under at) (Awaits key) → IsFree under key → ⊥
not_free [] at key is free = absurd is
not_free (line ∷ under) zero key is free = All-head (λ (l : Line). l.reply ≡ None → key_asked l.request ≢ key) line under free is.0 is.1
not_free (line ∷ under) (suc at) key is free = not_free under at key is (All-tail (λ (l : Line). l.reply ≡ None → key_asked l.request ≢ key) line under free)
