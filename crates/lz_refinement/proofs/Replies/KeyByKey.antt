-- What is told of keys that nobody else changes is, key by key, what a plain set tells.
use Rattle.std.proofs.Common.{arith, ◌≡◌, inl, inr, ℕ, ◌==◌, if◌then◌else◌, Bool, true, false, List, [], ◌∷◌, ◌++◌, map, refl, sym, ap, ◌∙◌, subst, eq-eqb}
use Rattle.std.proofs.{Common.{true≢false}, lemmas.Bool.Decides.{nat_tests, eqb_tells}}
use Rattle.lz_refinement.proofs.Vocabulary.{Command, Format, Keys, Same, after, key_of, moved, replies, reply, set_after, Trace, member, Reply}
use Rattle.lz_refinement.{proofs.{Replies.OneKey.{one_key}, Sessions.PlainRows.{after_told}}, specs.KeyByKey.{AreFor, Untouched, KeyRow, IsKeyAnswer, ServedKey}}
use Rattle.lz_refinement.specs.KeyByKey.{about, SameBut, PlainCalls, OwnKeysArePlain, answered_by, answered_in, PlainCallsAreReplies}
use Rattle.lz_refinement.specs.Sessions.{AnsweredCalls, cuts_off, NoneCut}
use Rattle.lz_slot.{specs.declared.command.Command.TheVariants.{Add}, proofs.Sets.{after_at, after_same, moved_other}}
use Rattle.lz_list.specs.declared.publishing.Publishing.TheVariants.{Linked as linked, Marked as marked}
use Rattle.lz_machine.specs.declared.event.Reply.TheVariants.{Yes, No, Full, Worn, OldFile, Halted, Device}

pub leaves : (k : ℕ) (since P : Trace) → AreFor (λ q. ⊥) k since → member k (since ++ P) ≡ member k P
leaves k [] P none = refl
leaves k (linked j s q ∷ since) P none = grind (arith, nat_tests, eqb_tells, member, leaves k since P none.1)
leaves k (marked j s q ∷ since) P none = grind (arith, nat_tests, eqb_tells, member, leaves k since P none.1)
leaves k (e ∷ since) P none = leaves k since P none

kept : (k : ℕ) (P Q : Trace) → Untouched k P Q → member k Q ≡ member k P
kept k P Q h = ap (member k) h.goes_on ∙ leaves k h.since P h.all

-- of calls the first names a key or not
about_first : (k : ℕ) (call : Command × Reply) (calls : AnsweredCalls) (b : Bool) → (key_of call.0 == k) ≡ b → about k (call ∷ calls) ≡ (if b then call ∷ about k calls else about k calls)
about_first k call calls b is = ap (λ (d : Bool). if d then call ∷ about k calls else about k calls) is

-- the traces P, with R at k
abbrev with_at : ℕ → Trace → (ℕ → Trace) → ℕ → Trace
with_at k R P = λ j. if k == j then R else P j

at_it : (k j : ℕ) (R : Trace) (P : ℕ → Trace) → (k == j) ≡ true → with_at k R P j ≡ R
at_it k j R P is = ap (λ (b : Bool). if b then R else P j) is

at_other : (k j : ℕ) (R : Trace) (P : ℕ → Trace) → (k == j) ≡ false → with_at k R P j ≡ P j
at_other k j R P is = ap (λ (b : Bool). if b then R else P j) is

pub own_keys : OwnKeysArePlain
own_keys F [] P Q served = λ k. kept k (P k) (Q k) (served k)
own_keys F (call ∷ calls) P Q served =
    let k : ℕ = key_of call.0 in
    let same : (k == k) ≡ true = eq-eqb k k refl in
    let here : ServedKey F k (call ∷ about k calls) (P k) (Q k) = subst (λ (l : AnsweredCalls). ServedKey F k l (P k) (Q k)) (about_first k call calls true same) (served k) in
    let R : Trace = here.1.known in
    let was : member k here.0.known ≡ member k (P k) = kept k (P k) here.0.known here.2 in
    let is : member k R ≡ member k (with_at k R P k) = sym (ap (member k) (at_it k k R P same)) in
    let row : IsKeyAnswer F call.0 call.1 (member k here.0.known) (member k R) = one_key F call.0 call.1 here.0 here.1 here.3 here.4 in
    let others : SameBut k (λ j. member j (P j)) (λ j. member j (with_at k R P j)) = λ j other. elim (eqb_tells k j) [
      | inl t ↦ absurd (other (sym t.1))
      | inr f ↦ ap (member j) (at_other k j R P f.0)
    ] in
    let rest : (j : ℕ) → ServedKey F j (about j calls) (with_at k R P j) (Q j) = λ j. elim (eqb_tells k j) [
      | inl t ↦ subst (λ (T : Trace). ServedKey F j (about j calls) T (Q j)) (sym (at_it k j R P t.0)) (subst (λ (q : ℕ). ServedKey F q (about q calls) R (Q q)) t.1 here.5)
      | inr f ↦ subst (λ (T : Trace). ServedKey F j (about j calls) T (Q j)) (sym (at_other k j R P f.0)) (subst (λ (l : AnsweredCalls). ServedKey F j l (P j) (Q j)) (about_first j call calls false f.0) (served j))
    ] in (
      (λ j. member j (with_at k R P j)),
      subst (λ (b : Bool). IsKeyAnswer F call.0 call.1 b (member k (with_at k R P k))) was (subst (IsKeyAnswer F call.0 call.1 (member k here.0.known)) is row),
      others,
      own_keys F calls (with_at k R P) Q rest,
    )

-- a key's row and all other keys are the set's
pub whole : (c : Command) (S U : Keys) → U (key_of c) ≡ moved (key_of c) c (S (key_of c)) → SameBut (key_of c) S U → Same U (after c S)
whole c S U it others j = grind (arith, nat_tests, eqb_tells, key_of, after, after_at, moved_other)

pub unmoved : (k : ℕ) (S U : Keys) → U k ≡ S k → SameBut k S U → Same U S
unmoved k S U it others j = grind (arith, nat_tests, eqb_tells)

leaves_set : (c : Command) (told : Reply) (S U : Keys) → cuts_off told ≡ false → KeyRow c told (S (key_of c)) (U (key_of c)) → SameBut (key_of c) S U → Same U (after_told c told S)
leaves_set (Add k) (Full counts) S U kept row others = unmoved k S U row.1 others
leaves_set c Worn S U kept row others = unmoved (key_of c) S U row others
leaves_set c OldFile S U kept row others = unmoved (key_of c) S U row others
leaves_set c Halted S U kept row others = absurd (true≢false kept)
leaves_set c Device S U kept row others = absurd (true≢false kept)
leaves_set _ (Full counts) S U kept row others = absurd row
leaves_set c _ S U kept row others = whole c S U row.1 others

abbrev AreReplies : List (Command × Bool) → Keys → Keys → Type 0
AreReplies asked S T = (map (λ call. call.1) asked ≡ replies S (map (λ call. call.0) asked)) × Same T (set_after S (map (λ call. call.0) asked))

one_more : (c : Command) (told : Reply) (is was : Bool) (asked : List (Command × Bool)) (S T : Keys) → KeyRow c told was is → was ≡ S (key_of c) → AreReplies asked (after_told c told S) T → AreReplies (answered_by c told asked) S T
one_more c Yes is was asked S T row same rest = (ap (λ (b : Bool). b ∷ map (λ call. call.1) asked) (sym row.0 ∙ ap (reply c) same) ∙ ap (λ (l : List Bool). reply c (S (key_of c)) ∷ l) rest.0, rest.1)
one_more c No is was asked S T row same rest = (ap (λ (b : Bool). b ∷ map (λ call. call.1) asked) (sym row.0 ∙ ap (reply c) same) ∙ ap (λ (l : List Bool). reply c (S (key_of c)) ∷ l) rest.0, rest.1)
one_more c told is was asked S T row same rest = rest

same_told : (c : Command) (told : Reply) (S T : Keys) → Same S T → Same (after_told c told S) (after_told c told T)
same_told c Yes S T same = after_same c S T same
same_told c No S T same = after_same c S T same
same_told c told S T same = same

from_same : (F : Format) (calls : AnsweredCalls) (S S' T : Keys) → Same S S' → PlainCalls F calls S T → NoneCut calls → AreReplies (answered_in calls) S' T
from_same F [] S S' T same h kept = (refl, λ k. h k ∙ same k)
from_same F (call ∷ calls) S S' T same h kept =
    let c : Command = call.0 in
    let next : Same h.0 (after_told c call.1 S') = λ j. leaves_set c call.1 S h.0 kept.0 h.1.row h.2 j ∙ same_told c call.1 S S' same j in
    one_more c call.1 (h.0 (key_of c)) (S (key_of c)) (answered_in calls) S' T h.1.row (same (key_of c))
    (from_same F calls h.0 (after_told c call.1 S') T next h.3 kept.1)

pub plain_replies : PlainCallsAreReplies
plain_replies F calls S T h kept = from_same F calls S S T (λ k. refl) h kept
