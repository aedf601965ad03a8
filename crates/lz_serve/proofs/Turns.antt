-- Whose turn it is, and who waits for it.
use Rattle.std.proofs.Common.{◌≡◌, ◌≢◌, ◌⊎◌, ◌==◌, ◌++◌, inl, inr, ℕ, Bool, true, false, All, List, [], ◌∷◌, Option, Some, None, IfSome, slice_get, refl, sym}
use Rattle.std.proofs.{Common.{ap, ◌∙◌, subst, append_assoc}, lemmas.{Bool.{cond-false, eqb-false, or_parts}, List.Elements.{All-push, All-weaker}}}
use Rattle.lz_serve.specs.{Clients.{Asker, Askers, HasLine, HasNone, HasNoneAt, IsInTurn, OnlyLeave, Turned}, Grants.{Posed}, Queues.{is_in, queued}}
use Rattle.lz_serve.proofs.Crowds.{leave_so}

-- who is in turn

some_weaker : (o : Option (Option Asker)) (P Q : Asker → Type 0) → ((x : Asker) → P x → Q x) → IfSome o (λ c. IfSome c P) → IfSome o (λ c. IfSome c Q)
some_weaker None P Q weaker so = tt
some_weaker (Some None) P Q weaker so = tt
some_weaker (Some (Some x)) P Q weaker so = weaker x so

pub none_in_turn : (a : Askers) (token : ℕ) → HasNoneAt a token → IsInTurn a token
none_in_turn a token none = some_weaker (slice_get a.clients token) (λ x. HasLine x → ⊥) (λ x. HasLine x → is_in token a.queue ≡ true) (λ x has line. absurd (has line)) none

leave_none : (a b : Askers) (token : ℕ) → OnlyLeave a b → HasNoneAt a token → HasNoneAt b token
leave_none a b token leave none = leave_so (λ (x : Asker). HasLine x → ⊥) a b token leave none

leave_in_turn : (a b : Askers) (token : ℕ) → OnlyLeave a b → b.queue ≡ a.queue → IsInTurn a token → IsInTurn b token
leave_in_turn a b token leave same waits =
    subst (λ (q : List ℕ). IfSome (slice_get b.clients token) (λ c. IfSome c (λ x. HasLine x → is_in token q ≡ true))) (sym same)
    (leave_so (λ (x : Asker). HasLine x → is_in token a.queue ≡ true) a b token leave waits)

put_in_turn : (is_next : Bool) (a b : Askers) (token : ℕ) → OnlyLeave a b → (is_next ≡ false → HasNoneAt a token) → (is_next ≡ true → IsInTurn b token) → IsInTurn b token
put_in_turn false a b token leave none next = none_in_turn b token (leave_none a b token leave (none refl))
put_in_turn true a b token leave none next = next refl

-- a client is put behind the others, where it has a line, and among those that are to be tended to
pub both_in_turn : (is_next : Bool) (a b c : Askers) (token : ℕ) → OnlyLeave a b → OnlyLeave b c → c.queue ≡ b.queue → (is_next ≡ false → HasNoneAt a token) → (is_next ≡ true → IsInTurn b token) → IsInTurn c token
both_in_turn is_next a b c token first second same none next = leave_in_turn b c token second same (put_in_turn is_next a b token first none next)

-- a turn is taken

queued_behind : (token : ℕ) (old new rest : List ℕ) → is_in token rest ≡ false → old ≡ rest → (new ≡ old) ⊎ (new ≡ queued token old) → (new ≡ rest) ⊎ (new ≡ rest ++ token ∷ [])
queued_behind token old new rest out is (inl same) = inl (same ∙ is)
queued_behind token old new rest out is (inr put) = inr (put ∙ ap (queued token) is ∙ cond-false (is_in token rest) rest (rest ++ token ∷ []) out)

module _ (a mid b c : Askers) (token : ℕ) (rest : List ℕ) (question : Option Posed) (is_next : Bool) (stood : a.queue ≡ token ∷ rest) (once : is_in token rest ≡ false) (left : mid.queue ≡ rest) where
  pub turned : ((t : ℕ) → t ≢ token → slice_get mid.clients t ≡ slice_get a.clients t) → OnlyLeave mid b → OnlyLeave b c → c.queue ≡ b.queue → (b.queue ≡ mid.queue) ⊎ (b.queue ≡ queued token mid.queue)
      → (is_next ≡ false → b.queue ≡ mid.queue) → (is_next ≡ true → IsInTurn b token) → (question ≡ None → is_next ≡ false) → (is_next ≡ false → HasNoneAt mid token) → Turned a c token question
  turned others first second same put last next last_one none = record {
    rest = rest;
    stood = stood;
    once = once;
    others = λ t other has. leave_none b c t second (leave_none mid b t first (subst (λ (o : Option (Option Asker)). IfSome o HasNone) (sym (others t other)) has));
    behind = elim (queued_behind token mid.queue b.queue rest once left put) as (λ _. (c.queue ≡ rest) ⊎ (c.queue ≡ rest ++ token ∷ [])) [ inl is ↦ inl (same ∙ is) | inr is ↦ inr (same ∙ is) ];
    waits = both_in_turn is_next mid b c token first second same none next;
    none = λ unasked. (same ∙ last (last_one unasked) ∙ left, leave_none b c token second (leave_none mid b token first (none (last_one unasked))));
  }

-- These have had their turn, and have no line.
pub record Passed (old now : Askers) : Type 0 where
  pub passed : List ℕ
  pub stood : old.queue ≡ passed ++ now.queue
  pub none : All (λ (t : ℕ). HasNoneAt now t × (is_in t now.queue ≡ false)) passed

still_passed : (now new : Askers) (token t : ℕ) (question : Option Posed) (turn : Turned now new token question) → HasNoneAt now t × (is_in t now.queue ≡ false) → HasNoneAt new t × (is_in t turn.rest ≡ false)
still_passed now new token t question turn (has, out) =
    let parts = or_parts (token == t) (is_in t turn.rest) (ap (is_in t) (sym turn.stood) ∙ out) in (turn.others t (λ same. eqb-false token t parts.0 (sym same)) has, parts.1)

pub one_passed : (old now new : Askers) (token : ℕ) (question : Option Posed) → Passed old now → Turned now new token question → question ≡ None → Passed old new
one_passed old now new token question was turn unasked =
    let none = turn.none unasked in
    let P : ℕ → Type 0 = λ t. HasNoneAt new t × (is_in t new.queue ≡ false) in
    record {
      passed = was.passed ++ token ∷ [];
      stood = was.stood ∙ ap (λ (q : List ℕ). was.passed ++ q) (turn.stood ∙ ap (λ (q : List ℕ). token ∷ q) (sym none.0)) ∙ sym (append_assoc was.passed (token ∷ []) new.queue);
      none = All-push P was.passed token
          (All-weaker (λ (t : ℕ). HasNoneAt now t × (is_in t now.queue ≡ false)) P
          (λ t is. let still = still_passed now new token t question turn is in (still.0, ap (is_in t) none.0 ∙ still.1)) was.passed was.none) (none.1, ap (is_in token) none.0 ∙ turn.once);
    }
