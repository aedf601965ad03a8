-- What was sent of texts, one after the other.
use Rattle.lazyset_file_commands.specs.declared.status.Status.TheVariants as status
use Rattle.std.proofs.Common.{◌≡◌, is_ok, true, false, ◌⊎◌, inl, inr, ⊎_elim, ℕ, ◌+◌, List, [], ◌∷◌, ◌++◌, codes, decimal, length, take, Option, Result, Ok}
use Rattle.std.proofs.{Common.{Err, sym, ◌∙◌, subst, arith, length-append}, Math.Seq.{take-append-add}, lemmas.List.{take-append-le}}
use Rattle.std.{proofs.{lemmas.Bool.Decides.{nat_tests}, KnownBytes.{Appends-trans}}, specs.Io.KnownBytes.{Appends, Keeps}}
use Rattle.lz_proto.specs.{Steps.{SendTells}, declared.fault.SessionFault.{SessionFault, TheVariants.{Read, Write, Memory}}}
use Rattle.lazyset_file_commands.specs.{Tellings.{Tells, status_sent}, Ends.{open_status}, Makings.{refused_text}, declared.status.Status.{Status}}
use Rattle.lz_vault.specs.declared.opening.OpenFault.{OpenFault}

-- a text was sent whole, and then another one, or a part of it
pub sent_more : (old mid new : Option (List ℕ)) (first second : List ℕ) (r : Result (Unit {0}) SessionFault) → Appends old mid first → SendTells mid new second r → SendTells old new (first ++ second) r
sent_more old mid new first second (Ok done) p q = Appends-trans old mid new first second p q
sent_more old mid new first second (Err Read) p q = absurd q
sent_more old mid new first second (Err Memory) p q = absurd q
sent_more old mid new first second (Err Write) p (n, less, q) = (
  length first + n,
  omega (arith, length-append first second),
  subst (λ (t : List ℕ). Appends old new t) (sym (take-append-add first second n)) (Appends-trans old mid new first (take n second) p q),
)

-- a part of a text was sent, and nothing of what follows it
pub sent_less : (old new : Option (List ℕ)) (first second : List ℕ) (fault : SessionFault) → SendTells old new first (Err fault) → SendTells old new (first ++ second) (Err fault)
sent_less old new first second fault q = grind (arith, nat_tests, length-append, take-append-le)

-- a text was sent whole, and then one that is this, or a part of it
pub sent_after : (old mid new : Option (List ℕ)) (first second text : List ℕ) (r : Result (Unit {0}) SessionFault) → Appends old mid first → text ≡ second → SendTells mid new text r → SendTells old new (first ++ second) r
sent_after old mid new first second text r p is q = sent_more old mid new first second r p (subst (λ (t : List ℕ). SendTells mid new t r) is q)

-- the status of a command that sent its text so
pub sent_tells : (old new : Option (List ℕ)) (text : List ℕ) (told : Status) (r : Result (Unit {0}) SessionFault) → SendTells old new text r → Tells old new text told (status_sent r told)
sent_tells old new text told r p = grind (arith, nat_tests)

-- a text that couldn't be told whole fails the command
pub told_either : (old new : Option (List ℕ)) (text : List ℕ) (told state : Status) → Tells old new text told state → (state ≡ status.Failed) ⊎ ((state ≡ told) × Appends old new text)
told_either old new text told state tells = ⊎_elim (λ whole. inr (whole.1, whole.0)) (λ part. inl part.1) tells

-- how a command ends that told a text
pub told_ends : (old new : Option (List ℕ)) (text : List ℕ) (told state : Status) → Tells old new text told state → (state ≡ told) ⊎ (state ≡ status.Failed)
told_ends old new text told state tells = ⊎_elim (λ whole. inl whole.1) (λ part. inr part.1) tells

-- one that failed in any case
pub only_failed : {P : Type 0} (state : Status) → (state ≡ status.Failed) ⊎ ((state ≡ status.Failed) × P) → state ≡ status.Failed
only_failed state ends = ⊎_elim (λ failed. failed) (λ told. told.0) ends

-- one that tells a refusal told it whole
pub told_refused : (old new : Option (List ℕ)) (text : List ℕ) (told state : Status) → Tells old new text told state → state ≡ status.Refused → Appends old new text × (told ≡ status.Refused)
told_refused old new text told state tells is = ⊎_elim (λ whole. (whole.0, sym whole.1 ∙ is)) (λ part. absurd (let never : status.Failed ≡ status.Refused = sym part.1 ∙ is in cc)) tells

-- how a refused open ends
pub refusal_ends : (old new : Option (List ℕ)) (text : List ℕ) (fault : OpenFault) (state : Status) → Tells old new text (open_status fault) state → (state ≡ status.Refused) ⊎ (state ≡ status.Failed)
refusal_ends old new text fault state tells = grind (arith, nat_tests)

-- the line of a refusal by its number
pub number_tells : (old new : Option (List ℕ)) (told : Status) (r : Result (Unit {0}) SessionFault) (n number : ℕ) → n ≡ number → SendTells old new (codes "refused " ++ decimal n ++ 10 ∷ []) r
    → Tells old new (refused_text number) told (status_sent r told)
number_tells old new told r n number is sent = sent_tells old new (refused_text number) told r (subst (λ (i : ℕ). SendTells old new (refused_text i) r) is sent)

-- a flush changes nothing of what was sent whole
pub flushed_whole : (old mid new : Option (List ℕ)) (text : List ℕ) (r : Result (Unit {0}) SessionFault) → SendTells old mid text r → Keeps mid new → is_ok r ≡ true → SendTells old new text (Ok tt)
flushed_whole old mid new text r p kept whole = grind (arith, nat_tests)

-- nor of what was cut short
pub flushed_part : (old mid new : Option (List ℕ)) (text : List ℕ) (r : Result (Unit {0}) SessionFault) → SendTells old mid text r → Keeps mid new → is_ok r ≡ false → SendTells old new text (Err Write)
flushed_part old mid new text r p kept part = grind (arith, nat_tests)
