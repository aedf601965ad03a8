-- What was sent of a line of two numbers.
use Rattle.std.proofs.{Common.{◌≡◌, ℕ, List, [], ◌∷◌, ◌++◌, codes, decimal, Option, Result, Err, subst, append_assoc, arith}, lemmas.Bool.Decides.{nat_tests}}
use Rattle.std.specs.Io.KnownBytes.{Appends}
use Rattle.lz_proto.specs.{Steps.{SendTells}, declared.fault.SessionFault.{SessionFault}}
use Rattle.lazyset_file_commands.proofs.SentTexts.{sent_less, sent_more}

module _ (words : List ℕ) (n m : ℕ) where
  pub two_sent : (old mid new : Option (List ℕ)) (r : Result (Unit {0}) SessionFault) → Appends old mid (words ++ decimal n) → SendTells mid new (codes " " ++ decimal m ++ 10 ∷ []) r
      → SendTells old new (words ++ decimal n ++ codes " " ++ decimal m ++ 10 ∷ []) r
  two_sent old mid new r whole sent = grind (arith, nat_tests, append_assoc, decimal, codes, sent_more)

  pub two_cut : (old new : Option (List ℕ)) (fault : SessionFault) → SendTells old new (words ++ decimal n) (Err fault) → SendTells old new (words ++ decimal n ++ codes " " ++ decimal m ++ 10 ∷ []) (Err fault)
  two_cut old new fault sent = grind (arith, nat_tests, append_assoc, decimal, codes, sent_less)

-- the same numbers by other names
pub one_same : (words : List ℕ) (n i : ℕ) (old new : Option (List ℕ)) (r : Result (Unit {0}) SessionFault) → n ≡ i → SendTells old new (words ++ decimal n ++ 10 ∷ []) r → SendTells old new (words ++ decimal i ++ 10 ∷ []) r
one_same words n i old new r is sent = subst (λ (k : ℕ). SendTells old new (words ++ decimal k ++ 10 ∷ []) r) is sent

pub two_same : (words : List ℕ) (n m i j : ℕ) (old new : Option (List ℕ)) (r : Result (Unit {0}) SessionFault) → n ≡ i → m ≡ j
    → SendTells old new (words ++ decimal n ++ codes " " ++ decimal m ++ 10 ∷ []) r → SendTells old new (words ++ decimal i ++ codes " " ++ decimal j ++ 10 ∷ []) r
two_same words n m i j old new r is also sent = grind (arith, nat_tests, decimal, codes)
