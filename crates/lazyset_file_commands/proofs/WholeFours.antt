-- Whether a text is a whole file of format 4, by what was read of its head.
use Rattle.std.proofs.Common.{◌≡◌, ◌≢◌, ℕ, ◌+◌, ◌*◌, ◌≤◌, List, length, take, Ok, Err, Result, sym, ◌∙◌, ap, arith}
use Rattle.lz_slot.specs.{Bytes.{format_of, header_read}, declared.{format.Format.{Format, TheVariants.{Four}}, header.HeaderFault.{HeaderFault}}}
use Rattle.lz_slot.proofs.Files.{ExactBytes.{header_counts}, HeadBytes.{format_alone}}
use Rattle.lz_vault.proofs.Openings.{head_read}
use Rattle.lazyset_file_commands.specs.Rewritings.{IsWholeFour}

module _ (t head : List ℕ) (size : ℕ) (sized : size ≡ length t) (is : 16 ≤ size → head ≡ take 16 t) where
  read : header_read head size ≡ header_read (take 16 t) (length t)
  read = head_read t head size sized is

  pub no_head : (fault : HeaderFault) → header_read head size ≡ Err fault → (n : ℕ) → ¬ IsWholeFour t n
  no_head fault said n whole =
      let other : ◌≡◌ {A = Result ℕ HeaderFault} (Ok n) (Err fault) = sym whole.0 ∙ sym read ∙ said in
      absurd cc

  module _ (format : Format) (slots : ℕ) (said : header_read head size ≡ Ok slots) (named : format ≡ format_of head) where
    pub whole_size : 16 + 16 * slots ≡ length t
    whole_size = omega (arith, (header_counts head size slots said).2, sized)

    of_text : format ≡ format_of t
    of_text = named ∙ ap format_of (is (omega (arith, (header_counts head size slots said).2))) ∙ format_alone t

    pub whole_four : format ≡ Four → IsWholeFour t slots
    whole_four four = (sym read ∙ said, sym of_text ∙ four)

    pub other_format : format ≢ Four → (n : ℕ) → ¬ IsWholeFour t n
    other_format other n whole = other (of_text ∙ whole.1)
