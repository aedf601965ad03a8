-- Worked rows: texts that list keys, and texts that must not.
use Rattle.std.proofs.lemmas.Bool.Decides.{nat_tests}
use Rattle.std.{proofs.Common.{◌≡◌, ℕ, List, [], ◌∷◌, ◌++◌, ◌<◌, inl, inr, codes, true, false, Some, None, refl, sym, ap, subst, ◌∙◌, arith}, specs.List.{IsDistinct}}
use Rattle.std.specs.Prelude.{nat_eq}
use Rattle.lz_slot.specs.declared.{format.Format.{Format, TheVariants.{One, Two}}, spelling.KeyFault.TheVariants.{NoNumber}}
use Rattle.lz_slot.proofs.Texts.Cuts.{first_cut, stands}
use Rattle.lz_proto.specs.Lines.{has_line_feed, line_feed}
use Rattle.lazyset_file_commands.specs.{Lists.{IsListFaultOf, Lists, keys, texts, nothing, more, NamesKey}, Marks.{secret_mark, texts_mark}}
use Rattle.lazyset_file_commands.{specs.declared.list.ListFault.TheVariants.{Line, Twice}, proofs.Listed.{spelled_by, spelled_not, spelled_other}}
use Rattle.lazyset_file_commands.proofs.{ListPieces.{both_marks, mark_alone}, OneList.{no_bad_line, no_key_again, not_empty}}
use Rattle.lz_scan_client.{specs.Told.{AreOnce}, proofs.OneEach.{none_twice, told_more}}
use Rattle.lz_resp.specs.Keys.{secret_number, text_number}

-- Keys of two spellings, and a carriage return; no line is a list of no keys.
two_keys : Lists (keys Two) (codes "0:7" ++ 10 ∷ codes "3:8" ++ 13 ∷ 10 ∷ []) (7 ∷ 3000000000000000008 ∷ [])
unfolding IsDistinct
two_keys = record {
  told = 7 ∷ 3000000000000000008 ∷ [];
  spelled = more (codes "0:7") _ 7 _ refl (spelled_by Two (codes "0:7") 7 refl (omega arith))
      (more (codes "3:8" ++ 13 ∷ []) [] 3000000000000000008 [] refl (spelled_by Two (codes "3:8" ++ 13 ∷ []) 3000000000000000008 refl (omega arith)) nothing);
  all = (refl, ((refl, tt), (tt, tt)));
}

abbrev no_line : (format : Format) → Lists (keys format) [] []
no_line format = record { told = []; spelled = nothing; all = (refl, none_twice) }

-- a first line that spells no key
starts_badly : (format : Format) (line rest : List ℕ) → has_line_feed line ≡ false → ((k : ℕ) → ¬ NamesKey (keys format) line k) → IsListFaultOf (keys format) (line ++ line_feed ∷ rest) (Line 1)
starts_badly format line rest clear none = record {
  above = [];
  rest = line ++ line_feed ∷ rest;
  whole = refl;
  ks = [];
  lists = no_line format;
  place = refl;
  fault = (
    λ is. not_empty line rest (sym is),
    λ first k (clear_first, (others, is)) spells.
        none k (subst (λ (l : List ℕ). NamesKey (keys format) l k) (sym (first_cut 10 line first rest others clear clear_first is)) spells),
  );
}

-- a line without a key, one with two carriage returns, and a room that format 1 lacks
empty_line : IsListFaultOf (keys Two) (10 ∷ []) (Line 1)
empty_line = starts_badly Two [] [] refl (spelled_not Two [] NoNumber refl)

two_returns : IsListFaultOf (keys Two) (codes "7" ++ 13 ∷ 13 ∷ 10 ∷ []) (Line 1)
two_returns = starts_badly Two (codes "7" ++ 13 ∷ 13 ∷ []) [] refl (spelled_not Two (codes "7" ++ 13 ∷ 13 ∷ []) NoNumber refl)

no_such_room : IsListFaultOf (keys One) (codes "3:8" ++ 10 ∷ []) (Line 1)
no_such_room = starts_badly One (codes "3:8") [] refl (spelled_other One (codes "3:8") 3000000000000000008 refl (λ low. omega arith))

-- a last line that doesn't end, and a key that stands in two lines, which must not be lists
pub one_key_once : IsDistinct nat_eq (7 ∷ [])
unfolding IsDistinct
one_key_once = (tt, tt)

abbrev pub one_key_above : Lists (keys Two) (codes "7" ++ 10 ∷ []) (7 ∷ [])
one_key_above = record { told = 7 ∷ []; spelled = more (codes "7") [] 7 [] refl (spelled_by Two (codes "7") 7 refl (omega arith)) nothing; all = (refl, one_key_once) }

not_ended : IsListFaultOf (keys Two) (codes "7" ++ 10 ∷ codes "8") (Line 2)
not_ended = record {
  above = codes "7" ++ 10 ∷ [];
  rest = codes "8";
  whole = refl;
  ks = 7 ∷ [];
  lists = one_key_above;
  place = refl;
  fault = (λ is. cc, λ line k (clear, (others, is)) spells. absurd (let feed : true ≡ false = sym (stands 10 line others) ∙ ap has_line_feed (sym is) in cc));
}

seven_again : IsListFaultOf (keys Two) (codes "7" ++ 10 ∷ codes "0:7" ++ 10 ∷ []) (Twice 2)
seven_again = record {
  above = codes "7" ++ 10 ∷ [];
  rest = codes "0:7" ++ 10 ∷ [];
  whole = refl;
  ks = 7 ∷ [];
  lists = one_key_above;
  place = refl;
  fault = (codes "0:7", 7, (refl, ([], refl)), spelled_by Two (codes "0:7") 7 refl (omega arith), refl);
}

pub not_ended_lists_none : (ks : List ℕ) → Lists (keys Two) (codes "7" ++ 10 ∷ codes "8") ks → ⊥
not_ended_lists_none ks lists = no_bad_line (keys Two) (codes "7" ++ 10 ∷ codes "8") ks 2 lists not_ended

seven_again_lists_none : (ks : List ℕ) → Lists (keys Two) (codes "7" ++ 10 ∷ codes "0:7" ++ 10 ∷ []) ks → ⊥
seven_again_lists_none ks lists = no_key_again Two (codes "7" ++ 10 ∷ codes "0:7" ++ 10 ∷ []) ks 2 lists seven_again

-- A text that comes twice, and a mark before it.
module _ where
  abbrev told : ℕ
  told = text_number [] (codes "s") (codes "m")

  below : told < 1_000_000_000_000_000_000
  below = omega arith

  one_text : AreOnce (texts_mark ∷ told ∷ []) (texts_mark ∷ told ∷ [])
  one_text = told_more (texts_mark ∷ []) (texts_mark ∷ []) (texts_mark ∷ told ∷ []) told mark_alone (inr (grind (arith, nat_tests, below), omega (arith, below), refl))

  text_again : AreOnce (texts_mark ∷ told ∷ told ∷ []) (texts_mark ∷ told ∷ [])
  text_again = told_more (texts_mark ∷ told ∷ []) (texts_mark ∷ told ∷ []) (texts_mark ∷ told ∷ []) told one_text (inl (grind (arith, nat_tests), refl))

  a_text_twice : Lists (texts None (codes "s")) (codes "m" ++ 10 ∷ codes "m" ++ 10 ∷ []) (texts_mark ∷ told ∷ [])
  a_text_twice = record {
    told = told ∷ told ∷ [];
    spelled = more (codes "m") _ told _ refl (omega arith, refl) (more (codes "m") [] told [] refl (omega arith, refl) nothing);
    all = (text_again, (told ∷ [], refl));
  }

-- A text under a secret, of this block, and two marks before it.
module _ (block : List ℕ) where
  abbrev hidden : ℕ
  hidden = text_number block (codes "s") (codes "m")

  abbrev seal : ℕ
  seal = secret_mark (secret_number block)

  beside : (hidden < texts_mark) × (texts_mark < seal)
  beside = (omega arith, omega arith)

  sealed_text : AreOnce (texts_mark ∷ seal ∷ hidden ∷ []) (texts_mark ∷ seal ∷ hidden ∷ [])
  sealed_text = told_more (texts_mark ∷ seal ∷ []) (texts_mark ∷ seal ∷ []) (texts_mark ∷ seal ∷ hidden ∷ []) hidden (both_marks block)
      (inr (grind (arith, nat_tests, beside), omega (arith, beside.0), refl))

  a_text_under_a_secret : Lists (texts (Some block) (codes "s")) (codes "m" ++ 10 ∷ []) (texts_mark ∷ seal ∷ hidden ∷ [])
  a_text_under_a_secret = record {
    told = hidden ∷ [];
    spelled = more (codes "m") [] hidden [] refl (omega arith, refl) nothing;
    all = (sealed_text, (hidden ∷ [], refl));
  }

  -- the mark of texts alone isn't enough
  lacks_its_mark : (text : List ℕ) → Lists (texts (Some block) (codes "s")) text (texts_mark ∷ hidden ∷ []) → ⊥
  lacks_its_mark text lists =
      let (rest, is) = lists.all.1 in
      let same : hidden ≡ seal = cc in
      omega (arith, same, beside.0, beside.1)
