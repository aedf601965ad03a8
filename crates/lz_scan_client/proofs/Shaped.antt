-- What a service's reply tells of its file.
use Rattle.std.proofs.Common.{◌≡◌, ℕ, ◌≤◌, inl, inr, List, [], ◌∷◌, ◌++◌, length, Option, Some, None, Result, Ok, Err, IfOk, IfSome, Bor, decimal, codes, refl}
use Rattle.std.proofs.Common.{sym, ap, ◌∙◌, arith, append_assoc}
use Rattle.lz_slot.{specs.Numerals.{largest_read, number_in}, proofs.Texts.Numerals.{numbers_read_back}}
use Rattle.lz_proto.specs.Lines.{carriage_return, line_feed}
use Rattle.lz_resp.specs.{Frames.{bulk, dollar, line_end}, Queries.{row}}
use Rattle.lz_scan_client.specs.{Shapes.{HasRow, IsBeforeLine}, declared.fault.ScanFault.{ScanFault}}

-- what holds of a number where one is
pub where_some : {A : Type 0} (P : A → Type 0) (r : Option A) → ((x : A) → r ≡ Some x → P x) → IfSome r P
where_some P (Some x) all = all x refl
where_some P None all = tt

-- a number's text is its plain decimal
pub told_number : (high : ℕ) (text : List ℕ) (r : Option ℕ) (n : ℕ) → high ≤ largest_read → r ≡ number_in 0 high text → r ≡ Some n → text ≡ decimal n
told_number high text r n low is some = ((numbers_read_back 0 high n text low).0 (sym is ∙ some)).2

-- a first line that tells a length
pub heading_is : (heading rest digits : List ℕ) (n : ℕ) → heading ≡ codes "$" ++ rest → rest ≡ digits ++ codes "\r" → digits ≡ decimal n → heading ≡ dollar ∷ decimal n ++ carriage_return ∷ []
heading_is heading rest digits n front back told = front ∙ ap (λ (r : List ℕ). dollar ∷ r) (back ∙ ap (λ (d : List ℕ). d ++ carriage_return ∷ []) told)

-- a line that tells a number
pub row_is : (line name told rest digits : List ℕ) (n : ℕ) → line ≡ name ++ told → told ≡ codes ":" ++ rest → rest ≡ digits ++ codes "\r" → digits ≡ decimal n → line ++ line_feed ∷ [] ≡ row name n
row_is line name told rest digits n front sign back is = grind (arith, append_assoc)

-- a first line, and a part with a line's end after it, are a bulk string
bulk_is : (text heading rest info : List ℕ) (n : ℕ) → text ≡ heading ++ line_feed ∷ rest → heading ≡ dollar ∷ decimal n ++ carriage_return ∷ [] → rest ≡ info ++ line_end → length info ≡ n → text ≡ bulk info
bulk_is text heading rest info n whole first back long = grind (arith, append_assoc)

pub bulk_found : (text heading rest : List ℕ) (n : ℕ) (r : Result (Option (Bor (List ℕ))) ScanFault) → text ≡ heading ++ line_feed ∷ rest → heading ≡ dollar ∷ decimal n ++ carriage_return ∷ []
    → IfOk r (λ found. IfSome found (λ info. rest ≡ info.now ++ line_end)) → IfOk r (λ found. IfSome found (λ info. length info.now ≡ n)) → IfOk r (λ found. IfSome found (λ info. text ≡ bulk info.now))
bulk_found text heading rest n (Ok (Some info)) whole first back long = bulk_is text heading rest info.now n whole first back long
bulk_found text heading rest n (Ok None) whole first back long = tt
bulk_found text heading rest n (Err fault) whole first back long = tt

-- a text of which so much is left has whole lines before that
pub record Lines (text rest : List ℕ) : Type 0 where
  pub above : List ℕ
  pub begins : IsBeforeLine above
  pub whole : text ≡ above ++ rest

pub all_left : (text : List ℕ) → Lines text text
all_left text = record { above = []; begins = inl refl; whole = refl }

-- one line more
pub line_passed : (text rest line after : List ℕ) → Lines text rest → rest ≡ line ++ line_feed ∷ after → Lines text after
line_passed text rest line after lines is = record {
  above = (lines.above ++ line) ++ line_feed ∷ [];
  begins = inr (lines.above ++ line, refl);
  whole = lines.whole ∙ ap (λ (r : List ℕ). lines.above ++ r) is ∙ sym (append_assoc lines.above line (line_feed ∷ after)) ∙ sym (append_assoc (lines.above ++ line) (line_feed ∷ []) after);
}

-- the line is a row
pub row_found : (text rest line after name : List ℕ) (n : ℕ) → Lines text rest → rest ≡ line ++ line_feed ∷ after → line ++ line_feed ∷ [] ≡ row name n → HasRow text name n
row_found text rest line after name n lines is row_of = record {
  above = lines.above;
  below = after;
  begins = lines.begins;
  whole = lines.whole ∙ ap (λ (r : List ℕ). lines.above ++ r) (is ∙ sym (append_assoc line (line_feed ∷ []) after) ∙ ap (λ (r : List ℕ). r ++ after) row_of) ∙ sym (append_assoc lines.above (row name n) after);
}
