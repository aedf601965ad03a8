-- What is read is a page, and each page is read.
use Rattle.std.proofs.Common.{◌≡◌, ℕ, zero, suc, ◌≤◌, List, [], ◌∷◌, ◌++◌, length, Bool, true, false, nat_le, decimal, Option, Some, None, Ok, Err, refl, sym}
use Rattle.std.proofs.{Common.{ap, ◌∙◌, arith, append_assoc}, lemmas.{Bool.{cond_both, Decides.{nat_tests}}, Fmt.{length-decimal-le}}}
use Rattle.std.specs.{Prelude.{◌==◌, if◌then◌else◌}, Fmt.{digits}, List.{flat_map, list_all}}
use Rattle.lz_slot.{specs.{Limits.{largest_key, most_slots}, Numerals.{number_in}}, proofs.Texts.Numerals.{decimal_read, number_told_of}}
use Rattle.lz_slot.proofs.Texts.Spellings.{decimal_lacks}
use Rattle.lz_resp.specs.{Frames.{bulk, star}, Limits.{most_argument, most_arguments}, Pages.{FaultsHaveNoPage, IsPage, PagesAreRead, PagesAreSpelled, counted}}
use Rattle.lz_resp.specs.Pages.{count_at, heading_at, members_at, number_at, number_text, numbers_at, page_at, page_of, parts_at, told_text}
use Rattle.lz_resp.{specs.{Reading.{and_then, line_at, argument_at}, declared.fault.Fault.TheVariants.{Count}}, proofs.Many.{AreMany, many_read, many_spelled}}
use Rattle.lz_resp.proofs.LongerTexts.{Stays, given, same_read, stays_after, stays_given, stays_line, stays_then, stays_argument, stays_wrong, then_value}
use Rattle.lz_resp.proofs.Spellings.{line_read, line_spelled, argument_read, argument_spelled}

heading_read : (n : ℕ) (more : List ℕ) → n ≤ most_arguments → heading_at (42 ∷ (decimal n ++ 13 ∷ 10 ∷ more)) ≡ given n more
heading_read n more few = grind (arith, decimal, decimal_lacks, line_read, decimal_read)

-- a number that a page may have is short
number_short : (n : ℕ) → n ≤ largest_key → length (decimal n) ≤ most_argument
number_short n small = let short : length (decimal n) ≤ 20 = length-decimal-le 20 n (omega arith) (omega arith) (omega arith) in omega (arith, short)

number_read : (high n : ℕ) (more : List ℕ) → high ≤ largest_key → n ≤ high → number_at high (number_text n ++ more) ≡ given n more
number_read high n more within small = grind (arith, argument_read, decimal, number_short, decimal_read, small)

numbers_read : (numbers more : List ℕ) → list_all (λ number. nat_le number largest_key) numbers ≡ true → numbers_at (length numbers) (flat_map number_text numbers ++ more) ≡ given numbers more
numbers_read = many_read number_text (λ number. nat_le number largest_key) (number_at largest_key) numbers_at (λ text. refl) (λ n text. refl)
    (λ n rest small. number_read largest_key n rest (omega arith) (grind (arith, nat_tests)))

-- the parts of a page's text
regroup : (a b c rest : List ℕ)
    → ((((((42 ∷ 50 ∷ 13 ∷ 10 ∷ []) ++ a) ++ (42 ∷ [])) ++ b) ++ (13 ∷ 10 ∷ [])) ++ c) ++ rest ≡ 42 ∷ 50 ∷ 13 ∷ 10 ∷ (a ++ 42 ∷ (b ++ 13 ∷ 10 ∷ (c ++ rest)))
regroup a b c rest = simp append_assoc

two : decimal 2 ≡ 50 ∷ []
unfolding digits
two = refl

pub pages_are_read : PagesAreRead
pages_are_read next numbers rest page = grind (arith, decimal, given, two, heading_read, number_read, page, numbers_read, regroup)

-- a number that was told is the one that its digits spell
counted_told : (high : ℕ) (digits rest : List ℕ) (n : ℕ) (after : List ℕ) (m : Option ℕ) → number_in 0 high digits ≡ m → counted m rest ≡ given n after
    → (n ≤ high) × (digits ≡ decimal n) × (rest ≡ after)
counted_told high digits rest n after None is h = absurd (cc)
counted_told high digits rest n after (Some m) is h = grind (arith, number_told_of, same_read, decimal)

count_spelled : (text : List ℕ) (n : ℕ) (rest : List ℕ) → count_at text ≡ given n rest → (n ≤ most_arguments) × (text ≡ decimal n ++ 13 ∷ 10 ∷ rest)
count_spelled text n rest h =
    let t = then_value (line_at Count text) (λ digits rest. counted (number_in 0 most_arguments digits) rest) n rest h in
    let told = counted_told most_arguments t.x t.rest n rest (number_in 0 most_arguments t.x) refl t.second in
    (told.0, line_spelled Count text t.x t.rest t.first ∙ ap (λ (d : List ℕ). d ++ 13 ∷ 10 ∷ t.rest) told.1 ∙ ap (λ (r : List ℕ). decimal n ++ 13 ∷ 10 ∷ r) told.2)

heading_spelled : (text : List ℕ) (n : ℕ) (rest : List ℕ) → heading_at text ≡ given n rest → (n ≤ most_arguments) × (text ≡ 42 ∷ (decimal n ++ 13 ∷ 10 ∷ rest))
heading_spelled [] n rest h = absurd (cc)
heading_spelled (b ∷ text) n rest h = grind (arith, cond_both, nat_tests, count_spelled text n rest) steps 100000

number_spelled : (high : ℕ) (text : List ℕ) (n : ℕ) (rest : List ℕ) → number_at high text ≡ given n rest → (n ≤ high) × (text ≡ number_text n ++ rest)
number_spelled high text n rest h =
    let t = then_value (argument_at text) (λ argument rest. counted (number_in 0 high argument) rest) n rest h in
    let told = counted_told high t.x t.rest n rest (number_in 0 high t.x) refl t.second in
    let argument = argument_spelled text t.x t.rest t.first in
    (told.0, argument.whole ∙ ap (λ (w : List ℕ). bulk w ++ t.rest) told.1 ∙ ap (λ (r : List ℕ). number_text n ++ r) told.2)

numbers_spelled : (n : ℕ) (text numbers rest : List ℕ) → numbers_at n text ≡ given numbers rest → AreMany number_text (λ number. nat_le number largest_key) n text numbers rest
numbers_spelled = many_spelled number_text (λ number. nat_le number largest_key) (number_at largest_key) numbers_at (λ text. refl) (λ n text. refl) (λ text n rest h.
    let its = number_spelled largest_key text n rest h in
    (grind (arith, nat_tests, its.0), its.1))

-- the cursor and the members of a page, and what follows them
record AreParts (text : List ℕ) (next : ℕ) (numbers rest : List ℕ) : Type 0 where
  pub whole : text ≡ number_text next ++ 42 ∷ (decimal (length numbers) ++ 13 ∷ 10 ∷ (flat_map number_text numbers ++ rest))
  pub page : IsPage next numbers

members_spelled : (text numbers rest : List ℕ) → members_at text ≡ given numbers rest
    → (length numbers ≤ most_arguments) × (list_all (λ number. nat_le number largest_key) numbers ≡ true) × (text ≡ 42 ∷ (decimal (length numbers) ++ 13 ∷ 10 ∷ (flat_map number_text numbers ++ rest)))
members_spelled text numbers rest h =
    let t = then_value (heading_at text) numbers_at numbers rest h in
    let first = heading_spelled text t.x t.rest t.first in
    let told = numbers_spelled t.x t.rest numbers rest t.second in (
      omega (arith, first.0, told.count),
      told.each,
      first.1 ∙ ap (λ (k : ℕ). 42 ∷ (decimal k ++ 13 ∷ 10 ∷ t.rest)) (sym told.count) ∙ ap (λ (r : List ℕ). 42 ∷ (decimal (length numbers) ++ 13 ∷ 10 ∷ r)) told.whole,
    )

parts_spelled : (text : List ℕ) (next : ℕ) (numbers rest : List ℕ) → parts_at text ≡ Ok (Some ((next, numbers), rest)) → AreParts text next numbers rest
parts_spelled text next numbers rest h =
    let t = then_value (number_at most_slots text) (λ next rest. and_then (members_at rest) (λ numbers after. Ok (Some ((next, numbers), after)))) (next, numbers) rest h in
    let u = then_value (members_at t.rest) (λ numbers after. Ok (Some ((t.x, numbers), after))) (next, numbers) rest t.second in
    let same = same_read (t.x, u.x) (next, numbers) u.rest rest u.second in
    let cursor : t.x ≡ next = ap (λ (p : ℕ × List ℕ). p.0) same.0 in
    let its : u.x ≡ numbers = ap (λ (p : ℕ × List ℕ). p.1) same.0 in
    let first = number_spelled most_slots text t.x t.rest t.first in
    let told = members_spelled t.rest numbers rest (u.first ∙ cc (its, same.1)) in
    record {
      whole = first.1 ∙ ap (λ (n : ℕ). number_text n ++ t.rest) cursor ∙ ap (λ (r : List ℕ). number_text next ++ r) told.2;
      page = record { cursor = omega (arith, first.0, cursor); few = told.0; small = told.1 };
    }

pub pages_are_spelled : PagesAreSpelled
pages_are_spelled text rest numbers next h =
    let t = then_value (heading_at text) page_of (next, numbers) rest h in
    let first = heading_spelled text t.x t.rest t.first in
    cond_both (t.x == 2) (parts_at t.rest) (Err Count) (λ r. r ≡ Ok (Some ((next, numbers), rest)) → (text ≡ told_text next numbers ++ rest) × IsPage next numbers)
    (λ yes h.
    let is : t.x ≡ 2 = grind (arith, nat_tests) in
    let parts = parts_spelled t.rest next numbers rest h in (
      first.1 ∙ ap (λ (k : ℕ). 42 ∷ (decimal k ++ 13 ∷ 10 ∷ t.rest)) is ∙ ap (λ (d : List ℕ). 42 ∷ (d ++ 13 ∷ 10 ∷ t.rest)) two
          ∙ ap (λ (r : List ℕ). 42 ∷ 50 ∷ 13 ∷ 10 ∷ r) parts.whole ∙ sym (regroup (number_text next) (decimal (length numbers)) (flat_map number_text numbers) rest),
      parts.page,
    ))
    (λ _ h. absurd (cc)) t.second

-- What was read of a text is read of it with more after it.
stays_counted : (n : Option ℕ) → Stays (counted n)
stays_counted None = stays_wrong Count
stays_counted (Some n) = stays_given n

stays_count : Stays count_at
stays_count = stays_then (line_at Count) (λ digits rest. counted (number_in 0 most_arguments digits) rest) (stays_line Count) (λ digits. stays_counted (number_in 0 most_arguments digits))

stays_heading : Stays heading_at
stays_heading = stays_after star (λ _. Count) count_at heading_at refl (λ b t. refl) stays_count

stays_number : (high : ℕ) → Stays (number_at high)
stays_number high = stays_then argument_at (λ argument rest. counted (number_in 0 high argument) rest) stays_argument (λ argument. stays_counted (number_in 0 high argument))

stays_numbers : (n : ℕ) → Stays (numbers_at n)
stays_numbers zero = stays_given []
stays_numbers (suc n) =
    stays_then (number_at largest_key) (λ number rest. and_then (numbers_at n rest) (λ numbers after. Ok (Some (number ∷ numbers, after)))) (stays_number largest_key)
    (λ number. stays_then (numbers_at n) (λ numbers after. Ok (Some (number ∷ numbers, after))) (stays_numbers n) (λ numbers. stays_given (number ∷ numbers)))

stays_members : Stays members_at
stays_members = stays_then heading_at numbers_at stays_heading stays_numbers

stays_parts : Stays parts_at
stays_parts =
    stays_then (number_at most_slots) (λ next rest. and_then (members_at rest) (λ numbers after. Ok (Some ((next, numbers), after)))) (stays_number most_slots)
    (λ next. stays_then members_at (λ numbers after. Ok (Some ((next, numbers), after))) stays_members (λ numbers. stays_given (next, numbers)))

stays_either : (b : Bool) → Stays (λ text. if b then parts_at text else Err Count)
stays_either true = stays_parts
stays_either false = stays_wrong Count

stays_page_of : (n : ℕ) → Stays (page_of n)
stays_page_of n = stays_either (n == 2)

stays_page : Stays page_at
stays_page = stays_then heading_at page_of stays_heading stays_page_of

pub faults_have_no_page : FaultsHaveNoPage
faults_have_no_page text more rest numbers next fault h page same =
    let wrong : page_at (text ++ more) ≡ Err fault = stays_page.fault text more fault h in
    let right : page_at (text ++ more) ≡ Ok (Some ((next, numbers), rest)) = ap page_at same ∙ pages_are_read next numbers rest page in
    let both : Ok (Some ((next, numbers), rest)) ≡ Err fault = sym right ∙ wrong in
    absurd (cc)
