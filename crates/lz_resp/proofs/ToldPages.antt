-- What the service tells of a page is read by a client.
use Rattle.std.proofs.Common.{◌≡◌, ℕ, ◌≤◌, List, [], ◌∷◌, ◌++◌, length, true, nat_le, decimal, Option, Some, None, refl, sym, ap, ◌∙◌, arith}
use Rattle.std.proofs.lemmas.{Bool.Decides.{nat_tests}, List.{length-map, Sums.{count_by-le-length, length-filter}}}
use Rattle.std.specs.{Prelude.{IfSome, codes, count_by, filter}, List.{flat_map, list_all}}
use Rattle.lz_slot.specs.{Limits.{largest_key, most_slots}, Rooms.{number_of}}
use Rattle.lz_resp.specs.{Frames.{line_end}, Pages.{PagesAreToldAndRead, number_text, numbers_in, page_at, told_text}}
use Rattle.lz_resp.{specs.Scans.{cursor_of, is_in, member_text, page_text, told_of}, proofs.PageTexts.{pages_are_read}}

counted : (room : Option ℕ) (keys : List ℕ) → length (numbers_in room keys) ≡ count_by (is_in room) keys
counted room keys = length-map (filter (is_in room) keys) (told_of room) ∙ length-filter (is_in room) keys

texts : (room : Option ℕ) (keys : List ℕ) → flat_map (member_text room) keys ≡ flat_map number_text (numbers_in room keys)
texts room [] = refl
texts (Some room) (k ∷ keys) = grind (arith, texts (Some room) keys) steps 100000
texts None (k ∷ keys) = ap (λ (t : List ℕ). number_text k ++ t) (texts None keys)

in_room : (room : ℕ) (keys : List ℕ) → list_all (λ number. nat_le number largest_key) (numbers_in (Some room) keys) ≡ true
in_room room [] = refl
in_room room (k ∷ keys) = let fits : number_of k ≤ largest_key = omega arith in grind (arith, nat_tests, fits, in_room room keys) steps 100000

-- of all rooms each key is told as it is
all_told : (keys : List ℕ) → numbers_in None keys ≡ keys
all_told [] = refl
all_told (k ∷ keys) = ap (λ (l : List ℕ). k ∷ l) (all_told keys)

small : (room : Option ℕ) (keys : List ℕ) → (room ≡ None → list_all (λ key. nat_le key largest_key) keys ≡ true) → list_all (λ number. nat_le number largest_key) (numbers_in room keys) ≡ true
small (Some room) keys fits = in_room room keys
small None keys fits = ap (λ (l : List ℕ). list_all (λ number. nat_le number largest_key) l) (all_told keys) ∙ fits refl

told : (room : Option ℕ) (keys : List ℕ) (next : Option ℕ) → page_text room keys next ≡ told_text (cursor_of next) (numbers_in room keys)
told room keys next =
    ap (λ (n : ℕ). codes "*2\r\n" ++ number_text (cursor_of next) ++ codes "*" ++ decimal n ++ line_end ++ flat_map (member_text room) keys) (sym (counted room keys))
    ∙ ap (λ (t : List ℕ). codes "*2\r\n" ++ number_text (cursor_of next) ++ codes "*" ++ decimal (length (numbers_in room keys)) ++ line_end ++ t) (texts room keys)

cursor_fits : (next : Option ℕ) → IfSome next (λ slot. slot ≤ most_slots) → cursor_of next ≤ most_slots
cursor_fits None h = omega arith
cursor_fits (Some slot) h = h

pub pages_are_told_and_read : PagesAreToldAndRead
pages_are_told_and_read room keys rest next few low fits =
    ap (λ (t : List ℕ). page_at (t ++ rest)) (told room keys next)
    ∙ pages_are_read (cursor_of next) (numbers_in room keys) rest (record {
      cursor = cursor_fits next low;
      few = omega (arith, counted room keys, count_by-le-length (is_in room) keys, few);
      small = small room keys fits;
    })
