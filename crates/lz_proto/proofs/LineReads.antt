-- What the tests of a line find is what the line is.
use Rattle.lz_slot.specs.Texts as texts
use Rattle.std.proofs.Common.{◌≡◌, ℕ, ◌++◌, ◌-◌, ◌≤◌, List, length, take, drop, codes, Result, Ok, Err, true, false, nat_eq, nat_lt, arith, refl, sym, ap, ◌∙◌}
use Rattle.std.{proofs.lemmas.{List.{take_rest}, Bool.{cond_both, Decides.{nat_tests, Decides-eqb}}, Slice.Eq.{starts_is}}, specs.List.{starts_with}}
use Rattle.std.specs.Cmp.Lexicographic.{pointwise, same_text}
use Rattle.lz_proto.specs.declared.{request.Request.{Request, TheVariants.{Add, Remove, Has, Quit}}, fault.Bad.{Bad}, item.Item.{Item}}
use Rattle.lz_proto.specs.{declared.item.Item.TheVariants.{Asks, Faulty}, Lines.{bad_of, IsRequestText, fault_of_body, without_return, IsItem, item_of}}
use Rattle.lz_proto.specs.Reading.{key_read, key_told, request_read, with_key}
use Rattle.lz_slot.specs.{Limits.{largest_key}, Texts.{key_fault, Spells}, declared.spelling.KeyFault.{KeyFault}}
use Rattle.lz_slot.proofs.Texts.Spellings.{keys_are_refused, read_spelled, spelled_read, spelled_short}

pub add_read : (line : List ℕ) (r : Result ℕ Bad) → nat_lt 64 (length line) ≡ false → pointwise nat_eq line (codes "quit") ≡ false
    → starts_with nat_eq line (codes "add ") ≡ true → r ≡ key_read (take (length line - 4) (drop 4 line)) → with_key (λ k. Add k) r ≡ request_read line
add_read line r short other is found = ap (with_key (λ k. Add k)) (found ∙ ap key_read (take_rest line 4)) ∙ sym (rw (short, other, is) refl)

pub remove_read : (line : List ℕ) (r : Result ℕ Bad) → nat_lt 64 (length line) ≡ false → pointwise nat_eq line (codes "quit") ≡ false
    → starts_with nat_eq line (codes "add ") ≡ false → starts_with nat_eq line (codes "remove ") ≡ true
    → r ≡ key_read (take (length line - 7) (drop 7 line)) → with_key (λ k. Remove k) r ≡ request_read line
remove_read line r short other add is found = ap (with_key (λ k. Remove k)) (found ∙ ap key_read (take_rest line 7)) ∙ sym (rw (short, other, add, is) refl)

pub has_read : (line : List ℕ) (r : Result ℕ Bad) → nat_lt 64 (length line) ≡ false → pointwise nat_eq line (codes "quit") ≡ false
    → starts_with nat_eq line (codes "add ") ≡ false → starts_with nat_eq line (codes "remove ") ≡ false → starts_with nat_eq line (codes "has ") ≡ true
    → r ≡ key_read (take (length line - 4) (drop 4 line)) → with_key (λ k. Has k) r ≡ request_read line
has_read line r short other add remove is found = ap (with_key (λ k. Has k)) (found ∙ ap key_read (take_rest line 4)) ∙ sym (rw (short, other, add, remove, is) refl)

-- the text of a request is read as the request
pub text_read : (line : List ℕ) (request : Request) → IsRequestText line request → request_read line ≡ Ok request
text_read line (Add k) (small, (text, spells, is)) =
    let few = spelled_short text k small spells in
    let short : nat_lt 64 (length (codes "add " ++ text)) ≡ false = grind (arith, nat_tests, few) in
    ap request_read is ∙ rw short (ap (λ r. with_key (λ n. Add n) (key_told r)) (spelled_read text k small spells))
text_read line (Remove k) (small, (text, spells, is)) =
    let few = spelled_short text k small spells in
    let short : nat_lt 64 (length (codes "remove " ++ text)) ≡ false = grind (arith, nat_tests, few) in
    ap request_read is ∙ rw short (ap (λ r. with_key (λ n. Remove n) (key_told r)) (spelled_read text k small spells))
text_read line (Has k) (small, (text, spells, is)) =
    let few = spelled_short text k small spells in
    let short : nat_lt 64 (length (codes "has " ++ text)) ≡ false = grind (arith, nat_tests, few) in
    ap request_read is ∙ rw short (ap (λ r. with_key (λ n. Has n) (key_told r)) (spelled_read text k small spells))
text_read line Quit is = ap request_read is

-- what the tests found is so
abbrev Told : List ℕ → Result Request Bad → Type 0
Told line (Ok request) = IsRequestText line request
Told line (Err bad) = fault_of_body line ≡ bad

keyed : (line text : List ℕ) (command : ℕ → Request) (r : Result ℕ KeyFault) → texts.key_read text ≡ r
    → ((k : ℕ) → k ≤ largest_key → Spells text k → Told line (Ok (command k))) → fault_of_body line ≡ bad_of (key_fault text)
    → Told line (with_key command (key_told r))
keyed line text command (Ok k) e ok fault = let told = read_spelled text k e in ok k told.0 told.1
keyed line text command (Err why) e ok fault = fault ∙ ap bad_of (keys_are_refused text why e)

begins : (line word : List ℕ) → starts_with nat_eq line word ≡ true → line ≡ word ++ drop (length word) line
begins line word h = (starts_is Decides-eqb line word (starts_with nat_eq line word) refl).0 h

read_told : (line : List ℕ) → Told line (request_read line)
read_told line = cond_both (nat_lt 64 (length line)) _ _ (Told line) (λ long. rw long refl)
    (λ short. cond_both (pointwise nat_eq line (codes "quit")) _ _ (Told line) (λ is. same_text line (codes "quit") (sym is))
    (λ _. cond_both (starts_with nat_eq line (codes "add ")) _ _ (Told line)
    (λ add. keyed line (drop 4 line) (λ k. Add k) (texts.key_read (drop 4 line)) refl (λ k small spells. (small, (drop 4 line, spells, begins line (codes "add ") add)))
    (rw (short, add) refl))
    (λ no_add. cond_both (starts_with nat_eq line (codes "remove ")) _ _ (Told line)
    (λ remove. keyed line (drop 7 line) (λ k. Remove k) (texts.key_read (drop 7 line)) refl (λ k small spells. (small, (drop 7 line, spells, begins line (codes "remove ") remove)))
    (rw (short, no_add, remove) refl))
    (λ no_remove. cond_both (starts_with nat_eq line (codes "has ")) _ _ (Told line)
    (λ has. keyed line (drop 4 line) (λ k. Has k) (texts.key_read (drop 4 line)) refl (λ k small spells. (small, (drop 4 line, spells, begins line (codes "has ") has)))
    (rw (short, no_add, no_remove, has) refl))
    (λ no_has. rw (short, no_add, no_remove, no_has) refl)))))

item_told : (line : List ℕ) (r : Result Request Bad) → r ≡ request_read (without_return line) → Told (without_return line) r → IsItem line (item_of r)
item_told line (Ok request) e told = told
item_told line (Err bad) e told = (λ request is. let ok = text_read (without_return line) request is in absurd (cc (e, ok)), told)

-- what is read of a line is its item
pub item_read : (line : List ℕ) → IsItem line (item_of (request_read (without_return line)))
item_read line = item_told line (request_read (without_return line)) refl (read_told (without_return line))

item_given : (line : List ℕ) (item : Item) (r : Result Request Bad) → r ≡ request_read (without_return line) → Told (without_return line) r → IsItem line item → item ≡ item_of r
item_given line (Asks request) r e told is = ap item_of (sym (e ∙ text_read (without_return line) request is))
item_given line (Faulty bad) (Ok request) e told is = absurd (is.0 request told)
item_given line (Faulty bad) (Err other) e told is = ap (λ (b : Bad). Faulty b) (sym is.1 ∙ told)

-- a line has one item
pub item_only : (line : List ℕ) (item : Item) → IsItem line item → item ≡ item_of (request_read (without_return line))
item_only line item is = item_given line item (request_read (without_return line)) refl (read_told (without_return line)) is
