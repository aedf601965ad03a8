-- One line more of a text.
use Rattle.std.proofs.Common.{◌≡◌, inr, ℕ, ◌+◌, ◌-◌, ◌<◌, ◌≤◌, List, [], ◌∷◌, ◌++◌, length, take, drop, Some, None, sym, refl, ap, subst, ◌∙◌, arith}
use Rattle.std.proofs.{Common.{append_assoc, length-append}, lemmas.List.{length-take, take_rest}}
use Rattle.memchr.specs.Find.{IsFirstByte, is_byte}
use Rattle.lz_slot.proofs.Texts.Cuts.{cut_at, lacks_all, lacks_first}
use Rattle.lz_judge.specs.{declared.line.Line.{Line}, Records.{Record}, LinesRead.{line_read}, Limits.{most_bytes}}
use Rattle.lz_judge.{specs.TextsRead.{HasRead, IsFirstUnread, IsNext, MayCome, Reads, nothing, line, with_line}, proofs.Texts.LineWord.{none_of}}

lengths : (n : ℕ) (text rest : List ℕ) (h : Record) (so_far : HasRead n text rest h) → length text ≡ length so_far.front + length rest
lengths n text rest h so_far = ap length so_far.whole ∙ length-append so_far.front rest

reads_short : (n : ℕ) (text : List ℕ) (h : Record) → Reads n text h → n ≤ length text + 1
reads_short _ _ _ nothing = omega arith
reads_short _ _ _ (line n text h t l reads clear next) = omega (arith, reads_short n text h reads, length-append text (t ++ 10 ∷ []), length-append t (10 ∷ []))

-- the lines are no more than the bytes
pub few_lines : (n : ℕ) (text rest : List ℕ) (h : Record) → HasRead n text rest h → length text ≤ length rest + most_bytes → n ≤ most_bytes + 1
few_lines n text rest h so_far few = omega (arith, few, lengths n text rest h so_far, reads_short n so_far.front h so_far.reads)

pub nothing_read : (text : List ℕ) → HasRead 1 text text (record { marks = []; points = [] })
nothing_read text = record { front = []; whole = refl; reads = nothing }

-- a line that reads
pub line_read_on : (n : ℕ) (text rest : List ℕ) (h : Record) (end : ℕ) (l : Line) → HasRead n text rest h → IsFirstByte (is_byte 10) rest (Some end)
    → (length text - length rest + end < most_bytes) → line_read (take end rest) ≡ Some l → MayCome l h
    → HasRead (n + 1) text (take (length rest - (end + 1)) (drop (end + 1) rest)) (with_line l h)
line_read_on n text rest h end l so_far is few says comes =
    let t = take end rest in
    let next : IsNext (length so_far.front) h t l = (says, comes, omega (arith, few, length-take end rest, is.0.high, lengths n text rest h so_far)) in
    subst (λ (r : List ℕ). HasRead (n + 1) text r (with_line l h)) (sym (take_rest rest (end + 1))) (record {
      front = so_far.front ++ (t ++ 10 ∷ []);
      whole = so_far.whole ∙ ap (λ (r : List ℕ). so_far.front ++ r) (cut_at 10 rest end is ∙ sym (append_assoc t (10 ∷ []) (drop (end + 1) rest))) ∙ sym (append_assoc so_far.front (t ++ 10 ∷ []) (drop (end + 1) rest));
      reads = line n so_far.front h t l so_far.reads (none_of 10 (take end rest) (lacks_first 10 rest end is)) next;
    })

pub few_bytes : (text rest : List ℕ) (end : ℕ) → IsFirstByte (is_byte 10) rest (Some end) → length rest ≤ length text → length text - length rest + end < most_bytes
    → length text ≤ length (take (length rest - (end + 1)) (drop (end + 1) rest)) + most_bytes
few_bytes text rest end is within few =
    let whole : length rest ≡ length (take end rest) + length (10 ∷ drop (end + 1) rest) = ap length (cut_at 10 rest end is) ∙ length-append (take end rest) (10 ∷ drop (end + 1) rest) in
    let same : length (take (length rest - (end + 1)) (drop (end + 1) rest)) ≡ length (drop (end + 1) rest) = ap length (take_rest rest (end + 1)) in
    omega (arith, within, few, is.0.high, whole, same, length-take end rest)

-- a line that ends past the most bytes
pub line_too_far : (n : ℕ) (text rest : List ℕ) (h : Record) (end : ℕ) → HasRead n text rest h → IsFirstByte (is_byte 10) rest (Some end)
    → most_bytes ≤ length text - length rest + end → IsFirstUnread text n
line_too_far n text rest h end so_far is far = record {
  history = h;
  rest = rest;
  read = so_far;
  unread = inr (
    take end rest,
    drop (end + 1) rest,
    cut_at 10 rest end is,
    none_of 10 (take end rest) (lacks_first 10 rest end is),
    λ l next. omega (arith, far, next.2, length-take end rest, is.0.high, lengths n text rest h so_far),
  );
}

-- a line that says nothing, or what may not come
pub line_refused : (n : ℕ) (text rest : List ℕ) (h : Record) (end : ℕ) → HasRead n text rest h → IsFirstByte (is_byte 10) rest (Some end)
    → ((l : Line) → line_read (take end rest) ≡ Some l → ¬ MayCome l h) → IsFirstUnread text n
line_refused n text rest h end so_far is refuses = record {
  history = h;
  rest = rest;
  read = so_far;
  unread = inr (take end rest, drop (end + 1) rest, cut_at 10 rest end is, none_of 10 (take end rest) (lacks_first 10 rest end is), λ l next. refuses l next.0 next.1);
}

-- a rest that doesn't end
pub rest_unread : (n : ℕ) (text rest : List ℕ) (h : Record) → HasRead n text rest h → IsFirstByte (is_byte 10) rest None → 0 < length rest → IsFirstUnread text n
rest_unread n text rest h so_far none some = grind (arith, none_of, lacks_all)
