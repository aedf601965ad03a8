-- Worked rows of what a stream gives and takes, most of which must not hold.
use Rattle.lz_serve.specs.declared.stream.Received.TheVariants as received
use Rattle.lz_serve.specs.declared.stream.Taken.TheVariants as taken
use Rattle.lz_serve.specs.declared.reader.Reader.TheVariants as reader
use Rattle.std.proofs.Common.{◌≡◌, ℕ, true, false, List, [], ◌∷◌, ◌++◌, Option, Some, None, is_none, refl, sym, ap, ◌∙◌}
use mathlib.Core.Bool.{true≢false}
use Rattle.lz_proto.{specs.{declared.{item.Item.{Item}, end.End.{End}}, Lines.{nothing}, Pieces.{Reads}, Sessions.{Answered}}, proofs.Texts.{only, some_items}}
use Rattle.lz_serve.specs.{Grants.{Grant}, Listings.{Listing}, declared.{language.Language.{Language, TheVariants.{Lines}}, reader.Reader.{Reader}}}
use Rattle.lz_serve.specs.{Exchanges.{read_as}, LineSessions.{IsGranted, LinesCame, refused_text}, Streams.{IsFresh, MayTake, Receives, Takes, Traffic}}
use Rattle.lz_serve.proofs.LineSessions.{lines_are_sessions}

abbrev traffic : List ℕ → List ℕ → Traffic
traffic received taken = record { spoken = Lines; received = received; ended = false; taken = taken }

-- of three bytes two were taken
two_taken : Takes (Some (traffic [] (1 ∷ []))) (Some (traffic [] (1 ∷ 2 ∷ 3 ∷ []))) (taken.Count 2) (2 ∷ 3 ∷ 4 ∷ [])
two_taken = refl

-- What must not hold.

-- something comes after the end
after_the_end : (t : Traffic) (after : Option Traffic) (n : ℕ) (buffer : List ℕ) → t.ended ≡ true → Receives (Some t) after (received.Count n) buffer → ⊥
after_the_end t after n buffer over is = true≢false (sym over ∙ is.0)

-- a stream is fresh of which something has come
heard_and_fresh : IsFresh (Some (traffic (1 ∷ []) [])) → ⊥
heard_and_fresh fresh = let none = fresh.0 in cc

empty_front : (xs ys : List Item) → xs ++ ys ≡ [] → xs ≡ []
empty_front [] ys is = refl
empty_front (x ∷ xs) ys is = absurd (cc)

empty_back : (xs ys : List Item) → xs ++ ys ≡ [] → ys ≡ []
empty_back [] ys is = is
empty_back (x ∷ xs) ys is = absurd (cc)

-- no item comes of no text
no_items : (items : List Item) (kept : Option (List ℕ)) → Reads [] items kept → items ≡ []
no_items items None reads = only [] [] nothing items (reads [])
no_items items (Some left) reads =
    let more = some_items (left ++ []) in
    empty_front items more.0 (only [] [] nothing (items ++ more.0) (reads.1 [] more.0 more.1))

silent : (connection : ℕ) (grants : List Grant) (done : List Item) (written : List ℕ) (ended : End) → done ≡ [] → Answered (IsGranted connection) [] done grants written ended → written ≡ []
silent connection grants [] written ended none answered = answered.text
silent connection grants (item ∷ done) written ended none answered = absurd (cc)

unread : (items : List Item) (r : Option Reader) → is_none r ≡ false → LinesCame [] items r → items ≡ []
unread items (Some (reader.Lines kept)) goes came = no_items items kept came
unread items (Some (reader.Frames place)) goes came = absurd came
unread items (Some (reader.Unread naming)) goes came = absurd came
unread items None goes came = absurd (true≢false goes)

-- something is told to a client that has sent nothing
told_unasked : (P : List Grant → Type 0) (L : Listing → Type 0) (A : Type 0) (text : List ℕ) → MayTake P L A (Some (traffic [] [])) (1 ∷ text) → ⊥
told_unasked P L A text (connection, t, (grants, may, at, spoken, goes), asked, rest, begins) =
    let s = lines_are_sessions L connection grants [] [] t (ap (λ (l : Language). read_as l []) spoken) at in
    let none : s.done ++ (s.refused ++ s.left) ≡ [] = unread (s.done ++ (s.refused ++ s.left)) t.reader goes s.came in
    let said : s.said ≡ [] = silent connection grants s.done s.said s.ended (empty_front s.done (s.refused ++ s.left) none) s.answered in
    let refused : s.refused ≡ [] = empty_front s.refused s.left (empty_back s.done (s.refused ++ s.left) none) in
    let unsent : t.unsent ≡ [] = s.told ∙ ap (λ (w : List ℕ). w ++ refused_text s.refused) said ∙ ap (λ (l : List Item). refused_text l) refused in
    absurd (cc)
