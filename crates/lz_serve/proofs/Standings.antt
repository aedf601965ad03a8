-- Where a conversation stands after each step.
use Rattle.lz_proto.proofs.Texts as lines
use Rattle.lz_resp.proofs.Texts as frames
use Rattle.lz_serve.specs.declared.language.Language.TheVariants as language
use Rattle.lz_serve.specs.declared.reader.Reader.TheVariants as reader
use Rattle.lz_serve.specs.declared.turn.Turn.TheVariants as turn
use Rattle.std.proofs.Common.{◌≡◌, ℕ, zero, suc, Bool, List, [], ◌∷◌, ◌++◌, ◌+◌, ◌≤◌, take, drop, length, map, slice_set, Some, None, refl, sym, ap, subst, ◌∙◌}
use Rattle.std.proofs.{Common.{append_assoc, length-append, arith}, Math.Seq.{take-append-add}, lemmas.List.{append-nil, take-append-drop}}
use Rattle.lz_proto.specs.{declared.{request.Request.{Request}, reply.Reply.{Reply}, end.End.{End, TheVariants.{Done, Quit}}}, Pieces.{faults_of}}
use Rattle.lz_proto.specs.Lines.{Items as LineItems}
use Rattle.lz_resp.specs.{declared.{naming.Naming.{Naming}, query.Query.{Query}}, Keys.{at_first}, Pieces.{start}, Queries.{query_text}}
use Rattle.lz_serve.specs.declared.{language.Language.{Language}, line.Line.{Line}, reader.Reader.{Reader}, turn.{Turn.{Turn}, Wording.{Wording}}}
use Rattle.lz_serve.specs.Exchanges.{CameFrom, CameOfAll, EndsWith, Exchange, ReadsMore, ReadsOn, asks, end_by, ends, lists, of_frame, of_line, read_as, refused, requests_in}
use Rattle.lz_serve.specs.Exchanges.{says, taken, tells, turn_of, unread, worded}
use Rattle.lz_serve.specs.{Grants.{Grant}, Listings.{Listing, listing_end, listing_text}, Lines.{asked_by, awaited, replies_of}}
use Rattle.lz_serve.specs.Conversations.{AreFor, AreTold, Fed, Finished, IsAt, IsPageFor, IsTold, Noted, Paged, Talk, Told, more, nothing_yet, query_end}
use Rattle.lz_serve.specs.{Conversations.{replies_in, nothing as none_told, stopped}, Refusals.{TakenFrom, cut_turns, kept_waiting}}
use Rattle.lz_serve.proofs.{Cuts.{cut, taken_later}, ExchangesMore.{map_more, requests_more, taken_more}}
use Rattle.lz_serve.proofs.{Languages.{stays_read, untold}, LineReplies.{asked_more, asked_noted}}

-- a piece more has come of a text whose language is known
came_on : (spoken : Language) (text piece : List ℕ) (xs ys : List Exchange) (before after : Reader) → CameFrom spoken text xs (Some before) → ReadsOn before piece ys after → ((naming : Naming) → before ≡ reader.Unread naming → ⊥) → CameFrom spoken (text ++ piece) (xs ++ ys) (Some after)
came_on spoken text piece xs ys (reader.Lines kept) (reader.Lines left) (is, (items, reads, are)) (others, feeds, gives) known = (
  stays_read spoken language.Lines text piece (λ naming e. absurd cc) is,
  (
    items ++ others,
    lines.reads_more text piece items others kept left reads feeds,
    ap (λ (l : List Exchange). l ++ ys) are ∙ ap (λ (l : List Exchange). map of_line items ++ l) gives ∙ sym (map_more of_line items others),
  ),
)
came_on spoken text piece xs ys (reader.Frames kept) (reader.Frames left) (naming, is, (items, reads, are)) (others, feeds, gives) known = (
  naming,
  stays_read spoken (language.Frames naming) text piece (λ n e. absurd cc) is,
  (
    items ++ others,
    frames.reads_more (at_first naming) text piece items others kept left reads feeds,
    ap (λ (l : List Exchange). l ++ ys) are ∙ ap (λ (l : List Exchange). map of_frame items ++ l) gives ∙ sym (map_more of_frame items others),
  ),
)
came_on spoken text piece xs ys (reader.Lines kept) (reader.Frames left) came reads known = absurd reads
came_on spoken text piece xs ys (reader.Lines kept) (reader.Unread left) came reads known = absurd reads
came_on spoken text piece xs ys (reader.Frames kept) (reader.Lines left) came reads known = absurd reads
came_on spoken text piece xs ys (reader.Frames kept) (reader.Unread left) came reads known = absurd reads
came_on spoken text piece xs ys (reader.Unread naming) after came reads known = absurd (known naming refl)

-- what came of a text that is read as lines, or as frames, came of it in either language
came_so_read : (naming : Naming) (text : List ℕ) (xs : List Exchange) (l : Language) (after : Reader) → ((n : Naming) → l ≡ language.Either n → ⊥) → read_as (language.Either naming) text ≡ l → CameFrom l text xs (Some after) → CameFrom (language.Either naming) text xs (Some after)
came_so_read naming text xs language.Lines (reader.Lines kept) known is came = (is, came.1)
came_so_read naming text xs language.Lines (reader.Frames place) known is came = absurd (let apart = came.1 in cc)
came_so_read naming text xs language.Lines (reader.Unread n) known is came = absurd (let apart = came.0 in cc)
came_so_read naming text xs (language.Frames n) (reader.Lines kept) known is came = absurd (let apart = came.0 in cc)
came_so_read naming text xs (language.Frames n) (reader.Frames place) known is came = (came.0, is ∙ came.1, came.2)
came_so_read naming text xs (language.Frames n) (reader.Unread m) known is came = absurd (let apart = came.0 in cc)
came_so_read naming text xs (language.Either n) after known is came = absurd (known n refl)

nothing_of_lines : CameFrom language.Lines [] [] (Some (reader.Lines (Some [])))
nothing_of_lines = (refl, ([], (refl, λ rest items its. its), refl))

nothing_of_frames : (naming : Naming) → CameFrom (language.Frames naming) [] [] (Some (reader.Frames (Some (start naming))))
nothing_of_frames naming = (naming, refl, ([], (frames.step_empty (at_first naming) [] refl, λ rest items its. its), refl))

-- the first piece has come, in the language that it tells
module _ (naming : Naming) (ys : List Exchange) (after : Reader) where
  came_first : (piece : List ℕ) (l : Language) → read_as (language.Either naming) piece ≡ l → ReadsOn (unread l) piece ys after → CameFrom (language.Either naming) piece ys (Some after)
  came_first piece language.Lines is reads =
      came_so_read naming piece ys language.Lines after (λ n e. absurd cc) is (came_on language.Lines [] piece [] ys (reader.Lines (Some [])) after nothing_of_lines reads (λ n e. absurd cc))
  came_first piece (language.Frames n) is reads =
      came_so_read naming piece ys (language.Frames n) after (λ m e. absurd cc) is (came_on (language.Frames n) [] piece [] ys (reader.Frames (Some (start n))) after (nothing_of_frames n) reads (λ m e. absurd cc))
  came_first piece (language.Either n) is (same, none) =
      let (nothing, its) = untold naming n piece is in
      subst (λ (r : Reader). CameFrom (language.Either naming) piece ys (Some r)) (sym same) (ap (λ (m : Naming). language.Either m) its, nothing, none)

-- a piece more has come
came_more : (spoken : Language) (text piece : List ℕ) (xs ys : List Exchange) (before after : Reader) → CameFrom spoken text xs (Some before) → ReadsMore before piece ys after → CameFrom spoken (text ++ piece) (xs ++ ys) (Some after)
came_more spoken text piece xs ys (reader.Lines kept) after came (begun, begins, reads) =
    came_on spoken text piece xs ys (reader.Lines kept) after came (subst (λ (r : Reader). ReadsOn r piece ys after) begins reads) (λ n e. absurd cc)
came_more spoken text piece xs ys (reader.Frames kept) after came (begun, begins, reads) =
    came_on spoken text piece xs ys (reader.Frames kept) after came (subst (λ (r : Reader). ReadsOn r piece ys after) begins reads) (λ n e. absurd cc)
came_more spoken text piece xs ys (reader.Unread naming) after (is, nothing, none) (begun, begins, reads) =
    let first = came_first naming ys after piece (read_as (language.Either naming) piece) refl (subst (λ (r : Reader). ReadsOn r piece ys after) begins reads) in
    let texts : piece ≡ text ++ piece = ap (λ (t : List ℕ). t ++ piece) (sym nothing) in
    let all : ys ≡ xs ++ ys = ap (λ (l : List Exchange). l ++ ys) (sym none) in
    subst (λ (l : Language). CameFrom l (text ++ piece) (xs ++ ys) (Some after)) (sym is)
    (subst (λ (t : List ℕ). CameFrom (language.Either naming) t (xs ++ ys) (Some after)) texts (subst (λ (l : List Exchange). CameFrom (language.Either naming) piece l (Some after)) all first))

-- the text has ended
came_whole : (spoken : Language) (text : List ℕ) (xs ys : List Exchange) (before : Reader) → CameFrom spoken text xs (Some before) → EndsWith before ys → CameFrom spoken text (xs ++ ys) None
came_whole spoken text xs ys (reader.Lines kept) (is, (items, reads, are)) (fault, at_end, gives) =
    let its : LineItems text (items ++ faults_of fault) = subst (λ (t : List ℕ). LineItems t (items ++ faults_of fault)) (append-nil text) (lines.items_end text items kept fault reads at_end) in
    subst (λ (l : Language). CameOfAll l text (xs ++ ys)) (sym is)
    (items ++ faults_of fault, its, ap (λ (l : List Exchange). l ++ ys) are ∙ ap (λ (l : List Exchange). map of_line items ++ l) gives ∙ sym (map_more of_line items (faults_of fault)))
came_whole spoken text xs ys (reader.Frames kept) (naming, is, (items, reads, are)) none =
    subst (λ (l : Language). CameOfAll l text (xs ++ ys)) (sym is)
    (items, frames.items_end (at_first naming) text items kept reads, ap (λ (l : List Exchange). xs ++ l) none ∙ append-nil xs ∙ are)
came_whole spoken text xs ys (reader.Unread naming) (is, nothing, are) none =
    subst (λ (l : Language). CameOfAll (read_as l text) text (xs ++ ys)) (sym is)
    (subst (λ (t : List ℕ). CameOfAll (read_as (language.Either naming) t) t (xs ++ ys)) (sym nothing) (refl, ap (λ (l : List Exchange). l ++ ys) are ∙ none))

-- the same of what was taken of it
taken_is : (s : Bool) (xs kept cut ys : List Exchange) → xs ≡ kept ++ taken s cut → xs ++ taken s ys ≡ kept ++ taken s (cut ++ ys)
taken_is s xs kept cut ys are = ap (λ (l : List Exchange). l ++ taken s ys) are ∙ append_assoc kept (taken s cut) (taken s ys) ∙ ap (λ (l : List Exchange). kept ++ l) (sym (taken_more s cut ys))

taken_on : (s : Bool) (spoken : Language) (text piece : List ℕ) (xs ys : List Exchange) (before after : Reader) → TakenFrom s spoken text xs (Some before) → ReadsMore before piece ys after → TakenFrom s spoken (text ++ piece) (xs ++ taken s ys) (Some after)
taken_on s spoken text piece xs ys before after (kept, cut, came, are) reads =
    let came_too : CameFrom spoken (text ++ piece) ((kept ++ cut) ++ ys) (Some after) = came_more spoken text piece (kept ++ cut) ys before after came reads in
    (kept, cut ++ ys, subst (λ (l : List Exchange). CameFrom spoken (text ++ piece) l (Some after)) (append_assoc kept cut ys) came_too, taken_is s xs kept cut ys are)

taken_whole : (s : Bool) (spoken : Language) (text : List ℕ) (xs ys : List Exchange) (before : Reader) → TakenFrom s spoken text xs (Some before) → EndsWith before ys → TakenFrom s spoken text (xs ++ taken s ys) None
taken_whole s spoken text xs ys before (kept, cut, came, are) at_end =
    let came_too : CameFrom spoken text ((kept ++ cut) ++ ys) None = came_whole spoken text (kept ++ cut) ys before came at_end in
    (kept, cut ++ ys, subst (λ (l : List Exchange). CameFrom spoken text l None) (append_assoc kept cut ys) came_too, taken_is s xs kept cut ys are)

-- what two lists have in common at the front
pub record Split (xs ys us ws : List Request) : Type 0 where
  pub front : xs ≡ take (length xs) us
  pub rest : ys ≡ drop (length xs) us ++ ws

split : (xs ys us ws : List Request) → xs ++ ys ≡ us ++ ws → length xs ≤ length us → Split xs ys us ws
split [] ys us ws same few = record { front = refl; rest = same }
split (x ∷ xs) ys [] ws same few = absurd (omega (arith, few))
split (x ∷ xs) ys (u ∷ us) ws same few =
    let first : x ≡ u = cc in
    let others : xs ++ ys ≡ us ++ ws = cc in
    let s = split xs ys us ws others (omega (arith, few)) in
    record { front = ap (λ (r : Request). r ∷ xs) first ∙ ap (λ (l : List Request). u ∷ l) s.front; rest = s.rest }

asked_first : (count : ℕ) (under : List Line) → take count (asked_by under) ≡ asked_by (take count under)
asked_first zero under = refl
asked_first (suc count) [] = refl
asked_first (suc count) (line ∷ under) = ap (λ (l : List Request). line.request ∷ l) (asked_first count under)

asked_rest : (count : ℕ) (under : List Line) → drop count (asked_by under) ≡ asked_by (drop count under)
asked_rest zero under = refl
asked_rest (suc count) [] = refl
asked_rest (suc count) (line ∷ under) = asked_rest count under

asked_length : (under : List Line) → length (asked_by under) ≡ length under
asked_length [] = refl
asked_length (line ∷ under) = ap (λ (n : ℕ). suc n) (asked_length under)

-- the lines under way, and so many requests that wait
begun_first : (under : List Line) (waiting : List Request) (count : ℕ) → take (length under + count) (asked_by under ++ waiting) ≡ asked_by under ++ take count waiting
begun_first under waiting count = ap (λ (n : ℕ). take (n + count) (asked_by under ++ waiting)) (sym (asked_length under)) ∙ take-append-add (asked_by under) waiting count

for_many : (connection told : ℕ) (requests : List Request) (grants : List Grant) → AreFor connection told requests grants → length grants ≡ length requests
for_many connection told [] [] are = refl
for_many connection told (request ∷ requests) (g ∷ grants) are = ap (λ (n : ℕ). suc n) (for_many connection (suc told) requests grants are.1)
for_many connection told [] (g ∷ grants) are = absurd are
for_many connection told (request ∷ requests) [] are = absurd are

pub begins : (L : Listing → Type 0) (connection : ℕ) (spoken : Language) → IsAt L connection [] [] [] (nothing_yet spoken)
begins L connection language.Lines = record { done = []; left = []; came = ([], [], nothing_of_lines, refl); turns = refl; asked = refl; told = none_told connection; counted = refl }
begins L connection (language.Frames naming) = record { done = []; left = []; came = ([], [], nothing_of_frames naming, refl); turns = refl; asked = refl; told = none_told connection; counted = refl }
begins L connection (language.Either naming) = record { done = []; left = []; came = ([], [], (refl, refl, refl), refl); turns = refl; asked = refl; told = none_told connection; counted = refl }

module _ (L : Listing → Type 0) (connection : ℕ) (grants : List Grant) (text sent : List ℕ) (t : Talk) (at : IsAt L connection grants text sent t) where
  pub fed : (piece : List ℕ) (new : Talk) → Fed piece t new → IsAt L connection grants (text ++ piece) sent new
  fed piece new (before, after, exchanges, reads, gives, is) =
      let its = taken t.stops exchanges in
      let came : TakenFrom t.stops t.spoken (text ++ piece) ((at.done ++ at.left) ++ its) (Some after) =
      taken_on t.stops t.spoken text piece (at.done ++ at.left) exchanges before after (subst (TakenFrom t.stops t.spoken text (at.done ++ at.left)) reads at.came) gives in
      subst (IsAt L connection grants (text ++ piece) sent) (sym is)
      (record {
        done = at.done;
        left = at.left ++ its;
        came = subst (λ (l : List Exchange). TakenFrom t.stops t.spoken (text ++ piece) l (Some after)) (append_assoc at.done at.left its) came;
        turns = map_more turn_of at.left its ∙ ap (λ (l : List Turn). l ++ map turn_of its) at.turns;
        asked = requests_more at.left its ∙ ap (λ (l : List Request). l ++ requests_in its) at.asked ∙ append_assoc (asked_by t.under) t.waiting (requests_in its);
        told = at.told;
        counted = at.counted;
      })

  pub finished : (new : Talk) → Finished t new → IsAt L connection grants text sent new
  finished new (before, exchanges, reads, at_end, is) =
      let its = taken t.stops exchanges in
      let came : TakenFrom t.stops t.spoken text ((at.done ++ at.left) ++ its) None =
      taken_whole t.stops t.spoken text (at.done ++ at.left) exchanges before (subst (TakenFrom t.stops t.spoken text (at.done ++ at.left)) reads at.came) at_end in
      subst (IsAt L connection grants text sent) (sym is)
      (record {
        done = at.done;
        left = at.left ++ its;
        came = subst (λ (l : List Exchange). TakenFrom t.stops t.spoken text l None) (append_assoc at.done at.left its) came;
        turns = map_more turn_of at.left its ∙ ap (λ (l : List Turn). l ++ map turn_of its) at.turns;
        asked = requests_more at.left its ∙ ap (λ (l : List Request). l ++ requests_in its) at.asked ∙ append_assoc (asked_by t.under) t.waiting (requests_in its);
        told = at.told;
        counted = at.counted;
      })

  -- its service stops
  pub refusing : (new : Talk) → new ≡ stopped t → IsAt L connection grants text sent new
  refusing new is =
      let begun = length t.under in
      let c = cut begun at.left in
      let waits = kept_waiting begun t.turns in
      let same : kept_waiting begun (map turn_of at.left) ≡ waits = ap (λ (l : List Turn). kept_waiting begun l) at.turns in
      subst (IsAt L connection grants text sent) (sym is)
      (record {
        done = at.done;
        left = c.front ++ map refused c.rest;
        came = taken_later t.stops t.spoken text at.done c.front c.rest t.reader (subst (λ (l : List Exchange). TakenFrom t.stops t.spoken text (at.done ++ l) t.reader) c.whole at.came);
        turns = c.turns ∙ ap (λ (l : List Turn). cut_turns begun l) at.turns;
        asked = c.asked ∙ ap (λ (n : ℕ). take (begun + n) (requests_in at.left)) same ∙ ap (λ (l : List Request). take (begun + waits) l) at.asked ∙ begun_first t.under t.waiting waits;
        told = at.told;
        counted = at.counted;
      })

  -- the next request is handed out
  pub handed_out : (request : Request) (new : Talk) → t.waiting ≡ request ∷ drop 1 t.waiting → new ≡ record t { waiting = drop 1 t.waiting; under = t.under ++ awaited request ∷ [] } → IsAt L connection grants text sent new
  handed_out request new next is = grind (arith, append_assoc, asked_more)

  -- a reply is noted
  pub noted : (number : ℕ) (request : Request) (reply : Reply) (new : Talk) → Noted number request reply t new → IsAt L connection grants text sent new
  noted number request reply new is = grind (arith, slice_set, asked_noted)

  pub sent_more : (count : ℕ) (new : Talk) → new ≡ record t { unsent = drop count t.unsent } → IsAt L connection grants text (sent ++ take count t.unsent) new
  sent_more count new is = grind (arith, take-append-drop, append_assoc)

  -- an exchange more is told
  module _ (goes : t.ended ≡ Done) (e : Exchange) (left : List Exchange) (first : at.left ≡ e ∷ left) where
    told_more : (its : List Grant) (said : List ℕ) (ended : End) → IsTold L connection grants e its said ended → AreTold L connection (at.done ++ e ∷ []) (grants ++ its) (sent ++ (t.unsent ++ said)) ended
    told_more its said ended is =
        let before : AreTold L connection at.done grants (sent ++ t.unsent) Done = subst (AreTold L connection at.done grants (sent ++ t.unsent)) goes at.told in
        subst (λ (w : List ℕ). AreTold L connection (at.done ++ e ∷ []) (grants ++ its) w ended) (append_assoc sent t.unsent said) (more connection at.done grants (sent ++ t.unsent) e its said ended before is)

    came_so : TakenFrom t.stops t.spoken text ((at.done ++ e ∷ []) ++ left) t.reader
    came_so = subst (λ (l : List Exchange). TakenFrom t.stops t.spoken text l t.reader) (ap (λ (l : List Exchange). at.done ++ l) first ∙ sym (append_assoc at.done (e ∷ []) left)) at.came

    turns_are : turn_of e ∷ map turn_of left ≡ t.turns
    turns_are = ap (λ (l : List Exchange). map turn_of l) (sym first) ∙ at.turns

    left_turns : map turn_of left ≡ drop 1 t.turns
    left_turns = ap (λ (l : List Turn). drop 1 l) turns_are

    requests_are : requests_in (e ∷ left) ≡ asked_by t.under ++ t.waiting
    requests_are = ap (λ (l : List Exchange). requests_in l) (sym first) ∙ at.asked

  -- one that asks nothing
  text_told : (goes : t.ended ≡ Done) (e : Exchange) (left : List Exchange) (first : at.left ≡ e ∷ left) (said : List ℕ) (ended : End) → IsTold L connection grants e [] said ended → requests_in (e ∷ left) ≡ requests_in left
      → IsAt L connection grants text sent (record t { turns = drop 1 t.turns; unsent = t.unsent ++ said; ended = ended })
  text_told goes e left first said ended is asks_none =
      record {
        done = at.done ++ e ∷ [];
        left = left;
        came = came_so goes e left first;
        turns = left_turns goes e left first;
        asked = sym asks_none ∙ requests_are goes e left first;
        told = subst (λ (gs : List Grant). AreTold L connection (at.done ++ e ∷ []) gs (sent ++ (t.unsent ++ said)) ended) (append-nil grants) (told_more goes e left first [] said ended is);
        counted = at.counted;
      }

  -- one whose requests have their replies
  replies_told : (goes : t.ended ≡ Done) (wording : Wording) (requests : List Request) (left : List Exchange) (first : at.left ≡ asks wording requests ∷ left) (count : ℕ) (its : List Grant) (replies : List Reply)
      → length requests ≡ count → count ≤ length t.under → AreFor connection t.told (asked_by (take count t.under)) its → replies_in its ≡ replies
      → IsAt L connection (grants ++ its) text sent (record t { turns = drop 1 t.turns; told = t.told + count; under = drop count t.under; unsent = t.unsent ++ worded wording replies; ended = end_by replies })
  replies_told goes wording requests left first count its replies long few for are =
      let e = asks wording requests in
      let many : length requests ≤ length (asked_by t.under) = let n = asked_length t.under in omega (arith, long, few, n) in
      let s = split requests (requests_in left) (asked_by t.under) t.waiting (requests_are goes e left first) many in
      let its_are : requests ≡ asked_by (take count t.under) = s.front ∙ ap (λ (n : ℕ). take n (asked_by t.under)) long ∙ asked_first count t.under in
      let so : AreFor connection t.told requests its = subst (λ (rs : List Request). AreFor connection t.told rs its) (sym its_are) for in
      let n : length its ≡ count = for_many connection t.told requests its so ∙ long in
      let is : IsTold L connection grants e its (worded wording replies) (end_by replies) = (subst (λ (n : ℕ). AreFor connection n requests its) (sym at.counted) so, ap (λ (r : List Reply). worded wording r) (sym are), ap (λ (r : List Reply). end_by r) (sym are)) in
      record {
        done = at.done ++ e ∷ [];
        left = left;
        came = came_so goes e left first;
        turns = left_turns goes e left first;
        asked = s.rest ∙ ap (λ (k : ℕ). drop k (asked_by t.under) ++ t.waiting) long ∙ ap (λ (l : List Request). l ++ t.waiting) (asked_rest count t.under);
        told = told_more goes e left first its (worded wording replies) (end_by replies) is;
        counted = let l = length-append grants its in let c = at.counted in omega (arith, l, c, n);
      }

-- the grants of the requests whose replies a turn tells
abbrev pub HasGrants : ℕ → Talk → Turn → List Grant → Type 0
HasGrants connection t (turn.Asks wording count) its = AreFor connection t.told (asked_by (take count t.under)) its × (replies_of (take count t.under) ≡ Some (replies_in its))
HasGrants connection t other its = its ≡ []

some_same : {A : Type 0} (x y : A) → Some x ≡ Some y → x ≡ y
some_same x y is = cc

abbrev first_of : Turn → List Turn → Turn
first_of other [] = other
first_of other (turn ∷ turns) = turn

-- the first exchange is told
module _ (L : Listing → Type 0) (connection : ℕ) (grants : List Grant) (text sent : List ℕ) (t new : Talk) (at : IsAt L connection grants text sent t) (its : List Grant) (goes : t.ended ≡ Done) where
  first_is : (e : Exchange) (left : List Exchange) (first : Turn) → at.left ≡ e ∷ left → t.turns ≡ first ∷ drop 1 t.turns → turn_of e ≡ first
  first_is e left first is next = ap (λ (l : List Turn). first_of first l) (ap (λ (l : List Exchange). map turn_of l) (sym is) ∙ at.turns ∙ next)

  no_grants : its ≡ [] → IsAt L connection grants text sent new → IsAt L connection (grants ++ its) text sent new
  no_grants none so = subst (λ (gs : List Grant). IsAt L connection gs text sent new) (sym (append-nil grants) ∙ ap (λ (gs : List Grant). grants ++ gs) (sym none)) so

  by_left : (left : List Exchange) → at.left ≡ left → (first : Turn) → t.turns ≡ first ∷ drop 1 t.turns → HasGrants connection t first its → Told first t new → IsAt L connection (grants ++ its) text sent new
  by_left [] is first next has step = absurd (let none : [] ≡ first ∷ drop 1 t.turns = ap (λ (l : List Exchange). map turn_of l) (sym is) ∙ at.turns ∙ next in cc)
  by_left (asks wording requests ∷ left) is (turn.Asks w n) next (for, replies_are) (replies, few, of, new_is) =
      let same : turn.Asks wording (length requests) ≡ turn.Asks w n = first_is (asks wording requests) left (turn.Asks w n) is next in
      let wording_is : wording ≡ w = cc in
      let long : length requests ≡ n = cc in
      let are : replies_in its ≡ replies = some_same (replies_in its) replies (sym replies_are ∙ of) in
      subst (IsAt L connection (grants ++ its) text sent)
      (ap (λ (x : Wording). record t { turns = drop 1 t.turns; told = t.told + n; under = drop n t.under; unsent = t.unsent ++ worded x replies; ended = end_by replies }) wording_is ∙ sym new_is)
      (replies_told L connection grants text sent t at goes wording requests left is n its replies long few for are)
  by_left (says said ∷ left) is (turn.Says x) next has step =
      let same : turn.Says said ≡ turn.Says x = first_is (says said) left (turn.Says x) is next in
      let said_is : said ≡ x = cc in
      no_grants has
      (subst (IsAt L connection grants text sent) (ap (λ (y : List ℕ). record t { turns = drop 1 t.turns; unsent = t.unsent ++ y }) said_is ∙ sym step)
      (subst (λ (e : End). IsAt L connection grants text sent (record t { turns = drop 1 t.turns; unsent = t.unsent ++ said; ended = e })) (sym goes)
      (text_told L connection grants text sent t at goes (says said) left is said Done (refl, refl, refl) refl)))
  by_left (tells query ∷ left) is (turn.Tells q) next has (f, told_so) =
      let same : turn.Tells query ≡ turn.Tells q = first_is (tells query) left (turn.Tells q) is next in
      let query_is : query ≡ q = cc in
      no_grants has
      (subst (IsAt L connection grants text sent) (ap (λ (y : Query). record t { turns = drop 1 t.turns; unsent = t.unsent ++ query_text y f; ended = query_end y f }) query_is ∙ sym told_so)
      (text_told L connection grants text sent t at goes (tells query) left is (query_text query f) (query_end query f) (refl, (f, refl, refl)) refl))
  by_left (ends said ∷ left) is (turn.Ends x) next has step =
      let same : turn.Ends said ≡ turn.Ends x = first_is (ends said) left (turn.Ends x) is next in
      let said_is : said ≡ x = cc in
      no_grants has
      (subst (IsAt L connection grants text sent) (ap (λ (y : List ℕ). record t { turns = drop 1 t.turns; unsent = t.unsent ++ y; ended = Quit }) said_is ∙ sym step)
      (text_told L connection grants text sent t at goes (ends said) left is said Quit (refl, refl, refl) refl))
  by_left (lists scan ∷ left) is (turn.Asks w n) next has step = absurd (let same = first_is (lists scan) left (turn.Asks w n) is next in cc)
  by_left (lists scan ∷ left) is (turn.Says x) next has step = absurd (let same = first_is (lists scan) left (turn.Says x) is next in cc)
  by_left (lists scan ∷ left) is (turn.Tells q) next has step = absurd (let same = first_is (lists scan) left (turn.Tells q) is next in cc)
  by_left (lists scan ∷ left) is (turn.Ends x) next has step = absurd (let same = first_is (lists scan) left (turn.Ends x) is next in cc)
  by_left (asks wording requests ∷ left) is (turn.Lists scan) next has step = absurd step
  by_left (says said ∷ left) is (turn.Lists scan) next has step = absurd step
  by_left (lists other ∷ left) is (turn.Lists scan) next has step = absurd step
  by_left (tells query ∷ left) is (turn.Lists scan) next has step = absurd step
  by_left (ends said ∷ left) is (turn.Lists scan) next has step = absurd step
  by_left (asks wording requests ∷ left) is (turn.Says x) next has step = absurd (let same = first_is (asks wording requests) left (turn.Says x) is next in cc)
  by_left (asks wording requests ∷ left) is (turn.Ends x) next has step = absurd (let same = first_is (asks wording requests) left (turn.Ends x) is next in cc)
  by_left (says said ∷ left) is (turn.Asks w n) next has step = absurd (let same = first_is (says said) left (turn.Asks w n) is next in cc)
  by_left (says said ∷ left) is (turn.Ends x) next has step = absurd (let same = first_is (says said) left (turn.Ends x) is next in cc)
  by_left (asks wording requests ∷ left) is (turn.Tells q) next has step = absurd (let same = first_is (asks wording requests) left (turn.Tells q) is next in cc)
  by_left (says said ∷ left) is (turn.Tells q) next has step = absurd (let same = first_is (says said) left (turn.Tells q) is next in cc)
  by_left (tells query ∷ left) is (turn.Asks w n) next has step = absurd (let same = first_is (tells query) left (turn.Asks w n) is next in cc)
  by_left (tells query ∷ left) is (turn.Says x) next has step = absurd (let same = first_is (tells query) left (turn.Says x) is next in cc)
  by_left (tells query ∷ left) is (turn.Ends x) next has step = absurd (let same = first_is (tells query) left (turn.Ends x) is next in cc)
  by_left (ends said ∷ left) is (turn.Tells q) next has step = absurd (let same = first_is (ends said) left (turn.Tells q) is next in cc)
  by_left (ends said ∷ left) is (turn.Asks w n) next has step = absurd (let same = first_is (ends said) left (turn.Asks w n) is next in cc)
  by_left (ends said ∷ left) is (turn.Says x) next has step = absurd (let same = first_is (ends said) left (turn.Says x) is next in cc)

  pub told : (first : Turn) → t.turns ≡ first ∷ drop 1 t.turns → HasGrants connection t first its → Told first t new → IsAt L connection (grants ++ its) text sent new
  told first next has step = by_left at.left refl first next has step

  -- the first exchange is told, which asks for a page
  page_left : (left : List Exchange) → at.left ≡ left → (l : Listing) → t.turns ≡ turn.Lists l.scan ∷ drop 1 t.turns → IsPageFor L l.scan grants l → Paged l t new → IsAt L connection grants text sent new
  page_left [] is l next for step = absurd (let none : [] ≡ turn.Lists l.scan ∷ drop 1 t.turns = ap (λ (x : List Exchange). map turn_of x) (sym is) ∙ at.turns ∙ next in cc)
  page_left (asks wording requests ∷ left) is l next for step = absurd (let same = first_is (asks wording requests) left (turn.Lists l.scan) is next in cc)
  page_left (says said ∷ left) is l next for step = absurd (let same = first_is (says said) left (turn.Lists l.scan) is next in cc)
  page_left (tells query ∷ left) is l next for step = absurd (let same = first_is (tells query) left (turn.Lists l.scan) is next in cc)
  page_left (ends said ∷ left) is l next for step = absurd (let same = first_is (ends said) left (turn.Lists l.scan) is next in cc)
  page_left (lists scan ∷ left) is l next for step =
      let same : turn.Lists scan ≡ turn.Lists l.scan = first_is (lists scan) left (turn.Lists l.scan) is next in
      let scan_is : l.scan ≡ scan = cc in
      subst (IsAt L connection grants text sent) (sym step)
      (text_told L connection grants text sent t at goes (lists scan) left is (listing_text l) (listing_end l) (refl, (l, record { so = for.so; its = scan_is; late = for.late }, refl, refl)) refl)

  pub page_told : (l : Listing) → t.turns ≡ turn.Lists l.scan ∷ drop 1 t.turns → IsPageFor L l.scan grants l → Paged l t new → IsAt L connection grants text sent new
  page_told l next for step = page_left at.left refl l next for step
