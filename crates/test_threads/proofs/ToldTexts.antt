-- A tape goes on: what has come of its text, and what was sent.
use Rattle.lz_serve.specs.declared.reader.Reader.TheVariants as reader
use Rattle.std.proofs.Common.{◌≡◌, ◌+◌, ℕ, Bool, true, false, List, [], ◌++◌, length, take, drop, Option, Some, None, is_none, refl, sym, ap, subst, ◌∙◌, arith}
use Rattle.std.proofs.{Common.{append_assoc}, Math.Seq.{take-add}, lemmas.List.{drop_all, take-append-drop, take_all, take_at, Elements.{All-nil}}}
use Rattle.lz_slot.specs.declared.format.Format.{Format}
use Rattle.lz_proto.{specs.{declared.{item.Item.{Item}, end.End.TheVariants.{Done}}, Lines.{Items}, Sessions.{Answered}}, proofs.Texts.{some_items}}
use Rattle.lz_board.specs.Seats.{BoardId}
use Rattle.lz_serve.specs.{declared.{language.Language.{Language, TheVariants.{Lines}}, reader.Reader.{Reader}}, Exchanges.{read_as}, LineSessions.{IsGranted, LinesCame}}
use Rattle.lz_serve.{specs.{Grants.{AreGranted, IsGrant}, Listings.{IsListing}, Streams.{MayTake, Traffic}}, proofs.LineSessions.{going_on, lines_are_sessions, unasked}}
use Rattle.test_threads.specs.Tapes.{IsTape}

-- nothing has come and nothing was sent
pub begun : (b : BoardId) (F : Format) (text : List ℕ) → IsTape b F text 0 false []
begun b F text =
    let some = some_items text in
    record {
      within = omega arith;
      whole = λ e. absurd (cc);
      told = record {
        items = [];
        more = some.0;
        its = some.1;
        grants = [];
        granted = (All-nil (IsGrant b F), tt);
        rest = [];
        ended = Done;
        connection = 0;
        answered = record { replies = []; served = refl; text = refl; ends = refl };
      };
    }

-- a text of which something is left hasn't ended
going : (ended : Bool) (text : List ℕ) (read : ℕ) → (ended ≡ true → read ≡ length text) → (drop read text ≡ [] → ⊥) → ended ≡ false
going false text read whole some = refl
going true text read whole some = absurd (some (drop_all read text (omega (arith, whole refl))))

abbrev traffic : List ℕ → Bool → List ℕ → Traffic
traffic received ended taken = record { spoken = Lines; received = received; ended = ended; taken = taken }

-- a piece of what is left has come into a buffer
pub read_on : (old : Traffic) (text sent piece after : List ℕ) (read count : ℕ) (ended : Bool) → traffic (take read text) ended sent ≡ old → (ended ≡ true → read ≡ length text) → (drop read text ≡ [] → ⊥)
    → piece ≡ take count (drop read text) → length piece ≡ count
    → (old.ended ≡ false) × (Some (traffic (take (read + count) text) ended sent) ≡ Some (record old { received = old.received ++ take count (piece ++ after) }))
read_on old text sent piece after read count ended is whole some cut long =
    let goes = going ended text read whole some in
    let came : take (read + count) text ≡ take read text ++ take count (piece ++ after) =
    take-add read count text ∙ ap (λ (x : List ℕ). take read text ++ x) (sym cut ∙ sym (take_at piece after count long)) in
    subst (λ (o : Traffic). (o.ended ≡ false) × (Some (traffic (take (read + count) text) ended sent) ≡ Some (record o { received = o.received ++ take count (piece ++ after) }))) is
    (goes, ap (λ (x : List ℕ). Some (traffic x ended sent)) came)

-- the items of what has come are the text's first ones
first_items : (ended : Bool) (text : List ℕ) (read : ℕ) (done later : List Item) (r : Option Reader) → (ended ≡ true → read ≡ length text) → is_none r ≡ ended → LinesCame (take read text) (done ++ later) r → (more : List Item) × Items text (done ++ more)
first_items ended text read done later None whole is came = (later, subst (λ (x : List ℕ). Items x (done ++ later)) (take_all read text (omega (arith, whole (sym is)))) came)
first_items ended text read done later (Some (reader.Lines None)) whole is came = (later, subst (λ (x : List ℕ). Items x (done ++ later)) (take-append-drop read text) (came (drop read text)))
first_items ended text read done later (Some (reader.Lines (Some left))) whole is came =
    let some = some_items (left ++ drop read text) in (
      later ++ some.0,
      subst (λ (x : List Item). Items text x) (append_assoc done later some.0)
          (subst (λ (x : List ℕ). Items x ((done ++ later) ++ some.0)) (take-append-drop read text) (came.1 (drop read text) some.0 some.1)),
    )
first_items ended text read done later (Some (reader.Frames place)) whole is came = absurd came
first_items ended text read done later (Some (reader.Unread naming)) whole is came = absurd came

sent_on : (sent text rest : List ℕ) (count : ℕ) → sent ++ (text ++ rest) ≡ (sent ++ take count text) ++ (drop count text ++ rest)
sent_on sent text rest count =
    ap (λ (x : List ℕ). sent ++ (x ++ rest)) (sym (take-append-drop count text)) ∙ ap (λ (x : List ℕ). sent ++ x) (append_assoc (take count text) (drop count text) rest)
    ∙ sym (append_assoc sent (take count text) (drop count text ++ rest))

-- a beginning was sent of what might be
pub told_on : (b : BoardId) (F : Format) (old : Traffic) (text sent piece new : List ℕ) (read count : ℕ) (ended : Bool) → traffic (take read text) ended sent ≡ old → IsTape b F text read ended sent
    → MayTake (AreGranted b F) (IsListing b) ⊥ (Some old) piece → new ≡ sent ++ take count piece → IsTape b F text read ended new
told_on b F old text sent piece new read count ended is tape may longer =
    let may : MayTake (AreGranted b F) (IsListing b) ⊥ (Some (traffic (take read text) ended sent)) piece = subst (λ (o : Traffic). MayTake (AreGranted b F) (IsListing b) ⊥ (Some o) piece) (sym is) may in
    by_talk may
  where
    by_talk : MayTake (AreGranted b F) (IsListing b) ⊥ (Some (traffic (take read text) ended sent)) piece → IsTape b F text read ended new
    by_talk (connection, t, (grants, granted, at, spoken, goes), asked, rest, is_rest) =
        let s = going_on connection grants (take read text) sent t (lines_are_sessions (IsListing b) connection grants (take read text) sent t (ap (λ (l : Language). read_as l (take read text)) spoken) at) (unasked t.stops asked) in
        let first = first_items ended text read s.done s.left t.reader tape.whole goes s.came in
        let split : sent ++ t.unsent ≡ new ++ (drop count piece ++ rest) =
        ap (λ (x : List ℕ). sent ++ x) is_rest ∙ sent_on sent piece rest count ∙ ap (λ (x : List ℕ). x ++ (drop count piece ++ rest)) (sym longer) in
        record {
          within = tape.within;
          whole = tape.whole;
          told = record {
            items = s.done;
            more = first.0;
            its = first.1;
            grants = grants;
            granted = granted;
            rest = drop count piece ++ rest;
            ended = t.ended;
            connection = connection;
            answered = subst (λ (x : List ℕ). Answered (IsGranted connection) [] s.done grants x t.ended) split s.answered;
          };
        }
