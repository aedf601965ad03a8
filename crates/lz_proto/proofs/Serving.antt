-- What a session has answered.
use Rattle.lz_proto.specs.declared.end.End.TheVariants as ends
use Rattle.std.proofs.Common.{◌≡◌, ◌≢◌, ℕ, inl, inr, ◌+◌, ◌<◌, List, [], ◌∷◌, ◌++◌, take, drop, get_or, length, Option, Some, None, Ok, Err, refl, sym, ap}
use Rattle.std.proofs.{Common.{subst, ◌∙◌, append_assoc}, lemmas.List.{append-nil, take_more, take-append-drop}, KnownBytes.{Appends-trans}}
use Rattle.std.specs.Io.KnownBytes.{Consumes, IsAtEnd}
use Rattle.lz_proto.specs.declared.{request.Request.{Request, TheVariants.{Quit}}, fault.{Bad.{Bad}, SessionFault.{SessionFault}}}
use Rattle.lz_proto.specs.declared.{fault.SessionFault.TheVariants.{Read, Write, Memory}, item.Item.{Item, TheVariants.{Asks, Faulty}}, reply.Reply.{Reply}}
use Rattle.lz_proto.specs.{declared.{reply.Reply.TheVariants.{Halted}, end.End.{End}}, Lines.{Items}, Pieces.{Reads, Feeds, Ends, faults_of}}
use Rattle.lz_proto.specs.Sessions.{Serves, session_text, end_of, reply_text, bad_text, Answered, CutOff, Whole, Broken, IsInput, Writes}
use Rattle.lz_proto.{specs.Steps.{SendTells, AnswersTell, PieceTells, end_after}, proofs.Texts.{items_end, reads_more, some_items}}

-- what goes on after items that didn't end the session
pub goes_more : {S : Type 0} (answers : S → Request → Reply → S → Type 0) (old mid new : S) (a b : List Item) (ra rb : List Reply)
    → Serves answers old a ra mid → end_of a ra ≡ ends.Done → Serves answers mid b rb new
    → Serves answers old (a ++ b) (ra ++ rb) new × (session_text (a ++ b) (ra ++ rb) ≡ session_text a ra ++ session_text b rb) × (end_of (a ++ b) (ra ++ rb) ≡ end_of b rb)
goes_more answers old mid new [] b [] rb s e t = (subst (λ x. Serves answers x b rb new) s t, refl, refl)
goes_more answers old mid new [] b (r ∷ ra) rb s e t = absurd s
goes_more answers old mid new (Faulty bad ∷ a) b ra rb s e t =
    let rest = goes_more answers old mid new a b ra rb s e t in
    (rest.0, ap (λ (t : List ℕ). bad_text bad ++ t) rest.1 ∙ sym (append_assoc (bad_text bad) (session_text a ra) (session_text b rb)), rest.2)
goes_more answers old mid new (Asks Quit ∷ a) b ra rb s e t = absurd (cc)
goes_more answers old mid new (Asks request ∷ a) b [] rb s e t = absurd s
goes_more answers old mid new (Asks request ∷ a) b (Halted ∷ ra) rb s e t = absurd (cc)
goes_more answers old mid new (Asks request ∷ a) b (reply ∷ ra) rb s e t =
    let rest = goes_more answers s.0 mid new a b ra rb s.2 e t in
    ((s.0, s.1, rest.0), ap (λ (t : List ℕ). reply_text reply ++ t) rest.1 ∙ sym (append_assoc (reply_text reply) (session_text a ra) (session_text b rb)), rest.2)

pub answered_more : {S : Type 0} (answers : S → Request → Reply → S → Type 0) (old mid new : S) (a b : List Item) (first second : List ℕ) (ended : End)
    → Answered answers old a mid first ends.Done → Answered answers mid b new second ended → Answered answers old (a ++ b) new (first ++ second) ended
answered_more answers old mid new a b first second ended p q =
    let both = goes_more answers old mid new a b p.replies q.replies p.served p.ends q.served in
    record {
      replies = p.replies ++ q.replies;
      served = both.0;
      text = ap (λ (t : List ℕ). t ++ second) p.text ∙ ap (λ (t : List ℕ). session_text a p.replies ++ t) q.text ∙ sym both.1;
      ends = both.2 ∙ q.ends;
    }

pub cut_more : {S : Type 0} (answers : S → Request → Reply → S → Type 0) (old mid new : S) (a b : List Item) (first second : List ℕ)
    → Answered answers old a mid first ends.Done → CutOff answers mid b new second → CutOff answers old (a ++ b) new (first ++ second)
cut_more answers old mid new a b first second p q =
    record {
      done = a ++ q.done;
      item = q.item;
      rest = q.rest;
      whole = ap (λ (x : List Item). a ++ x) q.whole ∙ sym (append_assoc a q.done (q.item ∷ q.rest));
      mid = q.mid;
      before = first ++ q.before;
      answered = answered_more answers old mid q.mid a q.done first q.before ends.Done p q.answered;
      reply = q.reply;
      served = q.served;
      sent = q.sent;
      part = q.part;
      text = ap (λ (t : List ℕ). first ++ t) q.text ∙ sym (append_assoc first q.before (take q.sent (session_text (q.item ∷ []) q.reply)));
    }

-- what comes after the end of a session changes nothing
goes_on : {S : Type 0} (answers : S → Request → Reply → S → Type 0) (old new : S) (a b : List Item) (ra : List Reply)
    → Serves answers old a ra new → end_of a ra ≢ ends.Done
    → Serves answers old (a ++ b) ra new × (session_text (a ++ b) ra ≡ session_text a ra) × (end_of (a ++ b) ra ≡ end_of a ra)
goes_on answers old new [] b ra s e = absurd (e refl)
goes_on answers old new (Faulty bad ∷ a) b ra s e =
    let rest = goes_on answers old new a b ra s e in
    (rest.0, ap (λ (t : List ℕ). bad_text bad ++ t) rest.1, rest.2)
goes_on answers old new (Asks Quit ∷ a) b [] s e = (s, refl, refl)
goes_on answers old new (Asks Quit ∷ a) b (r ∷ ra) s e = absurd s
goes_on answers old new (Asks request ∷ a) b [] s e = absurd s
goes_on answers old new (Asks request ∷ a) b (Halted ∷ ra) s e = (s, refl, refl)
goes_on answers old new (Asks request ∷ a) b (reply ∷ ra) s e =
    let rest = goes_on answers s.0 new a b ra s.2 e in
    ((s.0, s.1, rest.0), ap (λ (t : List ℕ). reply_text reply ++ t) rest.1, rest.2)

pub answered_on : {S : Type 0} (answers : S → Request → Reply → S → Type 0) (old new : S) (a b : List Item) (written : List ℕ) (ended : End)
    → Answered answers old a new written ended → ended ≢ ends.Done → Answered answers old (a ++ b) new written ended
answered_on answers old new a b written ended p over =
    let all = goes_on answers old new a b p.replies p.served (λ e. over (sym p.ends ∙ e)) in
    record { replies = p.replies; served = all.0; text = p.text ∙ sym all.1; ends = all.2 ∙ p.ends }

-- the bytes that a reader has left, where it tells
abbrev pub known_rest : Option (List ℕ) → List ℕ
known_rest None = []
known_rest (Some bytes) = bytes

pub input_is : (input after : Option (List ℕ)) (taken : List ℕ) → Consumes input after taken → IsInput input (taken ++ known_rest after)
input_is None after taken c = tt
input_is (Some bytes) None taken c = absurd c
input_is (Some bytes) (Some rest) taken c = sym c

pub no_rest : (after : Option (List ℕ)) → IsAtEnd after → known_rest after ≡ []
no_rest None e = refl
no_rest (Some bytes) e = e

-- a session that ended within a piece answered the items of the whole input, of which it met the first
whole_some : {S : Type 0} (answers : S → Request → Reply → S → Type 0) (input after : Option (List ℕ)) (old new : S) (written taken left : List ℕ) (ended : End) (items : List Item)
    → Consumes input after taken → Reads taken items (Some left) → Answered answers old items new written ended → ended ≢ ends.Done
    → Whole answers input old new written ended
whole_some answers input after old new written taken left ended items c r a over =
    let more = some_items (left ++ known_rest after) in
    record {
      text = taken ++ known_rest after;
      known = input_is input after taken c;
      items = items ++ more.0;
      its = r.1 (known_rest after) more.0 more.1;
      answered = answered_on answers old new items more.0 written ended a over;
    }

pub whole_within : {S : Type 0} (answers : S → Request → Reply → S → Type 0) (input after : Option (List ℕ)) (old new : S) (written taken : List ℕ) (left : Option (List ℕ)) (ended : End) (items : List Item)
    → Consumes input after taken → Reads taken items left → Answered answers old items new written ended → ended ≢ ends.Done
    → Whole answers input old new written ended
whole_within answers input after old new written taken None ended items c r a over =
    record { text = taken ++ known_rest after; known = input_is input after taken c; items = items; its = r (known_rest after); answered = a }
whole_within answers input after old new written taken (Some left) ended items c r a over =
    whole_some answers input after old new written taken left ended items c r a over

pub whole_end : {S : Type 0} (answers : S → Request → Reply → S → Type 0) (input after : Option (List ℕ)) (old mid new : S) (first second taken : List ℕ) (left : Option (List ℕ)) (fault : Option Bad) (ended : End) (items : List Item)
    → Consumes input after taken → IsAtEnd after → Reads taken items left → Ends left fault → Answered answers old items mid first ends.Done
    → Answered answers mid (faults_of fault) new second ended → Whole answers input old new (first ++ second) ended
whole_end answers input after old mid new first second taken left fault ended items c at r e p q =
    let text : taken ++ known_rest after ≡ taken ++ [] = ap (λ (t : List ℕ). taken ++ t) (no_rest after at) in
    record {
      text = taken ++ known_rest after;
      known = input_is input after taken c;
      items = items ++ faults_of fault;
      its = rw text (items_end taken items left fault r e);
      answered = answered_more answers old mid new items (faults_of fault) first second ended p q;
    }

pub broken_end : {S : Type 0} (answers : S → Request → Reply → S → Type 0) (after : Option (List ℕ)) (old mid new : S) (first second taken : List ℕ) (left : Option (List ℕ)) (fault : Option Bad) (items : List Item)
    → IsAtEnd after → Reads taken items left → Ends left fault → Answered answers old items mid first ends.Done
    → CutOff answers mid (faults_of fault) new second → Broken answers after taken old new (first ++ second)
broken_end answers after old mid new first second taken left fault items at r e p q =
    let its : Items taken (items ++ faults_of fault) = rw (append-nil taken) at (items_end taken items left fault r e) in
    record { items = items ++ faults_of fault; its = inl (at, its); cut = cut_more answers old mid new items (faults_of fault) first second p q }

pub broken_within : {S : Type 0} (answers : S → Request → Reply → S → Type 0) (after : Option (List ℕ)) (old mid new : S) (first second taken piece : List ℕ) (kept left : Option (List ℕ)) (items more : List Item)
    → Reads taken items kept → Feeds kept piece more left → Answered answers old items mid first ends.Done
    → CutOff answers mid more new second → Broken answers after (taken ++ piece) old new (first ++ second)
broken_within answers after old mid new first second taken piece kept left items more r f p q =
    record { items = items ++ more; its = inr (left, reads_more taken piece items more kept left r f); cut = cut_more answers old mid new items more first second p q }

-- one request and its reply
one_request : {S : Type 0} (answers : S → Request → Reply → S → Type 0) (old new : S) (request : Request) (reply : Reply) → request ≢ Quit → answers old request reply new
    → Serves answers old (Asks request ∷ []) (reply ∷ []) new × (session_text (Asks request ∷ []) (reply ∷ []) ≡ reply_text reply) × (end_of (Asks request ∷ []) (reply ∷ []) ≡ end_after reply)
one_request answers old new Quit reply other h = absurd (other refl)
one_request answers old new request Halted other h = ((h, refl), refl, refl)
one_request answers old new request reply other h = ((new, h, refl), append-nil (reply_text reply), refl)

pub request_answered : {S : Type 0} (answers : S → Request → Reply → S → Type 0) (old new : S) (request : Request) (reply : Reply) (text : List ℕ)
    → request ≢ Quit → answers old request reply new → text ≡ reply_text reply → Answered answers old (Asks request ∷ []) new text (end_after reply)
request_answered answers old new request reply text other h is =
    let one = one_request answers old new request reply other h in
    record { replies = reply ∷ []; served = one.0; text = is ∙ sym one.1; ends = one.2 }

pub fault_answered : {S : Type 0} (answers : S → Request → Reply → S → Type 0) (old : S) (bad : Bad) (text : List ℕ) → text ≡ bad_text bad → Answered answers old (Faulty bad ∷ []) old text ends.Done
fault_answered answers old bad text is = record { replies = []; served = refl; text = is ∙ sym (append-nil (bad_text bad)); ends = refl }

-- the text that answers an item wasn't sent whole
pub item_cut : {S : Type 0} (answers : S → Request → Reply → S → Type 0) (old new : S) (item : Item) (a b : Option (List ℕ)) (text : List ℕ) (ended : End) (fault : SessionFault)
    → Answered answers old (item ∷ []) new text ended → SendTells a b text (Err fault) → Writes a b (λ written. AnswersTell answers old (item ∷ []) new written (Err fault))
item_cut answers old new item a b text ended Read h p = absurd p
item_cut answers old new item a b text ended Write h (n, less, p) = (
  take n text,
  p,
  record {
    done = [];
    item = item;
    rest = [];
    whole = refl;
    mid = old;
    before = [];
    answered = record { replies = []; served = refl; text = refl; ends = refl };
    reply = h.replies;
    served = h.served;
    sent = n;
    part = subst (λ (t : List ℕ). n < length t) h.text less;
    text = ap (λ (t : List ℕ). take n t) h.text;
  },
)
item_cut answers old new item a b text ended Memory h p = absurd p

-- items after those at which a write failed
pub cut_on : {S : Type 0} (answers : S → Request → Reply → S → Type 0) (old new : S) (a b : List Item) (written : List ℕ) → CutOff answers old a new written → CutOff answers old (a ++ b) new written
cut_on answers old new a b written p =
    record {
      done = p.done;
      item = p.item;
      rest = p.rest ++ b;
      whole = ap (λ (x : List Item). x ++ b) p.whole ∙ append_assoc p.done (p.item ∷ p.rest) b;
      mid = p.mid;
      before = p.before;
      answered = p.answered;
      reply = p.reply;
      served = p.served;
      sent = p.sent;
      part = p.part;
      text = p.text;
    }

-- the items so far, one more, and those after it
split_next : (items : List Item) (i : ℕ) (item : Item) → i < length items → get_or items i item ≡ item → items ≡ (take i items ++ item ∷ []) ++ drop (i + 1) items
split_next items i item h is =
    sym (take-append-drop (i + 1) items) ∙ ap (λ (t : List Item). t ++ drop (i + 1) items) (take_more items i item h ∙ ap (λ (x : Item). take i items ++ x ∷ []) is)

-- one item more was answered
pub next_done : {S : Type 0} (answers : S → Request → Reply → S → Type 0) (old mid new : S) (a b d : Option (List ℕ)) (items : List Item) (i : ℕ) (item : Item) (ended : End)
    → i < length items → get_or items i item ≡ item → Writes a b (λ written. Answered answers old (take i items) mid written ends.Done)
    → Writes b d (λ written. AnswersTell answers mid (item ∷ []) new written (Ok ended)) → ended ≡ ends.Done
    → Writes a d (λ written. Answered answers old (take (i + 1) items) new written ends.Done)
next_done answers old mid new a b d items i item ended h is p q done =
    let both = answered_more answers old mid new (take i items) (item ∷ []) p.0 q.0 ended p.2 q.2 in
    let next : take i items ++ item ∷ [] ≡ take (i + 1) items = sym (take_more items i item h ∙ ap (λ (x : Item). take i items ++ x ∷ []) is) in
    (p.0 ++ q.0, Appends-trans a b d p.0 q.0 p.1 q.1, subst (λ t. Answered answers old t new (p.0 ++ q.0) ends.Done) next (subst (Answered answers old (take i items ++ item ∷ []) new (p.0 ++ q.0)) done both))

pub next_ends : {S : Type 0} (answers : S → Request → Reply → S → Type 0) (old mid new : S) (a b d : Option (List ℕ)) (items : List Item) (i : ℕ) (item : Item) (ended : End)
    → i < length items → get_or items i item ≡ item → Writes a b (λ written. Answered answers old (take i items) mid written ends.Done)
    → Writes b d (λ written. AnswersTell answers mid (item ∷ []) new written (Ok ended)) → ended ≢ ends.Done
    → Writes a d (λ written. Answered answers old items new written ended)
next_ends answers old mid new a b d items i item ended h is p q over =
    let both = answered_more answers old mid new (take i items) (item ∷ []) p.0 q.0 ended p.2 q.2 in
    let all = answered_on answers old new (take i items ++ item ∷ []) (drop (i + 1) items) (p.0 ++ q.0) ended both over in
    (p.0 ++ q.0, Appends-trans a b d p.0 q.0 p.1 q.1, subst (λ t. Answered answers old t new (p.0 ++ q.0) ended) (sym (split_next items i item h is)) all)

next_cut : {S : Type 0} (answers : S → Request → Reply → S → Type 0) (old mid new : S) (a b d : Option (List ℕ)) (items : List Item) (i : ℕ) (item : Item)
    → i < length items → get_or items i item ≡ item → Writes a b (λ written. Answered answers old (take i items) mid written ends.Done)
    → Writes b d (λ written. CutOff answers mid (item ∷ []) new written) → Writes a d (λ written. CutOff answers old items new written)
next_cut answers old mid new a b d items i item h is p q =
    let both = cut_more answers old mid new (take i items) (item ∷ []) p.0 q.0 p.2 q.2 in
    let all = cut_on answers old new (take i items ++ item ∷ []) (drop (i + 1) items) (p.0 ++ q.0) both in
    (p.0 ++ q.0, Appends-trans a b d p.0 q.0 p.1 q.1, subst (λ t. CutOff answers old t new (p.0 ++ q.0)) (sym (split_next items i item h is)) all)

pub next_fails : {S : Type 0} (answers : S → Request → Reply → S → Type 0) (old mid new : S) (a b d : Option (List ℕ)) (items : List Item) (i : ℕ) (item : Item) (fault : SessionFault)
    → i < length items → get_or items i item ≡ item → Writes a b (λ written. Answered answers old (take i items) mid written ends.Done)
    → Writes b d (λ written. AnswersTell answers mid (item ∷ []) new written (Err fault)) → Writes a d (λ written. AnswersTell answers old items new written (Err fault))
next_fails answers old mid new a b d items i item Write h is p q = next_cut answers old mid new a b d items i item h is p q
next_fails answers old mid new a b d items i item _ h is p q = absurd q.2

-- of the items of a piece
pub piece_fails : {S : Type 0} (answers : S → Request → Reply → S → Type 0) (old new : S) (a d : Option (List ℕ)) (kept left : Option (List ℕ)) (piece : List ℕ) (items : List Item) (fault : SessionFault)
    → Feeds kept piece items left → Writes a d (λ written. AnswersTell answers old items new written (Err fault)) → Writes a d (λ written. PieceTells answers kept piece left old new written (Err fault))
piece_fails answers old new a d kept left piece items Write fed q = (q.0, q.1, (items, fed, q.2))
piece_fails answers old new a d kept left piece items _ fed q = absurd q.2
