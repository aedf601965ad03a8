-- A session on its way: what it took is answered as far as its lines ended.
use Rattle.lz_proto.specs.declared.end.End.TheVariants as ends
use Rattle.std.proofs.{Common.{◌≡◌, ◌≢◌, ℕ, List, [], ◌++◌, Option, Result, Ok, Err, sym, ap, subst, ◌∙◌}, lemmas.List.{append-nil}}
use Rattle.std.{proofs.KnownBytes.{Appends-trans, Consumes-trans}, specs.Io.KnownBytes.{Consumes, IsAtEnd}}
use Rattle.lz_proto.specs.declared.{request.Request.{Request}, fault.{Bad.{Bad}, SessionFault.{SessionFault, TheVariants.{Read, Write, Memory}}}}
use Rattle.lz_proto.specs.{declared.{item.Item.{Item}, reply.Reply.{Reply}, end.End.{End}}, Pieces.{Reads, Ends, faults_of}}
use Rattle.lz_proto.{specs.{Sessions.{Answered, Whole, SessionTells, Writes}, Steps.{AnswersTell, PieceTells}}, proofs.Texts.{reads_more}}
use Rattle.lz_proto.proofs.Serving.{answered_more, whole_within, whole_end, broken_end, broken_within}

pub record Begun {S : Type 0} (answers : S → Request → Reply → S → Type 0) (input after : Option (List ℕ)) (kept : Option (List ℕ)) (old new : S) (written : List ℕ) : Type 0 where
  pub taken : List ℕ
  pub gone : Consumes input after taken
  pub items : List Item
  pub its : Reads taken items kept
  pub answered : Answered answers old items new written ends.Done

-- a piece more was answered
pub begun_more : {S : Type 0} (answers : S → Request → Reply → S → Type 0) (input mid after a b d kept left : Option (List ℕ)) (old now new : S) (piece : List ℕ) (ended : End)
    → Writes a b (λ written. Begun answers input mid kept old now written) → Consumes mid after piece
    → Writes b d (λ written. PieceTells answers kept piece left now new written (Ok ended)) → ended ≡ ends.Done
    → Writes a d (λ written. Begun answers input after left old new written)
begun_more answers input mid after a b d kept left old now new piece ended p c q done =
    let begun = p.2 in
    let (items, feeds, answered) = q.2 in (
      p.0 ++ q.0,
      Appends-trans a b d p.0 q.0 p.1 q.1,
      record {
        taken = begun.taken ++ piece;
        gone = Consumes-trans input mid after begun.taken piece begun.gone c;
        items = begun.items ++ items;
        its = reads_more begun.taken piece begun.items items kept left begun.its feeds;
        answered = subst (Answered answers old (begun.items ++ items) new (p.0 ++ q.0)) done (answered_more answers old now new begun.items items p.0 q.0 ended begun.answered answered);
      },
    )

-- the session ended within a piece
pub begun_ends : {S : Type 0} (answers : S → Request → Reply → S → Type 0) (input mid after a b d kept left : Option (List ℕ)) (old now new : S) (piece : List ℕ) (ended : End)
    → Writes a b (λ written. Begun answers input mid kept old now written) → Consumes mid after piece
    → Writes b d (λ written. PieceTells answers kept piece left now new written (Ok ended)) → ended ≢ ends.Done
    → Writes a d (λ written. Whole answers input old new written ended)
begun_ends answers input mid after a b d kept left old now new piece ended p c q over =
    let begun = p.2 in
    let (items, feeds, answered) = q.2 in (
      p.0 ++ q.0,
      Appends-trans a b d p.0 q.0 p.1 q.1,
      whole_within answers input after old new (p.0 ++ q.0) (begun.taken ++ piece) left ended (begun.items ++ items)
          (Consumes-trans input mid after begun.taken piece begun.gone c) (reads_more begun.taken piece begun.items items kept left begun.its feeds)
          (answered_more answers old now new begun.items items p.0 q.0 ended begun.answered answered) over,
    )

-- a piece couldn't be answered
pub begun_fails : {S : Type 0} (answers : S → Request → Reply → S → Type 0) (input mid after a b d kept left : Option (List ℕ)) (old now new : S) (piece : List ℕ) (fault : SessionFault)
    → Writes a b (λ written. Begun answers input mid kept old now written) → Consumes mid after piece
    → Writes b d (λ written. PieceTells answers kept piece left now new written (Err fault))
    → Writes a d (λ written. SessionTells answers input after old new written (Err fault))
begun_fails answers input mid after a b d kept left old now new piece Read p c q = absurd q.2
begun_fails answers input mid after a b d kept left old now new piece Write p c q =
    let begun = p.2 in
    let (items, feeds, cut) = q.2 in (
      p.0 ++ q.0,
      Appends-trans a b d p.0 q.0 p.1 q.1,
      (
        begun.taken ++ piece,
        Consumes-trans input mid after begun.taken piece begun.gone c,
        broken_within answers after old now new p.0 q.0 begun.taken piece kept left begun.items items begun.its feeds begun.answered cut,
      ),
    )
begun_fails answers input mid after a b d kept left old now new piece Memory p c q =
    let begun = p.2 in
    let same : p.0 ++ q.0 ≡ p.0 = ap (λ (t : List ℕ). p.0 ++ t) q.2.2 ∙ append-nil p.0 in (
      p.0 ++ q.0,
      Appends-trans a b d p.0 q.0 p.1 q.1,
      (
        begun.taken,
        piece,
        Consumes-trans input mid after begun.taken piece begun.gone c,
        record {
          items = begun.items;
          left = kept;
          its = begun.its;
          answered = subst (λ s. Answered answers old begun.items s (p.0 ++ q.0) ends.Done) (sym q.2.1) (subst (λ (t : List ℕ). Answered answers old begun.items now t ends.Done) (sym same) begun.answered);
        },
      ),
    )

-- the input ended
pub begun_end : {S : Type 0} (answers : S → Request → Reply → S → Type 0) (input mid after a b d kept : Option (List ℕ)) (old now new : S) (fault : Option Bad) (r : Result End SessionFault)
    → Writes a b (λ written. Begun answers input mid kept old now written) → Consumes mid after [] → IsAtEnd after → Ends kept fault
    → Writes b d (λ written. AnswersTell answers now (faults_of fault) new written r)
    → Writes a d (λ written. SessionTells answers input after old new written r)
begun_end answers input mid after a b d kept old now new fault (Ok ended) p c at e q =
    let begun = p.2 in
    let gone : Consumes input after begun.taken = subst (Consumes input after) (append-nil begun.taken) (Consumes-trans input mid after begun.taken [] begun.gone c) in (
      p.0 ++ q.0,
      Appends-trans a b d p.0 q.0 p.1 q.1,
      whole_end answers input after old now new p.0 q.0 begun.taken kept fault ended begun.items gone at begun.its e begun.answered q.2,
    )
begun_end answers input mid after a b d kept old now new fault (Err Read) p c at e q = absurd q.2
begun_end answers input mid after a b d kept old now new fault (Err Write) p c at e q =
    let begun = p.2 in
    let gone : Consumes input after begun.taken = subst (Consumes input after) (append-nil begun.taken) (Consumes-trans input mid after begun.taken [] begun.gone c) in (
      p.0 ++ q.0,
      Appends-trans a b d p.0 q.0 p.1 q.1,
      (begun.taken, gone, broken_end answers after old now new p.0 q.0 begun.taken kept fault begun.items at begun.its e begun.answered q.2),
    )
begun_end answers input mid after a b d kept old now new fault (Err Memory) p c at e q = absurd q.2
