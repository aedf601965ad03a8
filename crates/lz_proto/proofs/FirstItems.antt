-- The items of an input that a session was asked, whatever its end.
use Rattle.std.proofs.Common.{◌≡◌, ℕ, ◌⊎◌, inl, inr, List, [], ◌∷◌, ◌++◌, Option, Some, None, Result, Ok, Err, refl, sym, ap, subst, ◌∙◌, append_assoc}
use Rattle.std.{proofs.lemmas.List.{append-nil}, specs.Io.KnownBytes.{Consumes, IsAtEnd}}
use Rattle.lz_proto.specs.declared.{request.Request.{Request}, item.Item.{Item}, reply.Reply.{Reply}, fault.SessionFault.{SessionFault}}
use Rattle.lz_proto.specs.{declared.{fault.SessionFault.TheVariants.{Read, Write, Memory}, end.End.{End}}, Lines.{Items}, Pieces.{Reads}}
use Rattle.lz_proto.{specs.Sessions.{CutOff, IsInput, Serves, SessionTells}, proofs.{Serving.{input_is, known_rest, no_rest, goes_more}, Texts.{some_items}}}

-- the first items of an input were asked, and the service went from one state to another by it
pub record FirstAsked {S : Type 0} (answers : S → Request → Reply → S → Type 0) (input : Option (List ℕ)) (old new : S) : Type 0 where
  pub text : List ℕ
  pub known : IsInput input text
  pub items : List Item
  pub its : Items text items
  pub done : List Item
  pub rest : List Item
  pub whole : items ≡ done ++ rest
  pub replies : List Reply
  pub served : Serves answers old done replies new

-- the items of a text and what follows it begin with those that the text gave
more_items : (text rest : List ℕ) (items : List Item) (left : Option (List ℕ)) → Reads text items left → (more : List Item) × Items (text ++ rest) (items ++ more)
more_items text rest items None reads = ([], subst (λ (x : List Item). Items (text ++ rest) x) (sym (append-nil items)) (reads rest))
more_items text rest items (Some left) reads = let more = some_items (left ++ rest) in (more.0, reads.1 rest more.0 more.1)

module _ {S : Type 0} (answers : S → Request → Reply → S → Type 0) (input after : Option (List ℕ)) (old new : S) where
  -- the items of a text that was taken were asked up to some
  asked_first : (taken text beyond : List ℕ) (items done rest : List Item) (left : Option (List ℕ)) (replies : List Reply) → Consumes input after taken → taken ≡ text ++ beyond
      → Reads text items left → items ≡ done ++ rest → Serves answers old done replies new → FirstAsked answers input old new
  asked_first taken text beyond items done rest left replies gone is reads whole served =
      let more = more_items text (beyond ++ known_rest after) items left reads in
      record {
        text = taken ++ known_rest after;
        known = input_is input after taken gone;
        items = items ++ more.0;
        its = subst (λ (t : List ℕ). Items t (items ++ more.0)) (sym (append_assoc text beyond (known_rest after)) ∙ ap (λ (t : List ℕ). t ++ known_rest after) (sym is)) more.1;
        done = done;
        rest = rest ++ more.0;
        whole = ap (λ (x : List Item). x ++ more.0) whole ∙ append_assoc done rest more.0;
        replies = replies;
        served = served;
      }

  -- the items of the whole input were asked up to some
  asked_whole : (taken : List ℕ) (items done rest : List Item) (replies : List Reply) → IsInput input taken → Items taken items → items ≡ done ++ rest → Serves answers old done replies new
      → FirstAsked answers input old new
  asked_whole taken items done rest replies known its whole served =
      record { text = taken; known = known; items = items; its = its; done = done; rest = rest; whole = whole; replies = replies; served = served }

  -- those answered before a write failed, and the one at which it did
  cut_served : (items : List Item) (written : List ℕ) (cut : CutOff answers old items new written) → Serves answers old (cut.done ++ cut.item ∷ []) (cut.answered.replies ++ cut.reply) new
  cut_served items written cut = (goes_more answers old cut.mid new cut.done (cut.item ∷ []) cut.answered.replies cut.reply cut.answered.served cut.answered.ends cut.served).0

  cut_whole : (items : List Item) (written : List ℕ) (cut : CutOff answers old items new written) → items ≡ (cut.done ++ cut.item ∷ []) ++ cut.rest
  cut_whole items written cut = cut.whole ∙ sym (append_assoc cut.done (cut.item ∷ []) cut.rest)

  -- the items that a session asked are the first of its input's
  pub session_asked : (r : Result End SessionFault) (written : List ℕ) → SessionTells answers input after old new written r → FirstAsked answers input old new
  session_asked (Ok ended) written tells =
      asked_whole tells.text tells.items tells.items [] tells.answered.replies tells.known tells.its (sym (append-nil tells.items)) tells.answered.served
  session_asked (Err Read) written (text, gone, stopped) =
      asked_first text text [] stopped.items stopped.items [] stopped.left stopped.answered.replies gone (sym (append-nil text)) stopped.its (sym (append-nil stopped.items)) stopped.answered.served
  session_asked (Err Memory) written (text, piece, gone, stopped) =
      asked_first (text ++ piece) text piece stopped.items stopped.items [] stopped.left stopped.answered.replies gone refl stopped.its (sym (append-nil stopped.items)) stopped.answered.served
  session_asked (Err Write) written (text, gone, broken) = up_to broken.its
    where
      cut : CutOff answers old broken.items new written
      cut = broken.cut

      up_to : (IsAtEnd after × Items text broken.items) ⊎ ((left : Option (List ℕ)) × Reads text broken.items left) → FirstAsked answers input old new
      up_to (inl at) = asked_whole (text ++ known_rest after) broken.items (cut.done ++ cut.item ∷ []) cut.rest (cut.answered.replies ++ cut.reply) (input_is input after text gone)
          (subst (λ (t : List ℕ). Items t broken.items) (sym (append-nil text) ∙ ap (λ (t : List ℕ). text ++ t) (sym (no_rest after at.0))) at.1)
          (cut_whole broken.items written cut) (cut_served broken.items written cut)
      up_to (inr read) = asked_first text text [] broken.items (cut.done ++ cut.item ∷ []) cut.rest read.0 (cut.answered.replies ++ cut.reply) gone (sym (append-nil text)) read.1
          (cut_whole broken.items written cut) (cut_served broken.items written cut)
