-- The replies of a session, as what was written tells them.
use Rattle.std.proofs.{Common.{◌≡◌, ℕ, List, [], ◌∷◌, ◌++◌, Option, Result, Ok, Err, refl, sym, ap, ◌∙◌, subst, append_assoc}, lemmas.List.{append-nil}}
use Rattle.lz_proto.specs.declared.{request.Request.{Request, TheVariants.{Quit}}, reply.Reply.{Reply, TheVariants.{Halted}}, item.Item.{Item}}
use Rattle.lz_proto.specs.declared.{item.Item.TheVariants.{Asks, Faulty}, fault.SessionFault.{SessionFault, TheVariants.{Read, Write, Memory}}, end.End.{End}}
use Rattle.lz_proto.{specs.Sessions.{Answered, CutOff, Serves, SessionTells}, proofs.FirstItems.{FirstAsked, session_asked}}
use Rattle.lz_serve.proofs.Mapped.{mapped, serves}
use Rattle.lazyset_set_commands.specs.Runs.{Collects}

-- the replies that were collected are those given
collected : (items : List Item) (replies old new : List Reply) → Serves Collects old items replies new → new ≡ old ++ replies
collected [] [] old new served = served ∙ sym (append-nil old)
collected [] (reply ∷ replies) old new served = absurd served
collected (Faulty bad ∷ items) replies old new served = collected items replies old new served
collected (Asks Quit ∷ items) [] old new served = served ∙ sym (append-nil old)
collected (Asks Quit ∷ items) (reply ∷ replies) old new served = absurd served
collected (Asks request ∷ items) [] old new served = absurd served
collected (Asks request ∷ items) (Halted ∷ replies) old new served = served.0 ∙ ap (λ (l : List Reply). old ++ Halted ∷ l) (sym served.1)
collected (Asks request ∷ items) (reply ∷ replies) old new served =
    collected items replies served.0 new served.2 ∙ ap (λ (l : List Reply). l ++ replies) served.1 ∙ append_assoc old (reply ∷ []) replies

module _ {X : Type 0} (A : X → Request → Reply → X → Type 0) where
  -- the service with its replies, which it collects as it goes on
  abbrev Collecting : X × List Reply → Request → Reply → X × List Reply → Type 0
  Collecting old request reply new = A old.0 request reply new.0 × Collects old.1 request reply new.1

  -- the state is as before, and so are the replies
  unasked : (old new : X) (all : List Reply) → new ≡ old → ◌≡◌ {A = X × List Reply} (new, all ++ []) (old, all)
  unasked old new all same = λ i. (same i, append-nil all i)

  serves_collecting : (items : List Item) (replies all : List Reply) (old new : X) → Serves A old items replies new → Serves Collecting (old, all) items replies (new, all ++ replies)
  serves_collecting [] [] all old new served = unasked old new all served
  serves_collecting [] (reply ∷ replies) all old new served = absurd served
  serves_collecting (Faulty bad ∷ items) replies all old new served = serves_collecting items replies all old new served
  serves_collecting (Asks Quit ∷ items) [] all old new served = unasked old new all served
  serves_collecting (Asks Quit ∷ items) (reply ∷ replies) all old new served = absurd served
  serves_collecting (Asks request ∷ items) [] all old new served = absurd served
  serves_collecting (Asks request ∷ items) (Halted ∷ replies) all old new served = ((served.0, ap (λ (l : List Reply). all ++ Halted ∷ l) served.1), served.1)
  serves_collecting (Asks request ∷ items) (reply ∷ replies) all old new served = (
    (served.0, all ++ reply ∷ []),
    (served.1, refl),
    subst (λ (l : List Reply). Serves Collecting (served.0, all ++ reply ∷ []) items replies (new, l)) (append_assoc all (reply ∷ []) replies)
        (serves_collecting items replies (all ++ reply ∷ []) served.0 new served.2),
  )

  answered_collecting : (items : List Item) (old new : X) (written : List ℕ) (ended : End) (answered : Answered A old items new written ended)
      → Answered Collecting (old, []) items (new, answered.replies) written ended
  answered_collecting items old new written ended answered =
      record { replies = answered.replies; served = serves_collecting items answered.replies [] old new answered.served; text = answered.text; ends = answered.ends }

  cut_collecting : (items : List Item) (old new : X) (written : List ℕ) (cut : CutOff A old items new written) → CutOff Collecting (old, []) items (new, cut.answered.replies ++ cut.reply) written
  cut_collecting items old new written cut = record {
    done = cut.done;
    item = cut.item;
    rest = cut.rest;
    whole = cut.whole;
    mid = (cut.mid, cut.answered.replies);
    before = cut.before;
    answered = answered_collecting cut.done old cut.mid cut.before _ cut.answered;
    reply = cut.reply;
    served = serves_collecting (cut.item ∷ []) cut.reply cut.answered.replies cut.mid new cut.served;
    sent = cut.sent;
    part = cut.part;
    text = cut.text;
  }

  session_collecting : (input after : Option (List ℕ)) (old new : X) (r : Result End SessionFault) (written : List ℕ) → SessionTells A input after old new written r
      → (all : List Reply) × SessionTells Collecting input after (old, []) (new, all) written r
  session_collecting input after old new (Ok ended) written tells =
      (tells.answered.replies, record { text = tells.text; known = tells.known; items = tells.items; its = tells.its; answered = answered_collecting tells.items old new written ended tells.answered })
  session_collecting input after old new (Err Read) written (text, gone, stopped) =
      (stopped.answered.replies, (text, gone, record { items = stopped.items; left = stopped.left; its = stopped.its; answered = answered_collecting stopped.items old new written _ stopped.answered }))
  session_collecting input after old new (Err Memory) written (text, piece, gone, stopped) =
      (stopped.answered.replies, (text, piece, gone, record { items = stopped.items; left = stopped.left; its = stopped.its; answered = answered_collecting stopped.items old new written _ stopped.answered }))
  session_collecting input after old new (Err Write) written (text, gone, broken) =
      (broken.cut.answered.replies ++ broken.cut.reply, (text, gone, record { items = broken.items; its = broken.its; cut = cut_collecting broken.items old new written broken.cut }))

  -- The items that a session asked are the first of its input's, and what it wrote tells just the replies that it gave to them.
  pub asked_and_told : (input after : Option (List ℕ)) (old new : X) (r : Result End SessionFault) (written : List ℕ) → SessionTells A input after old new written r
      → (first : FirstAsked A input old new) × SessionTells Collects input after [] first.replies written r
  asked_and_told input after old new r written tells =
      let (all, both) = session_collecting input after old new r written tells in
      let first = session_asked Collecting input after (old, []) (new, all) r written both in
      let given : Serves Collects [] first.done first.replies all =
      serves (λ (x : X × List Reply). x.1) Collecting Collects (λ old request reply new asked. asked.1) first.done first.replies (old, []) (new, all) first.served in
      let told : SessionTells Collects input after [] all written r =
      mapped (λ (x : X × List Reply). x.1) Collecting Collects (λ old request reply new asked. asked.1) input after (old, []) (new, all) r written both in (
        record {
          text = first.text;
          known = first.known;
          items = first.items;
          its = first.its;
          done = first.done;
          rest = first.rest;
          whole = first.whole;
          replies = first.replies;
          served = serves (λ (x : X × List Reply). x.0) Collecting A (λ old request reply new asked. asked.0) first.done first.replies (old, []) (new, all) first.served;
        },
        subst (λ (l : List Reply). SessionTells Collects input after [] l written r) (collected first.done first.replies [] all given) told,
      )
