-- A session over a service that is known by a part of it alone, and as what its answers imply of that.
use Rattle.lz_proto.specs.declared.end.End.TheVariants as ends
use Rattle.std.proofs.Common.{◌≡◌, ℕ, List, [], ◌∷◌, Option, Result, Ok, Err, ap, subst}
use Rattle.lz_proto.specs.declared.{request.Request.{Request, TheVariants.{Quit}}, reply.Reply.{Reply, TheVariants.{Halted}}, item.Item.{Item}}
use Rattle.lz_proto.specs.declared.{item.Item.TheVariants.{Asks, Faulty}, fault.SessionFault.{SessionFault, TheVariants.{Read, Write, Memory}}, end.End.{End}}
use Rattle.lz_proto.specs.Sessions.{Answered, CutOff, Serves, SessionTells}

module _ {X Y : Type 0} (known : X → Y) (over : X → Request → Reply → X → Type 0) (answers : Y → Request → Reply → Y → Type 0)
    (implies : (old : X) (request : Request) (reply : Reply) (new : X) → over old request reply new → answers (known old) request reply (known new)) where
  pub serves : (items : List Item) (replies : List Reply) (old new : X) → Serves over old items replies new → Serves answers (known old) items replies (known new)
  serves [] [] old new served = ap known served
  serves [] (reply ∷ replies) old new served = absurd served
  serves (Faulty bad ∷ items) replies old new served = serves items replies old new served
  serves (Asks Quit ∷ items) [] old new served = ap known served
  serves (Asks Quit ∷ items) (reply ∷ replies) old new served = absurd served
  serves (Asks request ∷ items) [] old new served = absurd served
  serves (Asks request ∷ items) (Halted ∷ replies) old new served = (implies old request Halted new served.0, served.1)
  serves (Asks request ∷ items) (reply ∷ replies) old new served = (known served.0, implies old request reply served.0 served.1, serves items replies served.0 new served.2)

  answered : (old new : X) (items : List Item) (written : List ℕ) (ended : End) → Answered over old items new written ended → Answered answers (known old) items (known new) written ended
  answered old new items written ended a = record { replies = a.replies; served = serves items a.replies old new a.served; text = a.text; ends = a.ends }

  cut_off : (old new : X) (items : List Item) (written : List ℕ) → CutOff over old items new written → CutOff answers (known old) items (known new) written
  cut_off old new items written cut = record {
    done = cut.done;
    item = cut.item;
    rest = cut.rest;
    whole = cut.whole;
    mid = known cut.mid;
    before = cut.before;
    answered = answered old cut.mid cut.done cut.before ends.Done cut.answered;
    reply = cut.reply;
    served = serves (cut.item ∷ []) cut.reply cut.mid new cut.served;
    sent = cut.sent;
    part = cut.part;
    text = cut.text;
  }

  pub mapped : (input after : Option (List ℕ)) (old new : X) (r : Result End SessionFault) (written : List ℕ) → SessionTells over input after old new written r → SessionTells answers input after (known old) (known new) written r
  mapped input after old new (Ok ended) written tells =
      record { text = tells.text; known = tells.known; items = tells.items; its = tells.its; answered = answered old new tells.items written ended tells.answered }
  mapped input after old new (Err Read) written (text, gone, stopped) =
      (text, gone, record { items = stopped.items; left = stopped.left; its = stopped.its; answered = answered old new stopped.items written ends.Done stopped.answered })
  mapped input after old new (Err Memory) written (text, piece, gone, stopped) =
      (text, piece, gone, record { items = stopped.items; left = stopped.left; its = stopped.its; answered = answered old new stopped.items written ends.Done stopped.answered })
  mapped input after old new (Err Write) written (text, gone, broken) =
      (text, gone, record { items = broken.items; its = broken.its; cut = cut_off old new broken.items written broken.cut })

  -- so its session is one of these parts
  pub known_session : (input after : Option (List ℕ)) (old new : X) (p q : Y) (r : Result End SessionFault) (written : List ℕ) → known old ≡ p → known new ≡ q → SessionTells over input after old new written r
      → SessionTells answers input after p q written r
  known_session input after old new p q r written first last tells =
      subst (λ (y : Y). SessionTells answers input after p y written r) last (subst (λ (y : Y). SessionTells answers input after y (known new) written r) first (mapped input after old new r written tells))
