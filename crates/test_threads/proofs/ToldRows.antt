-- Worked rows of what may have been sent to a client that asked `add 1`.
use Rattle.std.proofs.{Common.{◌≡◌, ℕ, All, arith, false, nat_eq, List, [], ◌∷◌, ◌++◌, ap, codes, get_or, refl, subst, ◌∙◌}, lemmas.Bool.Decides.{nat_tests}}
use Rattle.std.proofs.lemmas.List.Elements.{All-cons, All-head, All-nil}
use Rattle.lz_slot.specs.declared.format.Format.{Format}
use Rattle.lz_proto.specs.declared.{request.Request.TheVariants.{Add, Remove, Has, Quit}, item.Item.{Item, TheVariants.{Asks, Faulty}}, reply.Reply.{Reply}}
use Rattle.lz_proto.specs.{declared.{reply.Reply.TheVariants.{Yes, No, Full, Halted, Worn, OldFile}, end.End.TheVariants.{Done}}, Lines.{Items, line, nothing}}
use Rattle.lz_proto.{specs.Sessions.{Serves, session_text}, proofs.{LineReads.{item_read}, Texts.{only}}}
use Rattle.lz_board.specs.Seats.{BoardId}
use Rattle.lz_serve.specs.{LineSessions.{IsGranted}, Grants.{Grant, IsAfter, IsGrant, IsOfLine}}
use Rattle.test_threads.specs.Tapes.{IsTold}

abbrev text : List ℕ
text = codes "add 1\n"

its : Items text (Asks (Add 1) ∷ [])
its = line (codes "add 1") (Asks (Add 1)) [] [] refl (item_read (codes "add 1")) (λ e. cc) nothing

-- a part of the reply that was granted
half_is_sent : (b : BoardId) (F : Format) (g : Grant) → IsGrant b F g → IsOfLine 3 1 (Add 1) Yes g → IsTold b F text (codes "ye")
half_is_sent b F g granted of =
    record {
      items = Asks (Add 1) ∷ [];
      more = [];
      its = its;
      grants = g ∷ [];
      granted = (All-cons (IsGrant b F) g [] granted (All-nil (IsGrant b F)), (All-nil (IsAfter g), tt));
      rest = codes "s\n";
      ended = Done;
      connection = 3;
      answered = record { replies = Yes ∷ []; served = (g ∷ [], (g, refl, of), refl); text = refl; ends = refl };
    }

-- What must not hold.

abbrev first_byte : List ℕ → ℕ
first_byte bytes = get_or bytes 0 0

not_y : (byte : ℕ) → 121 ≡ byte → nat_eq 121 byte ≡ false → ⊥
not_y byte is other = grind (arith, nat_tests)

yes_there : (connection : ℕ) (items more : List Item) (replies : List Reply) (grants : List Grant) (rest : List ℕ) → items ++ more ≡ Asks (Add 1) ∷ [] → Serves (IsGranted connection) [] items replies grants → codes "yes\n" ++ rest ≡ session_text items replies
    → All (λ g. g.reply ≡ No) grants → ⊥
yes_there n [] more [] grants rest is served told all = cc
yes_there n [] more (reply ∷ replies) grants rest is served told all = served
yes_there n (Faulty bad ∷ items) more replies grants rest is served told all = cc
yes_there n (Asks Quit ∷ items) more replies grants rest is served told all = cc
yes_there n (Asks (Remove k) ∷ items) more replies grants rest is served told all = cc
yes_there n (Asks (Has k) ∷ items) more replies grants rest is served told all = cc
yes_there n (Asks (Add k) ∷ item ∷ items) more replies grants rest is served told all = cc
yes_there n (Asks (Add k) ∷ []) more [] grants rest is served told all = served
yes_there n (Asks (Add k) ∷ []) more (No ∷ replies) grants rest is served told all = not_y 110 (ap first_byte told) refl
yes_there n (Asks (Add k) ∷ []) more (Full ∷ replies) grants rest is served told all = not_y 102 (ap first_byte told) refl
yes_there n (Asks (Add k) ∷ []) more (Halted ∷ replies) grants rest is served told all = not_y 104 (ap first_byte told) refl
yes_there n (Asks (Add k) ∷ []) more (Worn ∷ replies) grants rest is served told all = not_y 119 (ap first_byte told) refl
yes_there n (Asks (Add k) ∷ []) more (OldFile ∷ replies) grants rest is served told all = not_y 111 (ap first_byte told) refl
yes_there n (Asks (Add k) ∷ []) more (Yes ∷ reply ∷ replies) grants rest is served told all = served.2
yes_there n (Asks (Add k) ∷ []) more (Yes ∷ []) grants rest is (mid, (g, one, of), same) told all =
    let all : All (λ g. g.reply ≡ No) (g ∷ []) = subst (λ (gs : List Grant). All (λ g. g.reply ≡ No) gs) (same ∙ one) all in
    let no = All-head (λ g. g.reply ≡ No) g [] all in
    let yes = of.of_reply in
    cc

-- `yes` was sent with no grant, or with none but of `no`
told_ungranted : (b : BoardId) (F : Format) (told : IsTold b F text (codes "yes\n")) → All (λ g. g.reply ≡ No) told.grants → ⊥
told_ungranted b F told all =
    yes_there told.connection told.items told.more told.answered.replies told.grants told.rest (only text (Asks (Add 1) ∷ []) its (told.items ++ told.more) told.its) told.answered.served told.answered.text all
