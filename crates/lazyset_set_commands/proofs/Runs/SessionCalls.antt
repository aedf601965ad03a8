-- The calls that a session of the one pass made, and what the plain set's replies to them say of its items.
use Rattle.lz_slot.specs.declared.command.Command.TheVariants as command
use Rattle.lz_machine.specs.declared.event.Reply.TheVariants as given
use Rattle.lz_proto.specs.declared.end.End.TheVariants as ends
use Rattle.std.proofs.Common.{◌≡◌, ◌≢◌, inr, ⊎_elim, ℕ, false, List, [], ◌∷◌, ◌++◌, Some, refl, sym, ap, ◌∙◌, subst}
use Rattle.lz_slot.specs.{Sets.{Keys, after}, Bytes.{Holds}, declared.{command.Command.{Command}, format.Format.{Format}}}
use Rattle.lz_machine.specs.declared.event.Reply.{Reply as Given}
use Rattle.lz_proto.specs.declared.{request.Request.{Request, TheVariants.{Add, Remove, Has, Quit}}, reply.Reply.{Reply, TheVariants.{Halted}}}
use Rattle.lz_proto.specs.{declared.item.Item.{Item, TheVariants.{Asks, Faulty}}, Sessions.{Serves, end_of}}
use Rattle.lz_board.specs.{declared.pass.Pass.{Pass}, Seats.{BoardId, part}}
use Rattle.lz_set.specs.Answers.{reply_of as given_of}
use Rattle.lz_serve.{specs.Replies.{SeatAnswers, command_of}, proofs.Seats.{only_call}}
use Rattle.lz_refinement.specs.{OneCaller.{IsPlainAnswer}, Sessions.{AnsweredCalls, Served, PlainRun, NoneCut, CutLast, cuts_off, MayHaveNext, HoldsAfterSome}}
use Rattle.lazyset_set_commands.specs.{PlainReplies.{PassAnswers, PassMayAnswer}, Runs.{FoundAfter}}
use Rattle.lazyset_set_commands.proofs.Runs.FoundSets.{first_next, found_here, found_past_fault, found_amid}
use Rattle.lazyset_set_commands.proofs.Runs.PlainRows.{shown, shown_of, same_is, told_row, passed}

-- a call that wasn't told as cut off was not
uncut : (r : Given) → shown r ≢ Halted → cuts_off r ≡ false
uncut given.Yes goes = refl
uncut given.No goes = refl
uncut (given.Full counts) goes = refl
uncut given.Worn goes = refl
uncut given.OldFile goes = refl
uncut given.Halted goes = absurd (goes refl)
uncut given.Device goes = absurd (goes refl)

-- calls before which another was answered
cut_more : (call : Command × Given) (calls : AnsweredCalls) → cuts_off call.1 ≡ false → CutLast calls → CutLast (call ∷ calls)
cut_more call [] whole cut = tt
cut_more call (next ∷ calls) whole cut = (whole, cut)

head_is : (x y : Command × Given) (xs ys : AnsweredCalls) → x ∷ xs ≡ y ∷ ys → x ≡ y
head_is x y xs ys same = cc

tail_is : (x y : Command × Given) (xs ys : AnsweredCalls) → x ∷ xs ≡ y ∷ ys → xs ≡ ys
tail_is x y xs ys same = cc

-- the session goes on after an answer
end_more : (request : Request) (c : Command) (reply : Reply) (items : List Item) (replies : List Reply) → command_of request ≡ Some c → reply ≢ Halted → end_of (Asks request ∷ items) (reply ∷ replies) ≡ end_of items replies
end_more Quit c reply items replies asked goes = absurd (let never = asked in cc)
end_more request c Halted items replies asked goes = absurd (goes refl)
end_more request c reply items replies asked goes = refl

module _ (F : Format) (N : ℕ) where
  -- one more reply of a set that may halt, and of one that doesn't
  may_next : (request : Request) (reply : Reply) (S T U : Keys) (items : List Item) (replies : List Reply) → reply ≢ Halted → PassMayAnswer F N S request reply T → Serves (PassMayAnswer F N) T items replies U
      → Serves (PassMayAnswer F N) S (Asks request ∷ items) (reply ∷ replies) U
  may_next Quit reply S T U items replies goes may served = absurd may
  may_next request Halted S T U items replies goes may served = absurd (goes refl)
  may_next request reply S T U items replies goes may served = (T, may, served)

  pass_next : (request : Request) (reply : Reply) (S T U : Keys) (items : List Item) (replies : List Reply) → reply ≢ Halted → PassAnswers F N S request reply T → Serves (PassAnswers F N) T items replies U
      → Serves (PassAnswers F N) S (Asks request ∷ items) (reply ∷ replies) U
  pass_next Quit reply S T U items replies goes answers served = absurd answers
  pass_next request Halted S T U items replies goes answers served = absurd (goes refl)
  pass_next request reply S T U items replies goes answers served = (T, answers, served)

  -- the last reply, which may leave its command done or not
  may_halt : (request : Request) (S T : Keys) (items : List Item) (replies : List Reply) → PassMayAnswer F N S request Halted T → replies ≡ [] → Serves (PassMayAnswer F N) S (Asks request ∷ items) (Halted ∷ replies) T
  may_halt Quit S T items replies may none = absurd may
  may_halt request S T items replies may none = (may, none)

  -- a command that is under way is done
  half_done : (request : Request) (c : Command) (S T : Keys) → command_of request ≡ Some c → T ≡ after c S → PassMayAnswer F N S request Halted T
  half_done (Add k) c S T asked is = let same : c ≡ command.Add k = cc in inr (is ∙ ap (λ (d : Command). after d S) same)
  half_done (Remove k) c S T asked is = let same : c ≡ command.Remove k = cc in inr (is ∙ ap (λ (d : Command). after d S) same)
  half_done (Has k) c S T asked is = let same : c ≡ command.Has k = cc in is ∙ ap (λ (d : Command). after d S) same
  half_done Quit c S T asked is = absurd (let never = asked in cc)

  -- no call was made
  pub none_made : (S : Keys) (t : List ℕ) → HoldsAfterSome F N [] S t → Holds t N S
  none_made S t h = go h.done h.rest h.splits h.run h.next
    where
      go : (done rest : AnsweredCalls) → [] ≡ done ++ rest → PlainRun F N done S h.ends → MayHaveNext rest h.ends h.found → Holds t N S
      go [] [] is run next = subst (Holds t N) (same_is h.found h.ends next ∙ same_is h.ends S run) h.holds
      go [] (call ∷ rest) is run next = absurd cc
      go (call ∷ done) rest is run next = absurd cc

  -- the first call may not have begun, or is under way, or it was answered, and others after it
  first_moment : (request : Request) (c : Command) (r : Given) (calls : AnsweredCalls) (items : List Item) (reply : Reply) (replies : List Reply) (S : Keys) (t : List ℕ) → command_of request ≡ Some c
      → ((U : Keys) → IsPlainAnswer F N c r S U → HoldsAfterSome F N calls U t → FoundAfter (PassMayAnswer F N) N S (Asks request ∷ items) (reply ∷ replies) t) → HoldsAfterSome F N ((c, r) ∷ calls) S t
      → FoundAfter (PassMayAnswer F N) N S (Asks request ∷ items) (reply ∷ replies) t
  first_moment request c r calls items reply replies S t asked past h = go h.done h.rest h.splits h.run h.next
    where
      go : (done rest : AnsweredCalls) → (c, r) ∷ calls ≡ done ++ rest → PlainRun F N done S h.ends → MayHaveNext rest h.ends h.found → FoundAfter (PassMayAnswer F N) N S (Asks request ∷ items) (reply ∷ replies) t
      go [] rest is run next =
          let none : h.ends ≡ S = same_is h.ends S run in
          ⊎_elim
          (λ same. found_here (PassMayAnswer F N) N S (Asks request ∷ items) (reply ∷ replies) t (subst (Holds t N) (same_is h.found h.ends same ∙ none) h.holds))
          (λ same.
          let found : h.found ≡ after c S = same_is h.found (after c h.ends) same ∙ ap (λ (U : Keys). after c U) none in
          found_amid (PassMayAnswer F N) N S h.found request items reply replies t (may_halt request S h.found [] [] (half_done request c S h.found asked found) refl) h.holds)
          (subst (λ (l : AnsweredCalls). MayHaveNext l h.ends h.found) (sym is) next)
      go (d ∷ done) rest is run next =
          let (U, answer, later) = run in
          past U (subst (λ (x : Command × Given). IsPlainAnswer F N x.0 x.1 S U) (sym (head_is (c, r) d calls (done ++ rest) is)) answer)
          (record { done = done; rest = rest; splits = tail_is (c, r) d calls (done ++ rest) is; ends = h.ends; run = later; found = h.found; next = next; holds = h.holds })

  -- others were answered after it
  found_next : (request : Request) (reply : Reply) (S T : Keys) (items : List Item) (replies : List Reply) (t : List ℕ) → reply ≢ Halted → PassMayAnswer F N S request reply T → FoundAfter (PassMayAnswer F N) N T items replies t
      → FoundAfter (PassMayAnswer F N) N S (Asks request ∷ items) (reply ∷ replies) t
  found_next request reply S T items replies t goes may found = record {
    done = Asks request ∷ found.done;
    rest = found.rest;
    first = ap (λ (x : List Item). Asks request ∷ x) found.first;
    replies = reply ∷ found.replies;
    told = first_next reply found.replies replies goes found.told;
    found = found.found;
    served = may_next request reply S T found.found found.done found.replies goes may found.served;
    held = found.held;
  }

module _ {X : Type 0} (pass_of : X → Pass) (b : BoardId) (F : Format) (one : b.sizes.passes ≡ 1) where
  abbrev N : ℕ
  N = b.sizes.slots

  abbrev pub answers : X → Request → Reply → X → Type 0
  answers old request reply new = SeatAnswers b F false (pass_of old) request reply (pass_of new)

  -- The calls by which the items got their replies.
  pub record Made (items : List Item) (replies : List Reply) (old new : X) : Type 0 where
    pub calls : AnsweredCalls
    pub served : Served b.sizes F calls (part (pass_of old)) (part (pass_of new))
    pub cut : CutLast calls
    pub none : end_of items replies ≢ ends.Halted → NoneCut calls
    pub run : (S T : Keys) → PlainRun F N calls S T → Serves (PassMayAnswer F N) S items replies T
    pub whole : end_of items replies ≢ ends.Halted → (S T : Keys) → PlainRun F N calls S T → Serves (PassAnswers F N) S items replies T
    pub moment : (S : Keys) (t : List ℕ) → HoldsAfterSome F N calls S t → FoundAfter (PassMayAnswer F N) N S items replies t

  -- none were asked
  made_none : (items : List Item) (old new : X) → new ≡ old → ((S T : Keys) → T ≡ S → Serves (PassMayAnswer F N) S items [] T) → ((S T : Keys) → T ≡ S → Serves (PassAnswers F N) S items [] T) → Made items [] old new
  made_none items old new same may pass = record {
    calls = [];
    served = ap (λ (x : X). part (pass_of x)) same;
    cut = tt;
    none = λ goes. tt;
    run = λ S T run. may S T (same_is T S run);
    whole = λ goes S T run. pass S T (same_is T S run);
    moment = λ S t h. found_here (PassMayAnswer F N) N S items [] t (none_made F N S t h);
  }

  made_fault : (bad : _) (items : List Item) (replies : List Reply) (old new : X) → Made items replies old new → Made (Faulty bad ∷ items) replies old new
  made_fault bad items replies old new m = record {
    calls = m.calls;
    served = m.served;
    cut = m.cut;
    none = m.none;
    run = m.run;
    whole = m.whole;
    moment = λ S t h. found_past_fault (PassMayAnswer F N) N S bad items replies t (m.moment S t h);
  }

  -- the last one was cut off
  made_last : (request : Request) (items : List Item) (replies : List Reply) (old new : X) → answers old request Halted new → replies ≡ [] → end_of (Asks request ∷ items) (Halted ∷ replies) ≡ ends.Halted
      → Made (Asks request ∷ items) (Halted ∷ replies) old new
  made_last request items replies old new asked none halts =
      let told = only_call b F false (pass_of old) (pass_of new) request Halted asked one in
      let r = given_of asked.answer in
      let is : Halted ≡ shown r = asked.told ∙ shown_of asked.answer in
      let may : (S T : Keys) → IsPlainAnswer F N asked.c r S T → PassMayAnswer F N S request Halted T = λ S T a.
      subst (λ (reply : Reply). PassMayAnswer F N S request reply T) (sym is) (told_row F N S T request asked.c r asked.asked a)
      in
      record {
        calls = (asked.c, r) ∷ [];
        served = (told.sized, (part (pass_of new), told.call, refl));
        cut = tt;
        none = λ goes. absurd (goes halts);
        run = λ S T (U, a, same). may_halt F N request S T items replies (may S T (subst (IsPlainAnswer F N asked.c r S) (sym (same_is T U same)) a)) none;
        whole = λ goes. absurd (goes halts);
        moment = λ S t h. first_moment F N request asked.c r [] items Halted replies S t asked.asked
            (λ U a rest. found_amid (PassMayAnswer F N) N S U request items Halted replies t (may_halt F N request S U [] [] (may S U a) refl) (none_made F N U t rest)) h;
      }

  -- one more was answered
  made_more : (request : Request) (reply : Reply) (items : List Item) (replies : List Reply) (old mid new : X) → reply ≢ Halted → answers old request reply mid → Made items replies mid new
      → Made (Asks request ∷ items) (reply ∷ replies) old new
  made_more request reply items replies old mid new goes asked m =
      let told = only_call b F false (pass_of old) (pass_of mid) request reply asked one in
      let r = given_of asked.answer in
      let is : reply ≡ shown r = asked.told ∙ shown_of asked.answer in
      let whole : cuts_off r ≡ false = uncut r (λ halted. goes (is ∙ halted)) in
      let ends_so = end_more request asked.c reply items replies asked.asked goes in
      let may : (S T : Keys) → IsPlainAnswer F N asked.c r S T → PassMayAnswer F N S request reply T = λ S T a.
      subst (λ (p : Reply). PassMayAnswer F N S request p T) (sym is) (told_row F N S T request asked.c r asked.asked a)
      in
      let pass : (S T : Keys) → IsPlainAnswer F N asked.c r S T → PassAnswers F N S request reply T = λ S T a.
      subst (λ (p : Reply). PassAnswers F N S request p T) (sym is) (passed F N S T request r whole (told_row F N S T request asked.c r asked.asked a))
      in
      record {
        calls = (asked.c, r) ∷ m.calls;
        served = (told.sized, (part (pass_of mid), told.call, m.served));
        cut = cut_more (asked.c, r) m.calls whole m.cut;
        none = λ ended. (whole, m.none (λ halted. ended (ends_so ∙ halted)));
        run = λ S T (U, a, later). may_next F N request reply S U T items replies goes (may S U a) (m.run U T later);
        whole = λ ended S T (U, a, later). pass_next F N request reply S U T items replies goes (pass S U a) (m.whole (λ halted. ended (ends_so ∙ halted)) U T later);
        moment = λ S t h. first_moment F N request asked.c r m.calls items reply replies S t asked.asked (λ U a rest. found_next F N request reply S U items replies t goes (may S U a) (m.moment U t rest)) h;
      }

  pub made : (items : List Item) (replies : List Reply) (old new : X) → Serves answers old items replies new → Made items replies old new
  made [] [] old new served = made_none [] old new served (λ S T same. same) (λ S T same. same)
  made [] (reply ∷ replies) old new served = absurd served
  made (Faulty bad ∷ items) replies old new served = made_fault bad items replies old new (made items replies old new served)
  made (Asks Quit ∷ items) [] old new served = made_none (Asks Quit ∷ items) old new served (λ S T same. same) (λ S T same. same)
  made (Asks Quit ∷ items) (reply ∷ replies) old new served = absurd served
  made (Asks request ∷ items) [] old new served = absurd served
  made (Asks request ∷ items) (Halted ∷ replies) old new served = made_last request items replies old new served.0 served.1 refl
  made (Asks request ∷ items) (reply ∷ replies) old new served =
      made_more request reply items replies old served.0 new (λ is. cc) served.1 (made items replies served.0 new served.2)
