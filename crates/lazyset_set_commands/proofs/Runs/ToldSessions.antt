-- What a session of the one pass says of the set that is left, once the pass was handed back.
use Rattle.lz_proto.specs.declared.end.End.TheVariants as ends
use Rattle.lazyset_file_commands.specs.declared.status.Status.TheVariants as status
use Rattle.std.{proofs.Common.{◌≡◌, ◌≢◌, ℕ, List, [], ◌∷◌, ◌++◌, Option, Result, Ok, Err, refl, sym, ◌∙◌, subst}, specs.Io.KnownBytes.{Appends}}
use Rattle.lz_slot.{specs.{Sets.{Keys}, declared.format.Format.{Format}}, proofs.Files.HeldSets.{holds_same_set}}
use Rattle.lz_disk.specs.Images.{Medium, IsImage}
use Rattle.lz_proto.specs.declared.{item.Item.{Item}, fault.SessionFault.{SessionFault, TheVariants.{Read, Write, Memory}}, end.End.{End}}
use Rattle.lz_proto.{specs.Sessions.{Answered, CutOff, SessionTells, Whole, Writes, end_of}, proofs.FirstItems.{FirstAsked}}
use Rattle.lz_board.specs.{declared.{pass.Pass.{Pass}, view.{Note.{Note}, Part.{Part}}}, Seats.{BoardId, part}}
use Rattle.lz_list.specs.declared.layout.Sizes.{Sizes}
use Rattle.lz_refinement.specs.{Moments.{ExplainsBegun}, RunningSets.{members_of, Explains}}
use Rattle.lz_refinement.specs.Sessions.{AnsweredCalls, Served, PlainRun, NoneCut, CutLast, IsSession}
use Rattle.lz_refinement.proofs.Sessions.{SessionEnd.{session_is_held, session_is_plain}, SessionMoments.{moments_are_plain}}
use Rattle.lazyset_set_commands.{specs.{PlainReplies.{PassMayAnswer}, Runs.{FoundAfter, RepliesOfPass}}, proofs.Runs.FoundSets.{found_of_more}}
use Rattle.lazyset_set_commands.proofs.Runs.{LookedCalls.{FromFirst}, SessionCalls.{answers, made}}
use Rattle.lazyset_file_commands.specs.Ends.{session_status}

-- calls were made, and then others
served_then : (z : Sizes) (F : Format) (done more : AnsweredCalls) (old mid new : Part) → Served z F done old mid → Served z F more mid new → Served z F (done ++ more) old new
served_then z F [] more old mid new first then = subst (λ (h : Part). Served z F more h new) first then
served_then z F (call ∷ done) more old mid new first then = (first.0, (first.1.0, first.1.1, served_then z F done more first.1.0 mid new first.1.2 then))

cut_then : (done more : AnsweredCalls) → NoneCut done → CutLast more → CutLast (done ++ more)
cut_then [] more none cut = cut
cut_then (call ∷ []) [] none cut = tt
cut_then (call ∷ []) (next ∷ more) none cut = (none.0, cut)
cut_then (call ∷ next ∷ done) more none cut = (none.0, cut_then (next ∷ done) more none.1 cut)

run_then : (F : Format) (N : ℕ) (done more : AnsweredCalls) (S T : Keys) → PlainRun F N (done ++ more) S T → (M : Keys) × PlainRun F N done S M × PlainRun F N more M T
run_then F N [] more S T run = (S, λ k. refl, run)
run_then F N (call ∷ done) more S T (U, answer, later) = let (M, first, then) = run_then F N done more U T later in (M, (U, answer, first), then)

module _ {X : Type 0} (pass_of : X → Pass) (b : BoardId) (F : Format) (ns : List Note) (old new : X) (one : b.sizes.passes ≡ 1) (fresh : Part) (known : fresh.known ≡ b.opened) (none : fresh.steps ≡ [])
    (from : (calls : AnsweredCalls) → Served b.sizes F calls (part (pass_of old)) (part (pass_of new)) → FromFirst b F ns calls fresh) where
  abbrev N : ℕ
  N = b.sizes.slots

  abbrev S0 : Keys
  S0 = members_of b.opened

  session : (calls : AnsweredCalls) (served : Served b.sizes F calls (part (pass_of old)) (part (pass_of new))) → CutLast calls → IsSession b F ns calls fresh (from calls served).last
  session calls served cut = let since = from calls served in record { alone = one; known = known; no_steps = none; served = since.served; cut = cut; tells = since.tells }

  held_run : (calls : AnsweredCalls) → Served b.sizes F calls (part (pass_of old)) (part (pass_of new)) → CutLast calls → (t : List ℕ) (e : Explains b ns t) → PlainRun F N calls S0 e.found
  held_run calls served cut t e = (session_is_held b F ns calls fresh (from calls served).last (session calls served cut) t e).0

  module _ (t : List ℕ) (e : Explains b ns t) where
    -- the replies to all the items
    told_answered : (items : List Item) (written : List ℕ) (ended : End) → Answered (answers pass_of b F one) old items new written ended → Answered (PassMayAnswer F N) S0 items e.found written ended
    told_answered items written ended answered =
        let m = made pass_of b F one items answered.replies old new answered.served in
        record { replies = answered.replies; served = m.run S0 e.found (held_run m.calls m.served m.cut t e); text = answered.text; ends = answered.ends }

    -- those before a write failed, and the one at which it did
    told_cut : (items : List Item) (written : List ℕ) → CutOff (answers pass_of b F one) old items new written → CutOff (PassMayAnswer F N) S0 items e.found written
    told_cut items written cut =
        let first = cut.answered in
        let m = made pass_of b F one cut.done first.replies old cut.mid first.served in
        let l = made pass_of b F one (cut.item ∷ []) cut.reply cut.mid new cut.served in
        let goes : end_of cut.done first.replies ≢ ends.Halted = λ halted. let never : ends.Done ≡ ends.Halted = sym first.ends ∙ halted in cc in
        let served = served_then b.sizes F m.calls l.calls (part (pass_of old)) (part (pass_of cut.mid)) (part (pass_of new)) m.served l.served in
        let (M, before, last) = run_then F N m.calls l.calls S0 e.found (held_run (m.calls ++ l.calls) served (cut_then m.calls l.calls (m.none goes) l.cut) t e) in
        record {
          done = cut.done;
          item = cut.item;
          rest = cut.rest;
          whole = cut.whole;
          mid = M;
          before = cut.before;
          answered = record { replies = first.replies; served = m.run S0 M before; text = first.text; ends = first.ends };
          reply = cut.reply;
          served = l.run M e.found last;
          sent = cut.sent;
          part = cut.part;
          text = cut.text;
        }

    pub told_session : (input after : Option (List ℕ)) (r : Result End SessionFault) (written : List ℕ) → SessionTells (answers pass_of b F one) input after old new written r
        → SessionTells (PassMayAnswer F N) input after S0 e.found written r
    told_session input after (Ok ended) written tells =
        record { text = tells.text; known = tells.known; items = tells.items; its = tells.its; answered = told_answered tells.items written ended tells.answered }
    told_session input after (Err Read) written (text, gone, stopped) =
        (text, gone, record { items = stopped.items; left = stopped.left; its = stopped.its; answered = told_answered stopped.items written ends.Done stopped.answered })
    told_session input after (Err Memory) written (text, piece, gone, stopped) =
        (text, piece, gone, record { items = stopped.items; left = stopped.left; its = stopped.its; answered = told_answered stopped.items written ends.Done stopped.answered })
    told_session input after (Err Write) written (text, gone, broken) =
        (text, gone, record { items = broken.items; its = broken.its; cut = told_cut broken.items written broken.cut })

  -- a text that might have been left at any moment
  pub told_moment : (input : Option (List ℕ)) (first : FirstAsked (answers pass_of b F one) input old new) (t : List ℕ) → ExplainsBegun b ns t → FoundAfter (PassMayAnswer F N) N S0 first.items first.replies t
  told_moment input first t begun =
      let m = made pass_of b F one first.done first.replies old new first.served in
      found_of_more (PassMayAnswer F N) N S0 first.items first.done first.rest first.replies t first.whole
      (m.moment S0 t (moments_are_plain b F ns m.calls fresh (from m.calls m.served).last (session m.calls m.served m.cut) t begun))

  module _ (medium : Medium) (explains : (t : List ℕ) → IsImage medium t → Explains b ns t) where
    told_whole : (input before later : Option (List ℕ)) (written : List ℕ) (ended : End) → Whole (answers pass_of b F one) input old new written ended → ended ≢ ends.Halted → Appends before later written
        → RepliesOfPass F N S0 input before later medium
    told_whole input before later written ended whole unhalted appends =
        let answered = whole.answered in
        let m = made pass_of b F one whole.items answered.replies old new answered.served in
        let goes : end_of whole.items answered.replies ≢ ends.Halted = λ is. unhalted (sym answered.ends ∙ is) in
        let made_so = session m.calls m.served m.cut in
        let done = (from m.calls m.served).last in
        let last = members_of done.known in
        record {
          text = whole.text;
          known = whole.known;
          items = whole.items;
          its = whole.its;
          replies = answered.replies;
          last = last;
          served = m.whole goes S0 last (session_is_plain b F ns m.calls fresh done made_so);
          written = subst (λ (t : List ℕ). Appends before later t) answered.text appends;
          held = λ t image.
              let e = explains t image in
              holds_same_set t N e.found last ((session_is_held b F ns m.calls fresh done made_so t e).1 (m.none goes)) e.holds;
        }

    pub told_plain : (input after before later : Option (List ℕ)) (r : Result End SessionFault) → status.Done ≡ session_status r → Writes before later (λ written. SessionTells (answers pass_of b F one) input after old new written r)
        → RepliesOfPass F N S0 input before later medium
    told_plain input after before later (Ok ends.Done) is (written, appends, tells) = told_whole input before later written ends.Done tells (λ same. cc) appends
    told_plain input after before later (Ok ends.Quit) is (written, appends, tells) = told_whole input before later written ends.Quit tells (λ same. cc) appends
    told_plain input after before later (Ok ends.Halted) is (written, appends, tells) = absurd (cc)
    told_plain input after before later (Err fault) is (written, appends, tells) = absurd (cc)
