-- The lives of sets that follow on one another are a chain.
use Rattle.std.{proofs.{Common.{◌≡◌, ⊎_elim, List, [], ◌∷◌, ◌++◌, refl, sym, ◌∙◌, subst, arith}, lemmas.List.{append-nil}}, specs.Prelude.{IsTrue}}
use Rattle.lz_slot.specs.{Bytes.{Holds}, Histories.{Life, ChainTo}, Sets.{Keys, Same}}
use Rattle.lz_disk.specs.{Devices.{Device}, Images.{Medium, IsImage, IsSound}}
use Rattle.lz_machine.{specs.{Runs.{State, disk_of}, Yards.{Yard}}, proofs.{Open.FirstPoint.{fits_same, one_set}, Theorem.OneAdd.{run_sound}}}
use Rattle.lz_board.specs.{declared.view.Note.{Note}, Seats.{BoardId}}
use Rattle.lz_list.specs.Addresses.{sizes_in}
use Rattle.lz_refinement.specs.{Holds.{IsLocked}, Moments.{ExplainsBegun, ExplainsFrom, GrowsTo, IsReply, RepliesStay, Stays}, RunningSets.{members_of}}
use Rattle.lz_refinement.proofs.{Marks.RunningSet.{history_of}, Moments.GrownNotes.{grows_on, same_grows}, Start.FirstSets.{begins_with_read}}
use Rattle.lz_refinement.proofs.Start.OpenedYard.{opened_locked, opened_sizes}
use Rattle.lz_set.specs.JoinedLives.{AfterReply, IsSeen, Lived, LivesJoin, MayLeave, life_of}

-- each reply among the notes stays
stays_at : (b : BoardId) (disk : Device) (all later : List Note) (n : Note) (before : List Note) → RepliesStay b disk all (later ++ n ∷ before) → IsReply n.what → Stays b disk all n before
stays_at b disk all [] n before stay reply = stay.0 reply
stays_at b disk all (x ∷ later) n before stay reply = stays_at b disk all later n before stay.1 reply

-- what is read of an honest disk under the lock is one of its images
read_is_left : (b : BoardId) (ns : List Note) (y : Yard) (dev : Device) → IsLocked b ns y dev → IsTrue dev.honest → IsImage dev.medium dev.medium.seen
read_is_left b ns y dev locked honest =
    let tie = locked.tied in
    let sound : IsSound tie.medium = subst (λ (w : State). IsSound (disk_of w)) tie.state (run_sound tie.start tie.steps tie.starts tie.runs) in
    subst (λ (m : Medium). IsImage m m.seen) (sym (tie.device honest)) sound.seen

module _ (D : Type 0) (device : D → Device) where
  module _ (l : Lived device) where
    abbrev board : BoardId
    board = l.opened.board

    in_words : board.sizes ≡ sizes_in l.opened.yard.words
    in_words = l.sizes ∙ sym (opened_sizes l.opened.yard l.opens.first.text l.opens.first.starts l.opens.first.yard)

    begins : Holds (device l.old).medium.seen board.sizes.slots (members_of board.opened)
    begins = begins_with_read board (device l.old) (device l.opened.disk) l.buckets l.passes l.opened.yard l.opens in_words l.trace l.honest

    honest_first : IsTrue (device l.opened.disk).honest
    honest_first = subst IsTrue (sym l.opens.vault.honest) l.honest

    honest_closed : IsTrue (device l.closed).honest
    honest_closed = subst IsTrue (sym l.left.honest) honest_first

    once_closed : MayLeave (device l.closed) l.text → ExplainsFrom board l.notes l.notes l.text
    once_closed leaves = record {
      then = l.notes;
      from = same_grows board l.notes;
      upto = same_grows board l.notes;
      explains = l.left.now honest_closed l.text (⊎_elim
          (λ read. subst (IsImage (device l.closed).medium) (sym read) (read_is_left board l.notes l.left.yard (device l.closed) l.left.locked honest_closed))
          (λ image. image)
          leaves);
    }

    -- before the first note the open's text was left
    at_first : IsImage (device l.opened.disk).medium l.text → ExplainsBegun board l.notes l.text
    at_first image = record {
      later = l.notes;
      before = [];
      splits = sym (append-nil l.notes);
      explains = history_of board [] l.opened.yard (device l.opened.disk) (opened_locked board [] (device l.old) (device l.opened.disk) l.buckets l.passes l.opened.yard l.opens in_words l.trace refl) honest_first l.text image;
    }

    by_crash : (device l.closed).left_since (device l.opened.disk).moment l.text → ExplainsFrom board [] l.notes l.text
    by_crash crashed =
        let e = ⊎_elim at_first (λ begun. begun) ((l.left.ever honest_closed).each l.text crashed) in
        record {
          then = e.before;
          from = subst (GrowsTo board []) (append-nil e.before) (grows_on board e.before []);
          upto = subst (GrowsTo board e.before) (sym e.splits) (grows_on board e.later e.before);
          explains = e.explains;
        }

    after_reply : (r : AfterReply (device l.closed) l.notes l.seen l.text) → ExplainsFrom board (r.reply ∷ r.before) l.notes l.text
    after_reply r =
        (stays_at board (device l.closed) l.notes r.later r.reply r.before (subst (RepliesStay board (device l.closed) l.notes) r.splits l.left.stays) r.is_reply honest_closed).1 l.text r.left

    ended : ExplainsFrom board l.seen l.notes l.text
    ended = ⊎_elim
        (λ closed. from closed.0 (once_closed closed.1))
        (⊎_elim (λ crashed. from crashed.0 (by_crash crashed.1)) (λ r. from r.newest (after_reply r)))
        l.ends
      where
        from : {seen : List Note} → l.seen ≡ seen → ExplainsFrom board seen l.notes l.text → ExplainsFrom board l.seen l.notes l.text
        from same e = subst (λ (ns : List Note). ExplainsFrom board ns l.notes l.text) (sym same) e

    seen_so : IsSeen board l.seen l.notes (life_of board ended.then)
    seen_so = record { then = ended.then; from = ended.from; upto = ended.upto; is = refl }

  pub lives_join : LivesJoin D device
  lives_join l [] follow =
      let e = (ended l).explains in
      (life_of l.opened.board (ended l).then ∷ [], (seen_so l, tt), (e.found, e.holds, (e.calls, e.fits, tt)))
  lives_join l (q ∷ earlier) (read, follow) =
      let before = lives_join q earlier follow in
      let e = (ended l).explains in
      (life_of l.opened.board (ended l).then ∷ before.0, (seen_so l, before.1), (e.found, e.holds, (e.calls, e.fits, reach before.0 before.2.0 before.2.1 before.2.2)))
    where
      same : (S : Keys) → Holds q.text q.opened.board.sizes.slots S → Same S (members_of l.opened.board.opened)
      same S held =
          let now : Holds q.text l.opened.board.sizes.slots (members_of l.opened.board.opened) = subst (λ t. Holds t l.opened.board.sizes.slots (members_of l.opened.board.opened)) read (begins l) in
          let slots : q.opened.board.sizes.slots ≡ l.opened.board.sizes.slots = omega (arith, held.size, now.size) in
          one_set q.text l.opened.board.sizes.slots S (members_of l.opened.board.opened) (subst (λ n. Holds q.text n S) slots held) now

      reach : (lives : List Life) (S : Keys) → Holds q.text q.opened.board.sizes.slots S → ChainTo lives S → ChainTo lives (members_of l.opened.board.opened)
      reach [] S held chain = tt
      reach (life ∷ lives) S held chain = (chain.0, fits_same life.start life.history chain.0 S (members_of l.opened.board.opened) (same S held) chain.1, chain.2)
