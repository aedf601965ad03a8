-- What a run leaves that served its session by the one pass of a set.
use Rattle.lazyset_file_commands.specs.declared.status.Status.TheVariants as status
use Rattle.std.proofs.Common.{◌≡◌, inl, inr, ⊎_elim, ℕ, ◌≤◌, false, List, [], length, Option, IsTrue, refl, sym, ap, ◌∙◌, subst, arith}
use Rattle.lz_slot.specs.{Sets.{Keys}, Bytes.{Holds, format_of}, declared.format.Format.{Format}}
use Rattle.lz_disk.{specs.Devices.{Device, IsTimely}, proofs.Moments.{leaves_then, leaves_more}}
use Rattle.lz_machine.{specs.Yards.{Yard}, proofs.Open.FirstPoint.{one_set}}
use Rattle.lz_board.specs.{declared.view.{Note.{Note}, Part.{Part}}, Notes.{shape_of_sizes}, Seats.{BoardId, part}}
use Rattle.lz_list.specs.declared.layout.Sizes.{Sizes}
use Rattle.lz_serve.specs.Replies.{SeatAnswers}
use Rattle.lz_refinement.specs.{Moments.{ExplainsBegun}, OwnCalls.{told}, RunningSets.{members_of}, Sessions.{AnsweredCalls, IsSession, Served, marks_alone}}
use Rattle.lz_refinement.proofs.{Sessions.SessionMoments.{moments_are_plain}, Start.{FirstSets.{same_set_explains}, OpenedYard.{opened_sizes}}}
use Rattle.lazyset_set_commands.specs.{PlainReplies.{PassMayAnswer}, Runs.{RanSeat, RepliesOfPass, ServedSeat, SessionOfSet}}
use Rattle.lazyset_set_commands.proofs.{Openings.{opening_leaves, unwritten}, Runs.{PlainRows.{same_is}, SessionCalls.{none_made}, ToldReplies.{asked_and_told}}}
use Rattle.lazyset_set_commands.proofs.Runs.{LookedCalls.{FromFirst, from_first}, ToldSessions.{told_session, told_plain, told_moment}}
use Rattle.lazyset_file_commands.specs.{Marks.{texts_mark}, declared.status.Status.{Status}}

module _ {D : Type 0} (device : D → Device) (buckets : ℕ) (state : Status) (input rest before later : Option (List ℕ)) (old new : D) (ran : RanSeat device buckets state input rest before later old new) where
  abbrev b : BoardId
  b = ran.opened.board

  abbrev y : Yard
  y = ran.opened.yard

  abbrev F0 : Format
  F0 = y.vault.format

  abbrev mid : Device
  mid = device ran.opened.disk

  abbrev seat : ServedSeat b mid F0 state input rest before later (device new)
  seat = ran.served

  abbrev S0 : Keys
  S0 = members_of b.opened

  one : b.sizes.passes ≡ 1
  one = ap (λ (z : Sizes). z.passes) ran.sizes ∙ ran.opens.passes

  known : (part seat.begun).known ≡ b.opened
  known = ap (λ (h : Part). h.known) seat.fresh.1

  no_steps : (part seat.begun).steps ≡ []
  no_steps = ap (λ (h : Part). h.steps) seat.fresh.1

  -- the calls after its look are those of a pass that has done nothing before
  from : (calls : AnsweredCalls) → Served b.sizes F0 calls (part seat.looked) (part seat.done) → FromFirst b F0 seat.notes calls (part seat.begun)
  from =
      let at_hand = seat.fresh.0.2 in
      from_first b F0 seat.notes seat.left.yard (device new) seat.left.locked one (part seat.begun) (part seat.looked) (part seat.done) at_hand.numbered.0 at_hand.numbered.1
      known texts_mark seat.mark seat.looks seat.since (seat.alone one)

  pub seat_honest : (device new).honest ≡ (device old).honest
  seat_honest = seat.left.honest ∙ ran.opens.vault.honest

  pub seat_faults : (device old).faults ≤ (device new).faults
  seat_faults = let a = ran.opens.vault.faults in let b = seat.left.faults in omega (arith, a, b)

  module _ (N : ℕ) (S : Keys) (honest : IsTrue (device old).honest) (held : Holds (device old).medium.seen N S) where
    abbrev seen : List ℕ
    seen = (device old).medium.seen

    still : IsTrue (device new).honest
    still = subst IsTrue (sym seat_honest) honest

    -- the board has the file's slots, and its life began with the set that the file held
    sized : b.sizes.slots ≡ N
    sized =
        let first = ran.opens.first in
        let is = first.starts.text.size in
        let was = held.size in
        let read = ap (λ (t : List ℕ). length t) (first.read honest).1 in
        let same : y.shape.slots ≡ N = omega (arith, is, was, read) in
        ap (λ (z : Sizes). z.slots) ran.sizes ∙ same

    at_slots : Holds seen b.sizes.slots S
    at_slots = subst (λ (n : ℕ). Holds seen n S) (sym sized) held

    no_calls : IsSession b F0 [] [] (part seat.begun) (part seat.begun)
    no_calls = record {
      alone = one;
      known = known;
      no_steps = no_steps;
      served = refl;
      cut = tt;
      tells = subst (λ (l : List Note). [] ≡ marks_alone (part seat.begun).number (told (shape_of_sizes b.sizes) l)) (sym no_steps) refl;
    }

    begins : S0 ≡ S
    begins =
        let first = ran.opens.first in
        let in_words = ran.sizes ∙ sym (opened_sizes y first.text first.starts first.yard) in
        let text : ExplainsBegun b [] seen = same_set_explains b (device old) mid buckets 1 y ran.opens in_words ran.trace [] honest S at_slots seen at_slots in
        let there = none_made F0 b.sizes.slots S0 seen (moments_are_plain b F0 [] [] (part seat.begun) (part seat.begun) no_calls seen text) in
        same_is S0 S (one_set seen b.sizes.slots S0 S there at_slots)

    -- so what is said of these is said of the file
    of_file : (P : Format → ℕ → Keys → Type 0) → P F0 b.sizes.slots S0 → P (format_of seen) N S
    of_file P is =
        subst (λ (F : Format). P F N S) (ran.opens.vault.format honest) (subst (λ (n : ℕ). P F0 n S) sized (subst (λ (T : Keys). P F0 b.sizes.slots T) begins is))

    -- the session is the plain set's, and at each moment the text is one that might have been left before, or holds the set after
    -- some first ones of the replies
    pub seat_set : IsTimely (device old) → SessionOfSet (PassMayAnswer (format_of seen) N) N S state input rest before later (device old) (device new)
    seat_set timely =
        let (first, told) = asked_and_told (SeatAnswers b F0 false) input rest seat.looked seat.done seat.ended seat.tells.0 seat.tells.2 in
        let opening = opening_leaves (device old) mid timely (inr (ran.opens.vault.medium honest)) (ran.opens.vault.time honest) in
        let was = unwritten (device old) mid timely (inr (ran.opens.vault.medium honest)) in
        of_file (λ F n T. SessionOfSet (PassMayAnswer F n) n T state input rest before later (device old) (device new)) (record {
          ended = seat.ended;
          status_is = seat.status_is;
          written = seat.tells.0;
          appended = seat.tells.1;
          replies = first.replies;
          told = told;
          each = λ t image.
              let e = seat.left.now still t image in
              (e.found, told_session (λ p. p) b F0 seat.notes seat.looked seat.done one (part seat.begun) known no_steps from t e input rest seat.ended seat.tells.0 seat.tells.2, e.holds);
          any_moment = (
            first.text,
            first.known,
            (
              first.items,
              first.its,
              leaves_then (device old) mid (device new) _ (leaves_more _ _ _ _ (λ t image. inl image) opening)
                  (leaves_more _ _ _ _ (λ t either. ⊎_elim (λ image. inl (was t image)) (λ text. inr (told_moment (λ p. p) b F0 seat.notes seat.looked seat.done one (part seat.begun) known no_steps from input first t text)) either) (seat.left.ever still)),
            ),
          );
        })

    pub seat_plain : status.Done ≡ state → RepliesOfPass (format_of seen) N S input before later (device new).medium
    seat_plain is = of_file (λ F n T. RepliesOfPass F n T input before later (device new).medium)
        (told_plain (λ p. p) b F0 seat.notes seat.looked seat.done one (part seat.begun) known no_steps from (device new).medium (seat.left.now still) input rest before later seat.ended (is ∙ seat.status_is) seat.tells)
