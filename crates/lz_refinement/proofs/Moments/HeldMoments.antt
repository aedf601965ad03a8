-- One hold: what a crash might have left in it is left by the notes before it or by those after it.
use Rattle.std.proofs.Common.{◌≡◌, ◌⊎◌, ◌≤◌, inl, inr, ⊎_elim, ℕ, List, [], ◌∷◌, ◌++◌, length, refl, sym, ap, ◌∙◌, subst, le_refl, IsTrue}
use Rattle.lz_refinement.proofs.Vocabulary.{IsImage, Device, IsTimely, LeavesEither, Event, Outcome, Shape, Yard, Told, Sizes, Load, Note, Part, as_list, splice}
use Rattle.lz_refinement.proofs.{Vocabulary.{steps_of, shape_of_sizes, trace_of, found_note, noted, Pen, BoardId, IsPenOf, notes}, Marks.GrownMarks.{marks_splice}}
use Rattle.lz_refinement.proofs.{Marks.RunningSet.{explained, history_of, locked_sizes}, Moments.GrownNotes.{grows_then, same_grows}}
use Rattle.lz_refinement.{proofs.Moments.{LeftBeginnings.{more_left, splice_left}, StayingReplies.{go_on_staying, stays_splice}}, specs.NotedRuns.{AreNext}}
use Rattle.lz_refinement.specs.{Holds.{IsLocked, InHold, MayTurn}, Lives.{faults_in}, RunningSets.{Explains}, Marks.{calls_in, marks_in, marks_with, last_call_number}}
use Rattle.lz_refinement.specs.Moments.{IsLeftBy, LeftSince, GrowsTo, MomentsGoOn, HoldExplains, ExplainsBegun, ExplainedSince, IsReply, RepliesStay, Stays}
use Rattle.lz_disk.proofs.Moments.{leaves_then, leaves_more}
use Rattle.lz_machine.specs.declared.event.Event.TheVariants.{Invoke}
use Rattle.lz_yard.{specs.Steps.{Played as PlayedOver}, proofs.Events.KeptFit.{fault_or_not}}
use Rattle.lz_board.proofs.Upkeep.Splice.{trace_splice}

-- what may be left of the lock's disk is left by all its notes
pub now_left : (b : BoardId) (ns : List Note) (y : Yard) (dev : Device) → IsLocked b ns y dev → IsTrue dev.honest → (t : List ℕ) → IsImage dev.medium t → IsLeftBy b.sizes b.opened ns t
now_left b ns y dev l honest t image =
    let tie = l.tied in
    record {
      begun = record { later = []; before = ns; splits = refl; start = tie.start; steps = tie.steps; sizes = locked_sizes b ns y dev l; starts = tie.starts; runs = tie.runs; reads = tie.reads; begins = tie.begins };
      service = tie.service;
      medium = tie.medium;
      state = tie.state;
      leaves = subst (λ d. IsImage d t) (tie.device honest) image;
    }

-- A step of the yard for a pass in a hold, noted after its loads.
module _ (b : BoardId) (ns : List Note) (y : Yard) (dev : Device) (h : Part) (hold : InHold b ns y dev h) (e : Event) (may : MayTurn b.sizes ns h e)
    (y1 z' : Yard) (p : ℕ) (o : Outcome) (told : Told) (dev1 dev' : Device) (same : dev1 ≡ dev) (played : PlayedOver y1 p e o z' told dev1 dev')
    (n : Note) (ns' : List Note) (notes : ns' ≡ noted b.opened ns h n) (locked : IsLocked b ns' z' dev')
    (stamp : IsReply n.what → n.moment.at ≡ dev'.moment) (timely : IsTrue dev'.honest → IsTimely dev') where
  abbrev spliced : List Note
  spliced = splice b.opened h.number h.loads ns

  -- before an Invoke the pass has made no loads
  next : AreNext (shape_of_sizes b.sizes) h.number h.loads (steps_of h.number ns)
  next = go e may
    where
      go : (e : Event) → MayTurn b.sizes ns h e → AreNext (shape_of_sizes b.sizes) h.number h.loads (steps_of h.number ns)
      go (Invoke c) may = subst (λ (hs : List Load). AreNext (shape_of_sizes b.sizes) h.number hs (steps_of h.number ns)) (sym may.0.no_loads) tt
      go e may = subst (λ (x : Sizes × List Note). AreNext (shape_of_sizes x.0) h.number h.loads x.1) (λ i. (hold.knows.sized i, sym hold.knows.noted i)) may.1.call.next

  call : (dev'.honest ≡ dev.honest) × (IsTrue dev.honest → LeavesEither dev dev')
  call = subst (λ (d : Device). (dev'.honest ≡ d.honest) × (IsTrue d.honest → LeavesEither d dev')) same (⊎_elim
      (λ bad. let d = (played.failed bad).call in (d.honest, d.time))
      (λ ok. let d = (played.done ok).call in (d.honest, d.time))
      (fault_or_not o))

  more : (t : List ℕ) → IsLeftBy b.sizes b.opened ns t → IsLeftBy b.sizes b.opened ns' t
  more t l = subst (λ r. IsLeftBy b.sizes b.opened r t) (sym notes) (more_left b.sizes b.opened n (splice b.opened h.number h.loads ns) t
      (splice_left b.sizes b.opened h.number hold.knows.numbered.0 h.base (length h.known) h.loads ns t hold.knows.quiet hold.knows.least hold.knows.order hold.knows.shown next l))

  grown : GrowsTo b ns ns'
  grown =
      let shape = shape_of_sizes b.sizes in
      let new = marks_with shape n.by n.what spliced in
      subst (GrowsTo b ns) (sym notes) record {
        new = new;
        shows = ap (λ M. new ++ M) (marks_splice b.opened shape h.number h.base (length h.known) h.loads ns hold.knows.quiet hold.knows.least hold.knows.order next);
        trace = (as_list n.published, ap (λ P. as_list n.published ++ P) (trace_splice b.opened h.number h.loads ns));
      }

  -- a reply that is noted stays
  newest : IsReply n.what → Stays b dev' ns' n spliced
  newest reply honest = (
    subst (λ m. m ≤ dev'.moment) (sym (stamp reply)) (le_refl dev'.moment),
    λ t left. record {
      then = ns';
      from = subst (GrowsTo b (n ∷ spliced)) (sym notes) (same_grows b (n ∷ spliced));
      upto = same_grows b ns';
      explains = history_of b ns' z' dev' locked honest t ((timely honest).only_now t (subst (λ m. dev'.left_since m t) (stamp reply) left));
    },
  )

  stay : RepliesStay b dev' ns' ns → RepliesStay b dev' ns' ns'
  stay others = subst (RepliesStay b dev' ns') (sym notes)
      (newest, stays_splice b dev' ns' h.number h.base (length h.known) h.loads ns hold.knows.quiet hold.knows.least hold.knows.order next others)

  pub step_left : MomentsGoOn b ns ns' dev dev'
  step_left = record { grows = grown; honest = call.0; time = call.1; kept = more; stays = stay }

-- what a beginning of the notes leaves explains it
left_explains : (b : BoardId) (ns : List Note) (t : List ℕ) → IsLeftBy b.sizes b.opened ns t → ExplainsBegun b ns t
left_explains b ns t l = let g = l.begun in record {
  later = g.later;
  before = g.before;
  splits = g.splits;
  explains = explained b g.before g.start g.steps g.sizes g.starts g.runs g.reads g.begins l.service l.medium l.state t l.leaves;
}

pub since_explained : (b : BoardId) (first : Device) (ns : List Note) (dev : Device) → LeftSince b first ns dev → ExplainedSince b first ns dev
since_explained b first ns dev left = λ honest. leaves_more first dev (λ t. IsImage first.medium t ⊎ IsLeftBy b.sizes b.opened ns t) (λ t. IsImage first.medium t ⊎ ExplainsBegun b ns t)
    (λ t. ⊎_elim (λ old. inl old) (λ l. inr (left_explains b ns t l))) (left honest)

-- The notes to which a hold's step comes: those of the lock, and maybe a look at a pin word.
pub record ComesTo (b : BoardId) (ns was : List Note) : Type 0 where
  pub is : (was ≡ ns) ⊎ ((q : ℕ) × (v : ℕ) × (was ≡ found_note q v ∷ ns))
  pub left : (t : List ℕ) → IsLeftBy b.sizes b.opened ns t → IsLeftBy b.sizes b.opened was t
  pub grows : GrowsTo b ns was
  pub trace : trace_of b.opened was ≡ trace_of b.opened ns
  pub marks : (shape : Shape) → marks_in shape was ≡ marks_in shape ns
  pub number : (p : ℕ) → last_call_number p was ≡ last_call_number p ns
  pub calls : calls_in was ≡ calls_in ns
  pub faults : faults_in was ≡ faults_in ns

pub comes : (b : BoardId) (ns ns' : List Note) → ns' ≡ ns → ComesTo b ns ns'
comes b ns ns' notes = subst (ComesTo b ns) (sym notes) (record { is = inl refl; left = λ t l. l; grows = same_grows b ns; trace = refl; marks = λ shape. refl; number = λ p. refl; calls = refl; faults = refl })

pub finds : (b : BoardId) (q v : ℕ) (ns mid was : List Note) → mid ≡ ns → was ≡ found_note q v ∷ mid → ComesTo b ns was
finds b q v ns mid was same found = subst (ComesTo b ns) (sym (found ∙ ap (λ r. found_note q v ∷ r) same)) record {
  is = inr (q, v, refl);
  left = more_left b.sizes b.opened (found_note q v) ns;
  grows = record { new = []; shows = refl; trace = ([], refl) };
  trace = refl;
  marks = λ shape. refl;
  number = λ p. refl;
  calls = refl;
  faults = refl;
}

-- What might have been left goes on over a hold, from the lock's notes ns to these.
module _ (b : BoardId) (first dev dev' : Device) (ns was is : List Note) (y y' : Yard) (locked : IsLocked b ns y dev) (locked' : IsLocked b is y' dev') (found : ComesTo b ns was) (on : MomentsGoOn b was is dev dev') where
  abbrev In : List ℕ → Type 0
  In t = IsImage dev.medium t ⊎ IsImage dev'.medium t

  abbrev Left : List Note → List ℕ → Type 0
  Left r t = IsImage first.medium t ⊎ IsLeftBy b.sizes b.opened r t

  in_hold : IsTrue dev'.honest → (t : List ℕ) → In t → Left is t
  in_hold honest t image = inr (⊎_elim
      (λ old. on.kept t (found.left t (now_left b ns y dev locked (subst IsTrue on.honest honest) t old)))
      (λ new. now_left b is y' dev' locked' honest t new)
      image)

  gone_on : LeftSince b first ns dev → LeftSince b first is dev'
  gone_on left = λ honest. let was = subst IsTrue on.honest honest in
      leaves_then first dev dev' (Left is)
      (leaves_more first dev (Left ns) (Left is) (λ t. ⊎_elim (λ old. inl old) (λ l. inr (on.kept t (found.left t l)))) (left was))
      (leaves_more dev dev' In (Left is) (in_hold honest) (on.time was))

  explains : HoldExplains b ns is dev dev'
  explains = record {
    grows = grows_then b ns was is found.grows on.grows;
    honest = on.honest;
    leaves = λ honest. leaves_more dev dev' In (λ t. Explains b ns t ⊎ Explains b is t)
        (λ t. ⊎_elim
        (λ old. inl (history_of b ns y dev locked honest t old))
        (λ new. inr (history_of b is y' dev' locked' (subst IsTrue (sym on.honest) honest) t new)))
        (on.time honest);
  }

-- In the words of the code that holds the lock: its invariant afterwards, and what a crash in the hold might have left.
module _ (b : BoardId) (first dev dev' : Device) (ns was is : List Note) (found : ComesTo b ns was) (on : MomentsGoOn b was is dev dev')
    (y y' : Yard) (locked : IsLocked b ns y dev) (locked' : IsLocked b is y' dev') (pen : Pen) (of_board : IsPenOf b pen) (noted : notes pen ≡ is) where
  pub held_again : LeftSince b first ns dev → IsPenOf b pen × IsLocked b (notes pen) y' dev' × LeftSince b first (notes pen) dev'
  held_again left = (
    of_board,
    subst (λ r. IsLocked b r y' dev') (sym noted) locked',
    subst (λ r. LeftSince b first r dev') (sym noted) (gone_on b first dev dev' ns was is y y' locked locked' found on left),
  )

  pub replies_stay : (IsTrue dev.honest → IsTimely dev) → RepliesStay b dev ns ns → RepliesStay b dev' (notes pen) (notes pen)
  replies_stay timely stay =
      let moved = go_on_staying b dev dev' ns is (grows_then b ns was is found.grows on.grows) on.honest on.time timely (history_of b is y' dev' locked') stay in
      let before = ⊎_elim
      (λ same. subst (RepliesStay b dev' is) (sym same) moved)
      (λ look. subst (RepliesStay b dev' is) (sym look.2) ((λ reply. absurd reply), moved))
      found.is in
      subst (λ r. RepliesStay b dev' r r) (sym noted) (on.stays before)

  pub hold_explains : HoldExplains b ns (notes pen) dev dev'
  hold_explains = subst (λ r. HoldExplains b ns r dev dev') (sym noted) (explains b first dev dev' ns was is y y' locked locked' found on)
