-- One hold, from the step of the pass that has joined the pen to what the lock keeps and the pass has.
use Rattle.std.proofs.lemmas.Bool.Decides.{nat_tests}
use Rattle.std.proofs.Common.{◌≡◌, ◌≢◌, ◌<◌, ◌≤◌, ℕ, suc, List, [], ◌∷◌, ◌++◌, refl, sym, ap, ◌∙◌, subst, arith, ◌+◌, IsTrue, Option, None}
use Rattle.lz_refinement.proofs.Vocabulary.{Command, Format, Device, IsTimely, Publishing, Trace, Event, Outcome, Calling, mark_of_turn, reply_at, is_old, Yard, Pen}
use Rattle.lz_refinement.proofs.Vocabulary.{Sizes, What, Note, Part, Knows, Since, note_by, pin_after, shape_of_sizes, trace_of, found_note, knowing, BoardId, IsPenOf}
use Rattle.lz_refinement.proofs.{Vocabulary.{notes}, Hold.Joining.{joined_turn, seen_turned}, Lives.{HeldLives.{life_on}, ToldFailures.{fault_counted, faults_held}}}
use Rattle.lz_refinement.proofs.{Marks.GrownMarks.{call_shows, turn_shows}, Moments.HeldMoments.{ComesTo, held_again, hold_explains, replies_stay}}
use Rattle.lz_refinement.{proofs.Reading.OnePass.{alone_trace, opened_known, own_trace}, specs.declared.playing.Turn.{Turn}}
use Rattle.lz_refinement.specs.{Held.{Began, IsNextOf, WentOn, found_for}, Holds.{HoldNotes, InHold, IsLocked, IsTurn, MayTurn, Turned, begins_with, what_of}}
use Rattle.lz_refinement.specs.{Lives.{KeepsLife, LivesOn, faults_in, faults_with}, Marks.{last_call_number}}
use Rattle.lz_refinement.specs.{Moments.{HoldExplains, MomentsGoOn, LeftSince, RepliesStay}, NotedRuns.{seen_event}, OnePass.{OnlyOwn}}
use Rattle.lz_slot.specs.declared.history.HistoryEvent.TheVariants.{Call}
use Rattle.lz_machine.specs.declared.event.{Event.TheVariants.{Invoke, SeePin}, Outcome.TheVariants.{Fault}}
use Rattle.lz_board.specs.declared.view.What.TheVariants.{Called, Played}

-- The step that a hold has played.
pub record Stepped (b : BoardId) (ns is : List Note) (y y' : Yard) (dev dev' : Device) (t : Turn) : Type 0 where
  pub found : List Note
  pub comes : ComesTo b ns found
  pub on : MomentsGoOn b found is dev dev'
  pub locked : IsLocked b is y' dev'
  pub life : KeepsLife y dev y' dev'
  pub device : t.outcome ≡ Fault → dev.faults < dev'.faults
  pub faults : faults_in is + dev.faults ≤ faults_in ns + dev'.faults

-- of what a hold notes only one thing rests on what the pass has seen
before_join : (opened : Trace) (found is : List Note) (n : Note) (h hj h' : Part) (seen : Trace) → hj ≡ knowing seen h → Since h.number (trace_of opened found) h.known → HoldNotes opened found is n hj h' → HoldNotes opened found is n h h'
before_join opened found is n h hj h' seen part since H = grind (arith, nat_tests, knowing)

no_fault : (F : Format) (c : Command) → begins_with F c ≡ Fault → ⊥
no_fault F c = grind (arith, nat_tests, is_old)

pub other_turn : (ns : List Note) (h : Part) (e : Event) → ((q o : ℕ) → e ≢ SeePin q o) → (c : Calling) → IsNextOf h c e → IsTurn ns h c e
other_turn ns h (SeePin q o) away c next = absurd (away q o refl)
other_turn ns h e away c next = record { call = next.call; event = ap (seen_event (λ q. pin_after q ns)) next.event; load = next.load; found = tt }

pub other_may : (z : Sizes) (ns : List Note) (h : Part) (e : Event) → ((c : Command) → e ≢ Invoke c) → (c : Calling) → IsTurn ns h c e → MayTurn z ns h e
other_may z ns h (Invoke c) away k turn = absurd (away c refl)
other_may z ns h e away k turn = (k, turn)

-- what it notes is that it was played
pub other_what : (F : Format) (e : Event) (o : Outcome) → ((c : Command) → e ≢ Invoke c) → what_of F e o ≡ Played e o
other_what F (Invoke c) o away = absurd (away c refl)
other_what F e o away = refl

pub found_other : (e : Event) → ((q o : ℕ) → e ≢ SeePin q o) → (found ns : List Note) → found ≡ ns → found ≡ found_for e ns
found_other (SeePin q o) away found ns is = absurd (away q o refl)
found_other e away found ns is = is

module _ (b : BoardId) (F : Format) (ns found is : List Note) (y y' : Yard) (dev dev' : Device) (h hj h' : Part) (seen : Trace)
    (locked : IsLocked b ns y dev) (knows : Knows b.sizes b.opened ns h) (comes : ComesTo b ns found) (joint : InHold b found y dev hj) (part : hj ≡ knowing seen h)
    (hold : InHold b is y' dev' h') (on : MomentsGoOn b found is dev dev') (life : KeepsLife y dev y' dev') where
  since : Since h.number (trace_of b.opened found) h.known
  since = subst (λ (P : Trace). Since h.number P h.known) (sym comes.trace) knows.since

  same_number : hj.number ≡ h.number
  same_number = ap (λ (q : Part). q.number) part

  -- the next event of a call, on the notes in which its pin word was found
  went : (e : Event) (t : Turn) → found ≡ found_for e ns → HoldNotes b.opened found is (note_by hj.number (Played e t.outcome) t.published.value) hj h'
      → ((c : Calling) → IsTurn found hj c e → Turned b.opened found hj c.command c.progress e t.outcome t.published.value) → (k : Calling) → IsTurn found h k e → WentOn b ns is k t h h'
  went e t on H gave k turn =
      let turn_j = joined_turn found found h hj seen k e turn refl part in
      let H' = subst (λ (p : ℕ). HoldNotes b.opened found is (note_by p (Played e t.outcome) t.published.value) hj h') same_number H in
      record {
        advanced = record {
          event = e;
          found = found;
          on = on;
          turn = turn;
          holds = before_join b.opened found is (note_by h.number (Played e t.outcome) t.published.value) h hj h' seen part since H';
          turned = seen_turned b.opened found found h hj seen k.command k.progress e t.outcome t.published.value refl part (gave k turn_j);
          alone = λ one. comes.trace ∙ alone_trace b ns y dev h locked knows one;
          own = λ one. subst (OnlyOwn h.number b.opened) (sym comes.trace) (own_trace b ns y dev h locked knows one);
        };
        shows = turn_shows b found is hj h' joint.knows k e t.outcome t.published.value turn_j.call H
            ∙ (λ i. mark_of_turn ((ap (λ p. last_call_number p found) same_number ∙ comes.number h.number) i) (reply_at k.progress) ++ comes.marks (shape_of_sizes b.sizes) i);
      }

  began : (c : Command) (t : Turn) → (t.outcome ≡ begins_with y.vault.format c) × (t.published.value ≡ None) → y.vault.format ≡ F → h.loads ≡ [] → found ≡ found_note h.number h.pin ∷ ns
      → HoldNotes b.opened found is (note_by hj.number (Called c y.vault.format) t.published.value) hj h' → Began b F ns is c t h h'
  began c t gave format none at told =
      let H = subst (λ (x : Option Publishing). HoldNotes b.opened found is (note_by hj.number (Called c y.vault.format) x) hj h') gave.1 told in
      let outcome : t.outcome ≡ begins_with F c = gave.0 ∙ ap (λ (q : Format). begins_with q c) format in
      let H' = subst (λ (q : ℕ × Format). HoldNotes b.opened found is (note_by q.0 (Called c q.1) None) hj h') (λ i. (same_number i, format i)) H in
      let H'' = before_join b.opened found is (note_by h.number (Called c F) None) h hj h' seen part since H' in
      record {
        outcome = outcome;
        shows = call_shows b found is hj h' joint.knows c y.vault.format (ap (λ (q : Part). q.loads) part ∙ none) H
            ∙ (λ i. Call (suc (comes.calls i)) (same_number i) c ∷ comes.marks (shape_of_sizes b.sizes) i);
        holds = subst (λ (r : List Note). HoldNotes b.opened r is (note_by h.number (Called c F) None) h h') at H'';
        opened = opened_known b ns h knows;
      }

  stepped : (t : Turn) (n : Note) → (t.outcome ≡ Fault → dev.faults < dev'.faults) → faults_with n.what (faults_in found) + dev.faults ≤ faults_in found + dev'.faults → HoldNotes b.opened found is n hj h' → Stepped b ns is y y' dev dev' t
  stepped t n device counted H =
      let held = faults_held b.opened found is n hj h' H in let same = comes.faults in
      record { found = found; comes = comes; on = on; locked = hold.locked; life = life; device = device; faults = omega (arith, held, same, counted) }

  -- a call's first hold
  pub stepped_call : (c : Command) (t : Turn) → (t.outcome ≡ begins_with y.vault.format c) × (t.published.value ≡ None) → y.vault.format ≡ F → h.loads ≡ []
      → (mid : List Note) (q v : ℕ) → mid ≡ ns → found ≡ found_note q v ∷ mid → h.number ≡ q → h.pin ≡ v → HoldNotes b.opened found is (note_by hj.number (Called c y.vault.format) t.published.value) hj h'
      → Stepped b ns is y y' dev dev' t × Began b F ns is c t h h'
  stepped_call c t gave format none mid q v same at number pin H = (
    stepped t (note_by hj.number (Called c y.vault.format) t.published.value) (λ fault. absurd (no_fault y.vault.format c (sym gave.0 ∙ fault))) (let more = life.faults in omega (arith, more)) H,
    began c t gave format none (at ∙ (λ i. found_note (sym number i) (sym pin i) ∷ same i)) H,
  )

  -- one of the next event of a call, as it was found
  pub stepped_turn : (e : Event) → ((c : Command) → e ≢ Invoke c) → (t : Turn) → (t.outcome ≡ Fault → dev.faults < dev'.faults) → found ≡ found_for e ns → HoldNotes b.opened found is (note_by hj.number (what_of y.vault.format e t.outcome) t.published.value) hj h'
      → ((c : Calling) → IsTurn found hj c e → Turned b.opened found hj c.command c.progress e t.outcome t.published.value) → (k : Calling) → IsTurn found h k e
      → Stepped b ns is y y' dev dev' t × WentOn b ns is k t h h'
  stepped_turn e no_call t device at told gave k turn =
      let H = subst (λ (w : What). HoldNotes b.opened found is (note_by hj.number w t.published.value) hj h') (other_what y.vault.format e t.outcome no_call) told in (
        stepped t (note_by hj.number (Played e t.outcome) t.published.value) device (fault_counted e t.outcome (faults_in found) dev dev' life.faults device) H,
        went e t at H gave k turn,
      )

-- Cut off: what the lock keeps, and what the hold promises.
module _ (b : BoardId) (F : Format) (first dev dev' : Device) (ns is : List Note) (y y' : Yard) (t : Turn) (s : Stepped b ns is y y' dev dev' t)
    (locked : IsLocked b ns y dev) (pen : Pen) (of_board : IsPenOf b pen) (noted : notes pen ≡ is) where
  pub keeps : LeftSince b first ns dev → LivesOn F first ns y dev → (IsTrue dev.honest → IsTimely dev) → RepliesStay b dev ns ns
      → IsPenOf b pen × IsLocked b (notes pen) y' dev' × LeftSince b first (notes pen) dev' × LivesOn F first (notes pen) y' dev' × RepliesStay b dev' (notes pen) (notes pen)
  keeps left life timely stay =
      let kept = held_again b first dev dev' ns s.found is s.comes s.on y y' locked s.locked pen of_board noted left in (
        kept.0,
        kept.1,
        kept.2,
        subst (λ (r : List Note). LivesOn F first r y' dev') (sym noted) (life_on F first ns is y y' dev dev' s.life s.faults life),
        replies_stay b first dev dev' ns s.found is s.comes s.on y y' locked s.locked pen of_board noted timely stay,
      )

  pub explains : HoldExplains b ns (notes pen) dev dev'
  explains = hold_explains b first dev dev' ns s.found is s.comes s.on y y' locked s.locked pen of_board noted
