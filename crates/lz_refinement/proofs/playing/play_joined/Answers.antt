use Rattle.lz_refinement.proofs.Hold.JoinedStep as joined
use Rattle.lz_refinement.proofs.playing.play_joined.Goals as goal
use Rattle.std.proofs.Common.{◌≡◌, ◌≢◌, ℕ, ◌<◌, sym, ap, ◌∙◌, subst, rules}
use Rattle.lz_refinement.proofs.{Vocabulary.{Device, Pen, Pass, Note, note_by, stamped, noted, IsAtHand, carried, id_of, notes}, Hold.CoveredSync.{spares}}
use Rattle.lz_refinement.proofs.{Hold.{Exchanges.{of_none, of_pin, of_word}, Joining.{hand_noted, hand_moved}}, Moments.HeldMoments.{step_left}}
use Rattle.lz_refinement.proofs.{Moments.StayingReplies.{stamp_now}, Lives.HeldLives.{held_keeps}, playing.play_joined.Given.{Over}}
use Rattle.lz_refinement.{proofs.playing.play_joined.Goals.{After-of, in-Some-Pin, in-Some, in-None}, specs.Holds.{InHold, HoldNotes, what_of}}
use Rattle.lz_list.specs.declared.word.Word.TheVariants.{Pin as pin_at}

pub step-requires-clause-event : goal.step-requires-clause-event
step-requires-clause-event g c =
    joined.asks (id_of c.args.board.now) (notes c.args.pen.now) c.args.yard.now.yard (g.D.Disk.device c.args.yard.now.disk)
    (carried c.args.pen.now) c.requires.hold c.args.event c.requires.may c.number-number.result c.pin.result (c.number-number.ensures ∙ c.requires.hand.number)
    (c.pin.ensures ∙ c.requires.hand.pin) c.note_pin.new.self.yard c.note_pin.ensures.yard (g.D.Disk.device c.note_pin.new.self.disk)
    (ap (λ d. g.D.Disk.device d) c.note_pin.ensures.disk)

pub step-requires-clause-may : goal.step-requires-clause-may
step-requires-clause-may g c =
    λ needs. joined.may_play (id_of c.args.board.now) (notes c.args.pen.now) c.args.yard.now.yard (g.D.Disk.device c.args.yard.now.disk)
    (carried c.args.pen.now) c.requires.hold c.args.event c.requires.may c.number-number.result c.pin.result (c.number-number.ensures ∙ c.requires.hand.number)
    (c.pin.ensures ∙ c.requires.hand.pin) c.note_pin.new.self.yard c.note_pin.ensures.yard (g.D.Disk.device c.note_pin.new.self.disk)
    (ap (λ d. g.D.Disk.device d) c.note_pin.ensures.disk)

pub returns-clause-turned : goal.returns-clause-turned
returns-clause-turned g c = λ k turn.
    rw c.of.ensures (joined.turned (id_of c.args.board.now) (notes c.args.pen.now) c.args.yard.now.yard (g.D.Disk.device c.args.yard.now.disk)
    (carried c.args.pen.now) c.requires.hold c.args.event c.requires.may c.number-number.result c.pin.result (c.number-number.ensures ∙ c.requires.hand.number)
    (c.pin.ensures ∙ c.requires.hand.pin) c.note_pin.new.self.yard c.note_pin.ensures.yard (g.D.Disk.device c.note_pin.new.self.disk)
    (ap (λ d. g.D.Disk.device d) c.note_pin.ensures.disk) c.step.result.outcome c.step.new.self.yard c.step.result.told
    (g.D.Disk.device c.step.new.self.disk) c.step.ensures.played c.step.ensures.shape c.what_of-what.result
    (c.what_of-what.ensures ∙ ap (λ f. what_of f c.args.event c.step.result.outcome) c.format.ensures) c.stamp-moment.result c.stamp-moment.ensures k turn)

pub returns-clause-began : goal.returns-clause-began
returns-clause-began g c = λ asked is.
    let gave = joined.began (id_of c.args.board.now) (notes c.args.pen.now) c.args.yard.now.yard (g.D.Disk.device c.args.yard.now.disk)
    (carried c.args.pen.now) c.requires.hold c.args.event c.requires.may c.number-number.result c.pin.result (c.number-number.ensures ∙ c.requires.hand.number)
    (c.pin.ensures ∙ c.requires.hand.pin) c.note_pin.new.self.yard c.note_pin.ensures.yard (g.D.Disk.device c.note_pin.new.self.disk)
    (ap (λ d. g.D.Disk.device d) c.note_pin.ensures.disk) c.step.result.outcome c.step.new.self.yard c.step.result.told
    (g.D.Disk.device c.step.new.self.disk) c.step.ensures.played c.step.ensures.shape c.what_of-what.result
    (c.what_of-what.ensures ∙ ap (λ f. what_of f c.args.event c.step.result.outcome) c.format.ensures) c.stamp-moment.result c.stamp-moment.ensures asked is in
    (gave.0, c.of.ensures ∙ gave.1)

pub note-requires-clause-may : goal.note-requires-clause-may
note-requires-clause-may g c =
    let noting = joined.noting (id_of c.args.board.now) (notes c.args.pen.now) c.args.yard.now.yard (g.D.Disk.device c.args.yard.now.disk)
    (carried c.args.pen.now) c.requires.hold c.args.event c.requires.may c.number-number.result c.pin.result (c.number-number.ensures ∙ c.requires.hand.number)
    (c.pin.ensures ∙ c.requires.hand.pin) c.note_pin.new.self.yard c.note_pin.ensures.yard (g.D.Disk.device c.note_pin.new.self.disk)
    (ap (λ d. g.D.Disk.device d) c.note_pin.ensures.disk) c.step.result.outcome c.step.new.self.yard c.step.result.told
    (g.D.Disk.device c.step.new.self.disk) c.step.ensures.played c.step.ensures.shape c.what_of-what.result
    (c.what_of-what.ensures ∙ ap (λ f. what_of f c.args.event c.step.result.outcome) c.format.ensures) c.stamp-moment.result c.stamp-moment.ensures in
    noting.may

pub note-requires-clause-keeps : goal.note-requires-clause-keeps
note-requires-clause-keeps g c =
    let noting = joined.noting (id_of c.args.board.now) (notes c.args.pen.now) c.args.yard.now.yard (g.D.Disk.device c.args.yard.now.disk)
    (carried c.args.pen.now) c.requires.hold c.args.event c.requires.may c.number-number.result c.pin.result (c.number-number.ensures ∙ c.requires.hand.number)
    (c.pin.ensures ∙ c.requires.hand.pin) c.note_pin.new.self.yard c.note_pin.ensures.yard (g.D.Disk.device c.note_pin.new.self.disk)
    (ap (λ d. g.D.Disk.device d) c.note_pin.ensures.disk) c.step.result.outcome c.step.new.self.yard c.step.result.told
    (g.D.Disk.device c.step.new.self.disk) c.step.ensures.played c.step.ensures.shape c.what_of-what.result
    (c.what_of-what.ensures ∙ ap (λ f. what_of f c.args.event c.step.result.outcome) c.format.ensures) c.stamp-moment.result c.stamp-moment.ensures in
    let other : (q : ℕ) → c.in-Some.word ≢ pin_at q = search rules in
    noting.keeps _ (of_word c.step.new.self.yard.words c.step.result.told.changed c.step.result.told.before c.words.result.now c.in-Some.word c.get-after.result c.in-Some.is other c.get-after.ensures c.words.ensures)

pub note-requires-clause-writes : goal.note-requires-clause-writes
note-requires-clause-writes g c =
    let noting = joined.noting (id_of c.args.board.now) (notes c.args.pen.now) c.args.yard.now.yard (g.D.Disk.device c.args.yard.now.disk)
    (carried c.args.pen.now) c.requires.hold c.args.event c.requires.may c.number-number.result c.pin.result (c.number-number.ensures ∙ c.requires.hand.number)
    (c.pin.ensures ∙ c.requires.hand.pin) c.note_pin.new.self.yard c.note_pin.ensures.yard (g.D.Disk.device c.note_pin.new.self.disk)
    (ap (λ d. g.D.Disk.device d) c.note_pin.ensures.disk) c.step.result.outcome c.step.new.self.yard c.step.result.told
    (g.D.Disk.device c.step.new.self.disk) c.step.ensures.played c.step.ensures.shape c.what_of-what.result
    (c.what_of-what.ensures ∙ ap (λ f. what_of f c.args.event c.step.result.outcome) c.format.ensures) c.stamp-moment.result c.stamp-moment.ensures in
    let other : (q : ℕ) → c.in-Some.word ≢ pin_at q = search rules in
    noting.writes _ (of_word c.step.new.self.yard.words c.step.result.told.changed c.step.result.told.before c.words.result.now c.in-Some.word c.get-after.result c.in-Some.is other c.get-after.ensures c.words.ensures)

pub note-requires-in-None-clause-may : goal.note-requires-in-None-clause-may
note-requires-in-None-clause-may g c =
    let noting = joined.noting (id_of c.args.board.now) (notes c.args.pen.now) c.args.yard.now.yard (g.D.Disk.device c.args.yard.now.disk)
    (carried c.args.pen.now) c.requires.hold c.args.event c.requires.may c.number-number.result c.pin.result (c.number-number.ensures ∙ c.requires.hand.number)
    (c.pin.ensures ∙ c.requires.hand.pin) c.note_pin.new.self.yard c.note_pin.ensures.yard (g.D.Disk.device c.note_pin.new.self.disk)
    (ap (λ d. g.D.Disk.device d) c.note_pin.ensures.disk) c.step.result.outcome c.step.new.self.yard c.step.result.told
    (g.D.Disk.device c.step.new.self.disk) c.step.ensures.played c.step.ensures.shape c.what_of-what.result
    (c.what_of-what.ensures ∙ ap (λ f. what_of f c.args.event c.step.result.outcome) c.format.ensures) c.stamp-moment.result c.stamp-moment.ensures in
    noting.may

pub note-requires-in-None-clause-keeps : goal.note-requires-in-None-clause-keeps
note-requires-in-None-clause-keeps g c =
    let noting = joined.noting (id_of c.args.board.now) (notes c.args.pen.now) c.args.yard.now.yard (g.D.Disk.device c.args.yard.now.disk)
    (carried c.args.pen.now) c.requires.hold c.args.event c.requires.may c.number-number.result c.pin.result (c.number-number.ensures ∙ c.requires.hand.number)
    (c.pin.ensures ∙ c.requires.hand.pin) c.note_pin.new.self.yard c.note_pin.ensures.yard (g.D.Disk.device c.note_pin.new.self.disk)
    (ap (λ d. g.D.Disk.device d) c.note_pin.ensures.disk) c.step.result.outcome c.step.new.self.yard c.step.result.told
    (g.D.Disk.device c.step.new.self.disk) c.step.ensures.played c.step.ensures.shape c.what_of-what.result
    (c.what_of-what.ensures ∙ ap (λ f. what_of f c.args.event c.step.result.outcome) c.format.ensures) c.stamp-moment.result c.stamp-moment.ensures in
    noting.keeps _ (of_none c.step.new.self.yard.words c.step.result.told.changed c.step.result.told.before c.in-None.is c.new.result c.new.ensures)

pub note-requires-in-None-clause-writes : goal.note-requires-in-None-clause-writes
note-requires-in-None-clause-writes g c =
    let noting = joined.noting (id_of c.args.board.now) (notes c.args.pen.now) c.args.yard.now.yard (g.D.Disk.device c.args.yard.now.disk)
    (carried c.args.pen.now) c.requires.hold c.args.event c.requires.may c.number-number.result c.pin.result (c.number-number.ensures ∙ c.requires.hand.number)
    (c.pin.ensures ∙ c.requires.hand.pin) c.note_pin.new.self.yard c.note_pin.ensures.yard (g.D.Disk.device c.note_pin.new.self.disk)
    (ap (λ d. g.D.Disk.device d) c.note_pin.ensures.disk) c.step.result.outcome c.step.new.self.yard c.step.result.told
    (g.D.Disk.device c.step.new.self.disk) c.step.ensures.played c.step.ensures.shape c.what_of-what.result
    (c.what_of-what.ensures ∙ ap (λ f. what_of f c.args.event c.step.result.outcome) c.format.ensures) c.stamp-moment.result c.stamp-moment.ensures in
    noting.writes _ (of_none c.step.new.self.yard.words c.step.result.told.changed c.step.result.told.before c.in-None.is c.new.result c.new.ensures)

pub shift-requires-clause-may : goal.shift-requires-clause-may
shift-requires-clause-may g c =
    let noting = joined.noting (id_of c.args.board.now) (notes c.args.pen.now) c.args.yard.now.yard (g.D.Disk.device c.args.yard.now.disk)
    (carried c.args.pen.now) c.requires.hold c.args.event c.requires.may c.number-number.result c.pin.result (c.number-number.ensures ∙ c.requires.hand.number)
    (c.pin.ensures ∙ c.requires.hand.pin) c.note_pin.new.self.yard c.note_pin.ensures.yard (g.D.Disk.device c.note_pin.new.self.disk)
    (ap (λ d. g.D.Disk.device d) c.note_pin.ensures.disk) c.step.result.outcome c.step.new.self.yard c.step.result.told
    (g.D.Disk.device c.step.new.self.disk) c.step.ensures.played c.step.ensures.shape c.what_of-what.result
    (c.what_of-what.ensures ∙ ap (λ f. what_of f c.args.event c.step.result.outcome) c.format.ensures) c.stamp-moment.result c.stamp-moment.ensures in
    noting.may

pub shift-requires-clause-moves : goal.shift-requires-clause-moves
shift-requires-clause-moves g c =
    let noting = joined.noting (id_of c.args.board.now) (notes c.args.pen.now) c.args.yard.now.yard (g.D.Disk.device c.args.yard.now.disk)
    (carried c.args.pen.now) c.requires.hold c.args.event c.requires.may c.number-number.result c.pin.result (c.number-number.ensures ∙ c.requires.hand.number)
    (c.pin.ensures ∙ c.requires.hand.pin) c.note_pin.new.self.yard c.note_pin.ensures.yard (g.D.Disk.device c.note_pin.new.self.disk)
    (ap (λ d. g.D.Disk.device d) c.note_pin.ensures.disk) c.step.result.outcome c.step.new.self.yard c.step.result.told
    (g.D.Disk.device c.step.new.self.disk) c.step.ensures.played c.step.ensures.shape c.what_of-what.result
    (c.what_of-what.ensures ∙ ap (λ f. what_of f c.args.event c.step.result.outcome) c.format.ensures) c.stamp-moment.result c.stamp-moment.ensures in
    noting.moves (of_pin c.step.new.self.yard.words c.step.result.told.changed c.step.result.told.before c.in-Some-Pin.field-0 c.in-Some-Pin.field-0-0 c.in-Some-Pin.is c.in-Some-Pin.field-0-is)

-- the notes, the part and the pass after the note
abbrev Left : (g : Over) (c : After-of g) → Pen → Pass → Type 0
Left g c pen pass =
    InHold (id_of c.args.board.now) (notes pen) c.step.new.self.yard (g.D.Disk.device c.step.new.self.disk) (carried pen)
    × HoldNotes (id_of c.args.board.now).opened (notes c.args.pen.now) (notes pen) (note_by (carried c.args.pen.now).number (what_of c.args.yard.now.yard.vault.format c.args.event c.step.result.outcome) c.step.result.told.published) (carried c.args.pen.now) (carried pen)
    × (notes pen ≡ noted (id_of c.args.board.now).opened (notes c.args.pen.now) (carried c.args.pen.now)
    (stamped (g.D.Disk.device c.step.new.self.disk).moment (note_by (carried c.args.pen.now).number
    (what_of c.args.yard.now.yard.vault.format c.args.event c.step.result.outcome) c.step.result.told.published)))
    × IsAtHand (id_of c.args.board.now) pass (carried pen)

left : (g : Over) (c : After-of g) → Left g c c.match-changed.pen c.match-changed.pass
left g c =
    let opened = (id_of c.args.board.now).opened in
    let ns = notes c.args.pen.now in
    let n : Note = record { by = c.number-number.result; what = c.what_of-what.result; published = c.step.result.told.published; moment = c.stamp-moment.result } in
    let noting = joined.noting (id_of c.args.board.now) (notes c.args.pen.now) c.args.yard.now.yard (g.D.Disk.device c.args.yard.now.disk)
    (carried c.args.pen.now) c.requires.hold c.args.event c.requires.may c.number-number.result c.pin.result (c.number-number.ensures ∙ c.requires.hand.number)
    (c.pin.ensures ∙ c.requires.hand.pin) c.note_pin.new.self.yard c.note_pin.ensures.yard (g.D.Disk.device c.note_pin.new.self.disk)
    (ap (λ d. g.D.Disk.device d) c.note_pin.ensures.disk) c.step.result.outcome c.step.new.self.yard c.step.result.told
    (g.D.Disk.device c.step.new.self.disk) c.step.ensures.played c.step.ensures.shape c.what_of-what.result
    (c.what_of-what.ensures ∙ ap (λ f. what_of f c.args.event c.step.result.outcome) c.format.ensures) c.stamp-moment.result c.stamp-moment.ensures in
    elim c.match-changed.branch [
      | in-Some-Pin w ↦
          let moves = noting.moves (of_pin c.step.new.self.yard.words c.step.result.told.changed c.step.result.told.before w.in-Some-Pin.field-0 w.in-Some-Pin.field-0-0 w.in-Some-Pin.is w.in-Some-Pin.field-0-is) in
          let after = joined.after_move (id_of c.args.board.now) (notes c.args.pen.now) c.args.yard.now.yard (g.D.Disk.device c.args.yard.now.disk)
          (carried c.args.pen.now) c.requires.hold c.args.event c.requires.may c.number-number.result c.pin.result (c.number-number.ensures ∙ c.requires.hand.number)
          (c.pin.ensures ∙ c.requires.hand.pin) c.note_pin.new.self.yard c.note_pin.ensures.yard (g.D.Disk.device c.note_pin.new.self.disk)
          (ap (λ d. g.D.Disk.device d) c.note_pin.ensures.disk) c.step.result.outcome c.step.new.self.yard c.step.result.told
          (g.D.Disk.device c.step.new.self.disk) c.step.ensures.played c.step.ensures.shape c.what_of-what.result
          (c.what_of-what.ensures ∙ ap (λ f. what_of f c.args.event c.step.result.outcome) c.format.ensures) c.stamp-moment.result c.stamp-moment.ensures
          (notes w.shift.new.pen) (carried w.shift.new.pen) w.shift.ensures.notes w.shift.ensures.carried moves in
          subst (λ (q : Pen × Pass). Left g c q.0 q.1) (λ i. (sym w.pen-is i, sym w.pass-is i))
          (after.0, after.1, after.2, hand_moved (id_of c.args.board.now) c.args.pass.now w.shift.new.pass (carried c.args.pen.now) (carried w.shift.new.pen) opened ns n c.requires.hand w.shift.ensures.pass w.shift.ensures.carried moves.1)
      | in-Some w ↦
          let other : (q : ℕ) → w.in-Some.word ≢ pin_at q = search rules in
          let after = joined.after_note (id_of c.args.board.now) (notes c.args.pen.now) c.args.yard.now.yard (g.D.Disk.device c.args.yard.now.disk)
          (carried c.args.pen.now) c.requires.hold c.args.event c.requires.may c.number-number.result c.pin.result (c.number-number.ensures ∙ c.requires.hand.number)
          (c.pin.ensures ∙ c.requires.hand.pin) c.note_pin.new.self.yard c.note_pin.ensures.yard (g.D.Disk.device c.note_pin.new.self.disk)
          (ap (λ d. g.D.Disk.device d) c.note_pin.ensures.disk) c.step.result.outcome c.step.new.self.yard c.step.result.told
          (g.D.Disk.device c.step.new.self.disk) c.step.ensures.played c.step.ensures.shape c.what_of-what.result
          (c.what_of-what.ensures ∙ ap (λ f. what_of f c.args.event c.step.result.outcome) c.format.ensures) c.stamp-moment.result c.stamp-moment.ensures
          (notes w.note.new.pen) (carried w.note.new.pen) w.note.ensures.notes w.note.ensures.carried
          (noting.keeps _ (of_word c.step.new.self.yard.words c.step.result.told.changed c.step.result.told.before w.words.result.now w.in-Some.word
          w.get-after.result w.in-Some.is other w.get-after.ensures w.words.ensures)) in
          subst (λ (q : Pen). Left g c q c.match-changed.pass) (sym w.pen-is)
          (after.0, after.1, after.2, hand_noted (id_of c.args.board.now) c.args.pass.now c.match-changed.pass (carried c.args.pen.now) (carried w.note.new.pen) opened ns n c.requires.hand w.pass-is w.note.ensures.carried)
      | in-None w ↦
          let after = joined.after_note (id_of c.args.board.now) (notes c.args.pen.now) c.args.yard.now.yard (g.D.Disk.device c.args.yard.now.disk)
          (carried c.args.pen.now) c.requires.hold c.args.event c.requires.may c.number-number.result c.pin.result (c.number-number.ensures ∙ c.requires.hand.number)
          (c.pin.ensures ∙ c.requires.hand.pin) c.note_pin.new.self.yard c.note_pin.ensures.yard (g.D.Disk.device c.note_pin.new.self.disk)
          (ap (λ d. g.D.Disk.device d) c.note_pin.ensures.disk) c.step.result.outcome c.step.new.self.yard c.step.result.told
          (g.D.Disk.device c.step.new.self.disk) c.step.ensures.played c.step.ensures.shape c.what_of-what.result
          (c.what_of-what.ensures ∙ ap (λ f. what_of f c.args.event c.step.result.outcome) c.format.ensures) c.stamp-moment.result c.stamp-moment.ensures
          (notes w.note-in-None.new.pen) (carried w.note-in-None.new.pen) w.note-in-None.ensures.notes w.note-in-None.ensures.carried
          (noting.keeps _ (of_none c.step.new.self.yard.words c.step.result.told.changed c.step.result.told.before w.in-None.is w.new.result w.new.ensures)) in
          subst (λ (q : Pen). Left g c q c.match-changed.pass) (sym w.pen-is)
          (after.0, after.1, after.2, hand_noted (id_of c.args.board.now) c.args.pass.now c.match-changed.pass (carried c.args.pen.now) (carried w.note-in-None.new.pen) opened ns n c.requires.hand w.pass-is w.note-in-None.ensures.carried)
    ]

pub returns-clause-hold : goal.returns-clause-hold
returns-clause-hold g c = (left g c).0

pub returns-clause-holds : goal.returns-clause-holds
returns-clause-holds g c = rw c.of.ensures (left g c).1

pub returns-clause-hand : goal.returns-clause-hand
returns-clause-hand g c = (left g c).3

pub returns-clause-moments : goal.returns-clause-moments
returns-clause-moments g c =
    step_left (id_of c.args.board.now) (notes c.args.pen.now) c.args.yard.now.yard (g.D.Disk.device c.args.yard.now.disk)
    (carried c.args.pen.now) c.requires.hold c.args.event c.requires.may c.note_pin.new.self.yard c.step.new.self.yard c.number-number.result c.step.result.outcome
    c.step.result.told (g.D.Disk.device c.note_pin.new.self.disk) (g.D.Disk.device c.step.new.self.disk) (ap (λ d. g.D.Disk.device d) c.note_pin.ensures.disk)
    c.step.ensures.played _ (notes c.match-changed.pen) (left g c).2 (left g c).0.locked
    (stamp_now (what_of c.args.yard.now.yard.vault.format c.args.event c.step.result.outcome) (g.D.Disk.device c.step.new.self.disk).moment) (g.met.D.Disk.timely c.step.new.self.disk)

pub returns-clause-life : goal.returns-clause-life
returns-clause-life g c =
    held_keeps c.args.yard.now.yard c.note_pin.new.self.yard c.step.new.self.yard c.number-number.result c.pin.result c.note_pin.ensures.yard c.number-number.result c.args.event c.step.result.outcome c.step.result.told
    (g.D.Disk.device c.args.yard.now.disk) (g.D.Disk.device c.note_pin.new.self.disk) (g.D.Disk.device c.step.new.self.disk) (ap (λ d. g.D.Disk.device d) c.note_pin.ensures.disk) c.step.ensures.played

pub returns-clause-device : goal.returns-clause-device
returns-clause-device g c = λ fault.
    subst (λ (d : Device). d.faults < (g.D.Disk.device c.step.new.self.disk).faults) (ap (λ d. g.D.Disk.device d) c.note_pin.ensures.disk) (c.step.ensures.played.failed fault).call.faults

pub returns-clause-covered : goal.returns-clause-covered
returns-clause-covered g c =
    spares c.args.yard.now.yard c.note_pin.new.self.yard c.number-number.result c.pin.result c.note_pin.ensures.yard c.number-number.result c.args.event c.step.result.outcome c.step.new.self.yard c.step.result.told
    (g.D.Disk.device c.args.yard.now.disk) (g.D.Disk.device c.note_pin.new.self.disk) (g.D.Disk.device c.step.new.self.disk) (ap (λ d. g.D.Disk.device d) c.note_pin.ensures.disk) c.step.ensures.played
