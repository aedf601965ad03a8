-- The step of a pass that has joined the pen, in the words of the code that plays it: its number and its pin word are read at run time.
use Rattle.lz_refinement.proofs.Hold.NotedStep as step
use Rattle.lz_refinement.proofs.Hold.PlayedCall as call
use Rattle.lz_refinement.proofs.Hold.PlayedTurn as turn_of
use Rattle.std.proofs.Common.{◌≡◌, ℕ, List, refl, sym, ap, ◌∙◌, subst, None}
use Rattle.lz_refinement.proofs.Vocabulary.{Command, Format, Device, set, Event, Outcome, Yard, Calling, IsEventOf, MayPlay, with_words, Told, Note, Part, What}
use Rattle.lz_refinement.proofs.Vocabulary.{Moment, moment_at, note_by, stamp_of, stamped, KeepsPin, MovesPin, noted, noted_part, moved_part, BoardId}
use Rattle.lz_refinement.{proofs.Hold.NotedStep.{NotedStep}, specs.Holds.{InHold, IsTurn, MayTurn, Turned, HoldNotes, begins_with, what_of}}
use Rattle.lz_list.specs.declared.word.Word.TheVariants.{Pin as pin_at}
use Rattle.lz_machine.{specs.declared.event.Event.TheVariants.{Invoke}, proofs.Runs.EventRange.{is_event}}
use Rattle.lz_yard.specs.Steps.{Played as PlayedOver}

module _ (b : BoardId) (ns : List Note) (y : Yard) (dev : Device) (h : Part) (hold : InHold b ns y dev h) (e : Event) (may : MayTurn b.sizes ns h e)
    (p pin : ℕ) (number : p ≡ h.number) (pin_is : pin ≡ h.pin) (y1 : Yard) (told_of : y1 ≡ with_words y (set y.words (pin_at p) pin)) (dev1 : Device) (same : dev1 ≡ dev) where
  abbrev z : Yard
  z = with_words y (set y.words (pin_at h.number) h.pin)

  there : y1 ≡ z
  there = told_of ∙ (λ i. with_words y (set y.words (pin_at (number i)) (pin_is i)))

  plays : MayPlay z dev.honest dev.medium h.number e
  plays = go e may
    where
      go : (e : Event) → MayTurn b.sizes ns h e → MayPlay z dev.honest dev.medium h.number e
      go (Invoke c) may = call.plays b ns y dev h hold c may
      go e may = turn_of.plays b ns y dev h hold may.0 e may.1

  pub asks : IsEventOf y1 e
  asks = subst (λ q. IsEventOf q e) (sym there) (is_event z dev.honest dev.medium h.number e plays)

  pub may_play : MayPlay y1 dev1.honest dev1.medium p e
  may_play = subst (λ (q : Yard × Device × ℕ). MayPlay q.0 q.1.honest q.1.medium q.2 e) (λ i. (sym there i, sym same i, sym number i)) plays

  module _ (o : Outcome) (z' : Yard) (told : Told) (dev' : Device) (played : PlayedOver y1 p e o z' told dev1 dev') (shape : z'.shape ≡ y1.shape) (what : What) (tells : what ≡ what_of z'.vault.format e o)
      (moment : Moment) (now : moment ≡ moment_at (stamp_of what dev'.moment)) where
    gave : PlayedOver z h.number e o z' told dev dev'
    gave = subst (λ (q : Yard × ℕ × Device). PlayedOver q.0 q.1 e o z' told q.2 dev') (λ i. (there i, number i, same i)) played

    same_shape : z'.shape ≡ z.shape
    same_shape = shape ∙ ap (λ (q : Yard). q.shape) there

    abbrev n : Note
    n = note_by h.number (what_of y.vault.format e o) told.published

    same_what : what ≡ what_of y.vault.format e o
    same_what = tells ∙ go e may gave
      where
        go : (e : Event) → MayTurn b.sizes ns h e → PlayedOver z h.number e o z' told dev dev' → what_of z'.vault.format e o ≡ what_of y.vault.format e o
        go (Invoke c) may done = ap (λ (f : Format). what_of f (Invoke c) o) (call.same_format b ns y dev h hold c may o z' told dev' done)
        go e may done = refl

    noted_so : NotedStep b ns h z' told dev' (stamped dev'.moment n)
    noted_so = go e may gave
      where
        go : (e : Event) → MayTurn b.sizes ns h e → PlayedOver z h.number e o z' told dev dev' → NotedStep b ns h z' told dev' (stamped dev'.moment (note_by h.number (what_of y.vault.format e o) told.published))
        go (Invoke c) may done = call.noted_call b ns y dev h hold c may o z' told dev' done
        go e may done = turn_of.noted_turn b ns y dev h hold may.0 e may.1 o z' told dev' done same_shape

    -- the note as the code has it
    abbrev made : Note
    made = record { by = p; what = what; published = told.published; moment = moment }

    same_note : made ≡ stamped dev'.moment n
    same_note i = record { by = number i; what = same_what i; published = told.published; moment = (now ∙ ap (λ (w : What). moment_at (stamp_of w dev'.moment)) same_what) i }

    pub noting : NotedStep b ns h z' told dev' made
    noting = subst (NotedStep b ns h z' told dev') (sym same_note) noted_so

    pub turned : (c : Calling) → IsTurn ns h c e → Turned b.opened ns h c.command c.progress e o told.published
    turned c turn = turn_of.turned b ns y dev h hold c e turn o z' told dev' gave same_shape

    pub began : (c : Command) → e ≡ Invoke c → (o ≡ begins_with y.vault.format c) × (told.published ≡ None)
    began c is = go (subst (MayTurn b.sizes ns h) is may) (subst (λ (e : Event). PlayedOver z h.number e o z' told dev dev') is gave)
      where
        go : MayTurn b.sizes ns h (Invoke c) → PlayedOver z h.number (Invoke c) o z' told dev dev' → (o ≡ begins_with y.vault.format c) × (told.published ≡ None)
        go may done = (call.outcome_is b ns y dev h hold c may o z' told dev' done, call.nothing b ns y dev h hold c may o z' told dev' done)

    -- the notes and the part after it
    module _ (ns' : List Note) (h' : Part) (notes : ns' ≡ noted b.opened ns h made) where
      abbrev After : List Note → Part → Type 0
      After r q = InHold b r z' dev' q × HoldNotes b.opened ns r n h q × (r ≡ noted b.opened ns h (stamped dev'.moment n))

      noted_now : noted b.opened ns h made ≡ noted b.opened ns h (stamped dev'.moment n)
      noted_now = ap (noted b.opened ns h) same_note

      pub after_note : h' ≡ noted_part b.opened ns made h → KeepsPin h made → After ns' h'
      after_note part keeps = subst (λ (q : List Note × Part). After q.0 q.1) (λ i. (sym notes i, sym part i))
          (step.hold_noted b ns y dev h hold z' told dev' made noting keeps, step.holds_noted b ns y dev h hold z' told dev' made noting keeps dev'.moment n same_note, noted_now)

      pub after_move : h' ≡ moved_part b.opened ns made h → MovesPin h made → After ns' h'
      after_move part moves = subst (λ (q : List Note × Part). After q.0 q.1) (λ i. (sym notes i, sym part i))
          (step.hold_moved b ns y dev h hold z' told dev' made noting moves, step.holds_moved b ns y dev h hold z' told dev' made noting moves dev'.moment n same_note, noted_now)
