-- What one event does to a yard over any device: the words of the contract of `Yard::step`.
use Rattle.std.specs.Prelude.{◌≡◌, ◌≢◌, ℕ, Option, Some, None, IfSome, option_to_list}
use Rattle.lz_vault.specs.Vaults.{NoCall, Succeeds, Fails}
use Rattle.lz_disk.specs.Devices.{Device}
use Rattle.lz_list.specs.{declared.word.Word.{Word}, Words.{Words, get}, Lists.{IsWord}}
use Rattle.lz_machine.specs.{declared.{actor.Actor.{Actor}, event.{Event.{Event}, Outcome.{Outcome, TheVariants.{Fault}}}}, Yards.{Yard}}
use Rattle.lz_machine.specs.Table.{line, line_failed, line_call, line_changes, line_publishes, word_changed, publishes}
use Rattle.lz_yard.specs.declared.told.Told.{Told}

-- what a word is, 0 where there is none
abbrev pub value_of : Words → Option Word → ℕ
value_of w None = 0
value_of w (Some word) = get w word

-- nothing was changed
abbrev pub nothing_told : Told
nothing_told = record { changed = None; before = 0; published = None }

-- What is told of an event that is played: its word and what that was, and what it publishes.
pub record Tells (y : Yard) (actor : Actor) (a : ℕ) (e : Event) (told : Told) : Type 0 where
  pub word : told.changed ≡ word_changed y actor a e
  pub there : IfSome told.changed (IsWord y.words)
  pub was : told.before ≡ value_of y.words told.changed
  pub published : option_to_list told.published ≡ publishes y actor a e

-- The yard, the outcome, the word that was changed, which is one of the yard's, and what was published are those of the
-- event's line, and its device call, if it has one, succeeded. The call's record says what the medium is then, and that at
-- each moment of the call each image is one of the disk before it or after it.
pub record IsDone (old : Yard) (a : ℕ) (e : Event) (outcome : Outcome) (new : Yard) (told : Told) (before after : Device) : Type 0 where
  pub yard : new ≡ (line old a e).0
  pub answer : outcome ≡ (line old a e).1
  pub word : told.changed ≡ line_changes old a e
  pub there : IfSome told.changed (IsWord old.words)
  pub was : told.before ≡ value_of old.words (line_changes old a e)
  pub published : option_to_list told.published ≡ line_publishes old a e
  pub call : Succeeds (line_call old a e) before after

-- The same of an event that has a device call, which failed: no word is changed, nothing is published, and the device's
-- count of failures rose.
pub record IsFailed (old : Yard) (a : ℕ) (e : Event) (new : Yard) (told : Told) (before after : Device) : Type 0 where
  pub yard : new ≡ (line_failed old a e).0
  pub nothing : told ≡ nothing_told
  pub asked : line_call old a e ≢ NoCall
  pub call : Fails (line_call old a e) before after

-- One event was played over a device: it is as the event's line says, or as the line says of its device call failing.
pub record Played (old : Yard) (a : ℕ) (e : Event) (outcome : Outcome) (new : Yard) (told : Told) (before after : Device) : Type 0 where
  pub done : outcome ≢ Fault → IsDone old a e outcome new told before after
  pub failed : outcome ≡ Fault → IsFailed old a e new told before after
