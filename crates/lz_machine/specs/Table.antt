-- The table of the nineteen events: what each needs, which device call it makes, what it changes and what it answers.
use Rattle.std.specs.Prelude.{ℕ, ◌+◌, ◌^◌, Bool, true, false, not, ◌&&◌, ◌||◌, ◌==◌, if◌then◌else◌, List, [], ◌∷◌, map, slice_set, Option, Some, None, is_some}
use Rattle.std.specs.Prelude.{nat_lt, unwrap_or}
use Rattle.lz_slot.specs.{declared.{command.Command.{Command, TheVariants.{Add}}, format.Format.{Format}}, Rooms.{largest_of}, Counted.{set_of_pass}}
use Rattle.lz_vault.specs.declared.vault.Stage.{Stage, TheVariants.{Closed, Keyed, Opening, Open, Closing}}
use Rattle.lz_vault.specs.Stages.{Cell, cell_synced, stage_put, is_closed, is_keyed, is_covered, is_free}
use Rattle.lz_vault.specs.Vaults.{Vaulted, DeviceCall, NoCall, SyncAll, key_call, opening_call, closing_call, last_sync, syncs_after, cells_failed, died}
use Rattle.lz_allot.specs.Uses.{Use, collect, lowest_free, take_slot, give_back, retire, see_pin, counts, is_outside}
use Rattle.lz_list.specs.declared.{place.Place.{Place, TheVariants.{Node}}, word.Word.{Word}}
use Rattle.lz_list.specs.declared.word.Word.TheVariants.{Link as link_at, Key as key_at, Pin as pin_at, Halt as halt_word}
use Rattle.lz_list.specs.declared.publishing.{Change.TheVariants.{Added, Removed}, Publishing.{Publishing, TheVariants.{Linked as linked, Settled as settled}}}
use Rattle.lz_list.specs.declared.publishing.Publishing.TheVariants.{Marked as marked, Unlinked as unlinked, KeyPrepared as key_prepared}
use Rattle.lz_list.specs.declared.publishing.Publishing.TheVariants.{LinkPrepared as link_prepared, Halted as halted}
use Rattle.lz_list.specs.Words.{Words, get, set, redirect, next_at, link_to, word_of, is_marked_at, change_flags, marked_flags}
use Rattle.lz_list.specs.Locks.{NodeLocks, is_pair_free, pair_owned, check}
use Rattle.lz_flush.specs.Settling.{settle}
use Rattle.lz_machine.specs.declared.event.Event.{Event, TheVariants.{Invoke, Pin, Hop, Reserve, WriteKey, Claim, Check, WriteOpen, Link, WriteClose, Mark}}
use Rattle.lz_machine.specs.declared.event.{Event.TheVariants.{Release, Sync, Settle, Unlink, Retire, SeePin, Answer, Halt}, Outcome.{Outcome}}
use Rattle.lz_machine.specs.declared.event.Outcome.TheVariants.{Done, Value, Slot, NoSlot, Taken, Busy, True, False, Early, Worn, OldFile, NotNow, Fault, Dead}
use Rattle.lz_machine.specs.declared.actor.LockPhase.{LockPhase, TheVariants.{Nothing, Locks, Checked, GateOpened, Linked, GateClosed, Marked, Unlinked, Released}}
use Rattle.lz_machine.specs.{declared.{actor.Actor.{Actor}, course.Course.{Course, TheVariants.{Refused, Dies, Plays}}}, Yards.{Yard, actor_at, cell_at}}

abbrev pub last_pin : ℕ
last_pin = 2 ^ 62

abbrev pub pin_of : Yard → ℕ → ℕ
pin_of y a = get y.words (pin_at a)

-- an actor whose pass is worn, or whose call the file's format refused, answers without a pin
abbrev pub stays_out : Actor → ℕ → Bool
stays_out actor pin = (pin == last_pin) || (is_outside pin && actor.refused)

-- the pin word of an actor after its Answer
abbrev pub pin_answered : Actor → ℕ → ℕ
pin_answered actor pin = if stays_out actor pin then pin else pin + 1

-- an actor's slot, where it has one, and the slot of the node that it claimed last
abbrev pub slot_of : Actor → ℕ
slot_of actor = unwrap_or actor.slot 0

abbrev pub node_of : Actor → ℕ
node_of actor = unwrap_or actor.curr 0

abbrev pub has_stage : Stage → Stage → Bool
has_stage Closed stage = is_closed stage
has_stage Keyed stage = is_keyed stage
has_stage _ stage = false

-- What an actor may do, by how far it has come since its claim.
abbrev pub may_claim : LockPhase → Bool
may_claim Nothing = true
may_claim Released = true
may_claim _ = false

-- nothing may have been done under the locks yet, so that a test can't be made again after a gate
abbrev pub may_check : LockPhase → Bool
may_check Locks = true
may_check Checked = true
may_check _ = false

abbrev pub has_checked : LockPhase → Bool
has_checked Checked = true
has_checked _ = false

abbrev pub has_opened : LockPhase → Bool
has_opened GateOpened = true
has_opened _ = false

abbrev pub has_closed : LockPhase → Bool
has_closed GateClosed = true
has_closed _ = false

abbrev pub has_marked : LockPhase → Bool
has_marked Marked = true
has_marked _ = false

abbrev pub may_release : LockPhase → Bool
may_release Locks = true
may_release Checked = true
may_release Linked = true
may_release Unlinked = true
may_release _ = false

abbrev pub may_retire : LockPhase → Bool
may_retire Released = true
may_retire _ = false

-- an Add of a key that a file of this format can't hold
abbrev pub is_old : Format → Command → Bool
is_old format (Add k) = nat_lt (largest_of format) k
is_old format _ = false

-- The needs of each event.
abbrev pub needs_of : Yard → Actor → ℕ → Event → Bool
needs_of y actor pin (Invoke c) = true
needs_of y actor pin Pin = is_outside pin
needs_of y actor pin (Hop word) = not (is_outside pin)
needs_of y actor pin Reserve = not (is_some actor.slot)
needs_of y actor pin (WriteKey k) = is_some actor.slot && not (has_opened actor.hold)
needs_of y actor pin (Claim pred curr) = may_claim actor.hold
needs_of y actor pin Check = may_check actor.hold
needs_of y actor pin WriteOpen = has_checked actor.hold && is_some actor.slot && has_stage Keyed (cell_at y (slot_of actor)).stage
needs_of y actor pin Link = has_opened actor.hold
needs_of y actor pin WriteClose = has_checked actor.hold && is_some actor.curr && not (is_marked_at y.words (Node (node_of actor)))
needs_of y actor pin Mark = has_closed actor.hold
needs_of y actor pin Release = may_release actor.hold
needs_of y actor pin (Sync s) = true
needs_of y actor pin (Settle s) = true
needs_of y actor pin Unlink = has_marked actor.hold && is_some actor.curr && has_stage Closed (cell_at y (node_of actor)).stage
needs_of y actor pin Retire = may_retire actor.hold
needs_of y actor pin (SeePin p value) = true
needs_of y actor pin Answer = not (is_outside pin) || stays_out actor pin
needs_of y actor pin Halt = y.vault.dead

abbrev pub needs : Yard → ℕ → Event → Bool
needs y a e = needs_of y (actor_at y a) (pin_of y a) e

-- these are played on a dead vault too
abbrev pub is_played_dead : Event → Bool
is_played_dead (Invoke c) = true
is_played_dead Pin = true
is_played_dead (Hop word) = true
is_played_dead Answer = true
is_played_dead Halt = true
is_played_dead _ = false

-- a slot's last write is durable, as its stage tells
abbrev pub is_sure : Yard → ℕ → Bool
is_sure y s = is_covered (cell_at y s).stage

-- a Claim of this pair would find it taken
abbrev pub is_taken : Yard → Place → Option ℕ → Bool
is_taken y pred curr = not y.vault.dead && not (is_pair_free y.locks pred curr)

-- no sync is left in this life
abbrev pub is_spent : Yard → Bool
is_spent y = y.vault.syncs == last_sync

-- the device call of each event
abbrev pub call_of : Yard → Actor → Event → DeviceCall
call_of y actor (WriteKey k) = key_call y.vault.format (cell_at y (slot_of actor)).stage (slot_of actor) k
call_of y actor WriteOpen = opening_call y.vault.format (slot_of actor) (cell_at y (slot_of actor)).key
call_of y actor WriteClose = closing_call y.vault.format (node_of actor)
call_of y actor (Sync s) = if is_sure y s then NoCall else SyncAll
call_of y actor _ = NoCall

abbrev pub with_stage : Yard → ℕ → Stage → ℕ → List Cell
with_stage y s stage k = slice_set y.vault.cells s (record { stage = stage; key = k })

-- the slots' cells after each event, where its device call, if it has one, succeeds
abbrev pub cells_after : Yard → Actor → Event → List Cell
cells_after y actor (WriteKey k) = with_stage y (slot_of actor) (stage_put y.vault.format (cell_at y (slot_of actor)).stage) k
cells_after y actor WriteOpen = with_stage y (slot_of actor) Opening (cell_at y (slot_of actor)).key
cells_after y actor WriteClose = with_stage y (node_of actor) Closing (cell_at y (node_of actor)).key
cells_after y actor (Sync s) = if is_sure y s then y.vault.cells else map cell_synced y.vault.cells
cells_after y actor _ = y.vault.cells

-- the vault after an event whose device call, if it has one, succeeds
abbrev pub vault_after : Yard → Actor → Event → Vaulted
vault_after y actor e = record y.vault { cells = cells_after y actor e; syncs = syncs_after (call_of y actor e) y.vault.syncs }

-- the vault after an event whose device call fails: a failed sync leaves all stages
abbrev pub vault_failed : Yard → Actor → Event → Vaulted
vault_failed y actor e = record y.vault { cells = cells_failed (call_of y actor e) y.vault.cells (cells_after y actor e); dead = true }

-- The words after each event.
abbrev pub words_after : Yard → Actor → ℕ → Event → Words
words_after y actor a Pin = set y.words (pin_at a) (get y.words (pin_at a) + 1)
words_after y actor a (WriteKey k) = set y.words (key_at (slot_of actor)) k
words_after y actor a WriteOpen = set y.words (link_at (slot_of actor)) (link_to actor.curr)
words_after y actor a Link = redirect y.words actor.pred (link_to actor.slot)
words_after y actor a Mark = change_flags marked_flags y.words (node_of actor)
words_after y actor a (Settle s) = if is_sure y s then change_flags (settle (cell_at y s).stage) y.words s else y.words
words_after y actor a Unlink = redirect y.words actor.pred (next_at y.words (Node (node_of actor)))
words_after y actor a Answer = if stays_out actor (pin_of y a) then y.words else set y.words (pin_at a) (get y.words (pin_at a) + 1)
words_after y actor a Halt = set y.words halt_word 1
words_after y actor a _ = y.words

-- What an event publishes to walkers, made for its actor. A settling publishes also where its flags were set.
abbrev pub settling : Stage → ℕ → List Publishing
settling Open s = settled s Added ∷ []
settling Closed s = settled s Removed ∷ []
settling _ s = []

abbrev pub publishes : Yard → Actor → ℕ → Event → List Publishing
publishes y actor a (WriteKey k) = key_prepared (slot_of actor) k ∷ []
publishes y actor a WriteOpen = link_prepared (slot_of actor) (link_to actor.curr) ∷ []
publishes y actor a Link = linked (get y.words (key_at (slot_of actor))) (slot_of actor) a ∷ []
publishes y actor a Mark = marked (get y.words (key_at (node_of actor))) (node_of actor) a ∷ []
publishes y actor a (Settle s) = settling (cell_at y s).stage s
publishes y actor a Unlink = unlinked (get y.words (key_at (node_of actor))) (node_of actor) a ∷ []
publishes y actor a Halt = halted ∷ []
publishes y actor a _ = []

-- the node locks after each event
abbrev pub locks_after : Yard → Actor → ℕ → Event → NodeLocks
locks_after y actor a (Claim pred curr) = if is_pair_free y.locks pred curr then pair_owned y.locks pred curr a else y.locks
locks_after y actor a Release = pair_owned y.locks actor.pred actor.curr 0
locks_after y actor a _ = y.locks

abbrev pub with_hold : Actor → LockPhase → Actor
with_hold actor hold = record actor { hold = hold }

abbrev pub released : LockPhase → LockPhase
released Unlinked = Released
released _ = Nothing

-- A slot that was reserved and not used is given back. One whose gate may be open counts as used: where the write of the
-- gate failed the slot stays taken, and stays its actor's.
abbrev pub is_unused : Stage → Bool
is_unused stage = is_free stage

abbrev pub kept_slot : Yard → Option ℕ → Option ℕ
kept_slot y None = None
kept_slot y (Some s) = if is_unused (cell_at y s).stage then None else Some s

abbrev pub set_actor : Yard → ℕ → Actor → List Actor
set_actor y a actor = set_of_pass y.actors a actor

abbrev pub with_slot : Actor → Option ℕ → Actor
with_slot actor slot = record actor { slot = slot }

-- What the actors have in hand after each event.
abbrev pub actors_after : Yard → Actor → ℕ → Event → List Actor
actors_after y actor a (Invoke c) = set_actor y a (record actor { refused = is_old y.vault.format c })
actors_after y actor a Reserve = set_actor y a (with_slot actor (lowest_free (collect y.uses)))
actors_after y actor a (Claim pred curr) =
    if is_pair_free y.locks pred curr then set_actor y a (record actor { hold = Locks; pred = pred; curr = curr }) else y.actors
actors_after y actor a Check = set_actor y a (with_hold actor (if check y.words actor.pred actor.curr then Checked else Locks))
actors_after y actor a WriteOpen = set_actor y a (with_hold actor GateOpened)
actors_after y actor a Link = set_actor y a (record actor { slot = None; hold = Linked })
actors_after y actor a WriteClose = set_actor y a (with_hold actor GateClosed)
actors_after y actor a Mark = set_actor y a (with_hold actor Marked)
actors_after y actor a Release = set_actor y a (with_hold actor (released actor.hold))
actors_after y actor a Unlink = set_actor y a (with_hold actor Unlinked)
actors_after y actor a Retire = set_actor y a (with_hold actor Nothing)
actors_after y actor a Answer = set_actor y a (with_slot actor (kept_slot y actor.slot))
actors_after y actor a _ = y.actors

abbrev pub given_back : Yard → Option ℕ → List Use
given_back y None = y.uses
given_back y (Some s) = if is_unused (cell_at y s).stage then give_back y.uses s else y.uses

abbrev pub reserved : List Use → Option ℕ → List Use
reserved uses None = uses
reserved uses (Some s) = take_slot uses s

-- The uses of the slots after each event.
abbrev pub uses_after : Yard → Actor → ℕ → Event → List Use
uses_after y actor a Reserve = reserved (collect y.uses) (lowest_free (collect y.uses))
uses_after y actor a Retire = retire y.shape.passes y.uses (node_of actor)
uses_after y actor a (SeePin p value) = see_pin p value y.uses
uses_after y actor a Answer = see_pin a (pin_answered actor (pin_of y a)) (given_back y actor.slot)
uses_after y actor a _ = y.uses

-- What each event answers.
abbrev pub slot_found : Option ℕ → List Use → Outcome
slot_found (Some s) uses = Slot s
slot_found None uses = NoSlot (counts uses)

abbrev pub outcome_of : Yard → Actor → Event → Outcome
outcome_of y actor (Invoke c) = if is_old y.vault.format c then OldFile else Done
outcome_of y actor (Hop word) = Value (get y.words word)
outcome_of y actor Reserve = slot_found (lowest_free (collect y.uses)) (collect y.uses)
outcome_of y actor (Claim pred curr) = if is_pair_free y.locks pred curr then Taken else Busy
outcome_of y actor Check = if check y.words actor.pred actor.curr then True else False
outcome_of y actor (Settle s) = if is_sure y s then Done else Early
outcome_of y actor _ = Done

abbrev pub with_vault : Yard → Vaulted → Yard
with_vault y vault =
    record { shape = y.shape; words = y.words; locks = y.locks; vault = vault; uses = y.uses; actors = y.actors }

-- the yard after an event that was done
abbrev pub yard_done : Yard → Actor → ℕ → Event → Yard
yard_done y actor a e =
    record {
      shape = y.shape;
      words = words_after y actor a e;
      locks = locks_after y actor a e;
      vault = vault_after y actor e;
      uses = uses_after y actor a e;
      actors = actors_after y actor a e;
    }

-- a pass that is worn isn't pinned
abbrev pub course_alive : Yard → ℕ → ℕ → Event → Course
course_alive y a pin Pin = if pin == last_pin then Refused Worn else Plays
course_alive y a pin (Sync s) = if not (is_sure y s) && is_spent y then Dies else Plays
course_alive y a pin _ = Plays

abbrev pub course : Yard → ℕ → Event → Course
course y a e =
    if y.vault.dead && not (is_played_dead e) then Refused Dead
    else if needs y a e then course_alive y a (pin_of y a) e
    else Refused NotNow

-- the line of an event whose device call, if it has one, succeeds: the yard after it and its outcome
abbrev pub line_on : Course → Yard → Actor → ℕ → Event → Yard × Outcome
line_on (Refused outcome) y actor a e = (y, outcome)
line_on Dies y actor a e = (with_vault y (died y.vault), Dead)
line_on Plays y actor a e = (yard_done y actor a e, outcome_of y actor e)

abbrev pub line : Yard → ℕ → Event → Yard × Outcome
line y a e = line_on (course y a e) y (actor_at y a) a e

-- the device call that an event makes, where it is played
abbrev pub call_on : Course → Yard → Actor → Event → DeviceCall
call_on Plays y actor e = call_of y actor e
call_on _ y actor e = NoCall

abbrev pub line_call : Yard → ℕ → Event → DeviceCall
line_call y a e = call_on (course y a e) y (actor_at y a) e

-- the line of an event whose device call fails
abbrev pub line_failed : Yard → ℕ → Event → Yard × Outcome
line_failed y a e = (with_vault y (vault_failed y (actor_at y a) e), Fault)

abbrev pub published_on : Course → Yard → Actor → ℕ → Event → List Publishing
published_on Plays y actor a e = publishes y actor a e
published_on _ y actor a e = []

-- what an event publishes, where its device call, if it has one, succeeds
abbrev pub line_publishes : Yard → ℕ → Event → List Publishing
line_publishes y a e = published_on (course y a e) y (actor_at y a) a e

-- the word that an event changes, where it is played: a settling writes its word also where its flags were set
abbrev pub word_changed : Yard → Actor → ℕ → Event → Option Word
word_changed y actor a Pin = Some (pin_at a)
word_changed y actor a (WriteKey k) = Some (key_at (slot_of actor))
word_changed y actor a WriteOpen = Some (link_at (slot_of actor))
word_changed y actor a Link = Some (word_of actor.pred)
word_changed y actor a Mark = Some (link_at (node_of actor))
word_changed y actor a (Settle s) = if is_sure y s then Some (link_at s) else None
word_changed y actor a Unlink = Some (word_of actor.pred)
word_changed y actor a Answer = if stays_out actor (pin_of y a) then None else Some (pin_at a)
word_changed y actor a Halt = Some halt_word
word_changed y actor a _ = None

abbrev pub changed_on : Course → Yard → Actor → ℕ → Event → Option Word
changed_on Plays y actor a e = word_changed y actor a e
changed_on _ y actor a e = None

-- the word that an event changes, where its device call, if it has one, succeeds
abbrev pub line_changes : Yard → ℕ → Event → Option Word
line_changes y a e = changed_on (course y a e) y (actor_at y a) a e
