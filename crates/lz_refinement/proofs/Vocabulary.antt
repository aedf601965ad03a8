-- The types and definitions of the crates below that the proofs speak of, each with the file that it comes from. A type's variants are
-- imported from the type, and a lemma from its own file.
pub use Rattle.lz_slot.specs.{Bytes.{Holds}, Counted.{of_pass, set_of_pass}}
pub use Rattle.lz_slot.specs.{Histories.{ChainTo, Fits, History, IsCalled, IsUnderWay, Life, Runs, last_history, lives, with_mark}, Limits.{largest_key}}
pub use Rattle.lz_slot.specs.{Sets.{HasMembers, Keys, Same, after, key_of, members, moved, replies, reply, set_after}, declared.command.Command.{Command}}
pub use Rattle.lz_slot.specs.declared.{format.Format.{Format}, history.HistoryEvent.{HistoryEvent}}
pub use Rattle.lz_disk.specs.{Devices.{Device, IsTimely}, Images.{IsImage, Medium, at_rest}}
pub use Rattle.lz_vault.specs.Vaults.{DeviceCall, LeavesEither, MayFail, NoCall, Succeeds, SyncAll, Vaulted, WriteAt, last_sync, medium_after, syncs_after}
pub use Rattle.lz_vault.specs.declared.vault.Stage.{Stage}
pub use Rattle.lz_allot.specs.Uses.{Free, Limbo, Taken, Use, collect, collect_at, counts, give_back, has_left, is_free, is_outside, lowest_free, see_pin}
pub use Rattle.lz_allot.specs.{Uses.{see_pin_at, sight_after, use_of}, declared.{counts.Counts.{Counts}, sight.Sight.{Sight}}}
pub use Rattle.lz_list.specs.{Hops.{LeadsOn, told}, Lists.{IsWord}, Locks.{check, is_pair_free}, Pinned.{IsQuiet}, Traces.{Begins, IsLoose, Lawful, SettledNo}}
pub use Rattle.lz_list.specs.Traces.{SettledYes, Trace, bucket_of, chain_of, halt_word, has_key, is_removed, is_settled, key_word, linking, linking_in, member}
pub use Rattle.lz_list.specs.{Traces.{next_link, on, opening, word_after}, Walks.{End, Hopped, More, hopped, wants}}
pub use Rattle.lz_list.specs.{Words.{Words, change_flags, get, redirect, set, word_of}, declared.{place.Place.{Place}, publishing.Publishing.{Publishing}}}
pub use Rattle.lz_list.specs.declared.{walk.{Look.{Look}, Met.{Met}, Walk.{Walk}}, word.Word.{Word}, layout.Sizes.{Sizes}}
pub use Rattle.lz_list.specs.Addresses.{index, word_at, sizes_in}
pub use Rattle.lz_flush.specs.{Settling.{may_answer, settle}, declared.need.Need.{Need}}
pub use Rattle.lz_machine.specs.Alone.{IsPlain, has_cut}
pub use Rattle.lz_machine.specs.CallersSound.{CallerSound, IsCaller, IsSettledChange, MayRest, Relies, RestsNo, RestsYes, View, is_before_pin, side_of, view_of}
pub use Rattle.lz_machine.specs.Calls.{after_see_pin, begun, changes, event_at, events_of, first_progress, goes_on, halt_loaded, hops_on, loaded}
pub use Rattle.lz_machine.specs.{Calls.{progress_after, rests, walked}, CallsStand.{is_out, own_change, trace_outside}}
pub use Rattle.lz_machine.specs.{Halts.{HaltLasts, IsLate, IsLateReply, failed_in, told_device}, Kept.{upto}, Lasts.{Lasts}}
pub use Rattle.lz_machine.specs.{Laws.{KeepsRun, SameBut, hop_of, hop_of_caller, is_of, next_hop}, Limbo.{IsAway}, LocksSound.{RestsOn}}
pub use Rattle.lz_machine.specs.{Marks.{IsOpenCall, IsTold, MayFollow}, Notes.{Notes}, Orders.{Calling, HasPass, IsLoading, MayTake, shape_with}}
pub use Rattle.lz_machine.specs.{Ready.{IsEventOf, IsReadyFor}, Runs.{Caller, Calls, CrashesIn, Down, Fails, HasFault, HasTurn, IsRun, IsStart, Looks, MayPlay}}
pub use Rattle.lz_machine.specs.Runs.{MayStep, Point, Reached, SameButPins, Service, Start, State, Transition, Turn, Up, after_fault, after_turn, caller_at}
pub use Rattle.lz_machine.specs.Runs.{calls_made_after, first_point, invoked, looked, mark_of, mark_of_turn, marks_of, marks_of_turn, moved_on, next_event}
pub use Rattle.lz_machine.specs.Runs.{opened_service, reply_at, run, start_keys, state_after, trace_after, turn_publishes, with_words}
pub use Rattle.lz_machine.specs.{SlotsSound.{SlotStands, SlotsSound, is_held, is_limbo, is_node}, Sound.{Sound, TraceSound}, Table.{actors_after, call_of}}
pub use Rattle.lz_machine.specs.Table.{call_on, changed_on, course, course_alive, given_back, is_old, is_played_dead, is_spent, is_sure, is_unused, kept_slot}
pub use Rattle.lz_machine.specs.Table.{last_pin, line, line_call, line_changes, line_failed, line_on, line_publishes, needs, needs_of, node_of, outcome_of}
pub use Rattle.lz_machine.specs.Table.{pin_answered, pin_of, published_on, publishes, released, reserved, set_actor, settling, slot_found, slot_of, stays_out}
pub use Rattle.lz_machine.specs.Table.{uses_after, vault_failed, with_hold, with_slot, word_changed, words_after, yard_done}
pub use Rattle.lz_machine.specs.Yards.{IsInside, Shape, Yard, actor_at, cell_at, first_trace, idle_actor, opened_yard, pin_in, slots_read}
pub use Rattle.lz_machine.specs.declared.{actor.{Actor.{Actor}, LockPhase.{LockPhase}}, caller.{Progress.{Progress}, Sequence.{Sequence}}, course.Course.{Course}}
pub use Rattle.lz_machine.specs.declared.event.{Event.{Event}, Outcome.{Outcome}, Reply.{Reply}}
pub use Rattle.lz_yard.specs.{Begun.{begun_after}, Walking.{look_at, looking, walk_at, walk_of, with_look}}
pub use Rattle.lz_yard.specs.{Filling.{OpensYard}, Steps.{Played, value_of}, declared.told.Told.{Told}}
pub use Rattle.lz_board.specs.{Walkers.{IsWalkable, Walked}, Glances.{Between, Changes, Glanced, GlancedUnsettled}}
pub use Rattle.lz_board.specs.{Kept.{Knows, PinTold, is_calling, shows, shows_played}, Notes.{AllShown, Extends, InOrder, IsShared, Quiet, Shown, Since}}
pub use Rattle.lz_board.specs.Notes.{as_list, insert_load, is_for, load_note, moment_at, note_by, own, pin_after, pin_after_played, pin_after_what, place}
pub use Rattle.lz_board.specs.Notes.{placed, shape_of_sizes, splice, stamp_of, stamped, steps_of, trace_of, turned_at, unless_replied}
pub use Rattle.lz_board.specs.{Noting.{AllLeft, HasLeft, IsStep, KeepsPin, MayNote, MayPrepare, MovesPin, Sighting, Writes}, Opened.{AreOpened, opened_by}}
pub use Rattle.lz_board.specs.Plays.{IsShownTo, found_note, fresh, knowing, loading, moved_part, noted, noted_part}
pub use Rattle.lz_board.specs.{Seats.{BoardId, IsAtHand, IsPenOf, carried, id_of, notes, part}, Ways.{Rests}, declared.board.Pen.{Pen}}
pub use Rattle.lz_board.specs.declared.{moment.Moment.{Moment}, pass.Pass.{Pass}, view.{Load.{Load}, Note.{Note}, Part.{Part}, What.{What}}}
