-- What a run of commands does, by the one pass of a set, and what it leaves of the disk.
use Rattle.lz_proto.specs.declared.end.End.TheVariants as ends
use Rattle.std.specs.{Prelude.{◌≡◌, ◌⊎◌, ℕ, ◌≤◌, ◌<◌, Bool, false, Option, Result, Ok, List, [], ◌∷◌, ◌++◌}, Io.KnownBytes.{Appends}}
use Rattle.lz_slot.specs.{Sets.{Keys}, Bytes.{Holds}, declared.format.Format.{Format}}
use Rattle.lz_disk.specs.{Images.{Medium, IsImage}, Devices.{Device, LeavesOnly}}
use Rattle.lz_vault.specs.Vaults.{last_sync}
use Rattle.lz_proto.specs.{Lines.{Items}, declared.{item.Item.{Item}, request.Request.{Request}, reply.Reply.{Reply, TheVariants.{Halted}}, end.End.{End}}}
use Rattle.lz_proto.specs.{declared.fault.SessionFault.{SessionFault}, Sessions.{IsInput, Serves, SessionTells, Writes, session_text}}
use Rattle.lz_yard.specs.Filling.{OpensYard}
use Rattle.lz_board.specs.{declared.{pass.Pass.{Pass}, view.Note.{Note}}, Notes.{Extends, trace_of}, Opened.{opened_by}, Seats.{BoardId, IsNew, part}}
use Rattle.lz_refinement.specs.{Holds.{sizes_of}, Sessions.{TellsAlone}}
use Rattle.lz_set.specs.{Blanks.{BlankOver}, Left.{IsLeft}}
use Rattle.lz_serve.specs.Replies.{SeatAnswers}
use Rattle.lazyset_file_commands.specs.{Ends.{session_status}, Marks.{texts_mark}, declared.status.Status.{Status}}
use Rattle.lazyset_set_commands.specs.{Looks.{HasLooked}, PlainReplies.{PassAnswers}}

-- each image of the disk is a file of N slots that holds the set S
abbrev pub EachHolds : Medium → ℕ → Keys → Type 0
EachHolds disk N S = (t : List ℕ) → IsImage disk t → Holds t N S

-- A new pass of a set has looked for the mark of texts, and then served a session, whose end gives the status. What is left of the disk
-- tells a history, of which the pass has seen a beginning, since the disk was like `first`: in a set of one pass, of the pass's own calls
-- alone. It halts only where the device failed since, or has made its last sync.
pub record ServedSeat (b : BoardId) (first : Device) (F : Format) (status : Status) (input rest before after : Option (List ℕ)) (disk : Device) : Type 0 where
  pub begun : Pass
  pub fresh : IsNew b begun
  pub mark : Bool
  pub looked : Pass
  pub looks : HasLooked texts_mark mark (part begun) (part looked)
  pub done : Pass
  pub ended : Result End SessionFault
  pub status_is : status ≡ session_status ended
  pub tells : Writes before after (λ written. SessionTells (SeatAnswers b F false) input rest looked done written ended)
  pub notes : List Note
  pub left : IsLeft b first notes disk
  pub since : Extends (trace_of b.opened notes) (part done).known
  pub alone : b.sizes.passes ≡ 1 → TellsAlone b notes (part done)
  pub halts : ended ≡ Ok ends.Halted → (last_sync ≤ left.yard.vault.syncs) ⊎ (first.faults < disk.faults)

-- The disk was opened as a set of so many buckets and of one pass, and that pass served a session.
pub record RanSeat {D : Type 0} (device : D → Device) (buckets : ℕ) (status : Status) (input rest before after : Option (List ℕ)) (old new : D) : Type 0 where
  pub opened : BlankOver D
  pub opens : OpensYard (device old) (device opened.disk) buckets 1 opened.yard
  pub sizes : opened.board.sizes ≡ sizes_of opened.yard.shape
  pub trace : opened.board.opened ≡ opened_by opened.yard.words
  pub served : ServedSeat opened.board (device opened.disk) opened.yard.vault.format status input rest before after (device new)

-- What was written is the session text of the input's items and the replies of the plain set, served by a pass, over a file of
-- the format F, beginning with S, and each image holds the last set.
pub record RepliesOfPass (F : Format) (N : ℕ) (S : Keys) (input before after : Option (List ℕ)) (disk : Medium) : Type 0 where
  pub text : List ℕ
  pub known : IsInput input text
  pub items : List Item
  pub its : Items text items
  pub replies : List Reply
  pub last : Keys
  pub served : Serves (PassAnswers F N) S items replies last
  pub written : Appends before after (session_text items replies)
  pub held : EachHolds disk N last

-- a session's service that only collects the replies, the oldest first
abbrev pub Collects : List Reply → Request → Reply → List Reply → Type 0
Collects old request reply new = new ≡ old ++ reply ∷ []

-- These are the first ones of all the replies; the last may be `halted` in the place of any other, where its command is under way.
abbrev pub AreFirst : List Reply → List Reply → Type 0
AreFirst [] all = Unit {0}
AreFirst (reply ∷ replies) [] = ⊥
AreFirst (Halted ∷ []) (other ∷ all) = Unit {0}
AreFirst (reply ∷ replies) (other ∷ all) = (reply ≡ other) × AreFirst replies all

-- The text holds the set after some first ones of the items, which it answers with the first ones of all the replies; the last of
-- these may be under way, done or not.
pub record FoundAfter (A : Keys → Request → Reply → Keys → Type 0) (N : ℕ) (S : Keys) (items : List Item) (all : List Reply) (t : List ℕ) : Type 0 where
  pub done : List Item
  pub rest : List Item
  pub first : items ≡ done ++ rest
  pub replies : List Reply
  pub told : AreFirst replies all
  pub found : Keys
  pub served : Serves A S done replies found
  pub held : Holds t N found

-- this is so of the input's items
abbrev pub OfInput : Option (List ℕ) → (List Item → Type 0) → Type 0
OfInput input P = (text : List ℕ) × IsInput input text × ((items : List Item) × Items text items × P items)

-- The session is that of a set which answers so, beginning with S, and what was written tells its replies. Each image of what is
-- left holds a set in which it may have ended: one command that was answered `halted` may have been done or not. A crash at any
-- moment leaves what it might have left before, or the set after some first ones of these replies.
pub record SessionOfSet (A : Keys → Request → Reply → Keys → Type 0) (N : ℕ) (S : Keys) (status : Status) (input rest before after : Option (List ℕ)) (old new : Device) : Type 0 where
  pub ended : Result End SessionFault
  pub status_is : status ≡ session_status ended
  pub written : List ℕ
  pub appended : Appends before after written
  pub replies : List Reply
  pub told : SessionTells Collects input rest [] replies written ended
  pub each : (t : List ℕ) → IsImage new.medium t → (T : Keys) × SessionTells A input rest S T written ended × Holds t N T
  pub any_moment : OfInput input (λ items. LeavesOnly old new (λ t. IsImage old.medium t ⊎ FoundAfter A N S items replies t))
