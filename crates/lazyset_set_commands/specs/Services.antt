-- What a service of a set does: its passes are served, each by a thread, or by loops.
use Rattle.std.specs.{Prelude.{◌≡◌, ◌⊎◌, ◌≤◌, ◌<◌, ℕ, All, List, [], ◌∷◌, ◌++◌, codes, decimal, length, Option, None, Some, Result, Ok, Err}, List.{Any}}
use Rattle.lz_slot.specs.Limits.{most_buckets, most_passes}
use Rattle.lz_disk.specs.Devices.{Device}
use Rattle.lz_vault.specs.{Opens.{IsRefusedFor}, Vaults.{last_sync}, declared.opening.OpenFault.{OpenFault}}
use Rattle.lz_yard.specs.Filling.{OpensYard}
use Rattle.lz_board.specs.{declared.view.{Note.{Note}, Part.{Part}}, Notes.{shape_of_sizes}, Opened.{opened_by}, Seats.{BoardId}}
use Rattle.lz_refinement.specs.{Holds.{sizes_of}, Marks.{NoneIsCut, marks_in}}
use Rattle.lz_set.specs.{Blanks.{BlankOver}, Left.{IsLeft, IsLeftWith}}
use Rattle.lz_serve.specs.declared.options.ServeOptions.{ServeOptions}
use Rattle.lazyset_file_commands.specs.{Ends.{open_status}, Refusals.{refusal_text}, Tellings.{Tells}, declared.status.Status.{Status, TheVariants.{Done, Failed}}}
use Rattle.lz_proto.specs.{Steps.{SendTells}, declared.fault.SessionFault.{SessionFault, TheVariants.{Write}}}

-- a set of so many passes and buckets may be served
abbrev pub IsServable : ServeOptions → Type 0
IsServable options = ((1 ≤ options.passes) × (options.passes ≤ most_passes)) × (1 ≤ options.buckets) × (options.buckets ≤ most_buckets)

-- each pass of the set is among these
abbrev pub AreAllPasses : BoardId → List Part → Type 0
AreAllPasses b parts = (k : ℕ) → 1 ≤ k → k ≤ b.sizes.passes → Any (λ h. h.number ≡ k) parts

-- none of these passes has made a call
abbrev pub AreUnused : List Part → Type 0
AreUnused parts = All (λ h. h.steps ≡ []) parts

-- Passes of a set were served, and have ended with these parts, as many as it has: what is left of the disk tells a history, in which
-- their calls are those that they made, with the replies that they got. It is done only where they are all of the set's, and no call of
-- the history was answered that the set is halted or that the device failed. It has failed only where they aren't all, none has made a
-- call, the device failed, or it has made its last sync.
pub record ServedPasses (b : BoardId) (first : Device) (status : Status) (disk : Device) : Type 0 where
  pub ended : List Part
  pub met : List Part
  pub left : IsLeftWith b first disk ended met
  pub count : length ended ≡ b.sizes.passes
  pub whole : status ≡ Done → AreAllPasses b ended × NoneIsCut (marks_in (shape_of_sizes b.sizes) left.notes)
  pub failed : status ≡ Failed → ¬ AreAllPasses b ended ⊎ (AreUnused ended ⊎ ((last_sync ≤ left.left.yard.vault.syncs) ⊎ (first.faults < disk.faults)))
  pub other : (status ≡ Done) ⊎ (status ≡ Failed)

-- the line that names the port on which a service listens
abbrev pub port_text : ℕ → List ℕ
port_text port = codes "listening " ++ decimal port ++ 10 ∷ []

-- the line of a port was sent so
abbrev pub TellsPort : Option (List ℕ) → Option (List ℕ) → Result (Unit {0}) SessionFault → Type 0
TellsPort before after sent = (port : ℕ) × (port < 65_536) × SendTells before after (port_text port) sent

-- the line that names the path at which a service listens
abbrev pub path_text : List ℕ → List ℕ
path_text path = codes "listening " ++ path ++ 10 ∷ []

-- the line of the place where a service listens was sent so: at this path, or else on a port
abbrev pub TellsPlace : Option (List ℕ) → Option (List ℕ) → Option (List ℕ) → Result (Unit {0}) SessionFault → Type 0
TellsPlace None before after sent = TellsPort before after sent
TellsPlace (Some path) before after sent = SendTells before after (path_text path) sent

-- the line of the place couldn't be written, and the command failed
abbrev pub HidesPlace : Option (List ℕ) → Option (List ℕ) → Option (List ℕ) → Status → Type 0
HidesPlace path before after status = TellsPlace path before after (Err Write) × (status ≡ Failed)

-- There was a place for the service, which was told, and its passes were served.
pub record HadPlace (b : BoardId) (first : Device) (path : Option (List ℕ)) (status : Status) (before after : Option (List ℕ)) (disk : Device) : Type 0 where
  pub told : TellsPlace path before after (Ok tt)
  pub served : ServedPasses b first status disk

-- There was no place for the service, which was told, or its place couldn't be told; what is left of the disk tells a history.
pub record HadNoPlace (b : BoardId) (first : Device) (path : Option (List ℕ)) (status : Status) (before after : Option (List ℕ)) (disk : Device) : Type 0 where
  pub told : Tells before after (codes "noport" ++ 10 ∷ []) Failed status ⊎ HidesPlace path before after status
  pub notes : List Note
  pub left : IsLeft b first notes disk

-- The disk was opened as a set of so many buckets and passes, and its passes were served, or there was no place to listen.
pub record RanService {D : Type 0} (device : D → Device) (buckets passes : ℕ) (path : Option (List ℕ)) (status : Status) (before after : Option (List ℕ)) (old new : D) : Type 0 where
  pub opened : BlankOver D
  pub opens : OpensYard (device old) (device opened.disk) buckets passes opened.yard
  pub sizes : opened.board.sizes ≡ sizes_of opened.yard.shape
  pub trace : opened.board.opened ≡ opened_by opened.yard.words
  pub served : HadPlace opened.board (device opened.disk) path status before after (device new)
      ⊎ HadNoPlace opened.board (device opened.disk) path status before after (device new)

-- The open was refused, and the refusal was told.
pub record RefusedService {D : Type 0} (device : D → Device) (status : Status) (before after : Option (List ℕ)) (old new : D) : Type 0 where
  pub fault : OpenFault
  pub refused : IsRefusedFor (device old) (device new) fault
  pub told : Tells before after (refusal_text fault) (open_status fault) status
