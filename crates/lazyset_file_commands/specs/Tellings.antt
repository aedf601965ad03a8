-- What is written with which a command ends.
use Rattle.std.specs.{Prelude.{◌≡◌, ◌⊎◌, ℕ, List, [], ◌∷◌, ◌++◌, codes, decimal, Option, Result, Ok, Err}, Io.KnownBytes.{Appends}}
use Rattle.lz_proto.specs.{Steps.{IsCutShort}, declared.fault.SessionFault.{SessionFault}}
use Rattle.lazyset_file_commands.specs.declared.status.Status.{Status, TheVariants.{Failed}}

-- the line that names a line of the input, from 1
abbrev pub line_text : ℕ → List ℕ
line_text line = codes "line " ++ decimal line ++ 10 ∷ []

-- the text was written, and the command ends with its status; or not all of it was, and the command failed
abbrev pub Tells : Option (List ℕ) → Option (List ℕ) → List ℕ → Status → Status → Type 0
Tells before after text told status = (Appends before after text × (status ≡ told)) ⊎ (IsCutShort before after text × (status ≡ Failed))

-- a text was sent whole, or it was cut short
abbrev pub SentOrCut : Option (List ℕ) → Option (List ℕ) → List ℕ → Result (Unit {0}) SessionFault → Type 0
SentOrCut before after text (Ok done) = Appends before after text
SentOrCut before after text (Err fault) = IsCutShort before after text

-- of a text a first part was sent, and this is left; or not even that part was sent whole
abbrev pub IsSentTo : Option (List ℕ) → Option (List ℕ) → List ℕ → List ℕ → Type 0
IsSentTo before after text left = (sent : List ℕ) × Appends before after sent × (text ≡ sent ++ left)

abbrev pub PutsLine : Option (List ℕ) → Option (List ℕ) → List ℕ → List ℕ → Result (Unit {0}) SessionFault → Type 0
PutsLine before after text left (Ok done) = IsSentTo before after text left
PutsLine before after text left (Err fault) = IsCutShort before after text

-- the status of a command that sent its text so
abbrev pub status_sent : Result (Unit {0}) SessionFault → Status → Status
status_sent (Ok done) told = told
status_sent (Err fault) told = Failed

-- what is said for lack of memory
abbrev pub memory_text : List ℕ
memory_text = codes "nomemory" ++ 10 ∷ []

-- there was no memory, which was told
abbrev pub LacksMemory : Option (List ℕ) → Option (List ℕ) → Status → Type 0
LacksMemory before after status = Tells before after memory_text Failed status

-- what is said where a read failed
abbrev pub unread_text : List ℕ
unread_text = codes "noread" ++ 10 ∷ []

-- a read failed, which was told
abbrev pub LacksInput : Option (List ℕ) → Option (List ℕ) → Status → Type 0
LacksInput before after status = Tells before after unread_text Failed status
