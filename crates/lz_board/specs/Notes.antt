-- Notes: the steps of the machine as the pen keeps them. Notes, steps and traces stand newest first, so that P begins Q
-- where Q is some publishings and then P.
use Rattle.std.specs.Prelude.{◌≡◌, ℕ, suc, ◌%◌, ◌<◌, ◌≤◌, ◌==◌, Bool, false, nat_lt, if◌then◌else◌, List, [], ◌∷◌, ◌++◌, filter, length, Option, Some, None}
use Rattle.lz_slot.specs.declared.command.Command.{Command}
use Rattle.lz_list.specs.declared.{word.Word.{Word, TheVariants.{Head, Link, Key, Pin as PinOf, Halt}}, publishing.Publishing.{Publishing}}
use Rattle.lz_list.specs.declared.{publishing.Publishing.TheVariants.{Linked as linked, Marked as marked, Unlinked as unlinked}, layout.Sizes.{Sizes}}
use Rattle.lz_list.specs.Traces.{Trace, word_after}
use Rattle.lz_machine.specs.declared.event.{Event.{Event, TheVariants.{Pin, Hop, Answer}}, Outcome.{Outcome, TheVariants.{Done, Value}}, Reply.{Reply}}
use Rattle.lz_machine.specs.{declared.caller.Progress.{Progress}, Yards.{Shape}, Calls.{begun, progress_after}, Runs.{reply_at}}
use Rattle.lz_board.specs.declared.{moment.Moment.{Moment}, view.{What.{What, TheVariants.{Called, Played, Found}}, Note.{Note}, Load.{Load}}}

abbrev pub moment_at : ℕ → Moment
moment_at m = record { marker = record {}; at = m }

-- a note of pass p
abbrev pub note_by : ℕ → What → Option Publishing → Note
note_by p what published = record { by = p; what = what; published = published; moment = moment_at 0 }

-- An event that was played is noted with the device's moment after it.
abbrev pub stamp_of : What → ℕ → ℕ
stamp_of (Called c format) m = 0
stamp_of (Played e o) m = m
stamp_of (Found q v) m = 0

-- the note, with the moment at which it is made
abbrev pub stamped : ℕ → Note → Note
stamped m n = record { by = n.by; what = n.what; published = n.published; moment = moment_at (stamp_of n.what m) }

-- what was published, as a list
abbrev pub as_list : Option Publishing → List Publishing
as_list None = []
as_list (Some x) = x ∷ []

-- the trace after the notes, of a life that began with the trace `opened`
abbrev pub trace_of : Trace → List Note → Trace
trace_of opened [] = opened
trace_of opened (n ∷ ns) = as_list n.published ++ trace_of opened ns

-- the steps of pass p
abbrev pub steps_of : ℕ → List Note → List Note
steps_of p ns = filter (λ n. n.by == p) ns

-- what was published for pass p
abbrev pub is_for : ℕ → Publishing → Bool
is_for p (linked k s q) = q == p
is_for p (marked k s q) = q == p
is_for p (unlinked k s q) = q == p
is_for p _ = false

-- all of a trace that was published for pass p
abbrev pub own : ℕ → Trace → Trace
own p P = filter (is_for p) P

-- Q goes on from P
abbrev pub Extends : Trace → Trace → Type 0
Extends Q P = (more : Trace) × (Q ≡ more ++ P)

-- and nothing in it since P was published for pass p
abbrev pub Since : ℕ → Trace → Trace → Type 0
Since p Q P = (more : Trace) × (Q ≡ more ++ P) × (own p more ≡ [])

-- A call's load, as a step. It is put after the newest place where the trace has the length that it saw.
abbrev pub load_note : ℕ → Load → Note
load_note p h = note_by p (Played (Hop h.word) (Value h.value)) None

-- a load among the notes, after the newest place where the trace has the length that it saw
abbrev pub insert_load : Trace → ℕ → Load → List Note → List Note
insert_load opened p h [] = load_note p h ∷ []
insert_load opened p h (n ∷ ns) =
    if nat_lt h.at (length (trace_of opened (n ∷ ns))) then n ∷ insert_load opened p h ns else load_note p h ∷ n ∷ ns

-- all loads of a pass, the newest first
abbrev pub splice : Trace → ℕ → List Load → List Note → List Note
splice opened p [] ns = ns
splice opened p (h ∷ hs) ns = insert_load opened p h (splice opened p hs ns)

-- no step of p stands where the trace is longer than n
abbrev pub Quiet : Trace → ℕ → ℕ → List Note → Type 0
Quiet opened p n [] = Unit {0}
Quiet opened p n (x ∷ xs) = (n < length (trace_of opened (x ∷ xs)) → ¬ (x.by ≡ p)) × Quiet opened p n xs

-- the loads saw traces that grew, from the length `base` to the length `top`
abbrev pub InOrder : ℕ → List Load → ℕ → Type 0
InOrder base [] top = base ≤ top
InOrder base (h ∷ hs) top = (h.at ≤ top) × InOrder base hs h.at

-- the word is one of the table's, and no pin word: the pen alone stores it
abbrev pub IsShared : Sizes → Word → Type 0
IsShared z (Head b) = b < z.buckets
IsShared z (Link s) = s < z.slots
IsShared z (Key s) = s < z.slots
IsShared z (PinOf p) = ⊥
IsShared z Halt = Unit {0}

-- the load found its word as it was after a beginning of the trace
pub record Shown (z : Sizes) (P : Trace) (h : Load) : Type 0 where
  pub seen : Trace
  pub begins : Extends P seen
  pub long : length seen ≡ h.at
  pub shared : IsShared z h.word
  pub value : h.value ≡ word_after z.buckets seen h.word

-- each of these loads did
abbrev pub AllShown : Sizes → Trace → List Load → Type 0
AllShown z P [] = Unit {0}
AllShown z P (h ∷ hs) = Shown z P h × AllShown z P hs

-- The place of a pass's call is a function of its own steps alone.
abbrev pub shape_of_sizes : Sizes → Shape
shape_of_sizes z = record { slots = z.slots; buckets = z.buckets; passes = z.passes }

-- a call that has its reply has no place any more
abbrev pub unless_replied : Option Reply → Command → Progress → Option (Command × Progress)
unless_replied (Some reply) c at = None
unless_replied None c at = Some (c, at)

-- the place after one more step
abbrev pub placed : Shape → What → Option (Command × Progress) → Option (Command × Progress)
placed shape (Called c format) at = Some (c, begun format c)
placed shape (Played e o) None = None
placed shape (Played e o) (Some call) = unless_replied (reply_at call.1) call.0 (progress_after shape call.0 call.1 o)
placed shape (Found q v) at = at

-- the place after the steps, where a call is open
abbrev pub place : Shape → List Note → Option (Command × Progress)
place shape [] = None
place shape (n ∷ ns) = placed shape n.what (place shape ns)

-- The pin word of pass q after the notes, as the list of steps has it: what it was found to be, and one more for each Pin
-- that was done and each Answer of a pass that is inside.
abbrev pub pin_after_played : Event → Outcome → ℕ → ℕ
pin_after_played Pin Done pin = suc pin
pin_after_played Answer Done pin = if pin % 2 == 0 then pin else suc pin
pin_after_played e o pin = pin

-- the pin word of pass q after a note of pass p
abbrev pub pin_after_what : ℕ → ℕ → What → ℕ → ℕ
pin_after_what q p (Called c format) pin = pin
pin_after_what q p (Played e o) pin = if p == q then pin_after_played e o pin else pin
pin_after_what q p (Found r v) pin = if r == q then v else pin

-- the pin word of pass q after the notes
abbrev pub pin_after : ℕ → List Note → ℕ
pin_after q [] = 0
pin_after q (n ∷ ns) = pin_after_what q n.by n.what (pin_after q ns)

-- the trace before the last change of pass q's pin word, as the notes have it
abbrev pub turned_at : ℕ → Trace → List Note → Trace
turned_at q opened [] = opened
turned_at q opened (n ∷ ns) = if pin_after q (n ∷ ns) == pin_after q ns then turned_at q opened ns else trace_of opened ns
