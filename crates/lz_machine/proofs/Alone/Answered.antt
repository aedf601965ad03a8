-- What a call of one actor alone has answered, and what a call that was cut off leaves.
use Rattle.std.proofs.Common.{◌≡◌, ℕ, suc, ◌<◌, true, false, List, [], ◌∷◌, Option, refl, arith}
use Rattle.lz_slot.specs.declared.{command.Command.{Command}, history.{HistoryEvent.TheVariants.{Call}, Cut.TheVariants.{Halted as cut_halted, Device as cut_device}}}
use Rattle.lz_slot.specs.{Sets.{Keys}, Bytes.{Holds}, Histories.{History, Life, Fits, lives}}
use Rattle.lz_list.specs.Traces.{Trace, halt_word}
use Rattle.lz_machine.specs.declared.{event.Reply.{Reply, TheVariants.{Yes, Halted, Device}}, caller.Progress.TheVariants.{Answering}}
use Rattle.lz_machine.specs.{Runs.{Start, State, Up, Down, Point, MayLeave, mark_of, start_keys}, CallersSound.{View, Relies}, Sound.{IsSound}}
use Rattle.lz_machine.{specs.Alone.{has_cut, IsPlain, ArePlain}, proofs.Crash.Leftovers.{IsLeft, may_leave_has}}
use Rattle.lz_machine.proofs.Alone.{Service.{Ended, IsEnd, served, served_cut}, Run.{IsHalting, AloneUp}}

-- a text holds a set to which the life leads
abbrev pub HasSet : ℕ → Life → List ℕ → Type 0
HasSet N life t = (T : Keys) × Holds t N T × IsPlain life.start life.history T

abbrev pub AloneState : ℕ → ℕ → State → History → Type 0
AloneState a calls (Up service disk) M = AloneUp a (suc calls) service M
AloneState a calls (Down shape disk) M = Unit {0}

abbrev pub AloneLives : ℕ → ℕ → Point → List Life → Type 0
AloneLives a N p [] = ⊥
AloneLives a N p (life ∷ earlier) = AloneState a p.calls p.state life.history × ((t : List ℕ) → MayLeave p.state t → HasSet N life t) × ArePlain earlier life.start

abbrev pub AloneAt : Start → ℕ → Point → Type 0
AloneAt start a p = AloneLives a start.shape.slots p (lives (start_keys start) p.marks)

-- the mark of a reply ends its call
pub reply_ends : (i : ℕ) (reply : Reply) → IsEnd (mark_of i reply) i
reply_ends i Yes = refl
reply_ends i _ = refl

-- a call that was cut off finds the service halted
pub cut_word : (v : View) (c : Command) (P0 P : Trace) (changed : Option ℕ) (M : History) (i : ℕ) (reply : Reply) → Relies v c (Answering reply) P0 P changed → has_cut (mark_of i reply ∷ M) ≡ true → has_cut M ≡ false → halt_word P ≡ 1
cut_word v c P0 P changed M i reply h cut clean = grind arith

-- what a reply's list leads to is served
pub served_reply : (n i a : ℕ) (c : Command) (reply : Reply) (M : History) (S : Keys) (L : List ℕ) (T : Keys) → i < n → Ended i M → has_cut M ≡ false → Fits S (mark_of i reply ∷ Call i a c ∷ M) L T → IsPlain S (mark_of i reply ∷ Call i a c ∷ M) T
served_reply n i a c Halted M S L T low h clean fits = served_cut i a c cut_halted M S L T h clean fits
served_reply n i a c Device M S L T low h clean fits = served_cut i a c cut_device M S L T h clean fits
served_reply n i a c reply M S L T low h clean fits = served n (mark_of i reply ∷ Call i a c ∷ M) S L T (refl, low, h) clean fits

-- once a call was cut off, the next ones change nothing
pub served_halting : (S : Keys) (i a : ℕ) (c : Command) (reply : Reply) (M : History) (T : Keys) → IsHalting (Answering reply) → has_cut M ≡ true → IsPlain S (Call i a c ∷ M) T → IsPlain S (mark_of i reply ∷ Call i a c ∷ M) T
served_halting S i a c reply M T h7 cut h = grind arith

-- the lists of a sound point
pub left_at : (start : Start) (q : Point) (t : List ℕ) → IsSound start q → MayLeave q.state t → IsLeft q t (lives (start_keys start) q.marks)
left_at start q t sound leaves = may_leave_has start q.state q.marks q.trace q.calls t sound leaves
