-- What is seen of a service, as lines.
use Rattle.std.specs.Prelude.{ℕ, Bool, true, false, List, [], ◌∷◌, ◌++◌, codes, decimal}
use Rattle.lz_slot.specs.{Sets.{key_of}, Texts.{key_text}, declared.{command.Command.{Command, TheVariants.{Add, Remove, Has}}, history.Refusal.{Refusal}}}
use Rattle.lz_slot.specs.declared.history.{Refusal.TheVariants.{Full, Worn, OldFile}, Cut.{Cut, TheVariants.{Halted, Device}}, HistoryEvent.{HistoryEvent}}
use Rattle.lz_slot.specs.declared.history.HistoryEvent.TheVariants.{Call, Answer, Refused, Cut as CutOff, Stop, Crash, Opened, OpenFailed}

abbrev pub command_word : Command → List ℕ
command_word (Add k) = codes "add"
command_word (Remove k) = codes "remove"
command_word (Has k) = codes "has"

abbrev pub answer_word : Bool → List ℕ
answer_word true = codes "yes"
answer_word false = codes "no"

abbrev pub refusal_word : Refusal → List ℕ
refusal_word Full = codes "full"
refusal_word Worn = codes "worn"
refusal_word OldFile = codes "oldfile"

abbrev pub cut_word : Cut → List ℕ
cut_word Halted = codes "halted"
cut_word Device = codes "device"

-- the keys of a line, each after a space
abbrev pub keys_text : List ℕ → List ℕ
keys_text [] = []
keys_text (k ∷ ks) = codes " " ++ key_text k ++ keys_text ks

-- what is seen of a service, as a line without its line feed
abbrev pub mark_text : HistoryEvent → List ℕ
mark_text (Call i a c) = codes "call " ++ decimal i ++ codes " " ++ decimal a ++ codes " " ++ command_word c ++ codes " " ++ key_text (key_of c)
mark_text (Answer i answer) = codes "answer " ++ decimal i ++ codes " " ++ answer_word answer
mark_text (Refused i why) = codes "refused " ++ decimal i ++ codes " " ++ refusal_word why
mark_text (CutOff i why) = cut_word why ++ codes " " ++ decimal i
mark_text Stop = codes "stop"
mark_text Crash = codes "crash"
mark_text (Opened keys) = codes "open" ++ keys_text keys
mark_text (OpenFailed why) = codes "open fault " ++ decimal why

-- the lines of marks in their order
abbrev pub marks_text : List HistoryEvent → List ℕ
marks_text [] = []
marks_text (m ∷ marks) = mark_text m ++ 10 ∷ marks_text marks
