-- What is written of a mark is read as the mark.
use Rattle.std.proofs.Common.{◌≡◌, ℕ, suc, ◌+◌, ◌≤◌, Bool, List, [], ◌∷◌, ◌++◌, map, reverse, length, length-append, decimal, codes, true, false, Some, arith}
use Rattle.std.proofs.{Common.{refl, sym, ap, subst, ◌∙◌, append_assoc, option_map}, lemmas.Bool.{false_from_ne_true, false≢true, Decides.{nat_tests}}}
use Rattle.std.{proofs.lemmas.List.{append-nil, reverse-append}, specs.{Cmp.Lexicographic.{same_text}, List.{join_with_byte}}}
use Rattle.lz_slot.specs.{Limits.{largest_key, most_actors}, Sets.{key_of}, Numerals.{largest_read, number_in}, Texts.{key_text}}
use Rattle.lz_slot.specs.{MarkTexts.{answer_word, command_word, keys_text, mark_text, marks_text, refusal_word}, declared.command.Command.{Command}}
use Rattle.lz_slot.specs.declared.{command.Command.TheVariants.{Add, Remove, Has}, history.{Cut.TheVariants.{Halted, Device}, Refusal.{Refusal}}}
use Rattle.lz_slot.specs.declared.history.{Refusal.TheVariants.{Full, Worn, OldFile}, HistoryEvent.{HistoryEvent}}
use Rattle.lz_slot.{specs.declared.history.HistoryEvent.TheVariants.{Call, Answer, Refused, Cut, Stop, Crash, Opened, OpenFailed}, proofs.Texts.Cuts.{Lacks}}
use Rattle.lz_slot.proofs.Texts.{MarkTexts.{marks_join}, Numerals.{decimal_read}}
use Rattle.lz_slot.proofs.Texts.Spellings.{decimal_lacks, key_text_lacks, spelled_read, written_keys_are_spelled}
use Rattle.lz_judge.specs.declared.line.Line.{Line, TheVariants.{Seen}}
use Rattle.lz_judge.specs.LinesRead.{answer_read, call_number, command_named, is_word, key_from, key_named, key_told, keys_from, kind_read, refusal_read}
use Rattle.lz_judge.specs.{Records.{Record}, MarkLines.{AscendFrom, IsCallNumber, IsMarkOfRun, MarksReadBack, HistoriesReadBack}}
use Rattle.lz_judge.specs.{Limits.{most_bytes, most_faults}, TextsRead.{MayCome, Reads, nothing, line, with_line}}
use Rattle.lz_judge.proofs.Texts.LineWord.{AreWords, IsField, IsWord, IsWritten, plain, written_clear, written_reads}

pub number_field : (low high n : ℕ) → high ≤ largest_read → low ≤ n → n ≤ high → IsField (number_in low high) (decimal n) n
number_field low high n big above below = grind (arith, plain, decimal, decimal_lacks, decimal_read)

call_field : (i : ℕ) → IsCallNumber i → IsField call_number (decimal i) i
call_field i (some, few) = number_field 1 largest_read i (omega arith) some few

key_field : (k : ℕ) → k ≤ largest_key → IsField key_named (key_text k) k
key_field k small = record {
  is = plain (key_text k) (key_text_lacks 32 k refl refl small) (key_text_lacks 10 k refl refl small);
  reads = ap key_told (spelled_read (key_text k) k small (written_keys_are_spelled k));
}

name_field : (c : Command) → IsField (λ name. command_named name (key_of c)) (command_word c) c
name_field (Add k) = record { is = plain (codes "add") refl refl; reads = refl }
name_field (Remove k) = record { is = plain (codes "remove") refl refl; reads = refl }
name_field (Has k) = record { is = plain (codes "has") refl refl; reads = refl }

answer_field : (answer : Bool) → IsField answer_read (answer_word answer) answer
answer_field true = record { is = plain (codes "yes") refl refl; reads = refl }
answer_field false = record { is = plain (codes "no") refl refl; reads = refl }

refusal_field : (why : Refusal) → IsField refusal_read (refusal_word why) why
refusal_field Full = record { is = plain (codes "full") refl refl; reads = refl }
refusal_field Worn = record { is = plain (codes "worn") refl refl; reads = refl }
refusal_field OldFile = record { is = plain (codes "oldfile") refl refl; reads = refl }

keys_joined : (word : List ℕ) (ks : List ℕ) → word ++ keys_text ks ≡ join_with_byte 32 (word ∷ map key_text ks)
keys_joined word [] = append-nil word
keys_joined word (k ∷ ks) = ap (λ (t : List ℕ). word ++ 32 ∷ t) (keys_joined (key_text k) ks)

keys_fields : (least : ℕ) (ks : List ℕ) → AscendFrom least ks → AreWords (map key_text ks) × (keys_from least (map key_text ks) ≡ Some ks)
keys_fields least [] ascend = (tt, refl)
keys_fields least (k ∷ ks) (above, small, rest) =
    let key = key_field k small in
    let named = key.reads in
    let (are, others) = keys_fields (k + 1) ks rest in
    let from : key_from least (key_text k) ≡ Some k = grind (arith, nat_tests, named) in
    ((key.is, are), rw (from, others) refl)

-- a line of keys, whose kind reads them
pub keys_written : (kind ks : List ℕ) (says : List ℕ → Line) → IsWord kind → AscendFrom 0 ks → kind_read kind (map key_text ks) ≡ option_map says (keys_from 0 (map key_text ks))
    → IsWritten (kind ++ keys_text ks) (says ks)
keys_written kind ks says is ascend reads = grind (arith, keys_joined, keys_fields, option_map)

-- a key is no `fault`
no_fault : (k : ℕ) → k ≤ largest_key → is_word (key_text k) (codes "fault") ≡ false
no_fault k small = false_from_ne_true (is_word (key_text k) (codes "fault")) (λ is.
    let same : key_text k ≡ codes "fault" = same_text (key_text k) (codes "fault") (sym is) in
    false≢true (sym (subst (λ (t : List ℕ). Lacks 102 t) same (key_text_lacks 102 k refl refl small))))

found_reads : (ks : List ℕ) → AscendFrom 0 ks → kind_read (codes "open") (map key_text ks) ≡ option_map (λ keys. Seen (Opened keys)) (keys_from 0 (map key_text ks))
found_reads [] ascend = refl
found_reads (k ∷ ks) ascend = rw (no_fault k ascend.1) refl

-- what is written of a mark says the mark
pub mark_written : (m : HistoryEvent) → IsMarkOfRun m → IsWritten (mark_text m) (Seen m)
mark_written (Call i a c) (number, one, low, small) =
    let call = call_field i number in
    let actor = number_field 1 most_actors a (omega arith) one low in
    let name = name_field c in
    let key = key_field (key_of c) small in
    record {
      kind = codes "call";
      words = decimal i ∷ decimal a ∷ command_word c ∷ key_text (key_of c) ∷ [];
      joined = simp append_assoc;
      are = (plain (codes "call") refl refl, (call.is, (actor.is, (name.is, (key.is, tt)))));
      reads = rw (call.reads, actor.reads, key.reads, name.reads) refl;
    }
mark_written (Answer i answer) number =
    let call = call_field i number in
    let told = answer_field answer in
    record { kind = codes "answer"; words = decimal i ∷ answer_word answer ∷ []; joined = simp append_assoc; are = (plain (codes "answer") refl refl, (call.is, (told.is, tt))); reads = rw (call.reads, told.reads) refl }
mark_written (Refused i why) number =
    let call = call_field i number in
    let told = refusal_field why in
    record { kind = codes "refused"; words = decimal i ∷ refusal_word why ∷ []; joined = simp append_assoc; are = (plain (codes "refused") refl refl, (call.is, (told.is, tt))); reads = rw (call.reads, told.reads) refl }
mark_written (Cut i Halted) number =
    let call = call_field i number in
    record { kind = codes "halted"; words = decimal i ∷ []; joined = refl; are = (plain (codes "halted") refl refl, (call.is, tt)); reads = rw (call.reads) refl }
mark_written (Cut i Device) number =
    let call = call_field i number in
    record { kind = codes "device"; words = decimal i ∷ []; joined = refl; are = (plain (codes "device") refl refl, (call.is, tt)); reads = rw (call.reads) refl }
mark_written Stop is = record { kind = codes "stop"; words = []; joined = refl; are = (plain (codes "stop") refl refl, tt); reads = refl }
mark_written Crash is = record { kind = codes "crash"; words = []; joined = refl; are = (plain (codes "crash") refl refl, tt); reads = refl }
mark_written (Opened keys) ascend = keys_written (codes "open") keys (λ (keys : List ℕ). Seen (Opened keys)) (plain (codes "open") refl refl) ascend (found_reads keys ascend)
mark_written (OpenFailed why) (some, few) =
    let fault = number_field 1 most_faults why (omega arith) some few in
    record { kind = codes "open"; words = codes "fault" ∷ decimal why ∷ []; joined = refl; are = (plain (codes "open") refl refl, (plain (codes "fault") refl refl, (fault.is, tt))); reads = rw (fault.reads) refl }

pub marks_read_back : MarksReadBack
marks_read_back m of_run = written_reads (mark_written m of_run)

-- a line more that is written
pub written_more : (n : ℕ) (text : List ℕ) (h : Record) (t : List ℕ) (l : Line) → Reads n text h → IsWritten t l → MayCome l h → length (text ++ (t ++ 10 ∷ [])) ≤ most_bytes
    → Reads (n + 1) (text ++ (t ++ 10 ∷ [])) (with_line l h)
written_more n text h t l so_far written may fits =
    line n text h t l so_far (written_clear written) (written_reads written, may, omega (arith, fits, length-append text (t ++ 10 ∷ []), length-append t (10 ∷ [])))

pub histories_read_back : HistoriesReadBack
histories_read_back [] are lawful few fits = nothing
histories_read_back (m ∷ M) (of_run, rest) (may, lawful) few fits =
    let before = marks_text (reverse M) in
    let more : marks_text (reverse (m ∷ M)) ≡ before ++ (mark_text m ++ 10 ∷ []) = ap marks_text (reverse-append (m ∷ []) M) ∙ marks_join (reverse M) (m ∷ []) in
    let within : length (before ++ (mark_text m ++ 10 ∷ [])) ≤ most_bytes = subst (λ (t : List ℕ). length t ≤ most_bytes) more fits in
    let inner = histories_read_back M rest lawful (omega arith) (omega (arith, length-append before (mark_text m ++ 10 ∷ []))) in
    let read = written_more (suc (length M)) before (record { marks = M; points = [] }) (mark_text m) (Seen m) inner (mark_written m of_run) (may, few) within in
    rw more (subst (λ (n : ℕ). Reads n (before ++ (mark_text m ++ 10 ∷ [])) (record { marks = m ∷ M; points = [] })) (omega arith) read)
