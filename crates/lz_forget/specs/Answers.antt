-- What requests of a session were answered: a reply, or none where the service stops and hadn't begun it.
use Rattle.std.specs.Prelude.{ℕ, zero, suc, Bool, true, false, ◌==◌, ◌&&◌, if◌then◌else◌, List, [], ◌∷◌, ◌++◌, codes, decimal, drop, take, length, count_by, nat_eq, Option, None, Some}
use Rattle.std.specs.List.{list_any, starts_with}
use Rattle.lz_proto.specs.declared.reply.Reply.{Reply, TheVariants.{Yes, No, Full, Halted, Worn, OldFile}}
use Rattle.lz_resp.specs.{Frames.{line_end}, Replies.{done, text_of}, declared.form.Form.{Form}}

abbrev pub Answer : Type 0
Answer = Option Reply

-- one of these stands at the beginning of a line
abbrev pub error_on : List ℕ → Option Answer
error_on line =
    if starts_with nat_eq line (codes "-FULL ") then Some (Some Full)
    else (if starts_with nat_eq line (codes "-HALTED ") then Some (Some Halted)
    else (if starts_with nat_eq line (codes "-WORN ") then Some (Some Worn)
    else (if starts_with nat_eq line (codes "-OLDFILE ") then Some (Some OldFile)
    else (if starts_with nat_eq line (codes "-ERR stopping; ") then Some None
    else None))))

-- the answer on a line, if it is one
abbrev pub answer_on : List ℕ → Option Answer
answer_on line =
    if starts_with nat_eq line (codes ":1") && (length line == 2) then Some (Some Yes)
    else (if starts_with nat_eq line (codes ":0") && (length line == 2) then Some (Some No)
    else error_on line)

-- the first that isn't no
abbrev pub found_in : List Answer → Answer
found_in [] = Some No
found_in (Some No ∷ answers) = found_in answers
found_in (answer ∷ answers) = answer

-- the same of each of so many keys, by so many answers of each
abbrev pub groups : ℕ → ℕ → List Answer → List Answer
groups zero each answers = []
groups (suc keys) each answers = found_in (take each answers) ∷ groups keys each (drop each answers)

-- what claims come to: a key that was found is not new, and one that wasn't has the next answer of the newest room
abbrev pub filled : List Answer → List Answer → List Answer
filled [] answers = []
filled (Some No ∷ found) (answer ∷ answers) = answer ∷ filled found answers
filled (Some No ∷ found) [] = Some No ∷ filled found []
filled (Some Yes ∷ found) answers = Some No ∷ filled found answers
filled (other ∷ found) answers = other ∷ filled found answers

-- what removals come to after a room more
abbrev pub joined_one : Answer → Answer → Answer
joined_one (Some No) answer = answer
joined_one other answer = other

abbrev pub joined : List Answer → List Answer → List Answer
joined [] answers = []
joined (was ∷ found) [] = []
joined (was ∷ found) (answer ∷ answers) = joined_one was answer ∷ joined found answers

abbrev pub is_none : Answer → Bool
is_none None = true
is_none (Some reply) = false

abbrev pub is_yes : Answer → Bool
is_yes (Some Yes) = true
is_yes answer = false

abbrev pub replies_in : List Answer → List Reply
replies_in [] = []
replies_in (Some reply ∷ answers) = reply ∷ replies_in answers
replies_in (None ∷ answers) = replies_in answers

-- how many of the requests were done
abbrev pub done_text : Form → List Answer → List ℕ
done_text form answers = decimal (count_by is_yes answers) ++ codes " of " ++ decimal (length answers) ++ codes " were " ++ done form ++ line_end

abbrev pub is_begun : Answer → Bool
is_begun None = false
is_begun (Some reply) = true

-- what a client is told whose requests weren't all begun
abbrev pub stopping : Form → List Answer → List ℕ
stopping form answers =
    codes "-ERR stopping; " ++ (if count_by is_begun answers == 0 then codes "nothing was done" ++ line_end else done_text form answers)

-- what a client is told by these answers
abbrev pub text_for : Form → List Answer → List ℕ
text_for form answers = if list_any is_none answers then stopping form answers else text_of form (replies_in answers)

-- what clients are told of commands, one after the other: in which form, and by how many answers
abbrev pub texts_for : List (Form × ℕ) → List Answer → List ℕ
texts_for [] answers = []
texts_for ((form, n) ∷ told) answers = text_for form (take n answers) ++ texts_for told (drop n answers)
