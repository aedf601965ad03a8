-- The texts of replies.
use Rattle.std.specs.{Prelude.{ℕ, Bool, true, false, ◌==◌, if◌then◌else◌, List, ◌∷◌, ◌++◌, length, codes, decimal, count_by}, List.{flat_map, list_any}}
use Rattle.lz_proto.specs.declared.reply.Reply.{Reply, TheVariants.{Yes, Full, Halted, Worn, OldFile}}
use Rattle.lz_resp.specs.{Frames.{line_end}, Commands.{on_line}, declared.form.Form.{Form, TheVariants.{Added, Removed, Found, Each, Stored}}}
use Rattle.lz_resp.specs.declared.fault.Fault.{Fault, TheVariants.{Count, Length, NoBulk, NoEnd, Quotes, TooLong}}

abbrev pub is_yes : Reply → Bool
is_yes Yes = true
is_yes reply = false

abbrev pub is_full : Reply → Bool
is_full Full = true
is_full reply = false

abbrev pub is_halted : Reply → Bool
is_halted Halted = true
is_halted reply = false

abbrev pub is_worn : Reply → Bool
is_worn Worn = true
is_worn reply = false

abbrev pub is_old : Reply → Bool
is_old OldFile = true
is_old reply = false

-- an integer
abbrev pub integer : ℕ → List ℕ
integer n = codes ":" ++ decimal n ++ line_end

-- 1 for yes, 0 for no
abbrev pub bit : Reply → List ℕ
bit reply = if is_yes reply then codes ":1\r\n" else codes ":0\r\n"

-- the reply is a number of requests
abbrev pub is_sum : Form → Bool
is_sum Added = true
is_sum Removed = true
is_sum Found = true
is_sum Each = false
is_sum Stored = false

-- what was done at a yes
abbrev pub done : Form → List ℕ
done Added = codes "added"
done Removed = codes "removed"
done Found = codes "found"
done Each = codes "found"
done Stored = codes "added"

-- an error, and how many of the requests were done
abbrev pub refusal : List ℕ → Form → List Reply → List ℕ
refusal cause form replies =
    codes "-" ++ cause ++ codes "; " ++ decimal (count_by is_yes replies) ++ codes " of " ++ decimal (length replies) ++ codes " were " ++ done form ++ line_end

-- the reply where each request was answered by yes or no
abbrev pub answer : Form → List Reply → List ℕ
answer Added replies = integer (count_by is_yes replies)
answer Removed replies = integer (count_by is_yes replies)
answer Found replies = integer (count_by is_yes replies)
answer Each replies = codes "*" ++ decimal (length replies) ++ line_end ++ flat_map bit replies
answer Stored replies = if count_by is_yes replies == 0 then codes "$-1\r\n" else codes "+OK\r\n"

-- the reply of this form to the requests that were replied to so
abbrev pub text_of : Form → List Reply → List ℕ
text_of form replies =
    if list_any is_halted replies then codes "-HALTED the device failed\r\n"
    else (if list_any is_worn replies then refusal (codes "WORN a counter has run out") form replies
    else (if list_any is_old replies then refusal (codes "OLDFILE the file has room 0 alone") form replies
    else (if list_any is_full replies then refusal (codes "FULL no slot is free") form replies
    else answer form replies)))

abbrev pub fault_words : Fault → List ℕ
fault_words Count = codes "invalid multibulk length"
fault_words Length = codes "invalid bulk length"
fault_words (NoBulk b) = codes "expected '$', got '" ++ on_line b ∷ codes "'"
fault_words NoEnd = codes "no line end after a bulk"
fault_words Quotes = codes "quotes in an inline request"
fault_words TooLong = codes "too big request"

-- the last reply to a stream that goes on in no frame
abbrev pub fault_text : Fault → List ℕ
fault_text fault = codes "-ERR Protocol error: " ++ fault_words fault ++ line_end
