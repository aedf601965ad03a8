-- What a turn of a loop does that counts down.
use Rattle.std.proofs.Common.{◌≡◌, ℕ, zero, suc, ◌+◌, ◌-◌, ◌<◌, List, [], ◌∷◌, ◌++◌, take, drop, false, arith, append_assoc, refl}
use Rattle.std.specs.List.{list_any}
use Rattle.lz_slot.specs.Rooms.{number_of, rank}
use Rattle.lz_forget.specs.{Answers.{Answer, found_in, groups, is_none, replies_in, text_for}, Askings.{rooms_of}, Lives.{room_at}, Sessions.{answers_of}}
use Rattle.lz_forget.specs.declared.live.Live.{Live}
use Rattle.lz_resp.specs.{Replies.{text_of}, declared.form.Form.{Form}}

less : (n : ℕ) → suc n - 1 ≡ n
less n = omega arith

next : (n : ℕ) → n + 1 ≡ suc n
next n = omega arith

pub more_keys : (left each : ℕ) (found rest : List Answer) → 0 < left
    → (found ++ found_in (take each rest) ∷ []) ++ groups (left - 1) each (drop each rest) ≡ found ++ groups left each rest
more_keys zero each found rest low = absurd (omega (arith, low))
more_keys (suc n) each found rest low = rw (less n) (append_assoc found (found_in (take each rest) ∷ []) (groups n each (drop each rest)))

pub more_rooms : (live : Live) (age left key : ℕ) (all : List ℕ) → 0 < left
    → (all ++ rank (room_at live age) (number_of key) ∷ []) ++ rooms_of live (age + 1) (left - 1) key ≡ all ++ rooms_of live age left key
more_rooms live age zero key all low = absurd (omega (arith, low))
more_rooms live age (suc n) key all low = rw (less n, next age) (append_assoc all (rank (room_at live age) (number_of key) ∷ []) (rooms_of live (suc age) n key))

pub more_answers : (answer : Answer) (left : ℕ) (answers : List Answer) → 0 < left → (answers ++ answer ∷ []) ++ answers_of answer (left - 1) ≡ answers ++ answers_of answer left
more_answers answer zero answers low = absurd (omega (arith, low))
more_answers answer (suc n) answers low = rw (less n) (append_assoc answers (answer ∷ []) (answers_of answer n))

-- what is told where each answer is a reply
pub told_text : (form : Form) (answers : List Answer) → list_any is_none answers ≡ false → text_for form answers ≡ text_of form (replies_in answers)
told_text form answers all = rw all refl
