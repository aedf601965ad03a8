-- The tests of a line in the order in which it is read. What they find is what the line is (module Lines).
use Rattle.lz_slot.specs.Texts as texts
use Rattle.std.specs.{Prelude.{ℕ, nat_lt, nat_eq, if◌then◌else◌, List, length, drop, codes, Result, Ok, Err}, List.{starts_with}, Cmp.Lexicographic.{pointwise}}
use Rattle.lz_slot.specs.declared.spelling.KeyFault.{KeyFault}
use Rattle.lz_proto.specs.declared.{request.Request.{Request, TheVariants.{Add, Remove, Has, Quit}}, fault.Bad.{Bad, TheVariants.{TooLong, NoCommand}}}
use Rattle.lz_proto.specs.{Limits.{most_line}, Lines.{bad_of}}

abbrev pub key_told : Result ℕ KeyFault → Result ℕ Bad
key_told (Ok k) = Ok k
key_told (Err fault) = Err (bad_of fault)

-- the key that a text spells
abbrev pub key_read : List ℕ → Result ℕ Bad
key_read text = key_told (texts.key_read text)

abbrev pub with_key : (ℕ → Request) → Result ℕ Bad → Result Request Bad
with_key command (Ok key) = Ok (command key)
with_key command (Err bad) = Err bad

-- what a line less its carriage return asks for
abbrev pub request_read : List ℕ → Result Request Bad
request_read line =
    if nat_lt most_line (length line) then Err TooLong
    else (if pointwise nat_eq line (codes "quit") then Ok Quit
    else (if starts_with nat_eq line (codes "add ") then with_key (λ k. Add k) (key_read (drop 4 line))
    else (if starts_with nat_eq line (codes "remove ") then with_key (λ k. Remove k) (key_read (drop 7 line))
    else (if starts_with nat_eq line (codes "has ") then with_key (λ k. Has k) (key_read (drop 4 line))
    else Err NoCommand))))
