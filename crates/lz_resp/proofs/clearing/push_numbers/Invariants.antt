use Rattle.lz_resp.proofs.clearing.push_numbers.Given as goal
use Rattle.std.{proofs.Common.{◌≡◌, ◌++◌, take}, specs.List.{flat_map}}
use Rattle.lz_resp.specs.Pages.{number_text}

abbrev pub invariant-loop-number : goal.invariant-loop-number
invariant-loop-number l = l.text.items ≡ l.initial.text.items ++ flat_map number_text (take l.number-index l.numbers)
