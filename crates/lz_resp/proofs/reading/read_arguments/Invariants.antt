use Rattle.lz_resp.proofs.reading.read_arguments.Given as goal
use Rattle.std.{proofs.Common.{◌≡◌, ◌-◌, ◌≤◌, length}, specs.Prelude.{map}}
use Rattle.lz_resp.{specs.Reading.{arguments_at}, proofs.Fronts.{with_front}}

abbrev pub invariant-bulks : goal.invariant-bulks
invariant-bulks l =
    record {
      read : with_front (map (λ argument. argument.now) l.arguments.items) (arguments_at (l.count - l.counter) l.rest) ≡ arguments_at l.count l.text;
      inside : length l.rest ≤ length l.text;
    }
