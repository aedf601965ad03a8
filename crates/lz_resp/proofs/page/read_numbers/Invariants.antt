use Rattle.lz_resp.proofs.page.read_numbers.Given as goal
use Rattle.std.proofs.Common.{◌≡◌, ◌-◌, ◌≤◌, length}
use Rattle.lz_resp.{specs.Pages.{numbers_at}, proofs.Fronts.{with_front}}

abbrev pub invariant-bulks : goal.invariant-bulks
invariant-bulks l =
    record {
      read : with_front l.numbers.items (numbers_at (l.count - l.counter) l.rest) ≡ numbers_at l.count l.text;
      inside : length l.rest ≤ length l.text;
    }
