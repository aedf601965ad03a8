use Rattle.lz_judge.proofs.surveying.fill.Given as goal
use Rattle.std.{proofs.Common.{◌≡◌, ◌≤◌, length, take}, specs.Io.KnownBytes.{Consumes}}

abbrev pub invariant-tries : goal.invariant-tries
invariant-tries g l = record {
  size : length l.buffer ≡ length l.initial.buffer;
  within : l.count ≤ length l.buffer;
  given : Consumes (g.R.Read.remaining l.initial.reader) (g.R.Read.remaining l.reader) (take l.count l.buffer);
}
