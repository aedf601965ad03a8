use Rattle.lz_serve.proofs.telling.gather.Given as goal
use Rattle.std.specs.Prelude.{◌≡◌, Some, take}
use Rattle.lz_serve.specs.Lines.{replies_of}

abbrev pub invariant-loop-index : goal.invariant-loop-index
invariant-loop-index l = replies_of (take l.index l.under.items) ≡ Some l.replies.items
