-- How many passes the loops that run are to hand back.
use Rattle.std.{proofs.Common.{◌≡◌, ◌+◌, List, [], ◌∷◌, ◌++◌, arith}, specs.declared.thread.PromisedHandle.{PromisedHandle}}
use Rattle.lz_serve.specs.{declared.shares.HandsBack.{HandsBack}, Promised.{promised}}

-- those of one more loop are added
pub one_more : {T : Type 0} (threads : List (PromisedHandle T HandsBack)) (thread : PromisedHandle T HandsBack) → promised (threads ++ thread ∷ []) ≡ promised threads + thread.promise.count
one_more [] thread = omega arith
one_more (first ∷ threads) thread = let rest = one_more threads thread in omega (arith, rest)
