-- How many passes the loops that run are to hand back.
use Rattle.std.specs.{Prelude.{ℕ, ◌+◌, List, [], ◌∷◌}, declared.thread.PromisedHandle.{PromisedHandle}}
use Rattle.lz_serve.specs.declared.shares.HandsBack.{HandsBack}

-- that many, all together
abbrev pub promised : {T : Type 0} → List (PromisedHandle T HandsBack) → ℕ
promised [] = 0
promised (thread ∷ threads) = thread.promise.count + promised threads
