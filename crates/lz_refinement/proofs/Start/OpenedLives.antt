-- A set's life as it begins: its vault isn't dead.
use Rattle.std.proofs.Common.{ℕ, [], arith}
use Rattle.lz_refinement.{proofs.Vocabulary.{Device, Yard, OpensYard}, specs.Lives.{LivesOn}}

-- since the open was done
pub now_lives : (before after : Device) (buckets passes : ℕ) (y : Yard) → OpensYard before after buckets passes y → LivesOn y.vault.format after [] y after
now_lives before after buckets passes y opens = grind arith
