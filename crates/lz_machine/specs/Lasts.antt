-- What is settled lasts.
use Rattle.std.specs.Prelude.{◌≡◌, ℕ, true, false}
use Rattle.lz_slot.specs.{declared.command.Command.TheVariants.{Add, Remove}, Sets.{Keys}, Histories.{History, IsUnderWay}}
use Rattle.lz_list.specs.Traces.{Trace, IsSettled}

-- The set has each key whose adding is settled after P, unless a removal of it is under way in the history M, and lacks each
-- key whose absence is settled, unless an adding of it is.
pub record Lasts (P : Trace) (M : History) (S : Keys) : Type 0 where
  pub has : (k : ℕ) → IsSettled P P k true → ((i : ℕ) → ¬ IsUnderWay M i (Remove k)) → S k ≡ true
  pub lacks : (k : ℕ) → IsSettled P P k false → ((i : ℕ) → ¬ IsUnderWay M i (Add k)) → S k ≡ false
