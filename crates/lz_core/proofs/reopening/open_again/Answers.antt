use Rattle.lz_core.proofs.reopening.open_again.Goals as goal
use Rattle.std.proofs.Common.{refl}
use Rattle.lz_core.proofs.Members.ShownKeys.{ascend_from, opened_keys}

pub returns-in-Ok-clause-keys : goal.returns-in-Ok-clause-keys
returns-in-Ok-clause-keys c =
    opened_keys _ _ _ _ _ c.in_ok-yard.ensures.ok refl c.requires.buckets.0 c.in-Ok.keys.items c.in-Ok.ensures.members c.in-Ok.ensures.ascending

pub returns-in-Ok-clause-ascending : goal.returns-in-Ok-clause-ascending
returns-in-Ok-clause-ascending c = ascend_from _ _ c.in-Ok.keys.items c.in-Ok.ensures.members c.in-Ok.ensures.ascending
