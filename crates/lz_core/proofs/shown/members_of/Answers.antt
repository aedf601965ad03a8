use Rattle.lz_core.proofs.shown.members_of.Goals as goal
use Rattle.std.proofs.Common.{◌≡◌, ◌↔◌, ℕ, Some, refl, subst}
use Rattle.lz_core.{specs.Worlds.{IsListed}, proofs.{Members.AscendingKeys.{put, left}, shown.members_of.Goals.{in-Some+in_ok-insert_key, in_default}}}

pub loop-index-preserved : goal.loop-index-preserved
loop-index-preserved c =
    let listed = subst (λ (s : ℕ). (k : ℕ) → (c.member_at.result ≡ Some k) ↔ IsListed c.args.yard.now.yard.words s k) c.new.ensures c.member_at.ensures in
    elim c.match-member_at.branch [
      | in-Some+in_ok-insert_key w ↦
          rw w.keys-is (
            w.in_ok-insert_key.ensures.ascending,
            put c.args.yard.now.yard.words c.loop-index.index _ _ c.loop-index.invariant.1 _ (rw w.in-Some.is at listed) w.in_ok-insert_key.ensures.members,
          )
      | in_default w ↦
          rw w.keys-is (
            c.loop-index.invariant.0,
            left c.args.yard.now.yard.words c.loop-index.index c.loop-index.keys.items _ c.loop-index.invariant.1 (rw w.in_default.is at listed) refl,
          )
    ]
