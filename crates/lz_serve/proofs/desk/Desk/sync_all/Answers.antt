use Rattle.lz_serve.proofs.desk.Desk.sync_all.Goals as goal
use Rattle.std.proofs.Common.{◌≢◌, ◌+◌, ◌<◌, ◌≤◌, ℕ, All, List, Some, map, option_map, take, vec_capacity, vec_len, length, subst, sym, arith}
use Rattle.std.proofs.lemmas.List.{take_all, take_more_set, Elements.{All-push}}
use Rattle.lz_board.specs.Seats.{part}
use Rattle.lz_set.specs.declared.underway.Blocked.TheVariants.{Syncs}
use Rattle.lz_serve.{specs.{Askings.{Asked}, Desks.{count_of}}, proofs.Desks.{desk_played}}

pub loop-at-preserved : goal.loop-at-preserved
loop-at-preserved g c =
    let s = c.loop-at.self-inside in
    let inv = c.loop-at.invariant in
    let same = inv.long in
    let long = s.calls.ok.0 in
    let old = c.index_mut-asking.result.now in
    let within : c.loop-at.at < length s.calls.items = omega (arith, same, long, c.loop-at-test.true) in
    record {
      given = inv.given;
      within = inv.within;
      long = same;
      synced = subst (λ (l : List Asked). All (λ (a : Asked). a.stage ≢ Some Syncs) l) (sym (take_more_set s.calls.items c.loop-at.at c.sync-synced.new.self within))
          (All-push (λ (a : Asked). a.stage ≢ Some Syncs) (take c.loop-at.at s.calls.items) c.sync-synced.new.self inv.synced c.sync-synced.ensures.stage);
      desk = desk_played s.given s.most (vec_len s.free + count_of s.meeting) (vec_capacity s.free) (vec_capacity s.calls) s.crowd
          (option_map (λ free. (part free.pass).known) s.meeting) s.calls.items (map (λ free.
          (part free.pass).known) s.free.items) c.loop-at.at old c.sync-synced.new.self inv.desk within c.index_mut-asking.ensures.value
          c.sync-synced.ensures.same.question c.sync-synced.ensures.same.token;
    }

-- none of them stands before a Sync
none_syncs : (calls : List Asked) (at : ℕ) → length calls ≤ at → All (λ (a : Asked). a.stage ≢ Some Syncs) (take at calls) → All (λ (a : Asked). a.stage ≢ Some Syncs) calls
none_syncs calls at past all = subst (λ (l : List Asked). All (λ (a : Asked). a.stage ≢ Some Syncs) l) (take_all at calls past) all

pub returns-then-has_synced-2-clause-synced : goal.returns-then-has_synced-2-clause-synced
returns-then-has_synced-2-clause-synced g c =
    let s = c.loop-at.self-inside in
    let same = c.loop-at.invariant.long in
    let long = s.calls.ok.0 in
    none_syncs s.calls.items c.loop-at.at (omega (arith, same, long, c.loop-at-test.false)) c.loop-at.invariant.synced

pub returns-clause-synced : goal.returns-clause-synced
returns-clause-synced g c =
    let s = c.loop-at.self-inside in
    let same = c.loop-at.invariant.long in
    let long = s.calls.ok.0 in
    none_syncs s.calls.items c.loop-at.at (omega (arith, same, long, c.loop-at-test.false)) c.loop-at.invariant.synced
