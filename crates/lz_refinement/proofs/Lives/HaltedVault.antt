-- A set that was halted has a dead vault, so its life is over for one of the reasons that a life has.
use Rattle.std.proofs.Common.{◌≡◌, ◌⊎◌, ◌≤◌, ◌<◌, true, List, sym, ap, ◌∙◌}
use Rattle.lz_refinement.proofs.Vocabulary.{Format, Device, Vaulted, last_sync, halt_word, Yard, run, first_point, Note, trace_of, BoardId}
use Rattle.lz_refinement.{proofs.Reading.TraceNotes.{trace_reads}, specs.{Holds.{IsLocked}, Lives.{LivesOn}}}
use Rattle.lz_machine.proofs.Theorem.Reached.{reached_sound, up_at}

pub dead_halted : (b : BoardId) (ns : List Note) (y : Yard) (dev : Device) → IsLocked b ns y dev → halt_word (trace_of b.opened ns) ≡ 1 → y.vault.dead ≡ true
dead_halted b ns y dev locked halted =
    let tie = locked.tied in
    let there = up_at tie.start (run (first_point tie.start) tie.steps) tie.service tie.medium (reached_sound tie.start tie.steps tie.starts tie.runs) tie.state in
    let trace = trace_reads (first_point tie.start) ns tie.steps tie.reads ∙ ap (λ P. trace_of P ns) (sym tie.begins) in
    ap (λ (v : Vaulted). v.dead) tie.yard.vault ∙ there.up.sound.slots.halted (ap halt_word trace ∙ halted)

-- no sync was left, or the device has failed
pub over_halted : (b : BoardId) (ns : List Note) (y : Yard) (dev first : Device) (F : Format) → IsLocked b ns y dev → LivesOn F first ns y dev → halt_word (trace_of b.opened ns) ≡ 1 → (last_sync ≤ y.vault.syncs) ⊎ (first.faults < dev.faults)
over_halted b ns y dev first F locked lives halted = lives.dead (dead_halted b ns y dev locked halted)
