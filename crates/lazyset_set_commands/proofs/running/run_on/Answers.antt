use Rattle.lazyset_set_commands.proofs.running.run_on.Goals as goal
use Rattle.std.proofs.Common.{inl, inr, refl, sym, ap, ◌∙◌}
use Rattle.lz_list.specs.declared.layout.Sizes.{Sizes}
use Rattle.lazyset_set_commands.proofs.{Openings.{failed_open}, Runs.LeftSets.{seat_faults, seat_set, seat_plain}}

pub run_blank-requires-clause-one : goal.run_blank-requires-clause-one
run_blank-requires-clause-one g c = ap (λ (z : Sizes). z.passes) c.in-Ok.ensures.board.0 ∙ c.in-Ok.ensures.ok.passes

pub returns-in-Ok-clause-ran : goal.returns-in-Ok-clause-ran
returns-in-Ok-clause-ran g c =
    inl (record { opened = c.in-Ok.blank; opens = c.in-Ok.ensures.ok; sizes = c.in-Ok.ensures.board.0; trace = c.in-Ok.ensures.board.1; served = c.run_blank.ensures })

pub returns-in-Ok-clause-honest : goal.returns-in-Ok-clause-honest
returns-in-Ok-clause-honest g c = c.run_blank.ensures.left.honest ∙ c.in-Ok.ensures.ok.vault.honest

pub returns-in-Ok-clause-faults : goal.returns-in-Ok-clause-faults
returns-in-Ok-clause-faults g c = seat_faults g.D.Disk.device c.args.buckets _ _ _ _ _ c.args.disk _
    (record { opened = c.in-Ok.blank; opens = c.in-Ok.ensures.ok; sizes = c.in-Ok.ensures.board.0; trace = c.in-Ok.ensures.board.1; served = c.run_blank.ensures })

pub returns-in-Ok-clause-set : goal.returns-in-Ok-clause-set
returns-in-Ok-clause-set g c = λ N S honest held.
    inl (seat_set g.D.Disk.device c.args.buckets _ _ _ _ _ c.args.disk _
    (record { opened = c.in-Ok.blank; opens = c.in-Ok.ensures.ok; sizes = c.in-Ok.ensures.board.0; trace = c.in-Ok.ensures.board.1; served = c.run_blank.ensures }) N S honest held (g.met.D.Disk.timely c.args.disk honest))

pub returns-in-Ok-clause-plain : goal.returns-in-Ok-clause-plain
returns-in-Ok-clause-plain g c = λ N S honest held is.
    seat_plain g.D.Disk.device c.args.buckets _ _ _ _ _ c.args.disk _
    (record { opened = c.in-Ok.blank; opens = c.in-Ok.ensures.ok; sizes = c.in-Ok.ensures.board.0; trace = c.in-Ok.ensures.board.1; served = c.run_blank.ensures }) N S honest held (sym is)

pub returns-in-Err-clause-ran : goal.returns-in-Err-clause-ran
returns-in-Err-clause-ran g c = inr (record { fault = _; refused = c.in-Err.ensures.err; unread = refl; told = c.refuse.ensures.told })

pub returns-in-Err-clause-set : goal.returns-in-Err-clause-set
returns-in-Err-clause-set g c = λ N S honest held. inr (failed_open _ _ _ c.in-Err.ensures.err _ _ _ N S honest (g.met.D.Disk.timely c.args.disk honest) held c.refuse.ensures.told)
