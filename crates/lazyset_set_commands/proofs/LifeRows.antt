-- Worked rows: what a command leaves is a life, as the law of lives that follow on one another asks for it.
use Rattle.std.{proofs.Common.{ℕ, List}, specs.Prelude.{IsTrue, Option}}
use Rattle.lz_disk.specs.Devices.{Device}
use Rattle.lz_board.specs.declared.view.Note.{Note}
use Rattle.lz_set.specs.JoinedLives.{EndedAfter, Lived}
use Rattle.lazyset_file_commands.specs.declared.status.Status.{Status}
use Rattle.lazyset_set_commands.specs.{Runs.{RanSeat}, Services.{HadPlace, RanService}}

module _ {D : Type 0} (device : D → Device) (old new : D) (honest : IsTrue (device old).honest) (seen : List Note) (t : List ℕ) where
  -- of a session's one pass
  run_lives : (buckets : ℕ) (status : Status) (input rest before after : Option (List ℕ)) (ran : RanSeat device buckets status input rest before after old new)
      → EndedAfter (device ran.opened.disk) (device new) ran.served.notes seen t → Lived device
  run_lives buckets status input rest before after ran ends = record {
    old = old;
    opened = ran.opened;
    buckets = buckets;
    passes = 1;
    opens = ran.opens;
    sizes = ran.sizes;
    trace = ran.trace;
    honest = honest;
    notes = ran.served.notes;
    closed = new;
    left = ran.served.left;
    seen = seen;
    text = t;
    ends = ends;
  }

  -- and of a service's passes
  service_lives : (buckets passes : ℕ) (path : Option (List ℕ)) (status : Status) (before after : Option (List ℕ)) (ran : RanService device buckets passes path status before after old new)
      → (had : HadPlace ran.opened.board (device ran.opened.disk) path status before after (device new)) → EndedAfter (device ran.opened.disk) (device new) had.served.left.notes seen t → Lived device
  service_lives buckets passes path status before after ran had ends = record {
    old = old;
    opened = ran.opened;
    buckets = buckets;
    passes = passes;
    opens = ran.opens;
    sizes = ran.sizes;
    trace = ran.trace;
    honest = honest;
    notes = had.served.left.notes;
    closed = new;
    left = had.served.left.left;
    seen = seen;
    text = t;
    ends = ends;
  }
