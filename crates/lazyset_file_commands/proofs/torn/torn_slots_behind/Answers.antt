use Rattle.lazyset_file_commands.proofs.torn.torn_slots_behind.Goals as goal
use Rattle.std.proofs.Common.{rules, ◌≡◌, ◌*◌, length, length-append, drop, arith, length-drop, length-take}
use Rattle.lazyset_file_commands.proofs.TornSlots.{counted_all, counted_more, counted_none}

pub loop-done-init : goal.loop-done-init
loop-done-init g c = record {
  range = search rules;
  room = search rules;
  bound = search rules;
  read = λ input head size four given. counted_none head input (g.R.Read.remaining c.args.reader.now) size given;
}

pub loop-done-preserved : goal.loop-done-preserved
loop-done-preserved g c =
    let left = g.R.Read.remaining in
    let more = c.min-more.result in
    let part = length-take (16 * more) c.loop-done.piece in
    let long : length c.read_exact.new.buf ≡ 16 * more = omega (arith, part, c.loop-done.invariant.room, c.read_exact.auto.buf) in
    record {
      range = search rules;
      room = omega (arith, length-append c.read_exact.new.buf (drop (16 * more) c.loop-done.piece), length-drop (16 * more) c.loop-done.piece, long, c.loop-done.invariant.room);
      bound = omega (arith, long, c.torn_slots_among-count.ensures.bound, c.loop-done.invariant.bound);
      read = λ input head size four given.
          counted_more head input (left c.loop-done.reader) (left c.read_exact.new.self) c.loop-done.done more c.loop-done.count c.torn_slots_among-count.result c.read_exact.new.buf
          four long c.in_ok-read_exact.ensures.bytes c.torn_slots_among-count.ensures.torn (c.loop-done.invariant.read input head size four given);
    }

pub returns : goal.returns
returns g c = λ input head size four given.
    counted_all head input (g.R.Read.remaining c.loop-done.reader) c.loop-done.done c.args.slots c.loop-done.count (omega (arith, c.loop-done.invariant.range))
    (c.loop-done.invariant.read input head size four given)
