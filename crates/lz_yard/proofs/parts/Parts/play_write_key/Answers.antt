use Rattle.lz_yard.proofs.parts.Parts.play_write_key.Goals as goal
use Rattle.std.proofs.Common.{refl}
use Rattle.lz_yard.proofs.Events.VaultCalls.{key_slot, write_key_does}

pub returns : goal.returns
returns g c =
    let known = rw (← c.self.view_is) at c.requires.known in
    let slot = rw (← c.self.view_is) at c.slot-slot.ensures.slot in
    let fits = rw (← c.self.view_is) at c.requires.fits in
    let ready = rw (← c.self.view_is) at c.requires.ready in
    let within = key_slot _ _ c.args.actor c.args.key c.slot-slot.result fits ready slot in
    record {
      done = rw (← c.self.view_is) (write_key_does _ c.args.actor c.args.key c.slot-slot.result c.rank.result c.set.new.self c.put_key.new.self.memory _ _ _ known slot c.rank.ensures.value c.set.ensures.list within c.in_ok-put_key.ensures.call);
      rows = rw (← c.self.view_is) refl;
    }
