use Rattle.lz_scan_client.proofs.shape.ask_shape.Goals as goal

pub returns-in-Some-Some : goal.returns-in-Some-Some
returns-in-Some-Some g c =
    record {
      info = c.in-Ok-Some.info.now;
      asked = c.in-Ok.ensures;
      read = rw (rw c.as_slice.ensures.value at rw c.in-Ok-Some.field-0-is at c.in-Ok-Some.ensures) at c.in-Ok-whole_reply.ensures;
      format = c.in-Some-Some.ensures;
      slots = c.in-Some-Some.ensures';
    }
