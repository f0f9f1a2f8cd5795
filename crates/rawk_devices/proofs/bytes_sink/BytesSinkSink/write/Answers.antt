use Rattle.std.proofs.Common.{◌≡◌, ◌≤◌, ◌+◌, ℕ, Bool, true, false, length, take, arith, if◌then◌else◌}
use Rattle.std.proofs.lemmas.List.{length-take-le}
use Rattle.rawk_devices.proofs.bytes_sink.BytesSinkSink.write.Goals as goal

grows_at_most : (ok : Bool) (had more : ℕ) → (if ok then had + more else had) ≤ had + more
grows_at_most true had more = omega arith
grows_at_most false had more = omega arith

pub invariant_of-self : goal.invariant_of-self
invariant_of-self c = record {
  in_room = λ place is.
      let room : length c.args.self.now.bytes.items + c.room.result ≤ place = c.room.ensures place is in
      let size : length (take c.min-size.result c.args.bytes.now) ≡ c.min-size.result = length-take-le c.min-size.result c.args.bytes.now (omega arith) in
      omega (arith, c.extend_from_slice.ensures.len, c.extend_from_slice.new.self.ok.0, c.args.self.now.bytes.ok.0, grows_at_most);
}
