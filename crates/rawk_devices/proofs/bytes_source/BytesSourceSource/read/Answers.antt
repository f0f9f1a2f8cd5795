use Rattle.std.proofs.Common.{◌≤◌, ◌+◌, length, arith}
use Rattle.rawk_devices.proofs.Handed.{bytes_handed}
use Rattle.rawk_devices.proofs.bytes_source.BytesSourceSource.read.Goals as goal

pub returns-clause-bytes : goal.returns-clause-bytes
returns-clause-bytes c =
    λ rest gives. let s = c.args.self.now in
    let fits : s.at + c.min-size.result ≤ length s.bytes.items = omega (arith, s.bytes.ok.0) in
    bytes_handed s.bytes.items c.deref.result.now c.copy_front.new.buf s.at c.min-size.result s.ending rest c.deref.ensures.value fits c.copy_front.ensures gives
