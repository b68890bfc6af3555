-- `record::write_record` meets its contract: 25 bytes are copied to the front of a buffer that has room for them.
use Rattle.std.proofs.Common.{arith}
use Rattle.record.proofs.Steps.{room_for}
use Rattle.record.proofs.write_record.Goals as goal

pub copy_from_slice-requires : goal.copy_from_slice-requires
copy_from_slice-requires c = room_for _ _ _ c.bytes_of.ensures (omega arith)
