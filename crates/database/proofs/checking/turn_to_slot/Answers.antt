use Rattle.std.proofs.Common.{arith}
use Rattle.database.proofs.Unders.{slot_read, slots_kept}
use Rattle.database.proofs.checking.turn_to_slot.Goals as goal

pub returns-clause-read : goal.returns-clause-read
returns-clause-read g c =
    slot_read g.D.Device.steps g.D.Device.meaning c.args.device.now c.read.new.self c.args.n _ c.args.directory.now c.read.new.into (omega arith) (omega arith) c.read.result c.read.ensures.step c.read.ensures.into

pub returns-clause-kept : goal.returns-clause-kept
returns-clause-kept g c =
    slots_kept g.D.Device.steps g.D.Device.meaning c.args.device.now c.read.new.self c.args.n _ c.args.directory.now c.read.new.into (omega arith) (omega arith) c.read.result c.read.ensures.step c.read.ensures.into
