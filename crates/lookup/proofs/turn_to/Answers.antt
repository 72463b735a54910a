use Rattle.std.proofs.Common.{arith}
use Rattle.lookup.proofs.Reading.{filled_shown}
use Rattle.lookup.proofs.turn_to.Goals as goal

pub returns-clause-block : goal.returns-clause-block
returns-clause-block g c =
    filled_shown g.D.Device.steps g.D.Device.meaning c.args.device.now c.read.new.self c.args.n _ c.read.result c.args.block.now c.read.new.into (omega arith) c.told-block c.read.ensures.step c.read.ensures.into
