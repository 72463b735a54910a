use Rattle.std.proofs.Common.{arith}
use Rattle.directory.proofs.Lookups.{node_lt}
use Rattle.directory.proofs.way.Way.bit.Goals as goal

pub returns-then-self-lt-MAX_DEPTH : goal.returns-then-self-lt-MAX_DEPTH
returns-then-self-lt-MAX_DEPTH c =
    let way = c.args.self.now in
    (omega arith, way.on, omega (arith, way.on, node_lt way.hash way.depth (omega arith)))
