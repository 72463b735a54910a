use Rattle.std.proofs.Common.{arith}
use Rattle.directory.proofs.Bits.{low_masked}
use Rattle.directory.proofs.Low.{low_all}
use Rattle.directory.proofs.low_bits.Goals as goal

pub returns-then-n-lt32 : goal.returns-then-n-lt32
returns-then-n-lt32 c = omega (arith, low_masked c.args.hash c.args.n (omega arith))

pub returns-else-n-lt32 : goal.returns-else-n-lt32
returns-else-n-lt32 c = omega (arith, low_all c.args.hash 32 c.args.n (omega arith) (omega arith))
