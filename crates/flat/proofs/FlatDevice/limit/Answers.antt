use Rattle.flat.proofs.Pieces.{sound}
use Rattle.flat.proofs.FlatDevice.limit.Goals as goal

pub returns-clause-sound : goal.returns-clause-sound
returns-clause-sound c = sound c.args.self.now.bytes.items
