use Rattle.std.proofs.Common.{length}
use Rattle.contents.specs.Blocks.{blocks_of}
use Rattle.contents.specs.Contents.{contents_of, remaining}
use Rattle.listing.proofs.lister.Lister.tell_pairs_from.Given as goal

abbrev pub decreases-loop-pair : goal.decreases-loop-pair
decreases-loop-pair g l = length (remaining (contents_of (blocks_of (g.D.Device.meaning l.self.database.device))) l.at)
