use Rattle.std.proofs.Common.{refl}
use Rattle.pages.proofs.Held.{bytes_given}
use Rattle.pages.proofs.page.PairPage.block.Goals as goal

pub returns : goal.returns
returns c = rw c.unwrap_or.ensures (bytes_given c.args.self.now.good _ refl)
