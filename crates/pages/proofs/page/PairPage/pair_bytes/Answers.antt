use Rattle.pages.specs.Blank.{bytes_of}
use Rattle.pages.proofs.Looks.{lies_at, lies_within}
use Rattle.pages.proofs.page.PairPage.pair_bytes.Goals as goal

pub part-pair-requires : goal.part-pair-requires
part-pair-requires c =
    lies_within (bytes_of c.args.self.now.good) c.args.self.now.whole c.args.self.now.laid c.args.k _ _ _ _ c.in_ok-key_len.ensures

pub returns : goal.returns
returns c =
    lies_at (bytes_of c.args.self.now.good) c.args.self.now.whole c.args.self.now.laid c.args.k _ _ _ _ c.in_ok-key_len.ensures _ _
    (rw c.block.ensures at c.part-pair.ensures) c.from.ensures
