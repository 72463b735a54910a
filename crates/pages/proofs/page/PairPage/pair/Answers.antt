use Rattle.std.proofs.Common.{arith}
use Rattle.pages.specs.Blank.{bytes_of}
use Rattle.pages.specs.Page.{pairs}
use Rattle.pages.proofs.Pages.{offsets_within}
use Rattle.pages.proofs.page.PairPage.pair.Goals as goal

pub place-requires : goal.place-requires
place-requires c =
    let page = bytes_of c.args.self.now.good in
    let within = offsets_within page (pairs page) c.args.self.now.laid c.args.k (omega arith) in
    let at = rw c.block-page.ensures at c.key_at-at.ensures in
    let end = rw c.block-page.ensures at c.key_end.ensures in
    (omega (arith, within, at, end), omega (arith, within, end))

pub place-requires-2 : goal.place-requires-2
place-requires-2 c =
    let page = bytes_of c.args.self.now.good in
    let within = offsets_within page (pairs page) c.args.self.now.laid c.args.k (omega arith) in
    let at = rw c.block-page.ensures at c.key_at-at.ensures in
    let val = rw c.block-page.ensures at c.val_at.ensures in
    (omega (arith, within, at, val), omega (arith, within, at))
