use Rattle.std.proofs.Common.{arith, ◌∙◌}
use Rattle.page_edits.proofs.Packs.{packed_at}
use Rattle.pages.specs.Blank.{bytes_of}
use Rattle.pages.specs.Page.{pairs_of}
use Rattle.splits.proofs.Costs.{beside_all}
use Rattle.splits.proofs.planning.fits_beside_all.Goals as goal

pub returns : goal.returns
returns c =
    let p = packed_at c.args.page.now _ _ c.count-count.ensures c.key_end.ensures in
    c.is_some.ensures ∙ beside_all (pairs_of (bytes_of c.args.page.now.good)) c.args.key.now c.args.value.now _ c.room_beside.result (omega (arith, p.many, p.low, p.room)) c.room_beside.ensures
