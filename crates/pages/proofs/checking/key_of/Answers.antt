use Rattle.std.proofs.Common.{◌+◌, arith}
use Rattle.pages.proofs.Pages.{offsets_within}
use Rattle.pages.proofs.checking.key_of.Goals as goal

pub slice_bounds-result-end : goal.slice_bounds-result-end
slice_bounds-result-end c =
    let k = c.args.k in
    let within = offsets_within c.args.page.now (k + 1) c.requires.laid k (omega arith) in
    omega (arith, within, c.key_at.ensures, c.key_end.ensures)
