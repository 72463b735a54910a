use Rattle.std.proofs.Common.{refl}
use Rattle.page_edits.proofs.keeping.keep_others.Goals as goal

pub returns : goal.returns
returns c = (c.in-Some.ensures.variant.0 refl, c.finish.ensures _ c.copy_kept.ensures)
