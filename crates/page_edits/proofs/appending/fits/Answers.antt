use Rattle.std.proofs.Common.{refl, arith}
use Rattle.pages.proofs.Pages.{not_both}
use Rattle.page_edits.proofs.Fit.{fits_taken, found_fits}
use Rattle.page_edits.proofs.appending.fits.Goals as goal

pub returns-then-can_take : goal.returns-then-can_take
returns-then-can_take c =
    let packed = c.of.ensures in
    let taken = c.if-can_take.ensures.0 refl in
    found_fits c.args.page.now _ _ _ _ c.number_of.ensures c.is_none.ensures taken.0 (omega (arith, packed.many, packed.low, taken.1))

pub returns-else-can_take : goal.returns-else-can_take
returns-else-can_take c = (
  λ e. absurd (not_both _ e c.if-can_take.false),
  λ f. c.can_take.ensures.1 (fits_taken _ _ _ f _ _ _ c.of.ensures),
)
