use Rattle.std.proofs.Common.{refl, ◌∙◌, arith, rules}
use Rattle.pages.proofs.Pages.{not_both}
use Rattle.page_edits.proofs.Fit.{fits_taken, replaced_fits}
use Rattle.page_edits.proofs.keeping.replace.Goals as goal

pub push-requires : goal.push-requires
push-requires c = (c.if-not-can_take.ensures.0 refl).1

pub returns : goal.returns
returns c =
    let packed = c.copy_kept-packing.ensures in
    let fits = c.if-not-can_take.ensures.0 refl in (
      c.in-Some.ensures.variant.0 refl,
      replaced_fits c.args.page.now _ _ c.args.bits c.args.low fits.0 (omega (arith, packed.many, packed.low, fits.1)),
      c.copy_from_slice.ensures.after ∙ c.finish.ensures _ (c.push.ensures.packed _ packed),
    )

pub returns-then-not-can_take : goal.returns-then-not-can_take
returns-then-not-can_take c = (
  c.in-Some.ensures.variant.0 refl,
  λ f. not_both _ (c.can_take.ensures.1 (fits_taken _ _ _ f _ _ _ c.copy_kept-packing.ensures)) c.if-not-can_take.true,
  search rules,
)
