use Rattle.std.proofs.Common.{refl, ap, ◌∙◌}
use Rattle.page_edits.proofs.Fit.{without_none, without_one}
use Rattle.page_edits.specs.Write.{written}
use Rattle.page_edits.proofs.removing.without.Goals as goal

pub returns-in-Some-number_of : goal.returns-in-Some-number_of
returns-in-Some-number_of c =
    let k = c.in-Some-number_of.k in
    let at = c.in-Some-number_of.ensures in
    let o = without_one c.args.page.now c.args.key.now k at.0 at.1 in
    let w = c.finish.ensures _ c.copy_rest.ensures in
    (c.in-Some.ensures.variant.0 refl, o.0, (rw (c.new.ensures.page, c.new.ensures.number) at w) ∙ ap written o.1)

pub returns-in-None : goal.returns-in-None
returns-in-None c =
    let o = without_none c.args.page.now c.args.key.now c.in-None.ensures in
    (c.in-Some.ensures.variant.0 refl, o.0, c.finish-in-None.ensures _ (rw (c.copy_from_slice.ensures.after ∙ c.bytes.ensures) c.of.ensures) ∙ ap written o.1)
