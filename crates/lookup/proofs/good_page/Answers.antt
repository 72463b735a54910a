use Rattle.std.proofs.Common.{ℕ, List, Option, Some, None, sym, ap, ◌∙◌, subst, refl}
use Rattle.contents.proofs.Tests.{good_checked}
use Rattle.lookup.proofs.good_page.Goals as goal
use Rattle.lookup.specs.Pages.{GoodPage, bad_page}
use Rattle.pages.specs.Check.{Checked}
use Rattle.pages.specs.declared.page.PairPage.{PairPage}
use Rattle.std.specs.Option.{ok_or}

checked : (bytes : List ℕ) (n : ℕ) (r : Option PairPage) → Checked bytes r → GoodPage bytes n (ok_or r (bad_page n))
checked bytes n (Some page) h = (good_checked bytes (Some page) h, h.2)
checked bytes n None h = (good_checked bytes None h, refl)

pub returns : goal.returns
returns c = subst (GoodPage c.args.bytes.now c.args.block) (sym (c.ok_or.ensures.value ∙ ap (ok_or c.check.result) c.fault.ensures)) (checked c.args.bytes.now c.args.block c.check.result c.check.ensures)
