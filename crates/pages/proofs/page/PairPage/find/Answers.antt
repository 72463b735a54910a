use Rattle.pages.specs.Blank.{bytes_of}
use Rattle.pages.proofs.Looks.{found_at, page_none}
use Rattle.pages.proofs.page.PairPage.find.Goals as goal

pub returns : goal.returns
returns c =
    found_at (bytes_of c.args.self.now.good) c.args.key.now c.in_ok-number_of.field-0 (c.in_ok-value.field-0-0, c.in_ok-value.value)
    c.args.self.now.apart c.in_ok-number_of.ensures.1 c.in_ok-value.ensures

pub returns-in_err-number_of : goal.returns-in_err-number_of
returns-in_err-number_of c =
    rw c.from_residual.ensures (page_none (bytes_of c.args.self.now.good) c.args.key.now c.in_err-number_of.ensures)
