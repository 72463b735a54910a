use Rattle.pages.specs.Blank.{bytes_of}
use Rattle.pages.proofs.Looks.{page_none, value_at}
use Rattle.pages.proofs.page.PairPage.value_of.Goals as goal

pub returns : goal.returns
returns c =
    value_at (bytes_of c.args.self.now.good) c.args.key.now c.in_ok-number_of.field-0 (c.in_ok-part.field-0-0, c.in_ok-part.part) c.args.self.now.apart c.in_ok-number_of.ensures.1 c.in_ok-part.ensures

pub returns-in_err-number_of : goal.returns-in_err-number_of
returns-in_err-number_of c =
    rw c.from_residual.ensures (page_none (bytes_of c.args.self.now.good) c.args.key.now c.in_err-number_of.ensures)
