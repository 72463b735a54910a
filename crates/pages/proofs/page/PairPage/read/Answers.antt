use Rattle.std.proofs.Common.{arith}
use Rattle.pages.specs.Page.{Bytes}
use Rattle.pages.proofs.Held.{bytes_typed, good_given}
use Rattle.pages.proofs.page.PairPage.read.Goals as goal

pub invariant_of-result : goal.invariant_of-result
invariant_of-result c =
    let page = c.args.page.now in
    let typed : Bytes page = λ i. omega (arith, c.type_inv.page i) in
    let g = good_given page c.as_good.result c.as_good.ensures.some c.as_good.ensures.good in
    record {
      typed = bytes_typed page c.as_good.result c.as_good.ensures.some typed;
      whole = g.whole;
      even = g.even;
      few = g.few;
      laid = g.laid;
      room = g.room;
      apart = g.apart;
    }
