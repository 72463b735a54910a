use Rattle.std.proofs.Common.{◌≡◌, ◌<◌, Ok, Err, ap, ◌∙◌, rules, arith}
use Rattle.contents.specs.Blocks.{blocks_of}
use Rattle.database.proofs.Database.search.Goals as goal
use Rattle.database.proofs.Steps.{page_found, page_on, visit_found, visit_keeps, visit_on, visit_refused}
use Rattle.calls.specs.declared.Stepped.TheVariants.{Pair}

pub returns-in_err-pair-clause-made : goal.returns-in_err-pair-clause-made
returns-in_err-pair-clause-made g c =
    let M = g.D.Device.meaning in
    let blocks = blocks_of (M c.args.self.now.device) in
    let f = c.in_err-pair.field-0.0 in
    let is : c.from_residual.result ≡ Err f = search rules in
    c.loop-p.invariant.rest c.from_residual.result c.visit.new.self.device
    (visit_refused g.D.Device.steps M blocks c.loop-p.p c.loop-p.number c.loop-p.self.device c.visit.new.self.device c.visit.result (omega arith) c.loop-p.invariant.same c.visit.ensures.made f c.from_residual.result c.in_err-pair.was is)

pub returns-in-Some-clause-made : goal.returns-in-Some-clause-made
returns-in-Some-clause-made g c =
    let M = g.D.Device.meaning in
    let e = c.visit.new.self.device in
    c.loop-p.invariant.rest (Ok (Pair c.in-Some.pair)) e
    (visit_found g.D.Device.steps M (blocks_of (M c.args.self.now.device)) c.loop-p.p c.loop-p.number c.loop-p.self.device e c.visit.result (omega arith) c.loop-p.invariant.same c.visit.ensures.made
    c.in-Some.pair (c.in_ok-pair.was ∙ ap Ok c.in-Some.is))

pub returns-in-Some-clause-page : goal.returns-in-Some-clause-page
returns-in-Some-clause-page g c =
    let M = g.D.Device.meaning in
    page_found g.D.Device.steps M (blocks_of (M c.args.self.now.device)) c.loop-p.p c.loop-p.number c.loop-p.self.device c.visit.new.self.device c.visit.result (omega arith) c.loop-p.invariant.same c.visit.ensures.made
    c.loop-p.block c.visit.new.block c.visit.ensures.page c.in-Some.pair (c.in_ok-pair.was ∙ ap Ok c.in-Some.is)
    ∙ c.loop-p.invariant.page

pub loop-p-preserved : goal.loop-p-preserved
loop-p-preserved g c =
    let steps = g.D.Device.steps in
    let M = g.D.Device.meaning in
    let blocks = blocks_of (M c.args.self.now.device) in
    let p = c.loop-p.p in
    let n = c.loop-p.number in
    let d = c.loop-p.self.device in
    let m = c.visit.new.self.device in
    let v = c.visit.result in
    let l : p < 32768 = omega arith in
    let same = c.loop-p.invariant.same in
    let made = c.visit.ensures.made in
    let none = c.in_ok-pair.was ∙ ap Ok c.in_default.is in
    record {
      same = visit_keeps steps M blocks p n d m v l same made;
      rest = λ r e t. c.loop-p.invariant.rest r e (visit_on steps M blocks p n d m v l same made none r e t);
      page = page_on steps M blocks p n d m v l same made c.loop-p.block c.visit.new.block c.visit.ensures.page none ∙ c.loop-p.invariant.page;
    }
