use Rattle.std.proofs.Common.{List, ℕ, ap, sym, ◌∙◌, arith}
use Rattle.page_edits.proofs.Fronts.{front_all, front_end, front_more, front_next}
use Rattle.page_edits.specs.Stay.{stays}
use Rattle.page_edits.proofs.keeping.count_kept.Goals as goal

pub loop-k-preserved : goal.loop-k-preserved
loop-k-preserved c =
    let at = c.in-Some.ensures in
    let kept = sym c.if-not-stays.false ∙ c.stays.ensures ∙ ap (λ (key : List ℕ). stays c.args.but c.args.bits c.args.low key) at.1 in
    front_more c.args.page.now (λ q. stays c.args.but c.args.bits c.args.low q.0) c.loop-k.k at.0 kept c.loop-k.invariant

pub returns-clause-kept : goal.returns-clause-kept
returns-clause-kept c =
    front_all c.args.page.now (λ q. stays c.args.but c.args.bits c.args.low q.0) c.loop-k.k _ (omega (arith, c.loop-k-test.false, c.count-count.ensures)) c.count-count.ensures c.loop-k.invariant

pub returns-clause-next : goal.returns-clause-next
returns-clause-next c =
    front_end c.args.page.now (λ q. stays c.args.but c.args.bits c.args.low q.0) c.loop-k.k _ (omega (arith, c.loop-k-test.false, c.count-count.ensures)) c.count-count.ensures c.loop-k.invariant

pub returns-then-not-stays-clause-next : goal.returns-then-not-stays-clause-next
returns-then-not-stays-clause-next c =
    let at = c.in-Some.ensures in
    let left = sym c.if-not-stays.true ∙ c.stays.ensures ∙ ap (λ (key : List ℕ). stays c.args.but c.args.bits c.args.low key) at.1 in
    front_next c.args.page.now (λ q. stays c.args.but c.args.bits c.args.low q.0) c.loop-k.k at.0 left c.loop-k.invariant
