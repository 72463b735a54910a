use Rattle.std.proofs.Common.{ℕ, ◌+◌, List, min, refl, sym, ap, ◌∙◌, arith, below_more, take_all}
use Rattle.directory.specs.Tree.{low}
use Rattle.page_edits.proofs.Kept.{cost}
use Rattle.pages.proofs.Looks.{length_pairs}
use Rattle.pages.specs.Blank.{bytes_of}
use Rattle.pages.specs.Page.{Pair, pairs_of}
use Rattle.splits.specs.Writes.{others}
use Rattle.splits.proofs.Costs.{cost_front, enough, first_leaves, first_stays, room_stays, too_few}
use Rattle.splits.proofs.Plans.{plan_none, plan_some}
use Rattle.splits.proofs.planning.plan.Goals as goal

pub returns-in_err-beside : goal.returns-in_err-beside
returns-in_err-beside c =
    c.from_residual.ensures ∙ plan_none _ _ _ _ _ refl (λ s l. too_few _ _ _ _ (omega (arith, c.in_err-beside.ensures)))

pub loop-k-preserved-then-not-stays : goal.loop-k-preserved-then-not-stays
loop-k-preserved-then-not-stays c =
    let low_is = c.low_bits-low.ensures ∙ ap (λ (h : ℕ). low h (c.args.leaf.now.depth + c.splits.s)) c.hash_of-hash.ensures in
    let e = first_leaves c.args.key.now (c.args.leaf.now.depth + c.splits.s) _ _ _ _ _ _ c.in-Some.ensures c.stays.ensures low_is c.if-not-stays.true in
    (c.loop-k.invariant.0, omega (arith, e, c.loop-k.invariant.1))

pub loop-k-preserved : goal.loop-k-preserved
loop-k-preserved c =
    let low_is = c.low_bits-low.ensures ∙ ap (λ (h : ℕ). low h (c.args.leaf.now.depth + c.splits.s)) c.hash_of-hash.ensures in
    let e = first_stays c.args.key.now (c.args.leaf.now.depth + c.splits.s) _ _ _ _ _ _ c.in-Some.ensures c.stays.ensures low_is c.if-not-stays.false in
    (c.loop-k.invariant.0, omega (arith, e, c.loop-k.invariant.1, c.in-Some-room_beside.ensures))

pub splits-preserved : goal.splits-preserved
splits-preserved c =
    let t = c.args.leaf.now.depth in
    let low_is = c.low_bits-low.ensures ∙ ap (λ (h : ℕ). low h (t + c.splits.s)) c.hash_of-hash.ensures in
    let e = first_stays c.args.key.now (t + c.splits.s) _ _ _ _ _ _ c.in-Some.ensures c.stays.ensures low_is c.if-not-stays.false in
    let front = cost_front c.args.key.now (t + c.splits.s) (c.loop-k.k + 1) (pairs_of (bytes_of c.args.page.now.good)) in
    let here = too_few (pairs_of (bytes_of c.args.page.now.good)) c.args.key.now c.args.value.now (t + c.splits.s)
    (omega (arith, e, front, c.loop-k.invariant.1, c.in_default-room_beside.ensures, c.in_ok-beside.ensures)) in
    rw c.loop-k.invariant.0 (omega (arith, c.if-s-most.false), below_more _ _ c.splits.invariant.1 here)

pub returns-then-s-most : goal.returns-then-s-most
returns-then-s-most c =
    plan_none _ _ _ _ _ (c.min-most.ensures ∙ ap (min 10) c.saturating_sub.ensures) (λ s l. c.splits.invariant.1 s (omega (arith, c.if-s-most.true)))

pub returns-after-loop-k : goal.returns-after-loop-k
returns-after-loop-k c =
    let t = c.args.leaf.now.depth + c.splits.s in
    let pairs = pairs_of (bytes_of c.args.page.now.good) in
    let all = ap (λ (ps : List Pair). cost (others ps c.args.key.now t)) (take_all c.loop-k.k pairs (omega (arith, length_pairs (bytes_of c.args.page.now.good), c.loop-k-test.false, c.count-k-end.ensures))) in
    let fits = enough pairs c.args.key.now c.args.value.now t (omega (arith, all, c.loop-k.invariant.1, c.in_ok-beside.ensures)) in
    rw c.loop-k.invariant.0
    (plan_some _ _ _ _ _ (c.min-most.ensures ∙ ap (min 10) c.saturating_sub.ensures) c.splits.s (omega (arith, c.if-s-most.false)) fits c.splits.invariant.1)

pub returns-then-fits_beside_all : goal.returns-then-fits_beside_all
returns-then-fits_beside_all c =
    let pairs = pairs_of (bytes_of c.args.page.now.good) in
    let t = c.args.leaf.now.depth in
    plan_some pairs c.args.key.now c.args.value.now t _ refl 0 (omega arith)
    (room_stays pairs c.args.key.now c.args.value.now (t + 0) (sym c.fits_beside_all.ensures ∙ c.if-fits_beside_all.true))
    (λ r l. absurd (omega arith))
