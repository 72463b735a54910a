use Rattle.std.proofs.Common.{◌≡◌, ℕ, suc, ◌+◌, ◌-◌, ◌<◌, Ok, Err, refl, sym, ap, subst, ◌∙◌, rules, arith}
use Rattle.database.proofs.Halves.{block_refused, claims_next, leaf_at, upper_refused}
use Rattle.database.proofs.splitting.claim_all.Goals as goal
use Rattle.calls.specs.Store.{claims, split_claims}
use Rattle.devices.specs.Trace.{Did, Trace}

pub returns-in_err-claim-2 : goal.returns-in_err-claim-2
returns-in_err-claim-2 g c =
    let did = Did g.D.Device.steps g.D.Device.meaning in
    let h = c.args.way.hash in
    let t = c.loop.way.depth in
    let f = c.in_err-claim-2.field-0.0 in
    let is : c.from_residual-in_err-claim-2.result ≡ Err f = search rules in
    let leaf = c.leaf-leaf.ensures ∙ ap (λ (k : ℕ). leaf_at k t) c.loop.invariant.hash in
    subst (λ r. Trace did c.args.device.now (claims h c.args.way.depth c.args.splits) (Ok tt) r c.claim-in-loop.new.self) (sym is)
    (c.loop.invariant.rest (Err f) c.claim-in-loop.new.self
    (upper_refused did h t (c.args.splits - c.loop.counter) (c.args.splits - (c.loop.counter + 1)) (omega (arith, c.loop-test.true)) c.leaf-leaf.result leaf
    (omega (arith, c.loop.invariant.depth, c.loop-test.true, c.requires))
    c.loop.device c.claim-in-loop.new.self f c.in_err-claim-2.ensures))

pub returns-in_err-claim-3 : goal.returns-in_err-claim-3
returns-in_err-claim-3 g c =
    let did = Did g.D.Device.steps g.D.Device.meaning in
    let h = c.args.way.hash in
    let t = c.loop.way.depth in
    let f = c.in_err-claim-3.field-0.0 in
    let is : c.from_residual-in_err-claim-3.result ≡ Err f = search rules in
    let leaf = c.leaf-leaf.ensures ∙ ap (λ (k : ℕ). leaf_at k t) c.loop.invariant.hash in
    subst (λ r. Trace did c.args.device.now (claims h c.args.way.depth c.args.splits) (Ok tt) r c.claim-in-loop-2.new.self) (sym is)
    (c.loop.invariant.rest (Err f) c.claim-in-loop-2.new.self
    (block_refused did h t (c.args.splits - c.loop.counter) (c.args.splits - (c.loop.counter + 1)) (omega (arith, c.loop-test.true)) c.leaf-leaf.result leaf
    (omega (arith, c.loop.invariant.depth, c.loop-test.true, c.requires))
    c.loop.device c.claim-in-loop.new.self c.claim-in-loop-2.new.self f c.in_ok-claim-2.ensures c.in_err-claim-3.ensures))

pub loop-preserved : goal.loop-preserved
loop-preserved g c =
    let did = Did g.D.Device.steps g.D.Device.meaning in
    let h = c.args.way.hash in
    let t = c.loop.way.depth in
    let left = c.args.splits - (c.loop.counter + 1) in
    let leaf = c.leaf-leaf.ensures ∙ ap (λ (k : ℕ). leaf_at k t) c.loop.invariant.hash in
    let deep : t < 15 = omega (arith, c.loop.invariant.depth, c.loop-test.true, c.requires) in
    let depth : c.go_down.new.self.depth ≡ suc t = omega (arith, c.go_down.ensures.1) in
    record {
      hash = c.go_down.ensures.0 ∙ c.loop.invariant.hash;
      depth = omega (arith, c.loop.invariant.depth);
      rest = λ r e u.
          c.loop.invariant.rest r e
          (claims_next did h t (c.args.splits - c.loop.counter) left (omega (arith, c.loop-test.true)) c.leaf-leaf.result leaf deep
          c.loop.device c.claim-in-loop.new.self c.claim-in-loop-2.new.self e r c.in_ok-claim-2.ensures c.in_ok-claim-3.ensures
          (subst (λ (k : ℕ). Trace did c.claim-in-loop-2.new.self (split_claims h k left) (Ok tt) r e) depth u));
    }

pub returns : goal.returns
returns g c =
    let did = Did g.D.Device.steps g.D.Device.meaning in
    let h = c.args.way.hash in
    let none : 0 ≡ c.args.splits - c.loop.counter = omega (arith, c.loop-test.false) in
    c.loop.invariant.rest (Ok tt) c.loop.device
    (subst (λ (k : ℕ). Trace did c.loop.device (split_claims h c.loop.way.depth k) (Ok tt) (Ok tt) c.loop.device) none (refl, refl))
