use Rattle.std.proofs.Common.{◌≡◌, ℕ, suc, ◌+◌, ◌-◌, ◌<◌, ◌/◌, List, set, length, Ok, Err, refl, sym, ap, subst, ◌∙◌, rules, arith, length-set}
use Rattle.database.proofs.Halves.{slots_set, split_next, split_refused}
use Rattle.calls.proofs.Marks.{marked}
use Rattle.database.proofs.splitting.split_all.Goals as goal
use Rattle.calls.specs.Store.{Slots, slot, split_write, split_writes, with_bit}
use Rattle.devices.specs.Trace.{Did, Trace}
use Rattle.directory.proofs.Lookups.{node_lt}
use Rattle.directory.specs.Tree.{node}
use Rattle.pages.specs.Blank.{bytes_of}
use Rattle.pages.specs.Page.{pairs_of}

pub loop-init : goal.loop-init
loop-init g c =
    let all : c.args.splits - 0 ≡ c.args.splits = omega arith in
    record {
      hash = refl;
      depth = omega arith;
      rest = λ blocks slots. (
        blocks,
        slots,
        λ r e t. subst (λ (n : ℕ). Trace (Did g.D.Device.steps g.D.Device.meaning) c.args.device.now (split_writes blocks (pairs_of (bytes_of c.args.page.now.good)) c.args.way.hash c.args.way.depth n) (Ok tt) r e) all t,
      );
    }

pub returns-in_err-split_one : goal.returns-in_err-split_one
returns-in_err-split_one g c = λ blocks slots.
    let did = Did g.D.Device.steps g.D.Device.meaning in
    let pairs = pairs_of (bytes_of c.args.page.now.good) in
    let h = c.args.way.hash in
    let t = c.loop.way.depth in
    let directory = c.loop.directory in
    let f = c.in_err-split_one.field-0.0 in
    let is : c.from_residual.result ≡ Err f = search rules in
    let rest = c.loop.invariant.rest blocks slots in
    let now = rest.0 in
    let same : Slots now directory (node h t / 8192) = subst (λ (k : ℕ). Slots now directory (node h k / 8192)) (sym c.loop.invariant.depth) (rest.1 c.loop.counter c.loop-test.true) in
    let made = subst (λ (k : ℕ). Trace did c.loop.device (split_write (slot directory) pairs k t) (Ok tt) (Err f) c.split_one.new.device) c.loop.invariant.hash c.in_err-split_one.ensures.made in
    subst (λ r. Trace did c.args.device.now (split_writes blocks pairs h c.args.way.depth c.args.splits) (Ok tt) r c.split_one.new.device) (sym is)
    (rest.2 (Err f) c.split_one.new.device
    (split_refused now h t directory same did pairs (c.args.splits - c.loop.counter) (c.args.splits - (c.loop.counter + 1)) (omega (arith, c.loop-test.true))
    c.loop.device c.split_one.new.device f made))

pub loop-preserved : goal.loop-preserved
loop-preserved g c =
    let did = Did g.D.Device.steps g.D.Device.meaning in
    let pairs = pairs_of (bytes_of c.args.page.now.good) in
    let h = c.args.way.hash in
    let t = c.loop.way.depth in
    let directory = c.loop.directory in
    let new = c.split_one.new.directory in
    let left = c.args.splits - (c.loop.counter + 1) in
    let deep : t < 15 = omega (arith, c.loop.invariant.depth, c.loop-test.true, c.requires) in
    let depth : c.go_down.new.self.depth ≡ suc t = omega (arith, c.go_down.ensures.1) in
    let made = subst (λ (k : ℕ). Trace did c.loop.device (split_write (slot directory) pairs k t) (Ok tt) (Ok tt) c.split_one.new.device) c.loop.invariant.hash c.in_ok-split_one.ensures.made in
    let bit : new ≡ set directory (node h t / 8192) (with_bit (slot directory (node h t / 8192)) (node h t)) =
    c.in_ok-split_one.ensures.bit ∙ ap (λ (k : ℕ). set directory (node k t / 8192) (with_bit (slot directory (node k t / 8192)) (node k t))) c.loop.invariant.hash in
    let long : length directory ≡ 4 = sym (length-set directory (node h t / 8192) (with_bit (slot directory (node h t / 8192)) (node h t))) ∙ ap (λ (d : List (List ℕ)). length d) (sym bit) ∙ c.split_one.array_long in
    let within : node h t / 8192 < length directory = omega (arith, node_lt h t deep, long) in
    record {
      hash = c.go_down.ensures.0 ∙ c.loop.invariant.hash;
      depth = omega (arith, c.loop.invariant.depth);
      rest = λ blocks slots.
          let rest = c.loop.invariant.rest blocks slots in
          let now = rest.0 in
          let same : Slots now directory (node h t / 8192) = subst (λ (k : ℕ). Slots now directory (node h k / 8192)) (sym c.loop.invariant.depth) (rest.1 c.loop.counter c.loop-test.true) in
          let total = c.args.splits - c.loop.counter in
          let one : total ≡ suc left = omega (arith, c.loop-test.true) in (
            marked now (node h t),
            λ j l. slots_set now h t directory same new bit within (node h (c.args.way.depth + j) / 8192) (rest.1 j l),
            λ r e u.
                rest.2 r e
                (split_next now h t directory same did pairs total left one c.loop.device c.split_one.new.device e r made
                (subst (λ (k : ℕ). Trace did c.split_one.new.device (split_writes (marked now (node h t)) pairs h k left) (Ok tt) r e) depth u)),
          );
    }
