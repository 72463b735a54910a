use Rattle.std.proofs.Common.{◌≡◌, ℕ, suc, ◌+◌, ◌-◌, ◌/◌, ◌<◌, ◌≢◌, [], ◌∷◌, List, Ok, Err, refl, sym, ap, subst, ◌∙◌, ⊎_elim, rules, arith}
use Rattle.contents.specs.Blocks.{Blocks, bits_in, blocks_of}
use Rattle.database.proofs.Unders.{answer, first, leaf_lt, leaf_on, next_one, pair_passed, pair_refused, second, tested, under_next, under_none}
use Rattle.database.proofs.checking.check_under.Goals as goal
use Rattle.calls.specs.Store.{Slots, bits_clear, bits_under, clear_pair, under_calls, up_to}
use Rattle.devices.specs.Trace.{Did, Trace}
use Rattle.directory.specs.Tree.{node}
use Rattle.directory.specs.declared.Leaf.{Leaf}
use Rattle.lookup.proofs.Reading.{reads_keep}
use Rattle.lookup.specs.Reads.{blocks_of_bits, reads}
use Rattle.std.proofs.lemmas.Bool.{cases_eq}
use Rattle.std.specs.List.{find}

pub clear_under-requires-clause-range : goal.clear_under-requires-clause-range
clear_under-requires-clause-range g c =
    leaf_lt c.leaf-index.result _ _ _ c.leaf-index.ensures (omega (arith, ap (λ (l : Leaf). l.depth) c.leaf-leaf.ensures))

pub overflow_mul-last : goal.overflow_mul-last
overflow_mul-last g c =
    let room = leaf_lt c.leaf-index.result _ _ _ c.leaf-index.ensures (omega (arith, ap (λ (l : Leaf). l.depth) c.leaf-leaf.ensures)) in
    omega arith

pub overflow_add-last : goal.overflow_add-last
overflow_add-last g c =
    let room = leaf_lt c.leaf-index.result _ _ _ c.leaf-index.ensures (omega (arith, ap (λ (l : Leaf). l.depth) c.leaf-leaf.ensures)) in
    omega arith

pub returns-in_err-clear_under-clause-made : goal.returns-in_err-clear_under-clause-made
returns-in_err-clear_under-clause-made g c =
    let did = Did g.D.Device.steps g.D.Device.meaning in
    let blocks = blocks_of (g.D.Device.meaning c.args.device.now) in
    let bits = bits_in blocks in
    let h = c.args.way.hash in
    let t = c.args.way.depth in
    let s = c.args.splits in
    let k = c.loop.counter in
    let i = c.leaf-index.result.index in
    let d = c.loop.device in
    let e = c.clear_under.new.device in
    let last = c.loop.last in
    let f = c.in_err-clear_under.field-0.0 in
    let deep : t + k < 14 = omega (arith, ap (λ (l : Leaf). l.depth) c.leaf-leaf.ensures) in
    let at : i ≡ node h (t + k) = leaf_on c.leaf-index.result _ _ _ c.leaf-index.ensures c.loop.invariant.hash c.loop.invariant.depth in
    let next = under_next h t s k i at (omega arith) deep in
    let made = subst (λ (b : Blocks). Trace did d (tested (bits_in b) last i []) (clear_pair (bits_in b) i) (Err f) e) c.loop.invariant.same c.in_err-clear_under.ensures.made in
    let is : c.from_residual.result ≡ Err f = search rules in
    subst (λ r. Trace did c.args.device.now (under_calls bits h t s) (bits_clear bits h t s) r e) (sym is)
    (c.loop.invariant.rest (Err f) e
    (subst (λ (is : List ℕ). Trace did d (reads (blocks_of_bits last (up_to bits is))) (answer (find bits is)) (Err f) e) (sym next)
    (pair_refused did bits last i (bits_under h (t + (k + 1)) (s - (k + 1))) d e f made)))

pub loop-preserved : goal.loop-preserved
loop-preserved g c =
    let steps = g.D.Device.steps in
    let M = g.D.Device.meaning in
    let did = Did steps M in
    let blocks = blocks_of (M c.args.device.now) in
    let bits = bits_in blocks in
    let h = c.args.way.hash in
    let t = c.args.way.depth in
    let s = c.args.splits in
    let k = c.loop.counter in
    let i = c.leaf-index.result.index in
    let d = c.loop.device in
    let m = c.clear_under.new.device in
    let last = c.loop.last in
    let slots = c.clear_under.new.directory in
    let same = c.loop.invariant.same in
    let deep : t + k < 14 = omega (arith, ap (λ (l : Leaf). l.depth) c.leaf-leaf.ensures) in
    let at : i ≡ node h (t + k) = leaf_on c.leaf-index.result _ _ _ c.leaf-index.ensures c.loop.invariant.hash c.loop.invariant.depth in
    let next = under_next h t s k i at (omega arith) deep in
    let made = subst (λ (b : Blocks). Trace did d (tested (bits_in b) last i []) (clear_pair (bits_in b) i) (Ok tt) m) same c.in_ok-clear_under.ensures.made in
    let one : Slots blocks slots (first i / 8192) = subst (λ (b : Blocks). Slots b slots (first i / 8192)) same c.in_ok-clear_under.ensures.read.0 in
    let two : Slots blocks slots (second i / 8192) = subst (λ (b : Blocks). Slots b slots (second i / 8192)) same c.in_ok-clear_under.ensures.read.1 in
    record {
      same = reads_keep steps M (blocks_of_bits last (up_to bits (first i ∷ second i ∷ []))) d m (clear_pair bits i) (Ok tt) made ∙ same;
      hash = c.go_down.ensures.0 ∙ c.loop.invariant.hash;
      depth = omega (arith, c.go_down.ensures.1);
      last = λ _. two;
      read = λ j l m.
          ⊎_elim
          (λ (e : j ≡ k + 1). let n : suc (t + k) ≡ t + j = omega arith in subst (λ (n : ℕ). Slots blocks slots (node h n / 8192)) n (next_one (Slots blocks slots) h (t + k) i at one two))
          (λ (e : j ≢ k + 1).
          subst (λ (b : Blocks). (n : ℕ) → Slots b c.loop.directory n → Slots b slots n) same c.in_ok-clear_under.ensures.kept (node h (t + j) / 8192) (c.loop.invariant.read j (omega arith) m))
          (cases_eq j (k + 1));
      rest = λ r e u.
          c.loop.invariant.rest r e
          (subst (λ (is : List ℕ). Trace did d (reads (blocks_of_bits last (up_to bits is))) (answer (find bits is)) r e) (sym next)
          (pair_passed did bits last i (bits_under h (t + (k + 1)) (s - (k + 1))) d m e r made u));
    }

pub returns-clause-made : goal.returns-clause-made
returns-clause-made g c =
    let did = Did g.D.Device.steps g.D.Device.meaning in
    let blocks = blocks_of (g.D.Device.meaning c.args.device.now) in
    let bits = bits_in blocks in
    let none = under_none c.args.way.hash c.args.way.depth c.args.splits c.loop.counter (omega (arith, ap (λ (l : Leaf). l.depth) c.leaf-leaf.ensures)) in
    c.loop.invariant.rest (Ok tt) c.loop.device
    (subst (λ (is : List ℕ). Trace did c.loop.device (reads (blocks_of_bits c.loop.last (up_to bits is))) (answer (find bits is)) (Ok tt) c.loop.device) (sym none) (refl, refl))
