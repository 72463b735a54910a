use Rattle.std.proofs.Common.{◌≡◌, ℕ, suc, ◌/◌, ◌<◌, true, false, List, [], ◌∷◌, Ok, Err, Result, sym, ap, subst, ◌∙◌, rules, arith}
use Rattle.contents.specs.Blocks.{Blocks, bits_in, blocks_of}
use Rattle.devices.specs.Trace.{Did, Trace}
use Rattle.directory.proofs.Leaves.{leaf_is}
use Rattle.directory.proofs.Lookups.{below_suc, index_on_way}
use Rattle.directory.specs.Ending.{leaf_of}
use Rattle.directory.specs.Tree.{index_of, node}
use Rattle.directory.specs.declared.Leaf.{Leaf}
use Rattle.faults.specs.declared.Fault.{Fault}
use Rattle.lookup.proofs.Looking.{ended, not_above, first_read, first_refused, tested_last, tested_next, tested_out}
use Rattle.lookup.proofs.Reading.{answer_is, filled_shown, go_on, kept_blocks, own_answer, reads_keep, stop}
use Rattle.lookup.proofs.look_up.Goals as goal
use Rattle.lookup.proofs.look_up.Goals.{in-Some+in_ok-is_set_on+then-not-branch, in_default}
use Rattle.lookup.specs.Reads.{another, blocks_of_bits, lookup_calls, reads, tested}

pub returns-in_err-read-clause-made : goal.returns-in_err-read-clause-made
returns-in_err-read-clause-made g c =
    let steps = g.D.Device.steps in
    let M = g.D.Device.meaning in
    let blocks = blocks_of (M c.args.device.now) in
    let own : Result Leaf Fault = Ok (leaf_of (bits_in blocks) c.args.hash) in
    let is : c.from_residual.result ≡ Err c.in_err-read.field-0.0 = search rules in
    subst (λ r. Trace (Did steps M) c.args.device.now (lookup_calls blocks c.args.hash) own r c.read.new.self) (sym is)
    (first_refused steps M blocks c.args.hash own _ c.told-block c.args.device.now c.read.new.self c.in_err-read.field-0.0 c.in_err-read.ensures.step)

pub loop-i-init : goal.loop-i-init
loop-i-init g c =
    let steps = g.D.Device.steps in
    let M = g.D.Device.meaning in
    let d = c.args.device.now in
    let blocks = blocks_of (M d) in
    let own : Result Leaf Fault = Ok (leaf_of (bits_in blocks) c.args.hash) in
    let depth = c.new-way.ensures.1 in
    record {
      same = kept_blocks (M d) (M c.read.new.self) c.in_ok-read.ensures.step.1.kept;
      block = filled_shown steps M d c.read.new.self 0 _ (Ok tt) c.args.block.now c.read.new.into (omega arith) c.told-block c.in_ok-read.ensures.step c.in_ok-read.ensures.into;
      hash = c.new-way.ensures.0;
      above = λ s l. absurd (omega (arith, depth));
      rest = λ r e t.
          first_read steps M blocks c.args.hash own _ c.told-block d c.read.new.self c.in_ok-read.ensures.step r e
          (subst (λ (k : ℕ). Trace (Did steps M) c.read.new.self (reads (blocks_of_bits 0 (tested (bits_in blocks) c.args.hash k))) own r e) depth t);
    }

pub is_set_on-requires-clause-last : goal.is_set_on-requires-clause-last
is_set_on-requires-clause-last g c = c.loop-i.invariant.block ∙ ap (λ (b : Blocks). b c.loop-i.last) (sym c.loop-i.invariant.same)

pub returns-in_err-is_set_on-clause-made : goal.returns-in_err-is_set_on-clause-made
returns-in_err-is_set_on-clause-made g c =
    let did = Did g.D.Device.steps g.D.Device.meaning in
    let bits = bits_in (blocks_of (g.D.Device.meaning c.args.device.now)) in
    let own : Result Leaf Fault = Ok (leaf_of bits c.args.hash) in
    let h = c.args.hash in
    let t = c.loop-i.way.depth in
    let i = c.in-Some.i in
    let last = c.loop-i.last in
    let f = c.in_err-is_set_on.field-0.0 in
    let at : i ≡ node h t = c.in-Some.ensures.1 ∙ ap (λ (k : ℕ). node k t) c.loop-i.invariant.hash in
    let next : tested bits h t ≡ i ∷ tested bits h (suc t) = tested_next bits h t c.loop-i.invariant.above c.in-Some.ensures.0 ∙ ap (λ (k : ℕ). k ∷ tested bits h (suc t)) (sym at) in
    let is : c.from_residual-in_err-is_set_on.result ≡ Err f = search rules in
    subst (λ r. Trace did c.args.device.now (lookup_calls (blocks_of (g.D.Device.meaning c.args.device.now)) h) own r c.is_set_on.new.device) (sym is)
    (c.loop-i.invariant.rest (Err f) c.is_set_on.new.device
    (subst (λ (is : List ℕ). Trace did c.loop-i.device (reads (blocks_of_bits last is)) own (Err f) c.is_set_on.new.device) (sym next)
    (stop did last i (tested bits h (suc t)) c.loop-i.device c.is_set_on.new.device _ own f c.in_err-is_set_on.ensures.made)))

pub loop-i-preserved : goal.loop-i-preserved
loop-i-preserved g c =
    let steps = g.D.Device.steps in
    let M = g.D.Device.meaning in
    let did = Did steps M in
    let blocks = blocks_of (M c.args.device.now) in
    let bits = bits_in blocks in
    let own : Result Leaf Fault = Ok (leaf_of bits c.args.hash) in
    let h = c.args.hash in
    let t = c.loop-i.way.depth in
    let i = c.in-Some.i in
    let last = c.loop-i.last in
    let d = c.loop-i.device in
    let m = c.is_set_on.new.device in
    let at : i ≡ node h t = c.in-Some.ensures.1 ∙ ap (λ (k : ℕ). node k t) c.loop-i.invariant.hash in
    let next : tested bits h t ≡ i ∷ tested bits h (suc t) = tested_next bits h t c.loop-i.invariant.above c.in-Some.ensures.0 ∙ ap (λ (k : ℕ). k ∷ tested bits h (suc t)) (sym at) in
    let made = c.in_ok-is_set_on.ensures.made in
    let found : c.in_ok-is_set_on.field-0 ≡ bits_in (blocks_of (M d)) i = answer_is (own_answer did (reads (another last (i / 8192))) d m _ _ made) in
    let yes : c.in_ok-is_set_on.field-0 ≡ true = search rules in
    let set : bits (node h t) ≡ true = ap bits (sym at) ∙ ap (λ (b : Blocks). bits_in b i) (sym c.loop-i.invariant.same) ∙ sym found ∙ yes in
    let depth : c.go_down.new.self.depth ≡ suc t = omega (arith, c.go_down.ensures.1, c.in-Some.ensures.0) in
    record {
      same = reads_keep steps M (another last (i / 8192)) d m _ _ made ∙ c.loop-i.invariant.same;
      block = c.in_ok-is_set_on.ensures.block ∙ ap (λ (b : Blocks). b (i / 8192)) c.loop-i.invariant.same;
      hash = c.go_down.ensures.0 ∙ c.loop-i.invariant.hash;
      above = λ s l. below_suc (λ (k : ℕ). bits (node h k) ≡ true) t c.loop-i.invariant.above set s (omega (arith, depth));
      rest = λ r e u.
          c.loop-i.invariant.rest r e
          (subst (λ (is : List ℕ). Trace did d (reads (blocks_of_bits last is)) own r e) (sym next)
          (go_on did last i (tested bits h (suc t)) d m e _ _ own r made
          (subst (λ (k : ℕ). Trace did m (reads (blocks_of_bits (i / 8192) (tested bits h k))) own r e) depth u)));
    }

pub returns-clause-made : goal.returns-clause-made
returns-clause-made g c =
    let did = Did g.D.Device.steps g.D.Device.meaning in
    let bits = bits_in (blocks_of (g.D.Device.meaning c.args.device.now)) in
    let own : Result Leaf Fault = Ok (leaf_of bits c.args.hash) in
    let h = c.args.hash in
    let t = c.loop-i.way.depth in
    let last = c.loop-i.last in
    let d = c.loop-i.device in
    let leaf_at : (t < 15 → bits (node c.loop-i.way.hash t) ≡ false) → c.leaf.result ≡ leaf_of bits h =
    λ clear. leaf_is bits h c.loop-i.way.hash t c.leaf.result c.loop-i.invariant.hash c.loop-i.way.limit c.loop-i.invariant.above clear c.leaf.ensures in
    c.loop-i.invariant.rest (Ok c.leaf.result) c.match-bit.device
    (elim c.match-bit.branch [
      | in-Some+in_ok-is_set_on+then-not-branch w ↦
          let i = w.in-Some.i in
          let m = w.is_set_on.new.device in
          let room = w.in-Some.ensures.0 in
          let above = c.loop-i.invariant.above in
          let at : i ≡ node h t = w.in-Some.ensures.1 ∙ ap (λ (k : ℕ). node k t) c.loop-i.invariant.hash in
          let made = w.in_ok-is_set_on.ensures.made in
          let found = answer_is (own_answer did (reads (another last (i / 8192))) d m _ _ made) in
          let clear : bits (node h t) ≡ false =
          ap bits (sym at) ∙ ap (λ (b : Blocks). bits_in b i) (sym c.loop-i.invariant.same) ∙ sym found ∙ w.if-not-branch.true in
          let one : tested bits h t ≡ i ∷ [] =
          tested_next bits h t above room ∙ ap (λ (k : List ℕ). node h t ∷ k) (tested_last bits h t above room clear) ∙ ap (λ (k : ℕ). k ∷ []) (sym at) in
          let leaf = leaf_at (λ _. ap (λ (k : ℕ). bits (node k t)) c.loop-i.invariant.hash ∙ clear) in
          subst (λ (is : List ℕ). Trace did d (reads (blocks_of_bits last is)) own (Ok c.leaf.result) c.match-bit.device) (sym one)
          (go_on did last i [] d m c.match-bit.device _ _ own (Ok c.leaf.result) made (ap Ok leaf, w.device-is))
      | in_default w ↦
          let leaf = leaf_at (λ l. absurd (omega (arith, w.in_default.ensures))) in
          subst (λ (is : List ℕ). Trace did d (reads (blocks_of_bits last is)) own (Ok c.leaf.result) c.match-bit.device)
          (sym (tested_out bits h t c.loop-i.invariant.above w.in_default.ensures)) (ap Ok leaf, w.device-is)
    ])

-- the buffer has the block of the bit that was tested last, which is the one at which the lookup ended
pub returns-clause-block : goal.returns-clause-block
returns-clause-block g c =
    let did = Did g.D.Device.steps g.D.Device.meaning in
    let blocks = blocks_of (g.D.Device.meaning c.args.device.now) in
    let bits = bits_in blocks in
    let h = c.args.hash in
    let t = c.loop-i.way.depth in
    let d = c.loop-i.device in
    let above = c.loop-i.invariant.above in
    elim c.match-bit.branch [
      | in-Some+in_ok-is_set_on+then-not-branch w ↦
          let i = w.in-Some.i in
          let at : i ≡ node h t = w.in-Some.ensures.1 ∙ ap (λ (k : ℕ). node k t) c.loop-i.invariant.hash in
          let found = answer_is (own_answer did (reads (another c.loop-i.last (i / 8192))) d w.is_set_on.new.device _ _ w.in_ok-is_set_on.ensures.made) in
          let clear : bits (node h t) ≡ false = ap bits (sym at) ∙ ap (λ (b : Blocks). bits_in b i) (sym c.loop-i.invariant.same) ∙ sym found ∙ w.if-not-branch.true in
          let index : i ≡ index_of bits h = at ∙ ap (node h) (sym (ended bits h t above w.in-Some.ensures.0 clear)) ∙ sym (index_on_way bits h) in
          λ _. w.block-is ∙ w.in_ok-is_set_on.ensures.block ∙ ap (λ (b : Blocks). b (i / 8192)) c.loop-i.invariant.same ∙ ap (λ (k : ℕ). blocks (k / 8192)) index
      | in_default w ↦ λ l. absurd (omega (arith, not_above bits h t above c.loop-i.way.limit, w.in_default.ensures))
    ]
