use Rattle.std.proofs.Common.{◌≡◌, ℕ, ◌+◌, ◌<◌, [], ◌∷◌, ◌++◌, Ok, Err, Result, sym, ap, subst, ◌∙◌, rules, arith}
use Rattle.contents.specs.Blocks.{Blocks, bits_in, block_count, blocks_of}
use Rattle.devices.proofs.Traces.{trace_stop}
use Rattle.devices.specs.Trace.{Did, Trace}
use Rattle.directory.proofs.Lookups.{page_below}
use Rattle.directory.specs.Ending.{leaf_of}
use Rattle.directory.specs.Tree.{page_of}
use Rattle.directory.specs.declared.Leaf.{Leaf}
use Rattle.faults.specs.declared.Fault.{Fault}
use Rattle.lookup.proofs.Reading.{answer_is, filled_shown, own_answer, read_accepted, read_refused, reads_keep}
use Rattle.lookup.proofs.read_home.Goals as goal
use Rattle.lookup.specs.Reads.{home_calls, lookup_calls, lookup_reads, reads}

pub returns-in_err-leaf-clause-made : goal.returns-in_err-leaf-clause-made
returns-in_err-leaf-clause-made g c =
    let did = Did g.D.Device.steps g.D.Device.meaning in
    let d = c.args.device.now in
    let blocks = blocks_of (g.D.Device.meaning d) in
    let h = c.args.hash in
    let own : Result Leaf Fault = Ok (leaf_of (bits_in blocks) h) in
    let f = c.in_err-leaf.field-0.0 in
    let is : c.from_residual.result ≡ Err f = search rules in
    subst (λ r. Trace did d (home_calls blocks h) own r c.look_up.new.device) (sym is)
    (trace_stop did (lookup_calls blocks h) (reads ((4 + page_of (bits_in blocks) h) ∷ [])) d c.look_up.new.device _ own f c.in_err-leaf.ensures.made)

-- the leaf that the lookup answered
pub overflow_add-leaf : goal.overflow_add-leaf
overflow_add-leaf g c =
    let d = c.args.device.now in
    let blocks = blocks_of (g.D.Device.meaning d) in
    let leaf = answer_is (own_answer (Did g.D.Device.steps g.D.Device.meaning) (lookup_calls blocks c.args.hash) d c.look_up.new.device _ _ c.in_ok-leaf.ensures.made) in
    omega (arith, ap (λ (l : Leaf). l.page) leaf, page_below (bits_in blocks) c.args.hash)

pub returns-in_err-read-clause-made : goal.returns-in_err-read-clause-made
returns-in_err-read-clause-made g c =
    let steps = g.D.Device.steps in
    let M = g.D.Device.meaning in
    let did = Did steps M in
    let d = c.args.device.now in
    let m = c.look_up.new.device in
    let e = c.read.new.self in
    let blocks = blocks_of (M d) in
    let h = c.args.hash in
    let own : Result Leaf Fault = Ok (leaf_of (bits_in blocks) h) in
    let leaf = answer_is (own_answer did (lookup_calls blocks h) d m _ _ c.in_ok-leaf.ensures.made) in
    let n = ap (λ (l : Leaf). 4 + l.page) leaf in
    let f = c.in_err-read.field-0.0 in
    let is : c.from_residual-in_err-read.result ≡ Err f = search rules in
    subst (λ r. Trace did d (home_calls blocks h) own r e) (sym is)
    (subst (λ (k : ℕ). Trace did d (lookup_calls blocks h ++ reads (k ∷ [])) own (Err f) e) n
    (read_refused steps M (lookup_calls blocks h) d m _ _ own c.in_ok-leaf.ensures.made (4 + c.in_ok-leaf.leaf.page) _ c.look_up.array_long e f c.in_err-read.ensures.step))

pub returns-clause-made : goal.returns-clause-made
returns-clause-made g c =
    let steps = g.D.Device.steps in
    let M = g.D.Device.meaning in
    let did = Did steps M in
    let d = c.args.device.now in
    let m = c.look_up.new.device in
    let e = c.read.new.self in
    let blocks = blocks_of (M d) in
    let h = c.args.hash in
    let own : Result Leaf Fault = Ok (leaf_of (bits_in blocks) h) in
    let r : Result Leaf Fault = Ok c.in_ok-leaf.leaf in
    let is = own_answer did (lookup_calls blocks h) d m _ _ c.in_ok-leaf.ensures.made in
    subst (λ (k : ℕ). Trace did d (lookup_calls blocks h ++ reads (k ∷ [])) own r e) (ap (λ (l : Leaf). 4 + l.page) (answer_is is))
    (read_accepted steps M (lookup_calls blocks h) d m _ _ own c.in_ok-leaf.ensures.made (4 + c.in_ok-leaf.leaf.page) _ c.look_up.array_long e c.in_ok-leaf.leaf is c.in_ok-read.ensures.step)

pub returns-clause-page : goal.returns-clause-page
returns-clause-page g c =
    let steps = g.D.Device.steps in
    let M = g.D.Device.meaning in
    let d = c.args.device.now in
    let m = c.look_up.new.device in
    let blocks = blocks_of (M d) in
    let h = c.args.hash in
    let leaf = answer_is (own_answer (Did steps M) (lookup_calls blocks h) d m _ _ c.in_ok-leaf.ensures.made) in
    let own : 4 + c.in_ok-leaf.leaf.page < block_count = omega (arith, ap (λ (l : Leaf). l.page) leaf, page_below (bits_in blocks) h) in
    filled_shown steps M m c.read.new.self (4 + c.in_ok-leaf.leaf.page) _ (Ok tt) c.look_up.new.block c.read.new.into own c.look_up.array_long c.in_ok-read.ensures.step c.in_ok-read.ensures.into
    ∙ ap (λ (b : Blocks). b (4 + c.in_ok-leaf.leaf.page)) (reads_keep steps M (lookup_reads (bits_in blocks) h) d m _ _ c.in_ok-leaf.ensures.made)
    ∙ ap (λ (l : Leaf). blocks (4 + l.page)) leaf
