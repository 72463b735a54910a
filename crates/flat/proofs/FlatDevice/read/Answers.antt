use Rattle.std.proofs.Common.{◌≡◌, ℕ, ◌+◌, ◌-◌, ◌*◌, ◌<◌, List, length, take, drop, sym, ap, ◌∙◌, arith}
use Rattle.devices.proofs.Checks.{buffer_passed}
use Rattle.faults.specs.declared.Layer.TheVariants.{Bottom}
use Rattle.flat.proofs.Pieces.{block_inside}
use Rattle.flat.specs.Blocks.{blocks}
use Rattle.flat.proofs.FlatDevice.read.Goals as goal

pub slice_bounds-copy_from_slice-end : goal.slice_bounds-copy_from_slice-end
slice_bounds-copy_from_slice-end c =
    let s = c.args.self.now.bytes.items in
    let p = buffer_passed Bottom c.whole_blocks.result c.args.n (length c.args.into.now) (sym c.check_buffer.ensures ∙ c.in_ok-check_buffer.was) in
    let lt : c.args.n < blocks s = omega (arith, p.1, c.whole_blocks.ensures) in
    omega (arith, block_inside s c.args.n lt, ap length c.deref.ensures.value)

pub returns-clause-into : goal.returns-clause-into
returns-clause-into c =
    let n = c.args.n in
    let whole : 1024 * n + 1024 - 1024 * n ≡ 1024 = omega arith in
    c.copy_from_slice.ensures.after
    ∙ ap (λ (k : ℕ). take k (drop (1024 * n) c.deref.result.now)) whole
    ∙ ap (λ (b : List ℕ). take 1024 (drop (1024 * n) b)) c.deref.ensures.value
