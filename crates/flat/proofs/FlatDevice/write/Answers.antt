use Rattle.std.proofs.Common.{◌<◌, List, ℕ, length, sym, ◌∙◌, subst, arith}
use Rattle.devices.proofs.Checks.{buffer_passed}
use Rattle.devices.specs.Step.{Wrote}
use Rattle.faults.specs.declared.Layer.TheVariants.{Bottom}
use Rattle.flat.proofs.Pieces.{write_accepted, wrote}
use Rattle.flat.specs.Blocks.{blocks, flat}
use Rattle.flat.proofs.FlatDevice.write.Goals as goal

pub returns : goal.returns
returns c =
    let s = c.args.self.now.bytes.items in
    let n = c.args.n in
    let from = c.args.from.now in
    let p = buffer_passed Bottom c.whole_blocks.result n (length from) (sym c.check_buffer.ensures ∙ c.in_ok-check_buffer.was) in
    let lt : n < blocks s = omega (arith, p.1, c.whole_blocks.ensures) in
    ((write_accepted s from n p.0 lt, c.put_block.ensures), subst (λ (b : List ℕ). Wrote (flat s) n from (flat b)) (sym c.put_block.ensures) (wrote s from n lt p.0))
