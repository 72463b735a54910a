use Rattle.std.proofs.Common.{ℕ, ◌/◌, min, ap, ◌∙◌}
use Rattle.flat.specs.Blocks.{blocks}
use Rattle.flat.proofs.Flat.whole_blocks.Goals as goal

pub returns : goal.returns
unfolding blocks
returns c = c.min.ensures ∙ ap (λ (l : ℕ). min (l / 1024) 65544) (c.len.ensures ∙ c.args.self.now.bytes.ok.0)
