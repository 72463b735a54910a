-- Where a lookup ends.
use Rattle.std.specs.Prelude.{ℕ, Bool}
use Rattle.directory.specs.Tree.{index_of, depth_of, page_of}
use Rattle.directory.specs.declared.Leaf.{Leaf}

abbrev pub leaf_of : (ℕ → Bool) → ℕ → Leaf
leaf_of bits h = record { index = index_of bits h; depth = depth_of bits h; page = page_of bits h }
