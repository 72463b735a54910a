-- Which blocks a lookup reads, and in which order.
use Rattle.std.specs.Prelude.{ℕ, suc, ◌+◌, ◌-◌, ◌/◌, Bool, cond, List, [], ◌∷◌, ◌++◌, map, min, ◌==◌}
use Rattle.contents.specs.Blocks.{Blocks, bits_in}
use Rattle.devices.specs.Step.{Call, read}
use Rattle.directory.specs.Tree.{depth_of, node, page_of}
use Rattle.std.specs.List.{range_with_len}

-- The bits that the lookup of h tests from depth t on: those on its way, down to the one that is clear.
-- At depth 15 there is no bit to test.
abbrev pub tested : (ℕ → Bool) → ℕ → ℕ → List ℕ
tested bits h t = map (node h) (range_with_len t (min 15 (suc (depth_of bits h)) - t))

-- the directory blocks in which bits lie, one after another, but for each that is the one before
abbrev pub another : ℕ → ℕ → List ℕ
another last n = cond (n == last) [] (n ∷ [])

abbrev pub blocks_of_bits : ℕ → List ℕ → List ℕ
blocks_of_bits last [] = []
blocks_of_bits last (i ∷ is) = another last (i / 8192) ++ blocks_of_bits (i / 8192) is

-- a lookup begins with bit 0, which is in block 0
unfoldable pub lookup_reads : (ℕ → Bool) → ℕ → List ℕ
lookup_reads bits h = 0 ∷ blocks_of_bits 0 (tested bits h 0)

-- the calls that read these blocks
abbrev pub reads : List ℕ → List Call
reads ns = map (λ n. read n 1024) ns

abbrev pub lookup_calls : Blocks → ℕ → List Call
lookup_calls blocks h = reads (lookup_reads (bits_in blocks) h)

-- a lookup, and then the page at which it ends
abbrev pub home_calls : Blocks → ℕ → List Call
home_calls blocks h = lookup_calls blocks h ++ reads ((4 + page_of (bits_in blocks) h) ∷ [])
