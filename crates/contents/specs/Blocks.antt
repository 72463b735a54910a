-- The blocks of a database: blocks 0 to 3 are the directory, and block 4 + p is page p, for p from 0 to 32,767.
use Rattle.std.specs.Prelude.{ℕ, ◌+◌, ◌/◌, ◌%◌, Bool, false, cond, min, List, replicate, nat_lt}
use Rattle.devices.specs.Meaning.{Meaning}
use Rattle.directory.specs.Tree.{bits_of}

-- numbered blocks
abbrev pub Blocks : Type 0
Blocks = ℕ → List ℕ

-- how many blocks a database has: 4 of the directory, and 32,768 pages
abbrev pub block_count : ℕ
block_count = 32772

-- the blocks that a device shows to a database; past the device's limit, and past the database's own, they count as zeros
unfoldable pub blocks_of : Meaning → Blocks
blocks_of d n = cond (nat_lt n (min d.limit block_count)) (d.block n) (replicate 1024 0)

-- a directory block has 8,192 bits; the last bit of the last one does not count
unfoldable pub bits_in : Blocks → ℕ → Bool
bits_in blocks i = cond (nat_lt i 32767) (bits_of (blocks (i / 8192)) (i % 8192)) false

abbrev pub page_in : Blocks → ℕ → List ℕ
page_in blocks p = blocks (4 + p)
