-- A device on which a database that was blank once holds these pairs.
use Rattle.std.specs.Prelude.{◌≡◌, ℕ, false, List, replicate}
use Rattle.contents.specs.Blocks.{Blocks, blocks_of, page_in}
use Rattle.contents.specs.Contents.{contents_of, held}
use Rattle.contents.specs.Laws.{Differ}
use Rattle.devices.specs.Meaning.{Meaning, Sound as Lawful}
use Rattle.pages.specs.Page.{Good, Pair, look}
use Rattle.splits.specs.Laws.{Sound}

-- a number that was never claimed still has its blank block
abbrev pub Unclaimed : Meaning → Type 0
Unclaimed d = (n : ℕ) → d.held n ≡ false → blocks_of d n ≡ replicate 1024 0

pub record Holding (pairs : List Pair) (d : Meaning) : Type 0 where
  pub device : Lawful d
  pub unclaimed : Unclaimed d
  pub sound : Sound (contents_of (blocks_of d))
  pub good : (p : ℕ) → Good (page_in (blocks_of d) p)
  pub held : (key : List ℕ) → held (contents_of (blocks_of d)) key ≡ look key pairs
  pub differ : Differ pairs

-- every block is zeros
abbrev pub BlankBlocks : Blocks → Type 0
BlankBlocks blocks = (n : ℕ) → blocks n ≡ replicate 1024 0

-- the backing blocks as a database would see them
abbrev pub backing_of : Meaning → Meaning
backing_of d = record d { block = d.backing }
