-- What a flat device of an image shows of the two files.
use Rattle.std.specs.Prelude.{◌≡◌, ℕ, ◌+◌, ◌<◌, ◌≤◌, List}
use Rattle.contents.specs.Blocks.{bits_in, blocks_of, page_in}
use Rattle.directory.specs.Tree.{bits_of}
use Rattle.flat.specs.Blocks.{blocks, flat}
use Rattle.image.specs.Files.{Has, joined, page_at}

-- Its directory is the directory file's, and each page is that of the page file. A page that this file has is inside the limit, and
-- one that it does not have is past it.
pub record Shows (dir pag : List ℕ) : Type 0 where
  pub bits : (i : ℕ) → bits_in (blocks_of (flat (joined dir pag))) i ≡ bits_of dir i
  pub page : (p : ℕ) → p < 32768 → Has pag p → page_in (blocks_of (flat (joined dir pag))) p ≡ page_at pag p
  pub inside : (p : ℕ) → p < 32768 → Has pag p → 4 + p < blocks (joined dir pag)
  pub past : (p : ℕ) → (Has pag p → ⊥) → blocks (joined dir pag) ≤ 4 + p

abbrev pub FilesShown : Type 0
FilesShown = (dir pag : List ℕ) → Shows dir pag
