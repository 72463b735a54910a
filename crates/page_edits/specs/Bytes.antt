-- A page while it is written.
use Rattle.std.specs.Prelude.{◌≡◌, ℕ, ◌+◌, ◌*◌, ◌≤◌, List, ◌++◌, length, take, drop}
use Rattle.pages.specs.Page.{Pair}
use Rattle.page_edits.specs.Write.{body, offs, size}

-- bytes written over those from i on
abbrev pub put : List ℕ → ℕ → List ℕ → List ℕ
put s i bs = take i s ++ (bs ++ drop (i + length bs) s)

-- a buffer in which j pairs are packed, but for the count: their offsets after its first two bytes, and their bytes from free on
pub record Packed (ps : List Pair) (out : List ℕ) (j free : ℕ) : Type 0 where
  pub many : j ≡ length ps
  pub low : free + size ps ≡ 1024
  pub room : 4 * j + 2 ≤ free
  pub head : List ℕ
  pub mid : List ℕ
  pub two : length head ≡ 2
  pub is : out ≡ head ++ (offs 1024 ps ++ (mid ++ body ps))
