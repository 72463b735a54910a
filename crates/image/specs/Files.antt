-- The two files of a database, whatever their bytes are.
use Rattle.std.specs.Prelude.{ℕ, ◌+◌, ◌-◌, ◌*◌, ◌<◌, ◌≤◌, List, ◌++◌, length, replicate, take, drop, Some, None, Option}
use Rattle.directory.specs.Tree.{Reachable, bits_of}

-- the directory's bytes, cut at 4,096 or filled up with zeros, and then those of the pages
abbrev pub filled : List ℕ → List ℕ
filled dir = take 4096 dir ++ replicate (4096 - length dir) 0

abbrev pub joined : List ℕ → List ℕ → List ℕ
joined dir pag = filled dir ++ pag

-- page p of the page file, and whether the file has it whole
abbrev pub page_at : List ℕ → ℕ → List ℕ
page_at pag p = take 1024 (drop (1024 * p) pag)

abbrev pub Has : List ℕ → ℕ → Type 0
Has pag p = 1024 * p + 1024 ≤ length pag

-- the first reachable page from p on
abbrev pub NextReachable : List ℕ → ℕ → Option ℕ → Type 0
NextReachable dir p None = (q : ℕ) → p ≤ q → q < 32768 → Reachable (bits_of dir) q → ⊥
NextReachable dir p (Some q) = (p ≤ q) × (q < 32768) × Reachable (bits_of dir) q × ((r : ℕ) → p ≤ r → r < q → Reachable (bits_of dir) r → ⊥)
