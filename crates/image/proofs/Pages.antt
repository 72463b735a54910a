-- What the search for a reachable page found.
use Rattle.std.proofs.Common.{ℕ, ◌<◌, ◌≤◌, List, Option, Some, None, MatchOption}
use Rattle.directory.specs.Tree.{Reachable, bits_of}
use Rattle.image.specs.Files.{NextReachable}

pub next_reachable : (dir : List ℕ) (p : ℕ) (r : Option ℕ)
    → MatchOption r
    ((q : ℕ) → p ≤ q → q < 32768 → Reachable (bits_of dir) q → ⊥)
    (λ q. (p ≤ q) × (q < 32768) × Reachable (bits_of dir) q × ((k : ℕ) → p ≤ k → k < q → Reachable (bits_of dir) k → ⊥))
    → NextReachable dir p r
next_reachable dir p None h = h
next_reachable dir p (Some q) h = h
