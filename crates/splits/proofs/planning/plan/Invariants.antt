use Rattle.std.proofs.Common.{◌≡◌, ℕ, ◌+◌, ◌-◌, ◌<◌, ◌≤◌, false, take}
use Rattle.page_edits.proofs.Kept.{cost}
use Rattle.pages.specs.Blank.{bytes_of}
use Rattle.pages.specs.Page.{pairs_of}
use Rattle.splits.specs.Plan.{fits_at}
use Rattle.splits.specs.Writes.{others}
use Rattle.splits.proofs.planning.plan.Given as goal

-- so many bytes are left beside the pair and those of the first pairs that stay
abbrev pub invariant-loop-k : goal.invariant-loop-k
invariant-loop-k l =
    (l.s ≡ l.initial.s)
    × (l.room + cost (others (take l.k (pairs_of (bytes_of l.page.good))) l.key l.depth) ≡ l.beside)

-- fewer splits do not make room
abbrev pub invariant-splits : goal.invariant-splits
invariant-splits l = (l.s ≤ l.most + 1) × ((r : ℕ) → r < l.s → fits_at (pairs_of (bytes_of l.page.good)) l.key l.value (l.leaf.depth + r) ≡ false)

abbrev pub decreases-splits : goal.decreases-splits
decreases-splits l = l.most + 1 - l.s
