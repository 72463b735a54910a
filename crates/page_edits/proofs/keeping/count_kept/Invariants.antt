use Rattle.std.proofs.Common.{◌≡◌, filter, take}
use Rattle.pages.specs.Blank.{bytes_of}
use Rattle.pages.specs.Page.{pairs_of}
use Rattle.page_edits.specs.Stay.{stays}
use Rattle.page_edits.proofs.keeping.count_kept.Given as goal

-- all pairs up to this one are kept
abbrev pub invariant-loop-k : goal.invariant-loop-k
invariant-loop-k l =
    filter (λ q. stays l.but l.bits l.low q.0) (take l.k (pairs_of (bytes_of l.page.good))) ≡ take l.k (pairs_of (bytes_of l.page.good))
