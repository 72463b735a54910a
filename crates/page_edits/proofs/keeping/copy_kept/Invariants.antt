use Rattle.std.proofs.Common.{take, filter}
use Rattle.pages.specs.Blank.{bytes_of}
use Rattle.pages.specs.Page.{pairs_of}
use Rattle.page_edits.specs.Bytes.{Packed}
use Rattle.page_edits.specs.Stay.{stays}
use Rattle.page_edits.proofs.keeping.copy_kept.Given as goal

abbrev pub invariant-loop-k : goal.invariant-loop-k
invariant-loop-k l =
    Packed (filter (λ q. stays l.but l.bits l.low q.0) (take l.k (pairs_of (bytes_of l.page.good)))) l.out l.packing.count l.packing.free
