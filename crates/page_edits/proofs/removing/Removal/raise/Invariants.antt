use Rattle.std.proofs.Common.{◌≡◌, ◌+◌, ◌-◌, ◌*◌, ◌++◌, length, take}
use Rattle.pages.specs.Blank.{bytes_of}
use Rattle.pages.specs.Page.{pairs_of}
use Rattle.page_edits.specs.Write.{offs}
use Rattle.std.specs.List.{between}
use Rattle.page_edits.proofs.removing.Removal.raise.Given as goal

abbrev pub invariant-loop-j : goal.invariant-loop-j
invariant-loop-j l = record {
  whole : length l.out ≡ 1024;
  done : take (4 * l.j - 2) l.out ≡ take (4 * l.self.number + 2) l.initial.out ++ offs l.self.end (between (l.self.number + 1) l.j (pairs_of (bytes_of l.self.page.good)));
}
