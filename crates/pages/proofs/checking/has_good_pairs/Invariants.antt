use Rattle.std.proofs.Common.{◌≡◌, ℕ, ◌<◌, ◌≤◌, true, false, length, get_or}
use Rattle.keys.specs.Print.{print}
use Rattle.pages.specs.Page.{Apart, Laid, key_end, key_of}
use Rattle.pages.proofs.checking.has_good_pairs.Given as goal

abbrev pub invariant-loop-k : goal.invariant-loop-k
invariant-loop-k l =
    (l.end ≡ key_end l.page l.k)
    × (l.end ≤ 1024)
    × Laid l.page l.k
    × Apart l.page l.k
    × ((i : ℕ) → i < l.k → get_or l.seen (print (key_of l.page i)) false ≡ true)
    × (length l.seen ≡ 1024)
