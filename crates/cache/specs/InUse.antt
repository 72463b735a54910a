-- The frames in use, oldest first, and the newest of a number.
use Rattle.std.specs.Prelude.{◌≡◌, ℕ, zero, suc, ◌+◌, ◌%◌, ◌<◌, cond, List, [], ◌∷◌, length, Some, None, Option, ◌==◌, ◌≢◌}
use Rattle.cache.specs.Whole.{at}
use Rattle.cache.specs.declared.frames.Frame.{Frame}
use Rattle.cache.specs.declared.frames.Queue.{Queue}

-- so many frames of a table of eight, from a place on; after the last place comes the first
abbrev pub ring : List Frame → ℕ → ℕ → List Frame
ring fs start zero = []
ring fs start (suc count) = at fs (start % 8) ∷ ring fs (start + 1) count

abbrev pub in_use : Queue → List Frame
in_use q = ring q.table.frames q.start q.count

-- a frame and younger ones: where the newest numbered n is, if it is known of the younger ones
abbrev pub or_first : ℕ → Frame → Option ℕ → Option ℕ
or_first n f (Some i) = Some (i + 1)
or_first n f None = cond (n == f.number) (Some 0) None

-- where the newest frame numbered n is
abbrev pub newest : List Frame → ℕ → Option ℕ
newest [] n = None
newest (f ∷ fs) n = or_first n f (newest fs n)

-- the same in words: it is numbered n, and no younger one is; or none is
abbrev pub Newest : List Frame → ℕ → Option ℕ → Type 0
Newest fs n (Some i) = (i < length fs) × ((at fs i).number ≡ n) × ((j : ℕ) → i < j → j < length fs → (at fs j).number ≢ n)
Newest fs n None = (j : ℕ) → j < length fs → (at fs j).number ≢ n
