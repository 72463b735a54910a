-- The frames of a table or a queue, by their places.
use Rattle.std.specs.Prelude.{◌≡◌, ℕ, ◌<◌, List, [], length, slice_index_or}
use Rattle.cache.specs.declared.frames.Frame.{Frame}

abbrev pub none : Frame
none = record { number = 0; block = [] }

-- the frame at a place
abbrev pub at : List Frame → ℕ → Frame
at fs i = slice_index_or fs i none

-- each of the eight frames has a block of 1,024 bytes
abbrev pub Whole : List Frame → Type 0
Whole fs = (i : ℕ) → i < 8 → length (at fs i).block ≡ 1024
