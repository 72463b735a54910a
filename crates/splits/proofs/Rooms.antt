-- Which parts of a list fit a page, and when the edited list does.
use Rattle.std.proofs.Common.{ℕ, ◌+◌, ◌*◌, not, List, [], ◌∷◌, length, arith, leb-true, le-leb, length-append}
use Rattle.directory.specs.Tree.{low}
use Rattle.keys.specs.Hash.{hash}
use Rattle.keys.specs.Same.{same}
use Rattle.page_edits.proofs.Cut.{size_append}
use Rattle.page_edits.proofs.Fit.{dropped_lacks, fits_part, fits_push}
use Rattle.page_edits.specs.Edit.{falling, falls, with_pair}
use Rattle.page_edits.specs.Write.{Fits, size}
use Rattle.pages.specs.Page.{Pair}
use Rattle.splits.specs.Laws.{RoomDecides}
use Rattle.splits.specs.Writes.{others}

pub fits_none : Fits []
fits_none = record { named = tt; apart = λ i j h. absurd (omega arith); room = omega arith }

pub fits_falling : (t x : ℕ) (ps : List Pair) → Fits ps → Fits (falling t x ps)
fits_falling t x ps = fits_part (λ p. falls t x p.0) ps

pub fits_others : (pairs : List Pair) (key : List ℕ) (t : ℕ) → Fits pairs → Fits (others pairs key t)
fits_others pairs key t f = fits_part (λ p. not (same p.0 key)) (falling t (low (hash key) t) pairs) (fits_falling t (low (hash key) t) pairs f)

pub room_decides : RoomDecides
room_decides pairs key value t f named =
    let ps = others pairs key t in
    let more = with_pair ps key value in (
      λ e.
          let room = leb-true (2 + (4 * length more + size more)) 1024 e in
          fits_push ps key value (fits_others pairs key t f) named (dropped_lacks key (falling t (low (hash key) t) pairs))
          (omega (arith, room, length-append ps ((key, value) ∷ []), size_append ps ((key, value) ∷ []))),
      λ g. le-leb (2 + (4 * length more + size more)) 1024 g.room,
    )
