-- The writes by which a database changes, in their order, and what they make of its contents.
use Rattle.std.specs.Prelude.{ℕ, zero, suc, ◌+◌, ◌^◌, List, [], ◌∷◌, ◌++◌}
use Rattle.contents.specs.Contents.{Contents, home}
use Rattle.devices.specs.Meaning.{put}
use Rattle.directory.specs.Tree.{depth_of, low, node, set_bit}
use Rattle.keys.specs.Hash.{hash}
use Rattle.page_edits.specs.Edit.{dropped, falling, with_pair}
use Rattle.pages.specs.Page.{Pair}

-- a write: these pairs to a page, or a bit of the directory is set
pub data Write : Type 0 where
  to_page : ℕ → List Pair → Write
  to_bit : ℕ → Write

-- the contents after a write, and after a list of them
abbrev pub made : Write → Contents → Contents
made (to_page p pairs) c = record { bits = c.bits; pages = put c.pages p pairs }
made (to_bit i) c = record { bits = set_bit c.bits i; pages = c.pages }

abbrev pub all_made : List Write → Contents → Contents
all_made [] c = c
all_made (w ∷ ws) c = all_made ws (made w c)

-- The split at depth t of the page of the hash h: of the pairs whose low t bits are those of h, those with hash bit t set go
-- to the upper page, then the bit is set, and then the others are written to the lower page, which is the one that is split.
abbrev pub split : List Pair → ℕ → ℕ → List Write
split pairs h t =
    to_page (low h t + 2 ^ t) (falling (suc t) (low h t + 2 ^ t) pairs)
    ∷ to_bit (node h t)
    ∷ to_page (low h t) (falling (suc t) (low h t) pairs)
    ∷ []

-- s splits from depth t on, each of the half that h falls in
abbrev pub splits : List Pair → ℕ → ℕ → ℕ → List Write
splits pairs h t zero = []
splits pairs h t (suc s) = split pairs h t ++ splits pairs h (suc t) s

-- the pairs without the key that stay on the key's page after splits down to depth t
abbrev pub others : List Pair → List ℕ → ℕ → List Pair
others pairs key t = dropped key (falling t (low (hash key) t) pairs)

-- the pairs on the key's home page, strays too, and its depth
abbrev pub pairs_at : Contents → List ℕ → List Pair
pairs_at c key = c.pages (home c key)

abbrev pub depth_at : Contents → List ℕ → ℕ
depth_at c key = depth_of c.bits (hash key)

-- the writes of a store with s splits: the last one drops the key's old pair and appends the new one
unfoldable pub storing : ℕ → Contents → List ℕ → List ℕ → List Write
storing s c key value =
    splits (pairs_at c key) (hash key) (depth_at c key) s
    ++ to_page (low (hash key) (depth_at c key + s)) (with_pair (others (pairs_at c key) key (depth_at c key + s)) key value)
    ∷ []

-- the write of a delete
unfoldable pub deleting : Contents → List ℕ → Write
deleting c key = to_page (home c key) (others (pairs_at c key) key (depth_at c key))
