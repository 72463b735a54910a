-- The hash of a key: the one definition that every other names.
use Rattle.std.specs.Prelude.{ℕ, ◌+◌, ◌*◌, ◌%◌, ◌^◌, List, [], ◌∷◌}

-- what one byte makes of the hash so far
abbrev pub step : ℕ → ℕ → ℕ
step h b = (b + 65599 * h) % 2 ^ 32

-- the bytes one after another, from the hash so far
abbrev pub from : ℕ → List ℕ → ℕ
from h [] = h
from h (b ∷ bs) = from (step h b) bs

unfoldable pub hash : List ℕ → ℕ
hash key = from 0 key
