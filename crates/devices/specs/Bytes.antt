-- Bytes written over others.
use Rattle.std.specs.Prelude.{ℕ, ◌+◌, List, ◌++◌, length, take, drop}

-- bytes written over those from i on
abbrev pub put : List ℕ → ℕ → List ℕ → List ℕ
put s i bs = take i s ++ (bs ++ drop (i + length bs) s)
