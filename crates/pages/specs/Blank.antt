-- The bytes that a page which was read stands for.
use Rattle.std.specs.Prelude.{ℕ, List, Some, None, Option, replicate}
use Rattle.std.specs.Borrow.{Bor}

-- those of a good page, and otherwise those of the blank page
abbrev pub bytes_of : Option (Bor (List ℕ)) → List ℕ
bytes_of (Some page) = page.now
bytes_of None = replicate 1024 0
