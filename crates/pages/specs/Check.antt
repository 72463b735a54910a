-- What a check answers.
use Rattle.std.specs.Prelude.{◌≡◌, ℕ, true, List, Some, None, Option, is_some}
use Rattle.pages.specs.Blank.{bytes_of}
use Rattle.pages.specs.Page.{Good}
use Rattle.pages.specs.declared.page.PairPage.{PairPage}

-- a page is there exactly when it is good, with the bytes given
abbrev pub Checked : List ℕ → Option PairPage → Type 0
Checked page None = Good page → ⊥
Checked page (Some p) = Good page × (is_some p.good ≡ true) × (bytes_of p.good ≡ page)
