-- What the functions for C answer.
use Rattle.std.specs.Prelude.{◌≡◌, ℕ, Bool, true, false, ◌⊎◌, List, length, Some, None, ◌≢◌}
use Rattle.page_edits.specs.Write.{Fits, written}
use Rattle.pages.specs.Page.{Good, Pair, look, pairs_of}
use Rattle.pages.specs.Read.{Found, Place}

-- where the value of a key starts; 2,000 where the key is not there, and 3,000 where the page is not good
abbrev pub StartsAt : List ℕ → List ℕ → ℕ → Type 0
StartsAt page key r =
    ((Good page → ⊥) × (r ≡ 3000))
    ⊎ (Good page × (look key (pairs_of page) ≡ None) × (r ≡ 2000))
    ⊎ ((p : Place) × Good page × Found page key (Some p) × (r ≡ p.0))

-- an edit of a page: done exactly when the page is good and the buffer is 1,024 bytes, else the buffer stays
abbrev pub Edited : List ℕ → List ℕ → Bool → (List ℕ → Type 0) → List ℕ → Type 0
Edited page out true Done out' = Good page × (length out ≡ 1024) × Done out'
Edited page out false Done out' = (Good page → length out ≢ 1024) × (out' ≡ out)

-- the list is written where it fits, and otherwise the buffer stays
abbrev pub IfItFits : List Pair → List ℕ → List ℕ → Type 0
IfItFits ps out out' = (Fits ps × (out' ≡ written ps)) ⊎ ((Fits ps → ⊥) × (out' ≡ out))
