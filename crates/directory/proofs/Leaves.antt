-- The leaf at which a way ends.
use Rattle.std.proofs.Common.{◌≡◌, ℕ, ◌<◌, ◌≤◌, Bool, true, false, Option, Some, None, MatchOption, sym, ap, ◌∙◌, arith}
use Rattle.directory.specs.Ending.{leaf_of}
use Rattle.directory.specs.Tree.{BitOnWay, low, node}
use Rattle.directory.specs.declared.Leaf.{Leaf}
use Rattle.directory.proofs.Lookups.{ends_once, index_on_way}

-- every bit above depth t is set, and the one there is clear unless t is 15: the lookup ends there
pub leaf_is : (bits : ℕ → Bool) (h g t : ℕ) (leaf : Leaf) → g ≡ h → t ≤ 15 → ((s : ℕ) → s < t → bits (node h s) ≡ true) → (t < 15 → bits (node g t) ≡ false) → leaf ≡ record { index = node g t; depth = t; page = low g t } → leaf ≡ leaf_of bits h
leaf_is bits h g t leaf e limit above clear is =
    let d = ends_once bits h t (record { limit = limit; above = above; clear = λ l. ap (λ (x : ℕ). bits (node x t)) (sym e) ∙ clear l }) in
    let f : ℕ → ℕ → Leaf = λ x u. record { index = node x u; depth = u; page = low x u } in
    let at = index_on_way bits h in
    is ∙ ap (λ (x : ℕ). f x t) e ∙ ap (f h) d ∙ ap (λ (i : ℕ). record { index = i; depth = (leaf_of bits h).depth; page = (leaf_of bits h).page }) (sym at)

-- the bit at depth t on the way, where code found it clear
pub clear_here : (bits : ℕ → Bool) (h t : ℕ) (at : Option ℕ) → BitOnWay h t at → MatchOption at (Unit {0}) (λ i. bits i ≡ false) → t < 15 → bits (node h t) ≡ false
clear_here bits h t (Some i) on clear l = ap bits (sym on.1) ∙ clear
clear_here bits h t None on clear l = absurd (omega arith)
