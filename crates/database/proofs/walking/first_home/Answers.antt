use Rattle.std.proofs.Common.{◌≡◌, ◌+◌, ◌-◌, ◌<◌, ◌==◌, ℕ, Bool, true, false, Some, find, option_map, sym, ap, ◌∙◌, rules, arith}
use Rattle.database.proofs.Finds.{First, find_first, first_below, one_first}
use Rattle.database.proofs.walking.first_home.Goals as goal
use Rattle.database.proofs.walking.first_home.Goals.{After-find}
use Rattle.calls.specs.Step.{pair_shown}
use Rattle.directory.specs.Tree.{low}
use Rattle.keys.specs.Hash.{hash}
use Rattle.pages.specs.Blank.{bytes_of}
use Rattle.pages.specs.Page.{key_of, pairs}
use Rattle.pages.specs.Read.{Place}
use Rattle.std.proofs.lemmas.Iterator.{first_from_Range}
use Rattle.std.specs.List.{range_with_len}

abbrev test : After-find → ℕ → Bool
test c i = low (hash (key_of (bytes_of c.args.page.now.good) i)) c.args.leaf.now.depth == c.args.leaf.now.page

first : (c : After-find) → First (test c) c.args.number (pairs (bytes_of c.args.page.now.good)) c.find.result
first c =
    let m = pairs (bytes_of c.args.page.now.good) in
    first_below (test c) c.args.number c.count.result m c.find.result c.count.ensures
    (first_from_Range _ _ _ c.find.result (λ i. test c i ≡ true) (λ i. i < m → test c i ≡ false) c.find.ensures.ran (λ x q h. search rules) (λ x q h. search rules))

found : (c : After-find) → c.find.result ≡ find (test c) (range_with_len c.args.number (pairs (bytes_of c.args.page.now.good) - c.args.number))
found c =
    let n = c.args.number in
    let m = pairs (bytes_of c.args.page.now.good) in
    one_first (test c) n m c.find.result (find (test c) (range_with_len n (m - n))) (first c) (find_first (test c) n m)

pub returns-in_err-i : goal.returns-in_err-i
returns-in_err-i c =
    let none = sym c.in_err-i.was ∙ found (goal.at.returns-in_err-i c).After-find in
    c.from_residual.ensures ∙ ap (option_map (pair_shown (bytes_of c.args.page.now.good) c.args.leaf.now.page)) none

-- a number that was found is one of a pair
pub returns-in_err-key : goal.returns-in_err-key
returns-in_err-key c =
    let some = rw c.in_ok-i.was at (first (goal.at.returns-in_err-key c).After-find) in
    absurd (omega (arith, some.1, c.in_err-key.ensures))

pub returns : goal.returns
returns c =
    let page = bytes_of c.args.page.now.good in
    let p = c.args.leaf.now.page in
    let some = sym c.in_ok-i.was ∙ found (goal.at.returns c).After-find in
    ap (λ (q : Place × Place). Some (q.0, q.1, (p, c.in_ok-i.i + 1))) c.in_ok-key.ensures.1 ∙ ap (option_map (pair_shown page p)) some
