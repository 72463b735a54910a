use Rattle.std.proofs.Common.{◌≡◌, ℕ, true, false, rules}
use Rattle.keys.specs.Same.{same}
use Rattle.pages.specs.Page.{key_of}
use Rattle.pages.proofs.Pages.{which_found}
use Rattle.pages.proofs.checking.number_among.Goals as goal
use Rattle.std.proofs.lemmas.Iterator.{first_from_Range}

pub returns : goal.returns
returns c =
    let page = c.args.page.now in
    let key = c.args.key.now in
    which_found page c.args.m key c.find.result
    (first_from_Range _ _ _ c.find.result (λ (k : ℕ). same (key_of page k) key ≡ true) (λ (k : ℕ). same (key_of page k) key ≡ false) c.find.ensures.ran (λ x q h. search rules) (λ x q h. search rules))
