use Rattle.std.proofs.Common.{◌≡◌, ℕ, List, ◌++◌, sym, ap₂, ◌∙◌, rules}
use Rattle.image.specs.Files.{filled}
use Rattle.image.proofs.Laws.{filled_length}
use Rattle.image.proofs.joined_within.Goals as goal
use Rattle.std.proofs.lemmas.Iterator.{items_from_drains}
use Rattle.std.proofs.lemmas.Iterator.Adapters.{YieldsList-from_vec}
use Rattle.std.proofs.lemmas.List.{map-id}

pub returns : goal.returns
returns c =
    let put = c.in_ok-splice.ensures.items in
    let directory = filled c.args.dir.items in
    let own : c.resize.new.self.items ≡ directory = search rules in
    let kept : c.reserve_exact.new.self.items ≡ c.args.pag.items = search rules in
    let comes = YieldsList-from_vec directory (put.2.0 ∙ own) (put.2.1 ∙ c.in_ok-resize.ensures.len ∙ sym (filled_length c.args.dir.items)) in
    let came = sym (map-id put.1) ∙ items_from_drains put.1 (put.3.1.0, put.3.1.1, λ _. (put.3.0, put.3.1.2)) comes in
    put.4 ∙ ap₂ (λ (xs ys : List ℕ). xs ++ ys) came kept
