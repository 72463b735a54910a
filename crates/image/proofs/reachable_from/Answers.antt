use Rattle.std.proofs.Common.{ℕ, rules}
use Rattle.directory.specs.Tree.{Reachable, bits_of}
use Rattle.image.proofs.reachable_from.Goals as goal
use Rattle.image.proofs.Pages.{next_reachable}
use Rattle.std.proofs.lemmas.Iterator.{first_from_Range}

pub returns : goal.returns
returns c =
    let There : ℕ → Type 0 = Reachable (bits_of c.args.dir.now) in
    next_reachable c.args.dir.now c.args.page c.find.result
    (first_from_Range _ _ _ c.find.result There (λ (p : ℕ). There p → ⊥) c.find.ensures.ran (λ x q h. search rules) (λ x q h. search rules))
