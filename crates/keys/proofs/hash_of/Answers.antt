use Rattle.std.proofs.Common.{◌≡◌, ℕ, List, [], ◌∷◌, fold, refl, ap, ◌∙◌}
use Rattle.std.proofs.lemmas.List.{take_all}
use Rattle.keys.specs.Hash.{step, from, hash}
use Rattle.keys.proofs.hash_of.Goals as goal

from_folded : (h : ℕ) (bs : List ℕ) → fold step h bs ≡ from h bs
from_folded h [] = refl
from_folded h (b ∷ bs) = from_folded (step h b) bs

pub returns : goal.returns
unfolding hash
returns c =
    let key = c.args.key.now in
    c.loop-b.invariant ∙ ap (fold step 0) (take_all c.loop-b.b-index key c.loop-b-test.false) ∙ from_folded 0 key
