use Rattle.std.proofs.Common.{ℕ, List, [], ◌∷◌, ◌++◌, refl, ap, ◌∙◌, lit<}
use Rattle.listing.proofs.Texts.{pushed, turn}
use Rattle.listing.specs.Text.{each, shown_byte}
use Rattle.std.proofs.lemmas.List.{take_all}
use Rattle.listing.proofs.text.quoted.Goals as goal

pub loop-b-preserved : goal.loop-b-preserved
loop-b-preserved c = turn shown_byte c.args.bytes.now c.loop-b.b-index (34 ∷ []) _ _ c.loop-b-test.true c.in_ok-push_shown.ensures c.loop-b.invariant

pub returns : goal.returns
returns c =
    let e = c.in_ok-push-2.ensures in
    pushed _ _ _ 34 34 e.bytes (e.ascii (lit< tt)) refl
    ∙ ap (λ (t : List ℕ). t ++ 34 ∷ []) c.loop-b.invariant
    ∙ ap (λ (t : List ℕ). 34 ∷ (each shown_byte t ++ 34 ∷ [])) (take_all c.loop-b.b-index c.args.bytes.now c.loop-b-test.false)
