use Rattle.std.proofs.Common.{ℕ, ◌-◌, List, length, sym, ap, ◌∙◌}
use Rattle.std.proofs.lemmas.Bool.{both_ways, eq-eqb, lt-ltb}
use Rattle.std.proofs.lemmas.Bool.Decides.{Decides-eqb}
use Rattle.std.proofs.lemmas.Slice.Eq.{slice_eq-Decides}
use Rattle.keys.specs.Print.{w8}
use Rattle.keys.proofs.Sames.{other, is_same}
use Rattle.keys.proofs.same_key.Goals as goal
use Rattle.keys.proofs.same_key.Goals.{then-n-b+then-n-lt8, then-n-b+else-n-lt8, else-n-b}

pub returns-then-word8 : goal.returns-then-word8
returns-then-word8 c = is_same _ _ _ (slice_eq-Decides Decides-eqb _ _ _ c.eq.ensures)

pub returns-else-word8 : goal.returns-else-word8
returns-else-word8 c =
    c.if-word8.false
    ∙ other _ _ (λ e. elim c.if-n-b.branch [
      | then-n-b+then-n-lt8 w ↦ both_ways _ c.if-word8.false (w.value-is ∙ lt-ltb _ 8 w.if-n-lt8.true)
      | then-n-b+else-n-lt8 w ↦
          let last = w.word8.ensures ∙ ap (λ (s : List ℕ). w8 s (length c.args.a.now - 8)) e ∙ sym w.word8-else-n-lt8.ensures in
          both_ways _ c.if-word8.false (w.value-is ∙ eq-eqb _ _ last)
      | else-n-b w ↦ w.if-n-b.false (ap length e)
    ])
