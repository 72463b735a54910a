use Rattle.std.proofs.Common.{◌≡◌, Some, None, Option, refl, sym, ap, ◌∙◌}
use Rattle.records.proofs.record_laws.Goals as goal

none_from : {R : Type 0} (answer : Option R) → ((x : R) → answer ≡ Some x → ⊥) → answer ≡ None
none_from None never = refl
none_from (Some x) never = absurd (never x refl)

pub returns : goal.returns
returns g c =
    let laws = g.met.R.Record in
    λ bytes small. record {
      coded = λ x fits is. ap g.R.Record.decoded (sym is) ∙ laws.back x fits;
      only = λ x is. laws.only bytes x small is;
      none = λ never. none_from (g.R.Record.decoded bytes) (λ x is. let own = laws.only bytes x small is in never x own.0 own.1);
    }
