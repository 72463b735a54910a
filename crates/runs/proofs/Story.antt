-- The law along a run, call by call.
use Rattle.std.proofs.Common.{◌≡◌, ℕ, List, [], ◌∷◌, Option, Some}
use Rattle.devices.proofs.Traces.{trace_meaning}
use Rattle.devices.specs.Meaning.{Meaning}
use Rattle.devices.specs.Trace.{Account}
use Rattle.contents.specs.Blocks.{blocks_of}
use Rattle.pages.specs.Page.{Pair}
use Rattle.runs.proofs.Each.{each, keeps}
use Rattle.runs.proofs.Walked.{walks_show}
use Rattle.runs.specs.Law.{Along}
use Rattle.runs.specs.Performed.{Ran, answer_of, calls_of}
use Rattle.runs.specs.Reference.{fed}
use Rattle.runs.specs.declared.Call.{Call}
use Rattle.runs.specs.declared.Outcome.{Outcome}
use Rattle.upkeep.specs.Holding.{Holding}

module _ {S K Kind : Type 0} (steps : Account S) (M : S → Meaning) (code : K → List ℕ) (decoded : Kind → List ℕ → Option K) (own_kind : K → Kind) (fits : K → Type 0)
    (law : (x : K) → fits x → decoded (own_kind x) (code x) ≡ Some x) where
  pub along : (pairs : List Pair) (cs : List (Call K Kind)) (os : List (Outcome K)) (d e : S) → Holding pairs (M d) → Ran steps M code decoded cs os d e → Along steps M code decoded own_kind fits pairs cs os d e
  along pairs [] [] d e h t = (t, keeps pairs (M d) h)
  along pairs [] (o ∷ os) d e h t = absurd t
  along pairs (c ∷ cs) [] d e h t = absurd t
  along pairs (c ∷ cs) (o ∷ os) d e h t =
      let m = t.0 in
      let made = trace_meaning steps M (calls_of code c (blocks_of (M d))) d m (answer_of code decoded c (blocks_of (M d))) o.answer t.1.0 in
      let one = each code decoded own_kind fits law pairs (M d) (M m) h c o.answer o.page made t.1.1 in (
        m,
        t.1,
        keeps pairs (M d) h,
        walks_show steps M code decoded pairs (c ∷ cs) (o ∷ os) d e h t,
        one.by_list,
        one.back,
        one.ruled,
        one.backed,
        along (fed code pairs c o.answer) cs os m e one.next t.2,
      )
