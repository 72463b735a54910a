use Rattle.std.proofs.Common.{◌≡◌, List, [], ◌∷◌, ◌++◌, length, sym, ap, subst, ◌∙◌, append_assoc, append-nil, refl, arith}
use Rattle.runs.proofs.Story.{along}
use Rattle.runs.proofs.run.Goals as goal
use Rattle.runs.specs.Performed.{Ran}
use Rattle.runs.specs.declared.Call.{Call}
use Rattle.runs.specs.declared.Outcome.{Outcome}
use Rattle.std.specs.Vec.Iter.{into_iter_items}
use Rattle.upkeep.proofs.Holds.{blank_holds}

nothing_left : {X : Type 0} (l : List X) → length l ≡ 0 → l ≡ []
nothing_left [] h = refl
nothing_left (x ∷ xs) h = absurd (omega arith)

-- one more outcome, before those to come
more_outcomes : {X : Type 0} (P : List X → Type 0) (old : List X) (o : X) (os new : List X) → new ≡ old ++ o ∷ [] → P (old ++ o ∷ os) → P (new ++ os)
more_outcomes {X} P old o os new is p = subst (λ (xs : List X). P (xs ++ os)) (sym is) (subst P (sym (append_assoc old (o ∷ []) os)) p)

pub loop-call-preserved : goal.loop-call-preserved
loop-call-preserved g c =
    let at = c.loop-call in
    let old = at.outcomes.items in
    let o = c.perform.result in
    let ran : (cs : List (Call g.row.K.Denot g.row.K-Kind.Denot)) (os : List (Outcome g.row.K.Denot)) (d e : g.row.D.Denot) → Type 0 = Ran g.D.Device.steps g.D.Device.meaning g.K.Kinds.code g.K.Kinds.decoded in
    let steps : into_iter_items at.call-iterator ≡ c.in-Some.call ∷ into_iter_items c.next.new.self = c.in-Some.ensures.steps.0 in
    record {
      count = let was = at.invariant.count in let gone = c.in-Some.ensures.steps.1 in let short = ap length steps in omega arith;
      room = let short = ap length steps in omega (arith, c.in_ok-push.ensures.len, c.in_ok-push.ensures.capacity, at.invariant.room);
      rest = λ os e t.
          more_outcomes (λ (is : List (Outcome g.row.K.Denot)). ran (into_iter_items c.into_iter-call-iterator.result) is c.args.database.now.device e) old o os c.push.new.self.items c.in_ok-push.ensures.items
          (at.invariant.rest (o ∷ os) e
          (subst (λ (cs : List (Call g.row.K.Denot g.row.K-Kind.Denot)). ran cs (o ∷ os) at.database.device e) (sym steps) (c.perform.new.database.device, c.perform.ensures, t)));
    }

-- the calls that were made are all
pub returns-clause-ran : goal.returns-clause-ran
returns-clause-ran g c =
    let at = c.loop-call in
    let calls = c.args.calls.items in
    let e = at.database.device in
    let ran : (cs : List (Call g.row.K.Denot g.row.K-Kind.Denot)) (os : List (Outcome g.row.K.Denot)) (d e : g.row.D.Denot) → Type 0 = Ran g.D.Device.steps g.D.Device.meaning g.K.Kinds.code g.K.Kinds.decoded in
    let nothing : into_iter_items at.call-iterator ≡ [] = nothing_left (into_iter_items at.call-iterator) (sym at.invariant.count ∙ c.in-None.ensures.steps.0) in
    let all : into_iter_items c.into_iter-call-iterator.result ≡ calls = c.into_iter-call-iterator.ensures.into_iter_gives.0 in
    subst (λ (cs : List (Call g.row.K.Denot g.row.K-Kind.Denot)). ran cs at.outcomes.items c.args.database.now.device e) all
    (subst (λ (os : List (Outcome g.row.K.Denot)). ran (into_iter_items c.into_iter-call-iterator.result) os c.args.database.now.device e) (append-nil at.outcomes.items)
    (at.invariant.rest [] e (subst (λ (cs : List (Call g.row.K.Denot g.row.K-Kind.Denot)). ran cs [] e e) (sym nothing) refl)))

pub returns-clause-law : goal.returns-clause-law
returns-clause-law g c = λ blank.
    let M = g.D.Device.meaning in
    let d = c.args.database.now.device in
    along g.D.Device.steps M g.K.Kinds.code g.K.Kinds.decoded g.K.Kinds.own_kind g.K.Kinds.fits g.met.K.Kinds.back [] c.args.calls.items c.loop-call.outcomes.items d c.loop-call.database.device
    (blank_holds (M d) c.limit-limit.ensures.sound blank) (returns-clause-ran g c)
