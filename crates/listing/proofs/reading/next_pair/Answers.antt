use Rattle.std.proofs.Common.{◌≡◌, Ok, Err, Option, Result, sym, ap, subst, ◌∙◌, rules}
use Rattle.calls.specs.Step.{Shows, step_calls, stepped}
use Rattle.calls.specs.declared.Stepped.TheVariants.{End, Pair}
use Rattle.faults.specs.declared.Fault.{Fault}
use Rattle.listing.proofs.Places.{step_inside, step_told, view_accepted}
use Rattle.listing.proofs.reading.next_pair.Goals as goal
use Rattle.listing.specs.Shown.{after_shown, after_step}
use Rattle.listing.specs.declared.reading.Shown.{Shown}
use Rattle.lookup.specs.Made.{Made}

pub returns-in_err-key-clause-made : goal.returns-in_err-key-clause-made
returns-in_err-key-clause-made g c =
    let steps = g.D.Device.steps in
    let M = g.D.Device.meaning in
    let d = c.args.database.now.device in
    let e = c.step.new.database.device in
    let at = c.args.at in
    let f = c.in_err-key.field-0.0 in
    let is : c.from_residual.result ≡ Err f = search rules in
    subst (λ (r : Result (Option Shown) Fault). Made steps M d (λ b. step_calls b at 1024) (λ b. after_step (stepped b at 1024)) (after_shown r) e) (sym is)
    (step_told steps M d e at c.step.result (Err f) c.in_err-key.was c.step.ensures.made)

-- no view of a place that a step shows is refused
pub returns-in_err-view-in-Pair-clause-made : goal.returns-in_err-view-in-Pair-clause-made
returns-in_err-view-in-Pair-clause-made g c =
    let s : Shows = (c.in-Pair.key, c.in-Pair.value, c.in-Pair.next) in
    let is = c.in_ok-key.was ∙ ap Ok c.in-Pair.is in
    let inside = step_inside g.D.Device.steps g.D.Device.meaning c.args.database.now.device c.step.new.database.device c.args.at c.step.result s is c.step.ensures.made in
    absurd (view_accepted c.step.new.page c.in-Pair.key c.in_err-view-in-Pair.field-0.0 c.step.array_long inside.0 c.in_err-view-in-Pair.ensures)

pub returns-in_err-view-in-Pair-2-clause-made : goal.returns-in_err-view-in-Pair-2-clause-made
returns-in_err-view-in-Pair-2-clause-made g c =
    let s : Shows = (c.in-Pair.key, c.in-Pair.value, c.in-Pair.next) in
    let is = c.in_ok-key.was ∙ ap Ok c.in-Pair.is in
    let inside = step_inside g.D.Device.steps g.D.Device.meaning c.args.database.now.device c.step.new.database.device c.args.at c.step.result s is c.step.ensures.made in
    absurd (view_accepted c.step.new.page c.in-Pair.value c.in_err-view-in-Pair-2.field-0.0 c.step.array_long inside.1 c.in_err-view-in-Pair-2.ensures)

pub returns-in_ok-view-in-Pair-2-clause-made : goal.returns-in_ok-view-in-Pair-2-clause-made
returns-in_ok-view-in-Pair-2-clause-made g c =
    let s : Shows = (c.in-Pair.key, c.in-Pair.value, c.in-Pair.next) in
    let is = c.in_ok-key.was ∙ ap Ok c.in-Pair.is in
    step_told g.D.Device.steps g.D.Device.meaning c.args.database.now.device c.step.new.database.device c.args.at c.step.result (Ok (Pair s)) is c.step.ensures.made

pub returns-in-End-clause-made : goal.returns-in-End-clause-made
returns-in-End-clause-made g c =
    let is = c.in_ok-key.was ∙ ap Ok c.in-End.is in
    step_told g.D.Device.steps g.D.Device.meaning c.args.database.now.device c.step.new.database.device c.args.at c.step.result (Ok End) is c.step.ensures.made
