use Rattle.std.proofs.Common.{rules, ◌≡◌, ℕ, ◌-◌, List, length, Ok, Err, Result, sym, ap, subst, ◌∙◌, refl}
use Rattle.contents.specs.Blocks.{blocks_of}
use Rattle.contents.specs.Contents.{contents_of}
use Rattle.database.proofs.Database.step.Goals as goal
use Rattle.database.proofs.Steps.{not_whole, whole_trace}
use Rattle.database.proofs.Walks.{step_shows}
use Rattle.calls.specs.Shown.{ShowsNext}
use Rattle.calls.specs.Step.{calls_from, page_from, step_from, step_page}
use Rattle.calls.specs.declared.Stepped.{Stepped}
use Rattle.devices.specs.Trace.{Did}
use Rattle.faults.specs.declared.Fault.{Fault}
use Rattle.lookup.proofs.Reading.{own_answer}

pub returns-in_default-clause-made : goal.returns-in_default-clause-made
returns-in_default-clause-made g c =
    let blocks = blocks_of (g.D.Device.meaning c.args.self.now.device) in
    not_whole (Did g.D.Device.steps g.D.Device.meaning) blocks c.args.at (length c.args.page.now) c.in_default.ensures.cases c.args.self.now.device c.fault.result c.fault.ensures

pub returns-in_err-answer-clause-made : goal.returns-in_err-answer-clause-made
returns-in_err-answer-clause-made g c =
    let is : c.from_residual.result ≡ Err c.in_err-answer.field-0.0 = search rules in
    whole_trace (Did g.D.Device.steps g.D.Device.meaning) (blocks_of (g.D.Device.meaning c.args.self.now.device)) c.args.at (length c.args.page.now) c.in-Some.ensures.cases.long
    c.args.self.now.device c.search.new.self.device c.from_residual.result c.search.result (is ∙ sym c.in_err-answer.was) c.search.ensures.made

pub returns-clause-made : goal.returns-clause-made
returns-clause-made g c =
    whole_trace (Did g.D.Device.steps g.D.Device.meaning) (blocks_of (g.D.Device.meaning c.args.self.now.device)) c.args.at (length c.args.page.now) c.in-Some.ensures.cases.long
    c.args.self.now.device c.search.new.self.device (Ok c.in_ok-answer.answer) c.search.result (sym c.in_ok-answer.was) c.search.ensures.made

pub returns-clause-page : goal.returns-clause-page
unfolding step_page
returns-clause-page g c =
    let blocks = blocks_of (g.D.Device.meaning c.args.self.now.device) in
    let at = c.args.at in
    c.in_ok-answer.ensures.page ∙ ap (page_from blocks (32768 - at.0) at.0 at.1) c.in-Some.ensures.cases.same

pub returns-clause-shows : goal.returns-clause-shows
returns-clause-shows g c =
    let did = Did g.D.Device.steps g.D.Device.meaning in
    let d = c.args.self.now.device in
    let blocks = blocks_of (g.D.Device.meaning d) in
    let p = c.args.at.0 in
    let n = c.args.at.1 in
    let x = c.in_ok-answer.answer in
    let is = own_answer did (calls_from blocks (32768 - p) p n) d c.search.new.self.device x (step_from blocks (32768 - p) p n) c.in_ok-answer.ensures.made in
    subst (λ (s : List ℕ). ShowsNext (contents_of blocks) (p, n) (Ok x) s) (sym c.in_ok-answer.ensures.page)
    (subst (λ (r : Result Stepped Fault). ShowsNext (contents_of blocks) (p, n) r (page_from blocks (32768 - p) p n c.in-Some.buffer.now)) (sym is)
    (step_shows blocks (32768 - p) p n c.in-Some.buffer.now refl))
