use Rattle.std.proofs.Common.{◌≡◌, ℕ, ◌+◌, ◌==◌, cond, List, [], ◌∷◌, Option, None, Ok, Err, Result, refl, sym, ap, subst, ◌∙◌, rules}
use Rattle.contents.specs.Blocks.{blocks_of, page_in}
use Rattle.contents.specs.Test.{is_good}
use Rattle.database.proofs.Database.visit.Goals as goal
use Rattle.database.proofs.Visits.{at_other, at_page, first_is_home, here_bad, here_calls, here_good, here_page, past_calls, past_none, past_page, read_page, read_then}
use Rattle.calls.specs.Step.{Shows, first_home, reachable, visit_calls, visited}
use Rattle.devices.proofs.Traces.{trace_stop, trace_then}
use Rattle.devices.specs.Step.{Call}
use Rattle.devices.specs.Trace.{Did, Trace}
use Rattle.directory.specs.Tree.{low}
use Rattle.faults.specs.declared.Fault.{Fault}
use Rattle.keys.specs.Hash.{hash}
use Rattle.lookup.proofs.Reading.{answer_is, own_answer, read_refused}
use Rattle.lookup.specs.Reads.{lookup_calls, reads}

pub returns-in_err-leaf-clause-made : goal.returns-in_err-leaf-clause-made
returns-in_err-leaf-clause-made g c =
    let did = Did g.D.Device.steps g.D.Device.meaning in
    let d = c.args.self.now.device in
    let e = c.look_up.new.device in
    let blocks = blocks_of (g.D.Device.meaning d) in
    let p = c.args.p in
    let own = visited blocks p c.args.number in
    let f = c.in_err-leaf.field-0.0 in
    let is : c.from_residual.result ≡ Err f = search rules in
    subst (λ r. Trace did d (visit_calls blocks p) own r e) (sym is)
    (trace_stop did (lookup_calls blocks p) (cond (reachable blocks p) (reads ((4 + p) ∷ [])) []) d e _ own f c.in_err-leaf.ensures.made)

pub returns-then-leaf-p-clause-made : goal.returns-then-leaf-p-clause-made
returns-then-leaf-p-clause-made g c =
    let did = Did g.D.Device.steps g.D.Device.meaning in
    let d = c.args.self.now.device in
    let e = c.look_up.new.device in
    let blocks = blocks_of (g.D.Device.meaning d) in
    let p = c.args.p in
    let own = visited blocks p c.args.number in
    let leaf = answer_is (own_answer did (lookup_calls blocks p) d e _ _ c.in_ok-leaf.ensures.made) in
    let past = at_other blocks p c.in_ok-leaf.leaf leaf c.if-leaf-p.true in
    subst (λ (cs : List Call). Trace did d cs own (Ok None) e) (sym (past_calls blocks p past))
    (trace_then did (lookup_calls blocks p) [] d e e _ _ own (Ok None) c.in_ok-leaf.ensures.made (sym (past_none blocks p past c.args.number), refl))

pub returns-then-leaf-p-clause-page : goal.returns-then-leaf-p-clause-page
returns-then-leaf-p-clause-page g c =
    let did = Did g.D.Device.steps g.D.Device.meaning in
    let d = c.args.self.now.device in
    let blocks = blocks_of (g.D.Device.meaning d) in
    let p = c.args.p in
    let leaf = answer_is (own_answer did (lookup_calls blocks p) d c.look_up.new.device _ _ c.in_ok-leaf.ensures.made) in
    sym (past_page blocks p (at_other blocks p c.in_ok-leaf.leaf leaf c.if-leaf-p.true) c.args.block.now)

pub returns-in_err-read-clause-made : goal.returns-in_err-read-clause-made
returns-in_err-read-clause-made g c =
    let steps = g.D.Device.steps in
    let M = g.D.Device.meaning in
    let did = Did steps M in
    let d = c.args.self.now.device in
    let m = c.look_up.new.device in
    let e = c.read.new.self in
    let blocks = blocks_of (M d) in
    let p = c.args.p in
    let own = visited blocks p c.args.number in
    let leaf = answer_is (own_answer did (lookup_calls blocks p) d m _ _ c.in_ok-leaf.ensures.made) in
    let here = at_page blocks p c.in_ok-leaf.leaf leaf c.if-leaf-p.false in
    let f = c.in_err-read.field-0.0 in
    let is : c.from_residual-in_err-read.result ≡ Err f = search rules in
    subst (λ r. Trace did d (visit_calls blocks p) own r e) (sym is)
    (subst (λ (cs : List Call). Trace did d cs own (Err f) e) (sym (here_calls blocks p here))
    (read_refused steps M (lookup_calls blocks p) d m _ _ own c.in_ok-leaf.ensures.made (4 + p) _ c.told-block e f c.in_err-read.ensures.step))

pub returns-in_err-page-clause-made : goal.returns-in_err-page-clause-made
returns-in_err-page-clause-made g c =
    let steps = g.D.Device.steps in
    let M = g.D.Device.meaning in
    let did = Did steps M in
    let d = c.args.self.now.device in
    let m = c.look_up.new.device in
    let e = c.read.new.self in
    let blocks = blocks_of (M d) in
    let p = c.args.p in
    let own = visited blocks p c.args.number in
    let leaf = answer_is (own_answer did (lookup_calls blocks p) d m _ _ c.in_ok-leaf.ensures.made) in
    let here = at_page blocks p c.in_ok-leaf.leaf leaf c.if-leaf-p.false in
    let bytes = read_page steps M p d m e _ _ c.in_ok-leaf.ensures.made c.requires _ c.args.block.now c.read.new.into c.told-block c.in_ok-read.ensures.step c.in_ok-read.ensures.into in
    let bad = here_bad blocks p here c.args.number (ap is_good (sym bytes) ∙ c.in_err-page.ensures.0) in
    let f = c.in_err-page.field-0.0 in
    let is : c.from_residual-in_err-page.result ≡ Err f = search rules in
    subst (λ (cs : List Call). Trace did d cs own c.from_residual-in_err-page.result e) (sym (here_calls blocks p here))
    (read_then steps M (lookup_calls blocks p) d m e _ _ own (4 + p) _ c.told-block c.from_residual-in_err-page.result (is ∙ ap Err c.in_err-page.ensures.1 ∙ sym bad) c.in_ok-leaf.ensures.made c.in_ok-read.ensures.step)

pub returns-clause-made : goal.returns-clause-made
returns-clause-made g c =
    let steps = g.D.Device.steps in
    let M = g.D.Device.meaning in
    let did = Did steps M in
    let d = c.args.self.now.device in
    let m = c.look_up.new.device in
    let e = c.read.new.self in
    let blocks = blocks_of (M d) in
    let p = c.args.p in
    let n = c.args.number in
    let own = visited blocks p n in
    let leaf = answer_is (own_answer did (lookup_calls blocks p) d m _ _ c.in_ok-leaf.ensures.made) in
    let at = c.if-leaf-p.false in
    let here = at_page blocks p c.in_ok-leaf.leaf leaf at in
    let bytes = read_page steps M p d m e _ _ c.in_ok-leaf.ensures.made c.requires _ c.args.block.now c.read.new.into c.told-block c.in_ok-read.ensures.step c.in_ok-read.ensures.into in
    let page = c.in_ok-page.ensures.1 ∙ bytes in
    let good = here_good blocks p here n (ap is_good (sym bytes) ∙ c.in_ok-page.ensures.0) in
    let first =
    c.first_home.ensures ∙ ap (λ (s : List ℕ). first_home (λ key. low (hash key) c.in_ok-leaf.leaf.depth == c.in_ok-leaf.leaf.page) s c.in_ok-leaf.leaf.page n) page
    ∙ first_is_home blocks p c.in_ok-leaf.leaf leaf (page_in blocks p) n at in
    let r : Result (Option Shows) Fault = Ok c.first_home.result in
    subst (λ (cs : List Call). Trace did d cs own r e) (sym (here_calls blocks p here))
    (read_then steps M (lookup_calls blocks p) d m e _ _ own (4 + p) _ c.told-block r (ap Ok first ∙ sym good) c.in_ok-leaf.ensures.made c.in_ok-read.ensures.step)

pub returns-clause-page : goal.returns-clause-page
returns-clause-page g c =
    let steps = g.D.Device.steps in
    let M = g.D.Device.meaning in
    let did = Did steps M in
    let d = c.args.self.now.device in
    let m = c.look_up.new.device in
    let blocks = blocks_of (M d) in
    let p = c.args.p in
    let leaf = answer_is (own_answer did (lookup_calls blocks p) d m _ _ c.in_ok-leaf.ensures.made) in
    let here = at_page blocks p c.in_ok-leaf.leaf leaf c.if-leaf-p.false in
    read_page steps M p d m c.read.new.self _ _ c.in_ok-leaf.ensures.made c.requires _ c.args.block.now c.read.new.into c.told-block c.in_ok-read.ensures.step c.in_ok-read.ensures.into
    ∙ sym (here_page blocks p here c.args.block.now)
