use Rattle.std.proofs.Common.{◌≡◌, ℕ, ◌+◌, List, Ok, Err, Option, Result, sym, ap, subst, ◌∙◌, rules, arith}
use Rattle.contents.specs.Blocks.{bits_in, blocks_of}
use Rattle.database.proofs.Fetches.{answer_bad, answer_good, calls_asked}
use Rattle.database.proofs.Database.find.Goals as goal
use Rattle.contents.specs.Test.{is_good}
use Rattle.std.proofs.lemmas.Bool.{eq-eqb}
use Rattle.calls.specs.Fetch.{fetch_calls, found, home_bytes, home_page}
use Rattle.devices.specs.Step.{Call}
use Rattle.devices.specs.Trace.{Did, Trace}
use Rattle.directory.proofs.Lookups.{page_below}
use Rattle.directory.specs.Ending.{leaf_of}
use Rattle.directory.specs.Tree.{page_of}
use Rattle.directory.specs.declared.Leaf.{Leaf}
use Rattle.faults.specs.declared.Fault.{Fault}
use Rattle.keys.specs.Hash.{hash}
use Rattle.lookup.proofs.Reading.{answer_is, answered, own_answer, refused_too}
use Rattle.lookup.specs.Pages.{bad_page}
use Rattle.lookup.specs.Reads.{home_calls}
use Rattle.pages.specs.Read.{Found, Place}

pub returns-in_err-home-clause-made : goal.returns-in_err-home-clause-made
returns-in_err-home-clause-made g c =
    let did = Did g.D.Device.steps g.D.Device.meaning in
    let d = c.args.self.now.device in
    let e = c.read_home.new.device in
    let blocks = blocks_of (g.D.Device.meaning d) in
    let key = c.args.key.now in
    let own : Result (ℕ × Option Place) Fault = found blocks key c.args.size in
    let f = c.in_err-home.field-0.0 in
    let is : c.from_residual.result ≡ Err f = search rules in
    let calls = calls_asked blocks key c.args.size (sym c.if-is_empty.ensures) (eq-eqb c.args.size 1024 c.if-size-ne-BLOCK.false) in
    subst (λ r. Trace did d (fetch_calls blocks key c.args.size) own r e) (sym is)
    (subst (λ (cs : List Call). Trace did d cs own (Err f) e) (sym calls)
    (refused_too did (home_calls blocks (hash key)) d e _ own f
    (subst (λ (h : ℕ). Trace {X = Leaf} did d (home_calls blocks h) (Ok (leaf_of (bits_in blocks) h)) (Err f) e) c.hash_of.ensures c.in_err-home.ensures.made)))

pub overflow_add-home : goal.overflow_add-home
overflow_add-home g c =
    let d = c.args.self.now.device in
    let blocks = blocks_of (g.D.Device.meaning d) in
    let leaf = answer_is (own_answer (Did g.D.Device.steps g.D.Device.meaning) (home_calls blocks c.hash_of.result) d c.read_home.new.device _ _ c.in_ok-home.ensures.made) in
    omega (arith, ap (λ (l : Leaf). l.page) leaf, page_below (bits_in blocks) c.hash_of.result)

pub returns-in_err-page-clause-made : goal.returns-in_err-page-clause-made
returns-in_err-page-clause-made g c =
    let did = Did g.D.Device.steps g.D.Device.meaning in
    let d = c.args.self.now.device in
    let e = c.read_home.new.device in
    let blocks = blocks_of (g.D.Device.meaning d) in
    let key = c.args.key.now in
    let own : Result (ℕ × Option Place) Fault = found blocks key c.args.size in
    let f = c.in_err-page.field-0.0 in
    let is : c.from_residual-in_err-page.result ≡ Err f = search rules in
    let long = sym c.if-is_empty.ensures in
    let whole = eq-eqb c.args.size 1024 c.if-size-ne-BLOCK.false in
    let leaf = answer_is (own_answer did (home_calls blocks c.hash_of.result) d e _ _ c.in_ok-home.ensures.made) in
    let home : c.in_ok-home.field-0.page ≡ home_page blocks key = ap (λ (l : Leaf). l.page) leaf ∙ ap (page_of (bits_in blocks)) c.hash_of.ensures in
    let page : c.read_home.new.block ≡ home_bytes blocks key = c.in_ok-home.ensures.page ∙ ap (λ (h : ℕ). blocks (4 + page_of (bits_in blocks) h)) c.hash_of.ensures in
    let bad = sym (ap is_good page) ∙ c.in_err-page.ensures.0 in
    let answer : Err f ≡ own = ap Err (c.in_err-page.ensures.1 ∙ ap (λ (p : ℕ). bad_page (4 + p)) home) ∙ sym (answer_bad blocks key c.args.size long whole bad) in
    let made = subst (λ (h : ℕ). Trace {X = Leaf} did d (home_calls blocks h) (Ok (leaf_of (bits_in blocks) h)) (Ok c.in_ok-home.field-0) e) c.hash_of.ensures c.in_ok-home.ensures.made in
    subst (λ r. Trace did d (fetch_calls blocks key c.args.size) own r e) (sym is)
    (subst (λ (cs : List Call). Trace did d cs own (Err f) e) (sym (calls_asked blocks key c.args.size long whole))
    (answered did (home_calls blocks (hash key)) d e _ _ own (Err f) answer made))

pub returns-clause-made : goal.returns-clause-made
returns-clause-made g c =
    let did = Did g.D.Device.steps g.D.Device.meaning in
    let d = c.args.self.now.device in
    let e = c.read_home.new.device in
    let blocks = blocks_of (g.D.Device.meaning d) in
    let key = c.args.key.now in
    let own : Result (ℕ × Option Place) Fault = found blocks key c.args.size in
    let r : Result (ℕ × Option Place) Fault = Ok (4 + c.in_ok-home.field-0.page, c.find.result) in
    let long = sym c.if-is_empty.ensures in
    let whole = eq-eqb c.args.size 1024 c.if-size-ne-BLOCK.false in
    let leaf = answer_is (own_answer did (home_calls blocks c.hash_of.result) d e _ _ c.in_ok-home.ensures.made) in
    let home : c.in_ok-home.field-0.page ≡ home_page blocks key = ap (λ (l : Leaf). l.page) leaf ∙ ap (page_of (bits_in blocks)) c.hash_of.ensures in
    let page : c.read_home.new.block ≡ home_bytes blocks key = c.in_ok-home.ensures.page ∙ ap (λ (h : ℕ). blocks (4 + page_of (bits_in blocks) h)) c.hash_of.ensures in
    let good = sym (ap is_good page) ∙ c.in_ok-page.ensures.0 in
    let at = subst (λ (bytes : List ℕ). Found bytes key c.find.result) (c.in_ok-page.ensures.1 ∙ page) c.find.ensures in
    let answer : r ≡ own = ap (λ (p : ℕ). Ok (4 + p, c.find.result)) home ∙ sym (answer_good blocks key c.args.size long whole good c.find.result at) in
    let made = subst (λ (h : ℕ). Trace {X = Leaf} did d (home_calls blocks h) (Ok (leaf_of (bits_in blocks) h)) (Ok c.in_ok-home.field-0) e) c.hash_of.ensures c.in_ok-home.ensures.made in
    subst (λ (cs : List Call). Trace did d cs own r e) (sym (calls_asked blocks key c.args.size long whole))
    (answered did (home_calls blocks (hash key)) d e _ _ own r answer made)
