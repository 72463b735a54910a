use Rattle.std.proofs.Common.{◌≡◌, length, Ok, Err, Option, Result, sym, subst, ◌∙◌, rules, refl}
use Rattle.contents.specs.Blocks.{blocks_of}
use Rattle.contents.specs.Contents.{contents_of}
use Rattle.calls.specs.Shown.{ShowsValue}
use Rattle.database.proofs.Fetches.{home_good, place_there, value_shown}
use Rattle.database.proofs.Database.fetch.Goals as goal
use Rattle.calls.specs.Fetch.{fetch_calls, found, fetched, place_alone}
use Rattle.devices.specs.Trace.{Did, Trace}
use Rattle.faults.specs.declared.Fault.{Fault}
use Rattle.lookup.proofs.Reading.{mapped, own_answer}
use Rattle.pages.specs.Read.{Place}

pub returns-in_err-place-clause-made : goal.returns-in_err-place-clause-made
returns-in_err-place-clause-made g c =
    let did = Did g.D.Device.steps g.D.Device.meaning in
    let d = c.args.self.now.device in
    let e = c.find.new.self.device in
    let blocks = blocks_of (g.D.Device.meaning d) in
    let key = c.args.key.now in
    let size = length c.args.page.now in
    let f = c.in_err-place.field-0.0 in
    let own : Result (Option Place) Fault = fetched blocks key size in
    let is : c.from_residual.result ≡ Err f = search rules in
    subst (λ r. Trace did d (fetch_calls blocks key size) own r e) (sym is)
    (mapped did place_alone (λ f. refl) (fetch_calls blocks key size) d e (found blocks key size) (Err f) c.in_err-place.ensures.made)

pub returns-in_err-place-clause-shows : goal.returns-in_err-place-clause-shows
returns-in_err-place-clause-shows g c =
    let contents = contents_of (blocks_of (g.D.Device.meaning c.args.self.now.device)) in
    let is : c.from_residual.result ≡ Err c.in_err-place.field-0.0 = search rules in
    subst (λ r. ShowsValue contents c.args.key.now r c.args.page.now) (sym is) tt

pub returns-clause-made : goal.returns-clause-made
returns-clause-made g c =
    let did = Did g.D.Device.steps g.D.Device.meaning in
    let d = c.args.self.now.device in
    let e = c.find.new.self.device in
    let blocks = blocks_of (g.D.Device.meaning d) in
    let key = c.args.key.now in
    let size = length c.args.page.now in
    mapped did place_alone (λ f. refl) (fetch_calls blocks key size) d e (found blocks key size) (Ok (_, c.in_ok-place.place)) c.in_ok-place.ensures.made

pub returns-clause-shows : goal.returns-clause-shows
returns-clause-shows g c =
    let did = Did g.D.Device.steps g.D.Device.meaning in
    let d = c.args.self.now.device in
    let blocks = blocks_of (g.D.Device.meaning d) in
    let key = c.args.key.now in
    let size = length c.args.page.now in
    let own = own_answer did (fetch_calls blocks key size) d c.find.new.self.device _ (found blocks key size) c.in_ok-place.ensures.made in
    value_shown blocks key c.in_ok-place.place c.copy_from_slice.new.self (home_good blocks key size _ _ own) (place_there blocks key size _ _ own) (c.copy_from_slice.ensures.after ∙ c.in_ok-place.ensures.block)
