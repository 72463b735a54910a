use Rattle.std.proofs.Common.{◌≡◌, ℕ, List, length, Ok, Err, Option, Result, Bor, sym, ap, subst, ◌∙◌, rules}
use Rattle.calls.specs.Fetch.{fetch_calls, fetched}
use Rattle.faults.specs.declared.Fault.{Fault}
use Rattle.listing.proofs.Places.{fetch_inside, fetch_told, home_whole, view_accepted}
use Rattle.listing.proofs.reading.value_of.Goals as goal
use Rattle.listing.specs.Shown.{accepted}
use Rattle.lookup.specs.Made.{Made}

pub returns-in_err-place-clause-made : goal.returns-in_err-place-clause-made
returns-in_err-place-clause-made g c =
    let steps = g.D.Device.steps in
    let M = g.D.Device.meaning in
    let d = c.args.database.now.device in
    let e = c.fetch.new.self.device in
    let name = c.args.name.now in
    let f = c.in_err-place.field-0.0 in
    let is : c.from_residual.result ≡ Err f = search rules in
    subst (λ (r : Result (Option (Bor (List ℕ))) Fault). Made steps M d (λ b. fetch_calls b name 1024) (λ b. accepted (fetched b name 1024)) (accepted r) e) (sym is)
    (fetch_told steps M d e name (length c.args.page.now) c.told-page c.fetch.result (Err f) c.in_err-place.was c.fetch.ensures.made)

-- no view of the place that a fetch answers is refused
pub returns-in_err-view-in-Some-clause-made : goal.returns-in_err-view-in-Some-clause-made
returns-in_err-view-in-Some-clause-made g c =
    let steps = g.D.Device.steps in
    let M = g.D.Device.meaning in
    let d = c.args.database.now.device in
    let e = c.fetch.new.self.device in
    let name = c.args.name.now in
    let size = length c.args.page.now in
    let place = c.in-Some.place in
    let is = c.in_ok-place.was ∙ ap Ok c.in-Some.is in
    let made = c.fetch.ensures.made in
    let whole = home_whole steps M d e name size c.told-page c.fetch.result place is made c.fetch.new.page c.in_ok-place.ensures.page in
    let inside = fetch_inside steps M d e name size c.told-page c.fetch.result place is made in
    absurd (view_accepted c.fetch.new.page place c.in_err-view-in-Some.field-0.0 whole inside c.in_err-view-in-Some.ensures)

pub returns-in_ok-view-in-Some-clause-made : goal.returns-in_ok-view-in-Some-clause-made
returns-in_ok-view-in-Some-clause-made g c =
    fetch_told g.D.Device.steps g.D.Device.meaning c.args.database.now.device c.fetch.new.self.device c.args.name.now (length c.args.page.now) c.told-page
    c.fetch.result (Ok c.in_ok-place.field-0) c.in_ok-place.was c.fetch.ensures.made

pub returns-in-None-clause-made : goal.returns-in-None-clause-made
returns-in-None-clause-made g c =
    fetch_told g.D.Device.steps g.D.Device.meaning c.args.database.now.device c.fetch.new.self.device c.args.name.now (length c.args.page.now) c.told-page
    c.fetch.result (Ok c.in_ok-place.field-0) c.in_ok-place.was c.fetch.ensures.made
