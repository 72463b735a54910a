use Rattle.std.proofs.Common.{◌≡◌, ℕ, List, length, Ok, Err, Option, sym, ap, subst, ◌∙◌, rules, refl}
use Rattle.contents.specs.Contents.{contents_of}
use Rattle.contents.specs.Blocks.{blocks_of}
use Rattle.database.proofs.Fetches.{comes_back, home_good, place_there, found_within, record_shown, none_shown, record_decoded, decoding_some, decoding_refused}
use Rattle.database.proofs.Database.get.Goals as goal
use Rattle.database.proofs.Database.get.Goals.{in-Some+in_ok-record_at-in-Some, in-None}
use Rattle.calls.specs.Fetch.{fetch_calls, found, got, decoding, home_bytes, record_at}
use Rattle.calls.specs.Shown.{ShowsRecord}
use Rattle.devices.specs.Trace.{Did, Trace}
use Rattle.lookup.proofs.Reading.{mapped, own_answer}
use Rattle.pages.specs.Read.{Found, Place}

pub returns-in_err-home-clause-made : goal.returns-in_err-home-clause-made
returns-in_err-home-clause-made g c =
    let did = Did g.D.Device.steps g.D.Device.meaning in
    let decoded = g.R.Record.decoded in
    let d = c.args.self.now.device in
    let e = c.find.new.self.device in
    let blocks = blocks_of (g.D.Device.meaning d) in
    let key = c.args.key.now in
    let size = length c.args.page.now in
    let f = c.in_err-home.field-0.0 in
    let is : c.from_residual.result ≡ Err f = search rules in
    subst (λ r. Trace did d (fetch_calls blocks key size) (got decoded blocks key size) r e) (sym is)
    (mapped did (decoding decoded (home_bytes blocks key)) (λ f. refl) (fetch_calls blocks key size) d e (found blocks key size) (Err f) c.in_err-home.ensures.made)

pub returns-in_err-home-clause-shows : goal.returns-in_err-home-clause-shows
returns-in_err-home-clause-shows g c =
    let contents = contents_of (blocks_of (g.D.Device.meaning c.args.self.now.device)) in
    let is : c.from_residual.result ≡ Err c.in_err-home.field-0.0 = search rules in
    subst (λ r. ShowsRecord g.R.Record.decoded contents c.args.key.now r) (sym is) tt

pub record_at-requires : goal.record_at-requires
record_at-requires g c =
    let d = c.args.self.now.device in
    let blocks = blocks_of (g.D.Device.meaning d) in
    let key = c.args.key.now in
    let size = length c.args.page.now in
    let own = own_answer (Did g.D.Device.steps g.D.Device.meaning) (fetch_calls blocks key size) d c.find.new.self.device _ (found blocks key size) c.in_ok-home.ensures.made in
    found_within (home_bytes blocks key) key (home_good blocks key size _ _ own) c.in-Some.place (subst (Found (home_bytes blocks key) key) c.in-Some.is (place_there blocks key size _ _ own))

pub returns-in_err-record_at-in-Some-clause-made : goal.returns-in_err-record_at-in-Some-clause-made
returns-in_err-record_at-in-Some-clause-made g c =
    let did = Did g.D.Device.steps g.D.Device.meaning in
    let decoded = g.R.Record.decoded in
    let d = c.args.self.now.device in
    let e = c.find.new.self.device in
    let blocks = blocks_of (g.D.Device.meaning d) in
    let key = c.args.key.now in
    let size = length c.args.page.now in
    let f = c.in_err-record_at-in-Some.field-0.0 in
    let is : c.from_residual-in_err-record_at-in-Some.result ≡ Err f = search rules in
    let page = c.in_ok-home.ensures.block in
    let answer = decoding_refused decoded (home_bytes blocks key) c.in_ok-home.home c.in_ok-home.place c.in-Some.place c.in-Some.is f
    (subst (λ (bytes : List ℕ). Err f ≡ record_at decoded bytes c.in_ok-home.home c.in-Some.place) page c.in_err-record_at-in-Some.ensures) in
    subst (λ r. Trace did d (fetch_calls blocks key size) (got decoded blocks key size) r e) (answer ∙ sym is)
    (mapped did (decoding decoded (home_bytes blocks key)) (λ f. refl) (fetch_calls blocks key size) d e (found blocks key size) (Ok (c.in_ok-home.home, c.in_ok-home.place)) c.in_ok-home.ensures.made)

pub returns-in_err-record_at-in-Some-clause-shows : goal.returns-in_err-record_at-in-Some-clause-shows
returns-in_err-record_at-in-Some-clause-shows g c =
    let contents = contents_of (blocks_of (g.D.Device.meaning c.args.self.now.device)) in
    let is : c.from_residual-in_err-record_at-in-Some.result ≡ Err c.in_err-record_at-in-Some.field-0.0 = search rules in
    subst (λ r. ShowsRecord g.R.Record.decoded contents c.args.key.now r) (sym is) tt

pub returns-clause-made : goal.returns-clause-made
returns-clause-made g c =
    let did = Did g.D.Device.steps g.D.Device.meaning in
    let decoded = g.R.Record.decoded in
    let d = c.args.self.now.device in
    let e = c.find.new.self.device in
    let blocks = blocks_of (g.D.Device.meaning d) in
    let key = c.args.key.now in
    let size = length c.args.page.now in
    let page = home_bytes blocks key in
    let home = c.in_ok-home.home in
    let place = c.in_ok-home.place in
    let answer : decoding decoded page (Ok (home, place)) ≡ Ok c.match-place.record =
    elim c.match-place.branch [
      | in-Some+in_ok-record_at-in-Some w ↦
          decoding_some decoded page home place w.in-Some.place w.in-Some.is w.in_ok-record_at-in-Some.field-0
          (subst (λ (bytes : List ℕ). Ok w.in_ok-record_at-in-Some.field-0 ≡ record_at decoded bytes home w.in-Some.place) c.in_ok-home.ensures.block w.in_ok-record_at-in-Some.ensures)
          ∙ ap Ok (sym w.record-is)
      | in-None w ↦ ap (λ (q : Option Place). decoding decoded page (Ok (home, q))) w.in-None.is ∙ ap Ok (sym w.record-is)
    ] in
    subst (λ r. Trace did d (fetch_calls blocks key size) (got decoded blocks key size) r e) answer
    (mapped did (decoding decoded page) (λ f. refl) (fetch_calls blocks key size) d e (found blocks key size) (Ok (home, place)) c.in_ok-home.ensures.made)

pub returns-clause-shows : goal.returns-clause-shows
returns-clause-shows g c =
    let decoded = g.R.Record.decoded in
    let d = c.args.self.now.device in
    let blocks = blocks_of (g.D.Device.meaning d) in
    let key = c.args.key.now in
    let size = length c.args.page.now in
    let page = home_bytes blocks key in
    let home = c.in_ok-home.home in
    let own = own_answer (Did g.D.Device.steps g.D.Device.meaning) (fetch_calls blocks key size) d c.find.new.self.device _ (found blocks key size) c.in_ok-home.ensures.made in
    let good = home_good blocks key size _ _ own in
    let there = place_there blocks key size _ _ own in
    elim c.match-place.branch [
      | in-Some+in_ok-record_at-in-Some w ↦
          let x = w.in_ok-record_at-in-Some.field-0 in
          let p = w.in-Some.place in
          let code = subst (λ (bytes : List ℕ). Ok x ≡ record_at decoded bytes home p) c.in_ok-home.ensures.block w.in_ok-record_at-in-Some.ensures in
          subst (λ r. ShowsRecord decoded (contents_of blocks) key (Ok r)) (sym w.record-is)
          (record_shown decoded blocks key p x good (subst (Found page key) w.in-Some.is there) (record_decoded decoded page home p x code))
      | in-None w ↦
          subst (λ r. ShowsRecord decoded (contents_of blocks) key (Ok r)) (sym w.record-is) (none_shown decoded blocks key good (subst (Found page key) w.in-None.is there))
    ]

pub returns-in_err-home-clause-back : goal.returns-in_err-home-clause-back
returns-in_err-home-clause-back g c =
    λ x fits h long whole. comes_back g.R.Record.decoded g.R.Record.code x (g.met.R.Record.back x fits) (blocks_of (g.D.Device.meaning c.args.self.now.device)) c.args.key.now h long _ whole

pub returns-in_err-record_at-in-Some-clause-back : goal.returns-in_err-record_at-in-Some-clause-back
returns-in_err-record_at-in-Some-clause-back g c =
    λ x fits h long whole. comes_back g.R.Record.decoded g.R.Record.code x (g.met.R.Record.back x fits) (blocks_of (g.D.Device.meaning c.args.self.now.device)) c.args.key.now h long _ whole

pub returns-clause-back : goal.returns-clause-back
returns-clause-back g c =
    λ x fits h long whole. comes_back g.R.Record.decoded g.R.Record.code x (g.met.R.Record.back x fits) (blocks_of (g.D.Device.meaning c.args.self.now.device)) c.args.key.now h long _ whole
