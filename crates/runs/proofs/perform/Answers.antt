use Rattle.std.proofs.Common.{◌≡◌, ℕ, List, None, Option, Result, Some, refl, ap, subst, rules, length}
use Rattle.calls.specs.Delete.{delete_calls, deleted}
use Rattle.calls.specs.Fetch.{BufferHas, fetch_calls, fetched, got, home_bytes}
use Rattle.calls.specs.Step.{step_calls, step_page, stepped}
use Rattle.calls.specs.Store.{store_calls, stored}
use Rattle.calls.specs.declared.Mode.TheVariants.{Replace}
use Rattle.contents.specs.Blocks.{blocks_of}
use Rattle.calls.specs.declared.Stepped.{Stepped}
use Rattle.devices.specs.Step.{Call as Asked}
use Rattle.devices.specs.Trace.{Did, Trace}
use Rattle.faults.specs.declared.Fault.{Fault}
use Rattle.pages.specs.Read.{Place}
use Rattle.runs.proofs.Made.{as_call, buffer_told, told}
use Rattle.runs.proofs.perform.Goals as goal
use Rattle.runs.specs.Performed.{told_as}
use Rattle.runs.specs.declared.Answer.TheVariants.{Deleted, Done, Found, Got, Shown}
use Rattle.runs.specs.declared.Call.TheVariants.{Delete, Fetch, Get, Put, Step, Store}
use Rattle.std.specs.Vec.{with_items}

pub returns-in-Store : goal.returns-in-Store
returns-in-Store g c =
    let steps = g.D.Device.steps in
    let M = g.D.Device.meaning in
    let d = c.args.database.now.device in
    let e = c.store.new.self.device in
    let blocks = blocks_of (M d) in
    let r = c.store.result in
    as_call steps M g.K.Kinds.code g.K.Kinds.decoded d e c.args.call (Store c.in-Store.key c.in-Store.value c.in-Store.mode) c.without_page.result c.done.result (told_as (λ _. Done) r) None c.in-Store.is c.without_page.ensures c.done.ensures
    (told (Did steps M) (λ _. Done) (store_calls blocks c.in-Store.key.now c.in-Store.value.now c.in-Store.mode) d e (stored blocks c.in-Store.key.now c.in-Store.value.now c.in-Store.mode) r c.store.ensures, refl)

pub returns-in-Put : goal.returns-in-Put
returns-in-Put g c =
    let steps = g.D.Device.steps in
    let M = g.D.Device.meaning in
    let d = c.args.database.now.device in
    let e = c.put.new.database.device in
    let blocks = blocks_of (M d) in
    let r = c.put.result in
    let bytes = g.K.Kinds.code c.in-Put.«record» in
    as_call steps M g.K.Kinds.code g.K.Kinds.decoded d e c.args.call (Put c.in-Put.key c.in-Put.«record») c.without_page-in-Put.result c.done-in-Put.result (told_as (λ _. Done) r) None c.in-Put.is c.without_page-in-Put.ensures c.done-in-Put.ensures
    (told (Did steps M) (λ _. Done) (store_calls blocks c.in-Put.key.now bytes Replace) d e (stored blocks c.in-Put.key.now bytes Replace) r c.put.ensures, refl)

pub returns-in-Fetch : goal.returns-in-Fetch
returns-in-Fetch g c =
    let steps = g.D.Device.steps in
    let M = g.D.Device.meaning in
    let d = c.args.database.now.device in
    let e = c.fetch.new.self.device in
    let blocks = blocks_of (M d) in
    let buffer = c.in-Fetch.page in
    let size = length buffer.items in
    let r = c.fetch.result in
    let left = c.fetch.new.page in
    let len : length left ≡ buffer.len = search rules in
    let calls : ℕ → List Asked = λ n. fetch_calls blocks c.in-Fetch.key.now n in
    let own : ℕ → Result (Option Place) Fault = λ n. fetched blocks c.in-Fetch.key.now n in
    let made : Trace (Did steps M) d (calls size) (own size) r e = subst (λ (n : ℕ). Trace (Did steps M) d (calls n) (own n) r e) (ap length c.deref_mut.ensures.value) c.fetch.ensures.made in
    as_call steps M g.K.Kinds.code g.K.Kinds.decoded d e c.args.call (Fetch c.in-Fetch.key buffer) c.with_page.result c.found-answer.result (told_as (λ place. Found place) r) (Some (with_items buffer left)) c.in-Fetch.is c.with_page.ensures c.found-answer.ensures
    (told (Did steps M) (λ place. Found place) (calls size) d e (own size) r made, buffer_told (λ place. Found place) r buffer (home_bytes blocks c.in-Fetch.key.now) c.deref_mut.result.now left c.fetch.ensures.page c.deref_mut.ensures.value len)

pub returns-in-Get : goal.returns-in-Get
returns-in-Get g c =
    let steps = g.D.Device.steps in
    let M = g.D.Device.meaning in
    let d = c.args.database.now.device in
    let e = c.get.new.database.device in
    let blocks = blocks_of (M d) in
    let buffer = c.in-Get.page in
    let size = length buffer.items in
    let r = c.get.result in
    let left = c.get.new.page in
    let len : length left ≡ buffer.len = search rules in
    let calls : ℕ → List Asked = λ n. fetch_calls blocks c.in-Get.key.now n in
    let own : ℕ → Result (Option g.row.K.Denot) Fault = λ n. got (g.K.Kinds.decoded c.in-Get.kind) blocks c.in-Get.key.now n in
    let made : Trace (Did steps M) d (calls size) (own size) r e = subst (λ (n : ℕ). Trace (Did steps M) d (calls n) (own n) r e) (ap length c.deref_mut-in-Get.ensures.value) c.get.ensures.made in
    as_call steps M g.K.Kinds.code g.K.Kinds.decoded d e c.args.call (Get c.in-Get.key c.in-Get.kind buffer) c.with_page-in-Get.result c.got-answer.result (told_as (λ x. Got x) r) (Some (with_items buffer left)) c.in-Get.is c.with_page-in-Get.ensures c.got-answer.ensures
    (told (Did steps M) (λ x. Got x) (calls size) d e (own size) r made, buffer_told (λ x. Got x) r buffer (home_bytes blocks c.in-Get.key.now) c.deref_mut-in-Get.result.now left c.get.ensures.page c.deref_mut-in-Get.ensures.value len)

pub returns-in-Step : goal.returns-in-Step
returns-in-Step g c =
    let steps = g.D.Device.steps in
    let M = g.D.Device.meaning in
    let d = c.args.database.now.device in
    let e = c.step.new.self.device in
    let blocks = blocks_of (M d) in
    let buffer = c.in-Step.page in
    let size = length buffer.items in
    let r = c.step.result in
    let left = c.step.new.page in
    let len : length left ≡ buffer.len = search rules in
    let calls : ℕ → List Asked = λ n. step_calls blocks c.in-Step.at n in
    let own : ℕ → Result (Stepped) Fault = λ n. stepped blocks c.in-Step.at n in
    let made : Trace (Did steps M) d (calls size) (own size) r e = subst (λ (n : ℕ). Trace (Did steps M) d (calls n) (own n) r e) (ap length c.deref_mut-in-Step.ensures.value) c.step.ensures.made in
    let shows : BufferHas r (step_page blocks c.in-Step.at buffer.items) c.deref_mut-in-Step.result.now left = subst (λ (old : List ℕ). BufferHas r (step_page blocks c.in-Step.at old) c.deref_mut-in-Step.result.now left) c.deref_mut-in-Step.ensures.value c.step.ensures.page in
    as_call steps M g.K.Kinds.code g.K.Kinds.decoded d e c.args.call (Step c.in-Step.at buffer) c.with_page-in-Step.result c.shown-answer.result (told_as (λ s. Shown s) r) (Some (with_items buffer left)) c.in-Step.is c.with_page-in-Step.ensures c.shown-answer.ensures
    (told (Did steps M) (λ s. Shown s) (calls size) d e (own size) r made, buffer_told (λ s. Shown s) r buffer (step_page blocks c.in-Step.at buffer.items) c.deref_mut-in-Step.result.now left shows c.deref_mut-in-Step.ensures.value len)

pub returns-in-Delete : goal.returns-in-Delete
returns-in-Delete g c =
    let steps = g.D.Device.steps in
    let M = g.D.Device.meaning in
    let d = c.args.database.now.device in
    let e = c.delete.new.self.device in
    let blocks = blocks_of (M d) in
    let r = c.delete.result in
    as_call steps M g.K.Kinds.code g.K.Kinds.decoded d e c.args.call (Delete c.in-Delete.key) c.without_page-in-Delete.result c.deleted.result (told_as (λ there. Deleted there) r) None c.in-Delete.is c.without_page-in-Delete.ensures c.deleted.ensures
    (told (Did steps M) (λ there. Deleted there) (delete_calls blocks c.in-Delete.key.now) d e (deleted blocks c.in-Delete.key.now) r c.delete.ensures, refl)
