-- What each call of a list asks of the device, answers, and leaves in its page buffer.
use Rattle.std.specs.Prelude.{◌≡◌, ℕ, List, [], ◌∷◌, length, IsSomeAnd, Some, None, Ok, Err, Option, Result, Vec}
use Rattle.calls.specs.Delete.{delete_calls, deleted}
use Rattle.calls.specs.Fetch.{BufferHas, fetch_calls, fetched, got, home_bytes}
use Rattle.calls.specs.Step.{step_calls, step_page, stepped}
use Rattle.calls.specs.Store.{store_calls, stored}
use Rattle.calls.specs.declared.Mode.TheVariants.{Replace}
use Rattle.contents.specs.Blocks.{Blocks, blocks_of}
use Rattle.devices.specs.Meaning.{Meaning}
use Rattle.devices.specs.Step.{Call as Asked, flush}
use Rattle.devices.specs.Trace.{Account}
use Rattle.faults.specs.declared.Fault.{Fault}
use Rattle.lookup.specs.Made.{Made}
use Rattle.runs.specs.declared.Answer.{Answer}
use Rattle.runs.specs.declared.Answer.TheVariants.{Deleted, Done, Found, Got, Shown}
use Rattle.runs.specs.declared.Call.{Call}
use Rattle.runs.specs.declared.Call.TheVariants.{Delete, Fetch, Flush, Get, Put, Step, Store}
use Rattle.runs.specs.declared.Outcome.{Outcome}
use Rattle.std.specs.declared.alloc.Global.{Global}

-- an accepted answer as one of a list
abbrev pub told_as : {X A : Type 0} → (X → A) → Result X Fault → Result A Fault
told_as h (Ok x) = Ok (h x)
told_as h (Err f) = Err f

abbrev pub calls_of : {K Kind : Type 0} → (K → List ℕ) → Call K Kind → Blocks → List Asked
calls_of code (Store key value mode) blocks = store_calls blocks key.now value.now mode
calls_of code (Put key x) blocks = store_calls blocks key.now (code x) Replace
calls_of code (Fetch key page) blocks = fetch_calls blocks key.now (length page.items)
calls_of code (Get key kind page) blocks = fetch_calls blocks key.now (length page.items)
calls_of code (Delete key) blocks = delete_calls blocks key.now
calls_of code (Step at page) blocks = step_calls blocks at (length page.items)
calls_of code Flush blocks = flush ∷ []

abbrev pub answer_of : {K Kind : Type 0} → (K → List ℕ) → (Kind → List ℕ → Option K) → Call K Kind → Blocks → Result (Answer K) Fault
answer_of code decoded (Store key value mode) blocks = told_as (λ _. Done) (stored blocks key.now value.now mode)
answer_of code decoded (Put key x) blocks = told_as (λ _. Done) (stored blocks key.now (code x) Replace)
answer_of code decoded (Fetch key page) blocks = told_as (λ place. Found place) (fetched blocks key.now (length page.items))
answer_of code decoded (Get key kind page) blocks = told_as (λ x. Got x) (got (decoded kind) blocks key.now (length page.items))
answer_of code decoded (Delete key) blocks = told_as (λ there. Deleted there) (deleted blocks key.now)
answer_of code decoded (Step at page) blocks = told_as (λ s. Shown s) (stepped blocks at (length page.items))
answer_of code decoded Flush blocks = Ok Done

-- the page buffer that a call came with is handed out, as the call left it
abbrev pub PageAfter : {K Kind : Type 0} → Call K Kind → Blocks → Result (Answer K) Fault → Option (Vec ℕ Global) → Type 0
PageAfter (Fetch key page) blocks r after = IsSomeAnd after (λ left. BufferHas r (home_bytes blocks key.now) page.items left.items)
PageAfter (Get key kind page) blocks r after = IsSomeAnd after (λ left. BufferHas r (home_bytes blocks key.now) page.items left.items)
PageAfter (Step at page) blocks r after = IsSomeAnd after (λ left. BufferHas r (step_page blocks at page.items) page.items left.items)
PageAfter c blocks r after = after ≡ None

-- the bytes in it; none where there is no buffer
abbrev pub bytes_in : Option (Vec ℕ Global) → List ℕ
bytes_in None = []
bytes_in (Some page) = page.items

-- a call was made of the database on state d of its device, which is in state e afterwards
abbrev pub Performed : {S K Kind : Type 0} → Account S → (S → Meaning) → (K → List ℕ) → (Kind → List ℕ → Option K) → Call K Kind → Outcome K → S → S → Type 0
Performed steps meaning code decoded c o d e =
    Made steps meaning d (calls_of code c) (answer_of code decoded c) o.answer e × PageAfter c (blocks_of (meaning d)) o.answer o.page

-- the calls were made one after another, with these outcomes
abbrev pub Ran : {S K Kind : Type 0} → Account S → (S → Meaning) → (K → List ℕ) → (Kind → List ℕ → Option K) → List (Call K Kind) → List (Outcome K) → S → S → Type 0
Ran steps meaning code decoded [] [] d e = e ≡ d
Ran steps meaning code decoded [] (o ∷ os) d e = ⊥
Ran steps meaning code decoded (c ∷ cs) [] d e = ⊥
Ran {S} steps meaning code decoded (c ∷ cs) (o ∷ os) d e =
    (m : S) × Performed steps meaning code decoded c o d m × Ran steps meaning code decoded cs os m e
