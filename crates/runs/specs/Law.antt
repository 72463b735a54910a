-- The law over whole runs: what holds at each point of a list of calls, with the pairs that the reference list has there.
use Rattle.std.specs.Prelude.{◌≡◌, ◌⊎◌, ℕ, List, [], ◌∷◌, ⊤, is_some, Some, None, Ok, Err, Option, Result}
use Rattle.calls.specs.declared.Stepped.TheVariants.{End, Pair as PairShown}
use Rattle.contents.specs.Blocks.{blocks_of, page_in}
use Rattle.contents.specs.Contents.{Position, contents_of}
use Rattle.contents.specs.Laws.{Differ, Exactly}
use Rattle.devices.specs.Meaning.{Meaning}
use Rattle.devices.specs.Trace.{Account}
use Rattle.faults.specs.Numbers.{refusal_number}
use Rattle.faults.specs.declared.Fault.{Fault}
use Rattle.pages.specs.Page.{Good, Pair, look}
use Rattle.pages.specs.Read.{bytes_at}
use Rattle.runs.specs.Performed.{Performed, answer_of, bytes_in, calls_of}
use Rattle.runs.specs.Reference.{fed}
use Rattle.runs.specs.declared.Answer.{Answer}
use Rattle.runs.specs.declared.Answer.TheVariants.{Deleted, Found, Got, Shown}
use Rattle.runs.specs.declared.Call.{Call}
use Rattle.runs.specs.declared.Call.TheVariants.{Delete, Fetch, Flush, Get, Put, Step, Store}
use Rattle.runs.specs.declared.Outcome.{Outcome}
use Rattle.std.specs.List.{Contains}
use Rattle.upkeep.specs.Holding.{backing_of}
use Rattle.upkeep.specs.Laws.{Never}
use Rattle.upkeep.specs.Refusals.{ByRule}

-- The database holds exactly these pairs, order aside, and no page is bad.
pub record Keeps (pairs : List Pair) (d : Meaning) : Type 0 where
  pub exactly : Exactly (contents_of (blocks_of d)) pairs
  pub good : (p : ℕ) → Good (page_in (blocks_of d) p)

-- An accepted fetch answers the place, in its page buffer, of the value that the list has for the key, or none exactly when it has
-- none; an accepted get answers that value decoded, or none likewise; an accepted delete answers whether the key was there.
abbrev pub ByList : {K Kind : Type 0} → (Kind → List ℕ → Option K) → List Pair → Call K Kind → Result (Answer K) Fault → List ℕ → Type 0
ByList decoded pairs (Fetch key page) (Ok (Found (Some place))) left = (spelled : List ℕ) × (look key.now pairs ≡ Some (spelled, bytes_at left place))
ByList decoded pairs (Fetch key page) (Ok (Found None)) left = look key.now pairs ≡ None
ByList decoded pairs (Get key kind page) (Ok (Got (Some x))) left =
    (spelled value : List ℕ) × (look key.now pairs ≡ Some (spelled, value)) × (decoded kind value ≡ Some x)
ByList decoded pairs (Get key kind page) (Ok (Got None)) left = look key.now pairs ≡ None
ByList decoded pairs (Delete key) (Ok (Deleted there)) left = there ≡ is_some (look key.now pairs)
ByList decoded pairs c r left = ⊤

-- the list's value for the key is the code of this record, of this kind
pub record HasRecord {K Kind : Type 0} (code : K → List ℕ) (own_kind : K → Kind) (fits : K → Type 0) (pairs : List Pair) (key : List ℕ) (kind : Kind) (x : K) : Type 0 where
  pub spelled : List ℕ
  pub there : look key pairs ≡ Some (spelled, code x)
  pub of_kind : own_kind x ≡ kind
  pub fields : fits x

-- the list's value for the key is no code of this kind
abbrev pub HasNoCode : {K Kind : Type 0} → (Kind → List ℕ → Option K) → List Pair → List ℕ → Kind → Type 0
HasNoCode decoded pairs key kind = (spelled value : List ℕ) × (look key pairs ≡ Some (spelled, value)) × (decoded kind value ≡ None)

-- A record that was put comes back: a get of its kind answers it, if it is accepted, and is never refused 13; 13 comes only where the
-- list's value is no code of the kind asked for.
abbrev pub ComesBack : {K Kind : Type 0} → (K → List ℕ) → (Kind → List ℕ → Option K) → (K → Kind) → (K → Type 0) → List Pair → Call K Kind → Result (Answer K) Fault → Type 0
ComesBack {K} code decoded own_kind fits pairs (Get key kind page) (Ok a) = (x : K) → HasRecord code own_kind fits pairs key.now kind x → a ≡ Got (Some x)
ComesBack {K} code decoded own_kind fits pairs (Get key kind page) (Err f) =
    refusal_number f.refusal ≡ 13 → HasNoCode decoded pairs key.now kind × ((x : K) → HasRecord code own_kind fits pairs key.now kind x → ⊥)
ComesBack code decoded own_kind fits pairs c r = ⊤

-- After an accepted flush the backing blocks alone hold exactly the pairs.
abbrev pub Backed : {K Kind : Type 0} → List Pair → Call K Kind → Result (Answer K) Fault → Meaning → Type 0
Backed pairs Flush (Ok _) e = Keeps pairs (backing_of e)
Backed pairs c r e = ⊤

-- A refusal is 12, by a device that is out of order afterwards, or the first that the rules of the device give for the calls that
-- are made below, or else the call's own; and it is never 6, 7 or 11.
pub record Ruled {K Kind : Type 0} (code : K → List ℕ) (decoded : Kind → List ℕ → Option K) (c : Call K Kind) (r : Result (Answer K) Fault) (d e : Meaning) : Type 0 where
  pub rule : ByRule d (calls_of code c (blocks_of d)) (answer_of code decoded c (blocks_of d)) r e
  pub never : Never r

-- A walk: steps from a position to the end, each from the position that the last accepted one answered, with no store, put or delete
-- in between; other calls may be. It shows these pairs.
-- what an accepted step shows, and what the rest of the walk shows from the next position on
abbrev pub StepShows : {K : Type 0} → (Position → List Pair → Type 0) → Result (Answer K) Fault → List ℕ → List Pair → Type 0
StepShows rest (Ok (Shown (PairShown s))) left (pair ∷ shown) = (pair ≡ (bytes_at left s.0, bytes_at left s.1)) × rest s.2 shown
StepShows rest (Ok (Shown End)) left [] = ⊤
StepShows rest r left shown = ⊥

abbrev pub Walked : {K Kind : Type 0} → List (Call K Kind) → List (Outcome K) → Position → List Pair → Type 0
Walked [] os at shown = ⊥
Walked (c ∷ cs) [] at shown = ⊥
Walked (Step p page ∷ cs) (o ∷ os) at shown = ((p ≡ at) × StepShows (λ next more. Walked cs os next more) o.answer (bytes_in o.page) shown) ⊎ Walked cs os at shown
Walked (Fetch key page ∷ cs) (o ∷ os) at shown = Walked cs os at shown
Walked (Get key kind page ∷ cs) (o ∷ os) at shown = Walked cs os at shown
Walked (Flush ∷ cs) (o ∷ os) at shown = Walked cs os at shown
Walked (Store key value mode ∷ cs) (o ∷ os) at shown = ⊥
Walked (Put key x ∷ cs) (o ∷ os) at shown = ⊥
Walked (Delete key ∷ cs) (o ∷ os) at shown = ⊥

-- the same pairs, each once, order aside
pub record SamePairs (shown pairs : List Pair) : Type 0 where
  pub once : Differ shown
  pub there : (pair : Pair) → Contains shown pair → Contains pairs pair
  pub all : (pair : Pair) → Contains pairs pair → Contains shown pair

-- At each point of the run the database keeps the pairs that the reference list has there; a walk that begins there shows exactly
-- these, each once; the next call is answered by the list and by the rules; and a record that was put comes back.
abbrev pub Along : {S K Kind : Type 0} → Account S → (S → Meaning) → (K → List ℕ) → (Kind → List ℕ → Option K) → (K → Kind) → (K → Type 0) → List Pair → List (Call K Kind) → List (Outcome K) → S → S → Type 0
Along steps meaning code decoded own_kind fits pairs [] [] d e = (e ≡ d) × Keeps pairs (meaning d)
Along steps meaning code decoded own_kind fits pairs [] (o ∷ os) d e = ⊥
Along steps meaning code decoded own_kind fits pairs (c ∷ cs) [] d e = ⊥
Along {S} steps meaning code decoded own_kind fits pairs (c ∷ cs) (o ∷ os) d e =
    (m : S)
    × Performed steps meaning code decoded c o d m
    × Keeps pairs (meaning d)
    × ((shown : List Pair) → Walked (c ∷ cs) (o ∷ os) (0, 0) shown → SamePairs shown pairs)
    × ByList decoded pairs c o.answer (bytes_in o.page)
    × ComesBack code decoded own_kind fits pairs c o.answer
    × Ruled code decoded c o.answer (meaning d) (meaning m)
    × Backed pairs c o.answer (meaning m)
    × Along steps meaning code decoded own_kind fits (fed code pairs c o.answer) cs os m e
