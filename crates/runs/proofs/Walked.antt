-- A walk in a run shows the pairs that the database holds.
use Rattle.std.proofs.Common.{◌≡◌, ℕ, List, [], ◌∷◌, length, ◌-◌, ◌==◌, Option, Ok, Err, Result, refl, sym, ap, ◌∙◌, subst, ⊎_elim}
use Rattle.calls.specs.Fetch.{BufferHas}
use Rattle.calls.specs.Shown.{ShowsNext}
use Rattle.calls.specs.Step.{page_from, step_calls, step_from, step_page, stepped}
use Rattle.calls.specs.declared.Stepped.{Stepped}
use Rattle.calls.specs.declared.Stepped.TheVariants.{End, Pair as PairShown}
use Rattle.contents.proofs.Held.{pages_tidy}
use Rattle.contents.proofs.Walks.{walk_shows}
use Rattle.contents.specs.Blocks.{Blocks, blocks_of}
use Rattle.contents.specs.Contents.{Contents, Position, contents_of, remaining}
use Rattle.contents.specs.Laws.{Walk}
use Rattle.database.proofs.Walks.{step_shows}
use Rattle.devices.proofs.Traces.{trace_meaning}
use Rattle.devices.specs.Meaning.{Meaning}
use Rattle.devices.specs.Step.{fault}
use Rattle.devices.specs.Trace.{Account, Did, Trace}
use Rattle.faults.specs.declared.Fault.{Fault}
use Rattle.faults.specs.declared.Layer.TheVariants.{Database}
use Rattle.faults.specs.declared.Refusal.TheVariants.{NotABlock}
use Rattle.lookup.proofs.Reading.{own_answer}
use Rattle.pages.specs.Page.{Pair}
use Rattle.runs.proofs.Made.{bytes_left}
use Rattle.runs.proofs.Quieted.{fetch_quiet, step_quiet}
use Rattle.runs.specs.Law.{SamePairs, StepShows, Walked}
use Rattle.runs.specs.Performed.{Performed, Ran, answer_of, bytes_in, calls_of, told_as}
use Rattle.runs.specs.declared.Answer.{Answer}
use Rattle.runs.specs.declared.Answer.TheVariants.{Shown}
use Rattle.runs.specs.declared.Call.{Call}
use Rattle.runs.specs.declared.Call.TheVariants.{Delete, Fetch, Flush, Get, Put, Step, Store}
use Rattle.runs.specs.declared.Outcome.{Outcome}
use Rattle.std.proofs.lemmas.Bool.{cond_both}
use Rattle.std.specs.Bool.{⊤}
use Rattle.upkeep.proofs.Holds.{holds_exactly}
use Rattle.upkeep.proofs.Quiet.{AllQuiet, quiet_trace}
use Rattle.upkeep.specs.Holding.{Holding}

-- what an accepted step shows, as an answer of a run
abbrev AnswerShows : {K : Type 0} → Contents → Position → Result (Answer K) Fault → List ℕ → Type 0
AnswerShows c at (Ok (Shown s)) page = ShowsNext c at (Ok s) page
AnswerShows c at r page = ⊤

told_shows : (K : Type 0) (c : Contents) (at : Position) (v : Result Stepped Fault) (page : List ℕ) → ShowsNext c at v page → AnswerShows {K = K} c at (told_as (λ s. Shown s) v) page
told_shows K c at (Ok s) page shows = shows
told_shows K c at (Err f) page shows = tt

-- a step of the walk, and the rest of it
walk_on : {K : Type 0} (c : Contents) (at : Position) (rest : Position → List Pair → Type 0) (r : Result (Answer K) Fault) (page : List ℕ) (shown : List Pair)
    → AnswerShows c at r page → ((next : Position) (more : List Pair) → rest next more → Walk c next more) → StepShows rest r page shown → Walk c at shown
walk_on c at rest (Ok (Shown (PairShown s))) page (pair ∷ shown) first later w =
    (s.2, first ∙ ap (λ (x : Pair). x ∷ remaining c s.2) (sym w.0), later s.2 shown w.1)
walk_on c at rest (Ok (Shown End)) page [] first later w = first
walk_on c at rest r page shown first later w = absurd w

stepped_shows : (blocks : Blocks) (at : Position) (size : ℕ) (old : List ℕ) → ShowsNext (contents_of blocks) at (stepped blocks at size) (step_page blocks at old)
unfolding stepped step_page
stepped_shows blocks at size old =
    cond_both (size == 1024) (step_from blocks (32768 - at.0) at.0 at.1) (Err (fault NotABlock Database 0))
    (λ (r : Result Stepped Fault). ShowsNext (contents_of blocks) at r (page_from blocks (32768 - at.0) at.0 at.1 old))
    (λ _. step_shows blocks (32768 - at.0) at.0 at.1 old refl)
    (λ _. tt)

module _ {S K Kind : Type 0} (steps : Account S) (M : S → Meaning) (code : K → List ℕ) (decoded : Kind → List ℕ → Option K) where
  abbrev blocks_at : S → Blocks
  blocks_at d = blocks_of (M d)

  -- what is asked for writes nothing, and the blocks stay
  stays : (c : Call K Kind) (o : Outcome K) (d m : S) → AllQuiet (calls_of code c (blocks_at d)) → Performed steps M code decoded c o d m → blocks_at m ≡ blocks_at d
  stays c o d m quiet p =
      let calls = calls_of code c (blocks_at d) in
      let own = answer_of code decoded c (blocks_at d) in
      (quiet_trace calls (M d) (M m) own o.answer quiet (trace_meaning steps M calls d m own o.answer p.0)).blocks

  step_answers : (blocks : Blocks) (at : Position) (size : ℕ) (old : List ℕ) (r : Result (Answer K) Fault) (page : List ℕ) (d m : S)
      → Trace (Did steps M) d (step_calls blocks at size) (told_as (λ s. Shown s) (stepped blocks at size)) r m
      → BufferHas r (step_page blocks at old) old page
      → AnswerShows (contents_of blocks) at r page
  step_answers blocks at size old (Ok x) page d m made has =
      let c = contents_of blocks in
      let own : Result (Answer K) Fault = told_as (λ s. Shown s) (stepped blocks at size) in
      let is = own_answer (Did steps M) (step_calls blocks at size) d m x own made in
      subst (AnswerShows c at (Ok x)) (sym has)
      (subst (λ (r : Result (Answer K) Fault). AnswerShows c at r (step_page blocks at old)) (sym is)
      (told_shows K c at (stepped blocks at size) (step_page blocks at old) (stepped_shows blocks at size old)))
  step_answers blocks at size old (Err f) page d m made has = tt

  -- what a run shows of a walk is a walk of the contents
  walks : (cs : List (Call K Kind)) (os : List (Outcome K)) (d e : S) (at : Position) (shown : List Pair)
      → Ran steps M code decoded cs os d e → Walked cs os at shown → Walk (contents_of (blocks_at d)) at shown
  walks [] os d e at shown ran w = absurd w
  walks (c ∷ cs) [] d e at shown ran w = absurd w
  walks (Step p page ∷ cs) (o ∷ os) d e at shown ran w =
      let blocks = blocks_at d in
      let c = contents_of blocks in
      let same = stays (Step p page) o d ran.0 (step_quiet blocks p (length page.items)) ran.1 in
      let later : (next : Position) (more : List Pair) → Walked cs os next more → Walk c next more
      = λ next more v. subst (λ (b : Blocks). Walk (contents_of b) next more) same (walks cs os ran.0 e next more ran.2 v) in
      ⊎_elim
      (λ (here : (p ≡ at) × StepShows (λ next more. Walked cs os next more) o.answer (bytes_in o.page) shown).
      subst (λ (q : Position). Walk c q shown) here.0
      (walk_on c p (λ next more. Walked cs os next more) o.answer (bytes_in o.page) shown
      (step_answers blocks p (length page.items) page.items o.answer (bytes_in o.page) d ran.0 ran.1.0 (bytes_left o.page (BufferHas o.answer (step_page blocks p page.items) page.items) ran.1.1)) later here.1))
      (λ past. later at shown past)
      w
  walks (Fetch key page ∷ cs) (o ∷ os) d e at shown ran w =
      subst (λ (b : Blocks). Walk (contents_of b) at shown) (stays (Fetch key page) o d ran.0 (fetch_quiet (blocks_at d) key.now (length page.items)) ran.1)
      (walks cs os ran.0 e at shown ran.2 w)
  walks (Get key kind page ∷ cs) (o ∷ os) d e at shown ran w =
      subst (λ (b : Blocks). Walk (contents_of b) at shown) (stays (Get key kind page) o d ran.0 (fetch_quiet (blocks_at d) key.now (length page.items)) ran.1)
      (walks cs os ran.0 e at shown ran.2 w)
  walks (Flush ∷ cs) (o ∷ os) d e at shown ran w =
      subst (λ (b : Blocks). Walk (contents_of b) at shown) (stays Flush o d ran.0 (tt, tt) ran.1) (walks cs os ran.0 e at shown ran.2 w)
  walks (Store key value mode ∷ cs) (o ∷ os) d e at shown ran w = absurd w
  walks (Put key x ∷ cs) (o ∷ os) d e at shown ran w = absurd w
  walks (Delete key ∷ cs) (o ∷ os) d e at shown ran w = absurd w

  pub walks_show : (pairs : List Pair) (cs : List (Call K Kind)) (os : List (Outcome K)) (d e : S)
      → Holding pairs (M d) → Ran steps M code decoded cs os d e → (shown : List Pair) → Walked cs os (0, 0) shown → SamePairs shown pairs
  walks_show pairs cs os d e holding ran shown w =
      let c = contents_of (blocks_at d) in
      let walked = walk_shows c (pages_tidy (blocks_at d)) shown (walks cs os d e (0, 0) shown ran w) in
      let listed = holds_exactly pairs (M d) holding in
      record {
        once = walked.differ;
        there = λ pair in_shown. listed.all pair (walked.held pair in_shown);
        all = λ pair in_list. walked.all pair (listed.held pair in_list);
      }
