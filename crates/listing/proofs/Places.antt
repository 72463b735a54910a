-- The places that a fetch and a step answer lie inside the page, so that no view of them is refused; and what is shown of a fetch or
-- of a step stands on the calls that it made, and is refused as it is.
use Rattle.std.proofs.Common.{◌≡◌, ℕ, zero, suc, ◌+◌, ◌-◌, ◌≤◌, ◌==◌, Bool, cond, List, length, Option, Some, None, option_map, find, Ok, Err, Result, refl, sym, ap, ◌∙◌, subst, arith}
use Rattle.calls.specs.Fetch.{fetch_calls, fetched, found, home_bytes, home_page, place_alone}
use Rattle.calls.specs.Step.{Shows, first_home, onward, pair_shown, reachable, step_calls, step_from, stepped, visited}
use Rattle.calls.specs.declared.Stepped.{Stepped}
use Rattle.calls.specs.declared.Stepped.TheVariants.{End, Pair}
use Rattle.contents.proofs.Tests.{tests_good}
use Rattle.contents.specs.Blocks.{Blocks, blocks_of, page_in}
use Rattle.contents.specs.Contents.{Position}
use Rattle.contents.specs.Test.{is_good}
use Rattle.database.proofs.Fetches.{found_within, home_good, place_there}
use Rattle.database.proofs.Finds.{First, find_first}
use Rattle.devices.specs.Meaning.{Meaning}
use Rattle.devices.specs.Step.{fault}
use Rattle.devices.specs.Trace.{Account, Did}
use Rattle.faults.specs.Numbers.{numbers}
use Rattle.faults.specs.declared.Fault.{Fault}
use Rattle.faults.specs.declared.Layer.TheVariants.{Database}
use Rattle.faults.specs.declared.Refusal.TheVariants.{NotABlock}
use Rattle.listing.specs.Shown.{accepted, after_step}
use Rattle.lookup.proofs.Reading.{answer_is, mapped, own_answer}
use Rattle.lookup.specs.Made.{Made}
use Rattle.lookup.specs.Pages.{bad_page}
use Rattle.pages.proofs.Pages.{offsets_within}
use Rattle.pages.specs.Page.{Good, key_of, pairs}
use Rattle.pages.specs.Read.{Place, bytes_at, viewed}
use Rattle.std.proofs.lemmas.Bool.{both_ways, cond-true, cond_both, eq-eqb, le-leb}
use Rattle.std.specs.Bool.{⊤}
use Rattle.std.specs.List.{range_with_len}
use Rattle.std.specs.Result.{is_ok}

abbrev pub Inside : Place → Type 0
Inside place = place.0 + place.1 ≤ 1024

-- a view of a place inside a page is not refused
pub view_accepted : (page : List ℕ) (place : Place) (f : Fault) → length page ≡ 1024 → Inside place → ◌≡◌ {A = Result (List ℕ) (ℕ × ℕ × ℕ)} (Err (numbers f)) (viewed page place) → ⊥
view_accepted page place f whole inside e =
    let is : viewed page place ≡ Ok (bytes_at page place) =
    cond-true (length page == 1024) _ _ (eq-eqb (length page) 1024 whole) ∙ cond-true _ _ _ (le-leb (place.0 + place.1) 1024 inside) in
    both_ways (is_ok (viewed page place)) (ap (λ (r : Result (List ℕ) (ℕ × ℕ × ℕ)). is_ok r) (sym e)) (ap (λ (r : Result (List ℕ) (ℕ × ℕ × ℕ)). is_ok r) is)

-- what a visit and a step show
abbrev VisitInside : Result (Option Shows) Fault → Type 0
VisitInside (Ok (Some s)) = Inside s.0 × Inside s.1
VisitInside (Ok None) = ⊤
VisitInside (Err f) = ⊤

abbrev StepInside : Result Stepped Fault → Type 0
StepInside (Ok (Pair s)) = Inside s.0 × Inside s.1
StepInside (Ok End) = ⊤
StepInside (Err f) = ⊤

first_inside : (page : List ℕ) (p n : ℕ) (test : ℕ → Bool) (o : Option ℕ) → Good page → First test n (pairs page) o → VisitInside (Ok (option_map (pair_shown page p) o))
first_inside page p n test None good first = tt
first_inside page p n test (Some i) good first =
    let w = offsets_within page (pairs page) good.laid i first.1 in
    (omega (arith, w), omega (arith, w))

visit_inside : (blocks : Blocks) (p n : ℕ) → VisitInside (visited blocks p n)
unfolding visited
visit_inside blocks p n =
    let page = page_in blocks p in
    let at_home : ℕ → Bool = λ i. home_page blocks (key_of page i) == p in
    let shown : Result (Option Shows) Fault = Ok (first_home (λ key. home_page blocks key == p) page p n) in
    let read : Result (Option Shows) Fault = cond (is_good page) shown (Err (bad_page (4 + p))) in
    cond_both (reachable blocks p) read (Ok None) VisitInside
    (λ here.
    cond_both (is_good page) shown (Err (bad_page (4 + p))) VisitInside
    (λ good. first_inside page p n at_home (find at_home (range_with_len n (pairs page - n))) ((tests_good page).0 good) (find_first at_home n (pairs page)))
    (λ bad. tt))
    (λ past. tt)

onward_inside : (v : Result (Option Shows) Fault) (rest : Result Stepped Fault) → VisitInside v → StepInside rest → StepInside (onward v (λ s. Ok (Pair s)) (λ f. Err f) rest)
onward_inside (Ok (Some s)) rest here later = here
onward_inside (Ok None) rest here later = later
onward_inside (Err f) rest here later = tt

visits_inside : (blocks : Blocks) (k p n : ℕ) → StepInside (step_from blocks k p n)
visits_inside blocks zero p n = tt
visits_inside blocks (suc k) p n = onward_inside (visited blocks p n) (step_from blocks k (suc p) 0) (visit_inside blocks p n) (visits_inside blocks k (suc p) 0)

stepped_inside : (blocks : Blocks) (at : Position) (size : ℕ) → StepInside (stepped blocks at size)
unfolding stepped
stepped_inside blocks at size =
    cond_both (size == 1024) (step_from blocks (32768 - at.0) at.0 at.1) (Err (fault NotABlock Database 0)) StepInside (λ whole. visits_inside blocks (32768 - at.0) at.0 at.1) (λ other. tt)

module _ {S : Type 0} (steps : Account S) (M : S → Meaning) (d e : S) where
  abbrev blocks : Blocks
  blocks = blocks_of (M d)

  -- a step into a page
  module _ (at : Position) where
    abbrev Answered : Result Stepped Fault → Type 0
    Answered r = Made steps M d (λ b. step_calls b at 1024) (λ b. stepped b at 1024) r e

    pub step_told : (r t : Result Stepped Fault) → r ≡ t → Answered r → Made steps M d (λ b. step_calls b at 1024) (λ b. after_step (stepped b at 1024)) (after_step t) e
    step_told r t is made =
        mapped (Did steps M) after_step (λ f. refl) (step_calls blocks at 1024) d e (stepped blocks at 1024) t (subst Answered is made)

    -- the places that it shows
    pub step_inside : (r : Result Stepped Fault) (s : Shows) → r ≡ Ok (Pair s) → Answered r → Inside s.0 × Inside s.1
    step_inside r s is made =
        let own = own_answer (Did steps M) (step_calls blocks at 1024) d e (Pair s) (stepped blocks at 1024) (subst Answered is made) in
        subst StepInside (sym own) (stepped_inside blocks at 1024)

  -- a fetch into a page
  module _ (name : List ℕ) (size : ℕ) (whole : size ≡ 1024) where
    abbrev Fetched : Result (Option Place) Fault → Type 0
    Fetched r = Made steps M d (λ b. fetch_calls b name size) (λ b. fetched b name size) r e

    pub fetch_told : (r t : Result (Option Place) Fault) → r ≡ t → Fetched r → Made steps M d (λ b. fetch_calls b name 1024) (λ b. accepted (fetched b name 1024)) (accepted t) e
    fetch_told r t is made =
        subst (λ (n : ℕ). Made steps M d (λ b. fetch_calls b name n) (λ b. accepted (fetched b name n)) (accepted t) e) whole
        (mapped (Did steps M) (λ (r : Result (Option Place) Fault). accepted r) (λ f. refl) (fetch_calls blocks name size) d e (fetched blocks name size) t (subst Fetched is made))

    -- the place that it answers lies inside the home page
    module _ (r : Result (Option Place) Fault) (place : Place) (is : r ≡ Ok (Some place)) (made : Fetched r) where
      with_block : (home : Result (ℕ × Option Place) Fault) → Ok (Some place) ≡ place_alone home → (n : ℕ) × (Ok (n, Some place) ≡ home)
      with_block (Ok home) e = (home.0, ap (λ (q : Option Place). Ok (home.0, q)) (answer_is e))
      with_block (Err f) e =
          let refused : Result (Option Place) Fault = Err f in
          absurd (both_ways (is_ok refused) refl (ap (λ (r : Result (Option Place) Fault). is_ok r) (sym e)))

      own : (n : ℕ) × (Ok (n, Some place) ≡ found blocks name size)
      own =
          with_block (found blocks name size)
          (own_answer (Did steps M) (fetch_calls blocks name size) d e (Some place) (fetched blocks name size) (subst Fetched is made))

      good : Good (home_bytes blocks name)
      good = home_good blocks name size own.0 (Some place) own.1

      pub home_whole : (page : List ℕ) → page ≡ home_bytes blocks name → length page ≡ 1024
      home_whole page filled = ap length filled ∙ good.whole

      pub fetch_inside : Inside place
      fetch_inside = found_within (home_bytes blocks name) name good place (place_there blocks name size own.0 (Some place) own.1)
