-- Which calls a fetch makes, and what it answers, where its input was accepted.
use Rattle.std.proofs.Common.{[], ◌<◌, Some, None, refl, subst, arith, ◌≤◌, ◌≡◌, ℕ, ◌+◌, cond, eqb, length, Bool, true, false, List, Option, Ok, Err, Result, sym, ap, ◌∙◌}
use Rattle.contents.proofs.Held.{contents_bits, contents_pages}
use Rattle.contents.proofs.Tests.{found_place, pairs_good, place_found, tests_good}
use Rattle.contents.specs.Contents.{contents_of, held, home, pairs_in}
use Rattle.std.specs.Option.{is_some}
use Rattle.std.proofs.lemmas.Bool.{eq-eqb, ne_eqb}
use Rattle.calls.specs.Shown.{HoldsValue, ShowsRecord, ShowsValue}
use Rattle.directory.specs.Tree.{page_of}
use Rattle.lookup.proofs.Reading.{answer_is}
use Rattle.pages.proofs.Pages.{offsets_within}
use Rattle.std.specs.Result.{is_ok}
use Rattle.contents.specs.Blocks.{Blocks, page_in}
use Rattle.contents.specs.Test.{is_good, place_of}
use Rattle.calls.specs.Fetch.{got, record_at, decoding, fetch_calls, found, home_bytes, home_page}
use Rattle.devices.specs.Step.{fault}
use Rattle.faults.specs.declared.Fault.{Fault}
use Rattle.faults.specs.declared.Layer.TheVariants.{Database}
use Rattle.faults.specs.declared.Refusal.TheVariants.{NoCode}
use Rattle.keys.specs.Hash.{hash}
use Rattle.lookup.specs.Pages.{bad_page}
use Rattle.lookup.specs.Reads.{home_calls}
use Rattle.pages.specs.Page.{Good, Pair, key_of, look, pairs, pairs_of}
use Rattle.pages.specs.Read.{Found, Place, bytes_at}

module _ (blocks : Blocks) (key : List ℕ) (size : ℕ) (long : eqb (length key) 0 ≡ false) (whole : eqb size 1024 ≡ true) where
  pub calls_asked : fetch_calls blocks key size ≡ home_calls blocks (hash key)
  calls_asked = rw (long, whole)

  abbrev good_answer : Option Place → Result (ℕ × Option Place) Fault
  good_answer place = Ok (4 + home_page blocks key, place)

  abbrev bad_answer : Result (ℕ × Option Place) Fault
  bad_answer = Err (bad_page (4 + home_page blocks key))

  pub answer_asked : found blocks key size ≡ cond (is_good (home_bytes blocks key)) (good_answer (place_of (home_bytes blocks key) key)) bad_answer
  answer_asked = rw (long, whole)

  pub answer_bad : is_good (home_bytes blocks key) ≡ false → found blocks key size ≡ Err (bad_page (4 + home_page blocks key))
  answer_bad bad = answer_asked ∙ rw bad

  pub answer_good : is_good (home_bytes blocks key) ≡ true → (place : Option Place) → Found (home_bytes blocks key) key place → found blocks key size ≡ Ok (4 + home_page blocks key, place)
  answer_good good place is =
      answer_asked
      ∙ ap (λ (b : Bool). cond b (good_answer (place_of (home_bytes blocks key) key)) bad_answer) good
      ∙ ap good_answer (sym (found_place (home_bytes blocks key) key ((tests_good (home_bytes blocks key)).0 good) place is))

no_ok : {A : Type 0} (x : A) (f : Fault) → ◌≡◌ {A = Result A Fault} (Ok x) (Err f) → ⊥
no_ok {A} x f e = let z : ◌≡◌ {A = Bool} true false = ap (λ (r : Result A Fault). is_ok r) e in cc

-- an answer that is no refusal passed each test
passed : {A : Type 0} (a b g : Bool) (x y : A) (f h k : Fault) → ◌≡◌ {A = Result A Fault} (Ok x) (cond a (Err f) (cond b (cond g (Ok y) (Err h)) (Err k))) → (g ≡ true) × (x ≡ y)
passed true b g x y f h k e = absurd (no_ok x f e)
passed false false g x y f h k e = absurd (no_ok x k e)
passed false true false x y f h k e = absurd (no_ok x h e)
passed false true true x y f h k e = (refl, answer_is e)

module _ (blocks : Blocks) (key : List ℕ) (size n : ℕ) (place : Option Place) (is : Ok (n, place) ≡ found blocks key size) where
  abbrev there : ℕ × Option Place
  there = (4 + home_page blocks key, place_of (home_bytes blocks key) key)

  abbrev given : ℕ × Option Place
  given = (n, place)

  all : (is_good (home_bytes blocks key) ≡ true) × (given ≡ there)
  all = passed (eqb (length key) 0) (eqb size 1024) (is_good (home_bytes blocks key)) _ _ _ _ _ is

  pub home_good : Good (home_bytes blocks key)
  home_good = (tests_good (home_bytes blocks key)).0 all.0

  pub place_there : Found (home_bytes blocks key) key place
  place_there = subst (Found (home_bytes blocks key) key) (sym (ap (λ p. p.1) all.1)) (place_found (home_bytes blocks key) key home_good)

  pub block_named : n ≡ 4 + home_page blocks key
  block_named = ap (λ p. p.0) all.1

-- what the database holds for a key is what its home page has
pub held_at_home : (blocks : Blocks) (key : List ℕ) → Good (home_bytes blocks key) → held (contents_of blocks) key ≡ look key (pairs_of (home_bytes blocks key))
held_at_home blocks key good =
    ap (look key) (contents_pages blocks (home (contents_of blocks) key) ∙ ap (λ (bits : ℕ → Bool). pairs_in (page_in blocks (page_of bits (hash key)))) (contents_bits blocks) ∙ pairs_good (home_bytes blocks key) good)

pub value_shown : (blocks : Blocks) (key : List ℕ) (place : Option Place) (page : List ℕ) → Good (home_bytes blocks key) → Found (home_bytes blocks key) key place → page ≡ home_bytes blocks key
    → ShowsValue (contents_of blocks) key (Ok place) page
value_shown blocks key None page good at is = held_at_home blocks key good ∙ at
value_shown blocks key (Some p) page good at is =
    (key_of (home_bytes blocks key) at.0, held_at_home blocks key good ∙ at.3 ∙ ap (λ (bytes : List ℕ). Some (key_of (home_bytes blocks key) at.0, bytes_at bytes p)) (sym is))

-- the place that a search finds lies inside the page
pub found_within : (page key : List ℕ) → Good page → (p : Place) → Found page key (Some p) → p.0 + p.1 ≤ 1024
found_within page key good p at = let w = offsets_within page (pairs page) good.laid at.0 at.1 in omega (arith, ap (λ (q : Place). q.0) at.2, ap (λ (q : Place). q.1) at.2)

-- a get of bytes that are read at a place
module _ {R : Type 0} (decoded : List ℕ → Option R) (blocks : Blocks) (key : List ℕ) where
  pub record_shown : (place : Place) (x : R) → Good (home_bytes blocks key) → Found (home_bytes blocks key) key (Some place) → decoded (bytes_at (home_bytes blocks key) place) ≡ Some x
      → ShowsRecord decoded (contents_of blocks) key (Ok (Some x))
  record_shown place x good at is =
      (bytes_at (home_bytes blocks key) place, (key_of (home_bytes blocks key) at.0, held_at_home blocks key good ∙ at.3), is)

  pub none_shown : Good (home_bytes blocks key) → Found (home_bytes blocks key) key None → ShowsRecord decoded (contents_of blocks) key (Ok None)
  none_shown good at = held_at_home blocks key good ∙ at

-- bytes that were decoded are the code of the record
pub record_decoded : {R : Type 0} (decoded : List ℕ → Option R) (page : List ℕ) (n : ℕ) (place : Place) (x : R) → Ok x ≡ record_at decoded page n place → decoded (bytes_at page place) ≡ Some x
record_decoded {R} decoded page n place x is = go (decoded (bytes_at page place)) is
  where
    go : (r : Option R) → Ok x ≡ elim r as (λ _. Result R Fault) [ Some y ↦ Ok y | None ↦ Err (fault NoCode Database n) ] → r ≡ Some x
    go (Some y) e = ap Some (sym (answer_is e))
    go None e = absurd (no_ok x (fault NoCode Database n) e)

-- what is decoded where a place was found
module _ {R : Type 0} (decoded : List ℕ → Option R) (page : List ℕ) (n : ℕ) (place : Option Place) (p : Place) (is : place ≡ Some p) where
  h : Result R Fault → Result (Option R) Fault
  h r = elim r [ Ok x ↦ Ok (Some x) | Err f ↦ Err f ]

  pub decoding_some : (x : R) → Ok x ≡ record_at decoded page n p → decoding decoded page (Ok (n, place)) ≡ Ok (Some x)
  unfolding h
  decoding_some x e = ap (λ (q : Option Place). decoding decoded page (Ok (n, q))) is ∙ ap h (sym e)

  pub decoding_refused : (f : Fault) → Err f ≡ record_at decoded page n p → decoding decoded page (Ok (n, place)) ≡ Err f
  unfolding h
  decoding_refused f e = ap (λ (q : Option Place). decoding decoded page (Ok (n, q))) is ∙ ap h (sym e)

some_none : {p : Pair} → Some p ≡ None → ⊥
some_none {p} e = let z : ◌≡◌ {A = Bool} true false = ap (λ (o : Option Pair). is_some o) e in cc

-- bytes that decode to a record are read as it
decoded_ok : {R : Type 0} (decoded : List ℕ → Option R) (page : List ℕ) (n : ℕ) (p : Place) (x : R) → decoded (bytes_at page p) ≡ Some x → Ok x ≡ record_at decoded page n p
decoded_ok {R} decoded page n p x e = sym (ap (λ (o : Option R). elim o as (λ _. Result R Fault) [ Some y ↦ Ok y | None ↦ Err (fault NoCode Database n) ]) e)

-- a value that is held stands on a good home page
held_good : (blocks : Blocks) (key value : List ℕ) → HoldsValue (contents_of blocks) key value → is_good (home_bytes blocks key) ≡ true
held_good blocks key value h = go (is_good (home_bytes blocks key)) refl
  where
    go : (b : Bool) → is_good (home_bytes blocks key) ≡ b → is_good (home_bytes blocks key) ≡ true
    go true e = e
    go false e =
        let bare : pairs_in (home_bytes blocks key) ≡ [] = rw e in
        let at : home_page blocks key ≡ home (contents_of blocks) key = ap (λ (bits : ℕ → Bool). page_of bits (hash key)) (sym (contents_bits blocks)) in
        let none : held (contents_of blocks) key ≡ None =
        ap (look key) (contents_pages blocks (home (contents_of blocks) key) ∙ ap (λ (p : ℕ). pairs_in (page_in blocks p)) (sym at) ∙ bare) in
        absurd (some_none (sym h.1 ∙ none))

-- and of a record's code the record comes back
module _ {R : Type 0} (decoded : List ℕ → Option R) (code : R → List ℕ) (x : R) (back : decoded (code x) ≡ Some x) (blocks : Blocks) (key : List ℕ) (h : HoldsValue (contents_of blocks) key (code x)) where
  abbrev page : List ℕ
  page = home_bytes blocks key

  here : Good page
  here = (tests_good page).0 (held_good blocks key (code x) h)

  at_place : (place : Option Place) → Found page key place → (n : ℕ) → decoding decoded page (Ok (n, place)) ≡ Ok (Some x)
  at_place None at n = absurd (some_none (sym h.1 ∙ held_at_home blocks key here ∙ at))
  at_place (Some p) at n =
      let same = sym (held_at_home blocks key here ∙ at.3) ∙ h.1 in
      let bytes : bytes_at page p ≡ code x = ap (λ (o : Option Pair). elim o [ Some q ↦ q.1 | None ↦ [] ]) same in
      let record_is : Ok x ≡ record_at decoded page n p = decoded_ok decoded page n p x (ap decoded bytes ∙ back) in
      decoding_some decoded page n (Some p) p refl x record_is

  pub comes_back : 0 < length key → (size : ℕ) → size ≡ 1024 → got decoded blocks key size ≡ Ok (Some x)
  comes_back long size whole =
      let place = place_of page key in
      let at = place_found page key here in
      ap (decoding decoded page) (answer_good blocks key size (ne_eqb (length key) 0 (λ z. absurd (omega arith))) (eq-eqb size 1024 whole) (held_good blocks key (code x) h) place at)
      ∙ at_place place at (4 + home_page blocks key)
