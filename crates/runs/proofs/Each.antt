-- What each call of a run leaves, where the database holds the pairs of the reference list.
use Rattle.std.proofs.Common.{zero, suc, ◌-◌, Bor, ◌≡◌, ℕ, ◌==◌, Bool, true, false, cond, eqb, List, [], ◌∷◌, length, is_some, Option, Some, None, Ok, Err, Result, inl, inr, refl, sym, ap, subst, ◌∙◌, ⊎_elim, arith}
use Rattle.calls.specs.Delete.{delete_calls, deleted, has_key}
use Rattle.calls.specs.Fetch.{BufferHas, decoding, fetched, found, got, home_bytes, home_page, place_alone}
use Rattle.calls.specs.Shown.{ShowsValue}
use Rattle.calls.specs.Step.{Shows, onward, reachable, step_from, stepped, visited}
use Rattle.calls.specs.Store.{store_calls, stored}
use Rattle.calls.specs.declared.Stepped.{Stepped}
use Rattle.calls.specs.declared.Stepped.TheVariants.{Pair as ShownPair}
use Rattle.contents.specs.Contents.{Position}
use Rattle.pages.specs.Page.{Good}
use Rattle.calls.specs.declared.Mode.{Mode}
use Rattle.contents.proofs.Tests.{good_yes}
use Rattle.database.proofs.Fetches.{home_good, place_there, value_shown}
use Rattle.faults.specs.declared.Layer.TheVariants.{Database}
use Rattle.faults.specs.declared.Refusal.TheVariants.{EmptyKey, NoCode, NotABlock}
use Rattle.pages.specs.Read.{Place, bytes_at}
use Rattle.upkeep.proofs.Quiet.{AllQuiet, quiet_never, quiet_trace, failed_spared, spared}
use Rattle.contents.specs.Blocks.{Blocks, blocks_of, page_in}
use Rattle.contents.specs.Contents.{contents_of}
use Rattle.contents.specs.Test.{is_good}
use Rattle.devices.specs.Meaning.{Meaning}
use Rattle.devices.specs.Step.{Call as Asked, Step as StepLaw, fault, flush}
use Rattle.devices.specs.Trace.{Trace}
use Rattle.faults.specs.declared.Fault.{Fault}
use Rattle.lookup.proofs.Reading.{answer_is, own_answer}
use Rattle.pages.specs.Page.{Pair, look}
use Rattle.runs.proofs.Back.{comes_back, has_code, no_code}
use Rattle.runs.proofs.Made.{bytes_left, no_ok, told}
use Rattle.runs.specs.Law.{Backed, ByList, ComesBack, Keeps, Ruled}
use Rattle.calls.specs.declared.Mode.TheVariants.{Replace}
use Rattle.runs.proofs.Quieted.{fetch_quiet, step_quiet}
use Rattle.runs.specs.Performed.{PageAfter, answer_of, bytes_in, calls_of, told_as}
use Rattle.runs.specs.Reference.{fed}
use Rattle.runs.specs.declared.Answer.{Answer}
use Rattle.runs.specs.declared.Answer.TheVariants.{Deleted, Done, Found as FoundAt, Got, Shown}
use Rattle.runs.specs.declared.Call.{Call}
use Rattle.runs.specs.declared.Call.TheVariants.{Delete, Fetch, Flush, Get, Put, Step, Store}
use Rattle.std.proofs.lemmas.Bool.{cond_both}
use Rattle.std.specs.Prelude.{Vec}
use Rattle.std.specs.declared.alloc.Global.{Global}
use Rattle.upkeep.proofs.Deletes.{delete_keeps, delete_never}
use Rattle.upkeep.proofs.Homes.{key_there}
use Rattle.upkeep.proofs.Holds.{flush_keeps, holding_quiet, holds_exactly}
use Rattle.upkeep.proofs.Rules.{by_rule}
use Rattle.upkeep.proofs.Stores.{store_keeps, store_never}
use Rattle.upkeep.specs.Holding.{Holding, backing_of}
use Rattle.upkeep.specs.Laws.{Never, deleted_pairs, stored_pairs}

-- an answer seen in another way, and back
there_and_back : {X A : Type 0} (h : X → A) (g : A → X) → ((x : X) → g (h x) ≡ x) → (r : Result X Fault) → told_as g (told_as h r) ≡ r
there_and_back h g back (Ok x) = ap Ok (back x)
there_and_back h g back (Err f) = refl

never_told : {X A : Type 0} (h : X → A) (r : Result X Fault) → Never r → Never (told_as h r)
never_told h (Ok x) n = tt
never_told h (Err f) n = n

never_back : {X A : Type 0} (h : X → A) (r : Result X Fault) → Never (told_as h r) → Never r
never_back h (Ok x) n = tt
never_back h (Err f) n = n

pub keeps : (pairs : List Pair) (d : Meaning) → Holding pairs d → Keeps pairs d
keeps pairs d h = record { exactly = holds_exactly pairs d h; good = h.good }

-- a store or a put: its own answer says only whether it was accepted
module _ {A : Type 0} (pairs : List Pair) (d e : Meaning) (key value : List ℕ) (mode : Mode) (done : A) (r : Result A Fault) (h : Holding pairs d)
    (t : Trace {X = A} StepLaw d (store_calls (blocks_of d) key value mode) (told_as (λ _. done) (stored (blocks_of d) key value mode)) r e) where
  abbrev plain : A → Unit {0}
  plain _ = tt

  plainly : Trace StepLaw d (store_calls (blocks_of d) key value mode) (stored (blocks_of d) key value mode) (told_as plain r) e
  plainly =
      subst (λ (own : Result Unit Fault). Trace StepLaw d (store_calls (blocks_of d) key value mode) own (told_as plain r) e)
      (there_and_back (λ _. done) plain (λ x. refl) (stored (blocks_of d) key value mode))
      (told StepLaw plain (store_calls (blocks_of d) key value mode) d e _ r t)

  pub store_holds : Holding (stored_pairs pairs key value (told_as plain r)) e
  store_holds = store_keeps pairs d e key value mode (told_as plain r) h plainly

  pub store_is_never : Never r
  store_is_never = never_back plain r (store_never pairs d e key value mode (told_as plain r) h plainly)

-- a delete
module _ {A : Type 0} (pairs : List Pair) (d e : Meaning) (key : List ℕ) (into : Bool → A) (back : A → Bool) (same : (b : Bool) → back (into b) ≡ b) (r : Result A Fault) (h : Holding pairs d)
    (t : Trace {X = A} StepLaw d (delete_calls (blocks_of d) key) (told_as into (deleted (blocks_of d) key)) r e) where
  removed : Trace StepLaw d (delete_calls (blocks_of d) key) (deleted (blocks_of d) key) (told_as back r) e
  removed =
      subst (λ (own : Result Bool Fault). Trace StepLaw d (delete_calls (blocks_of d) key) own (told_as back r) e)
      (there_and_back into back same (deleted (blocks_of d) key))
      (told StepLaw back (delete_calls (blocks_of d) key) d e _ r t)

  pub delete_holds : Holding (deleted_pairs pairs key (told_as back r)) e
  delete_holds = delete_keeps pairs d e key (told_as back r) h removed

  pub delete_is_never : Never r
  delete_is_never = never_back back r (delete_never pairs d e key (told_as back r) h removed)

-- whether a key is there, by the reference list
pub there_is : (pairs : List Pair) (d : Meaning) (key : List ℕ) → Holding pairs d → has_key (blocks_of d) key ≡ is_some (look key pairs)
there_is pairs d key h = key_there (blocks_of d) key (h.good (home_page (blocks_of d) key)) ∙ ap is_some (h.held key)

-- the own answer of a fetch, where the home page is good
module _ (pairs : List Pair) (d : Meaning) (key : List ℕ) (size : ℕ) (h : Holding pairs d) where
  abbrev blocks : Blocks
  blocks = blocks_of d

  home_is_good : is_good (home_bytes blocks key) ≡ true
  home_is_good = good_yes (home_bytes blocks key) (h.good (home_page blocks key))

  found_never : Never (found blocks key size)
  found_never = go (eqb (length key) 0) (eqb size 1024) (is_good (home_bytes blocks key)) home_is_good _ _
    where
      go : {X : Type 0} (a b g : Bool) → g ≡ true → (x : X) (bad : Fault) → Never (cond a (Err (fault EmptyKey Database 0)) (cond b (cond g (Ok x) (Err bad)) (Err (fault NotABlock Database 0))))
      go true b g is x bad = spared EmptyKey (inl (omega arith))
      go false true g is x bad = subst (λ b. Never (cond b (Ok x) (Err bad))) (sym is) tt
      go false false g is x bad = spared NotABlock (inl (omega arith))

  alone_never : (r : Result (ℕ × Option Place) Fault) → Never r → Never (place_alone r)
  alone_never (Ok x) n = tt
  alone_never (Err f) n = n

  pub fetched_never : Never (fetched blocks key size)
  fetched_never = alone_never (found blocks key size) found_never

  pub got_never : {R : Type 0} (decoded : List ℕ → Option R) → Never (got decoded blocks key size)
  got_never {R} decoded = go (found blocks key size) found_never
    where
      code : (o : Option R) (n : ℕ) → Never (elim (elim o as (λ _. Result R Fault) [ Some x ↦ Ok x | None ↦ Err (fault NoCode Database n) ]) as (λ _. Result (Option R) Fault) [ Ok x ↦ Ok (Some x) | Err f ↦ Err f ])
      code (Some x) n = tt
      code None n = spared NoCode (inr (omega arith, λ z. absurd (omega arith)))

      go : (r : Result (ℕ × Option Place) Fault) → Never r → Never (decoding decoded (home_bytes blocks key) r)
      go (Ok (n, Some p)) m = code (decoded (bytes_at (home_bytes blocks key) p)) n
      go (Ok (n, None)) m = tt
      go (Err f) m = m

  -- and what an accepted one answers, by the reference list
  module _ {K Kind : Type 0} (decoded : Kind → List ℕ → Option K) (page : Vec ℕ Global) (left : List ℕ) where
    abbrev fetching : Bor (List ℕ) → Call K Kind
    fetching k = Fetch k page

    pub fetch_answers : (k : Bor (List ℕ)) → k.now ≡ key → (a : Answer K) → Ok a ≡ told_as FoundAt (fetched blocks key size) → left ≡ home_bytes blocks key
        → ByList decoded pairs (fetching k) (Ok a) left
    fetch_answers k same a e is = go (found blocks key size) refl a e
      where
        shows : (place : Option Place) → ShowsValue (contents_of blocks) key (Ok place) left → ByList decoded pairs (fetching k) (Ok (FoundAt place)) left
        shows None v = subst (λ (q : List ℕ). look q pairs ≡ None) (sym same) (sym (h.held key) ∙ v)
        shows (Some p) v = (v.0, subst (λ (q : List ℕ). look q pairs ≡ Some (v.0, bytes_at left p)) (sym same) (sym (h.held key) ∙ v.1))

        go : (x : Result (ℕ × Option Place) Fault) → x ≡ found blocks key size → (a : Answer K) → Ok a ≡ told_as FoundAt (place_alone x) → ByList decoded pairs (fetching k) (Ok a) left
        go (Err f) q a e = absurd (no_ok e)
        go (Ok (n, place)) q a e =
            subst (λ (b : Answer K). ByList decoded pairs (fetching k) (Ok b) left) (sym (answer_is e))
            (shows place (value_shown blocks key place left (home_good blocks key size n place q) (place_there blocks key size n place q) is))

    pub get_answers : (k : Bor (List ℕ)) (kind : Kind) → k.now ≡ key → (a : Answer K) → Ok a ≡ told_as Got (got (decoded kind) blocks key size) → ByList decoded pairs (Get k kind page) (Ok a) left
    get_answers k kind same a e = go (found blocks key size) refl a e
      where
        value : (n : ℕ) (p : Place) → Ok (n, Some p) ≡ found blocks key size → (o : Option K) → decoded kind (bytes_at (home_bytes blocks key) p) ≡ o → (a : Answer K)
            → Ok a ≡ told_as Got (elim (elim o as (λ _. Result K Fault) [ Some x ↦ Ok x | None ↦ Err (fault NoCode Database n) ]) as (λ _. Result (Option K) Fault) [ Ok x ↦ Ok (Some x) | Err f ↦ Err f ])
            → ByList decoded pairs (Get k kind page) (Ok a) left
        value n p q None d a e = absurd (no_ok e)
        value n p q (Some x) d a e =
            let v = value_shown blocks key (Some p) (home_bytes blocks key) (home_good blocks key size n (Some p) q) (place_there blocks key size n (Some p) q) refl in
            subst (λ (b : Answer K). ByList decoded pairs (Get k kind page) (Ok b) left) (sym (answer_is e))
            (v.0, bytes_at (home_bytes blocks key) p, subst (λ (w : List ℕ). look w pairs ≡ Some (v.0, bytes_at (home_bytes blocks key) p)) (sym same) (sym (h.held key) ∙ v.1), d)

        go : (x : Result (ℕ × Option Place) Fault) → x ≡ found blocks key size → (a : Answer K) → Ok a ≡ told_as Got (decoding (decoded kind) (home_bytes blocks key) x) → ByList decoded pairs (Get k kind page) (Ok a) left
        go (Err f) q a e = absurd (no_ok e)
        go (Ok (n, None)) q a e =
            subst (λ (b : Answer K). ByList decoded pairs (Get k kind page) (Ok b) left) (sym (answer_is e))
            (subst (λ (w : List ℕ). look w pairs ≡ None) (sym same)
            (sym (h.held key) ∙ value_shown blocks key None (home_bytes blocks key) (home_good blocks key size n None q) (place_there blocks key size n None q) refl))
        go (Ok (n, Some p)) q a e = value n p q (decoded kind (bytes_at (home_bytes blocks key) p)) refl a e

-- whether a delete found its key
abbrev was_there : {K : Type 0} → Answer K → Bool
was_there (Deleted b) = b
was_there a = false

module _ (pairs : List Pair) (d : Meaning) (key : List ℕ) (h : Holding pairs d) where
  pub delete_answers : {K Kind : Type 0} (code : K → List ℕ) (decoded : Kind → List ℕ → Option K) (left : List ℕ) (k : Bor (List ℕ)) → k.now ≡ key → (a : Answer K)
      → Ok a ≡ told_as (λ b. Deleted b) (deleted (blocks_of d) key) → ByList decoded pairs (Delete k) (Ok a) left
  delete_answers {K} {Kind} code decoded left k same a e = go _ _ (eqb (length key) 0) (is_good (home_bytes (blocks_of d) key)) e
    where
      go : (f g : Fault) (x y : Bool) → Ok a ≡ told_as (λ b. Deleted b) (cond x (Err f) (cond y (Ok (has_key (blocks_of d) key)) (Err g))) → ByList decoded pairs (Delete k) (Ok a) left
      go f g true y e = absurd (no_ok e)
      go f g false false e = absurd (no_ok e)
      go f g false true e =
          subst (λ (b : Answer K). ByList decoded pairs (Delete k) (Ok b) left) (sym (answer_is e))
          (there_is pairs d key h ∙ ap (λ (q : List ℕ). is_some (look q pairs)) (sym same))

-- a step is not refused by the database where every page is good
module _ (blocks : Blocks) (good : (p : ℕ) → Good (page_in blocks p)) where
  visited_never : (p n : ℕ) → Never (visited blocks p n)
  unfolding visited
  visited_never p n = go _ _ _ (reachable blocks p) (is_good (page_in blocks p)) (good_yes (page_in blocks p) (good p))
    where
      go : {X : Type 0} (x none : X) (f : Fault) (a g : Bool) → g ≡ true → Never (cond a (cond g (Ok x) (Err f)) (Ok none))
      go x none f false g is = tt
      go x none f true g is = subst (λ b. Never (cond b (Ok x) (Err f))) (sym is) tt

  steps_never : (k p n : ℕ) → Never (step_from blocks k p n)
  steps_never zero p n = tt
  steps_never (suc k) p n = go (visited blocks p n) (visited_never p n) (step_from blocks k (suc p) 0) (steps_never k (suc p) 0)
    where
      go : (v : Result (Option Shows) Fault) → Never v → (rest : Result Stepped Fault) → Never rest → Never (onward v (λ s. Ok (ShownPair s)) (λ f. Err f) rest)
      go (Ok (Some s)) m rest more = tt
      go (Ok None) m rest more = more
      go (Err f) m rest more = m

  pub stepped_never : (at : Position) (size : ℕ) → Never (stepped blocks at size)
  unfolding stepped
  stepped_never at size =
      cond_both (size == 1024) (step_from blocks (32768 - at.0) at.0 at.1) (Err (fault NotABlock Database 0)) Never
      (λ _. steps_never (32768 - at.0) at.0 at.1)
      (λ _. spared NotABlock (inl (omega arith)))

-- what a call leaves and answers
pub record Each {K Kind : Type 0} (code : K → List ℕ) (decoded : Kind → List ℕ → Option K) (own_kind : K → Kind) (fits : K → Type 0) (pairs : List Pair) (c : Call K Kind) (r : Result (Answer K) Fault) (page : Option (Vec ℕ Global)) (d e : Meaning) : Type 0 where
  pub next : Holding (fed code pairs c r) e
  pub by_list : ByList decoded pairs c r (bytes_in page)
  pub back : ComesBack code decoded own_kind fits pairs c r
  pub ruled : Ruled code decoded c r d e
  pub backed : Backed pairs c r e

module _ {K Kind : Type 0} (code : K → List ℕ) (decoded : Kind → List ℕ → Option K) (own_kind : K → Kind) (fits : K → Type 0) (law : (x : K) → fits x → decoded (own_kind x) (code x) ≡ Some x) (pairs : List Pair)
    (d e : Meaning) (h : Holding pairs d) where
  abbrev Law : Call K Kind → Result (Answer K) Fault → Type 0
  Law c r = Trace {X = Answer K} StepLaw d (calls_of code c (blocks_of d)) (answer_of code decoded c (blocks_of d)) r e

  -- a call that only reads
  reading : (pairs' : List Pair) → pairs' ≡ pairs → (cs : List Asked) (own r : Result (Answer K) Fault) → AllQuiet cs → Trace StepLaw d cs own r e → Holding pairs' e
  reading pairs' same cs own r q t = subst (λ (ps : List Pair). Holding ps e) (sym same) (holding_quiet pairs d e h (quiet_trace cs d e own r q t))

  pub each : (c : Call K Kind) (r : Result (Answer K) Fault) (after : Option (Vec ℕ Global)) → Law c r → PageAfter c (blocks_of d) r after → Each code decoded own_kind fits pairs c r after d e
  each (Store key value mode) (Ok a) after t p = record {
    next = store_holds pairs d e key.now value.now mode Done (Ok a) h t;
    by_list = tt;
    back = tt;
    ruled = record { rule = by_rule _ d e _ (Ok a) t; never = tt };
    backed = tt;
  }
  each (Store key value mode) (Err f) after t p = record {
    next = store_holds pairs d e key.now value.now mode Done (Err f) h t;
    by_list = tt;
    back = tt;
    ruled = record { rule = by_rule _ d e _ (Err f) t; never = store_is_never pairs d e key.now value.now mode Done (Err f) h t };
    backed = tt;
  }
  each (Put key x) (Ok a) after t p = record {
    next = store_holds pairs d e key.now (code x) Replace Done (Ok a) h t;
    by_list = tt;
    back = tt;
    ruled = record { rule = by_rule _ d e _ (Ok a) t; never = tt };
    backed = tt;
  }
  each (Put key x) (Err f) after t p = record {
    next = store_holds pairs d e key.now (code x) Replace Done (Err f) h t;
    by_list = tt;
    back = tt;
    ruled = record { rule = by_rule _ d e _ (Err f) t; never = store_is_never pairs d e key.now (code x) Replace Done (Err f) h t };
    backed = tt;
  }
  each (Fetch key page) (Ok a) after t p = record {
    next = reading pairs refl _ _ (Ok a) (fetch_quiet (blocks_of d) key.now (length page.items)) t;
    by_list = fetch_answers pairs d key.now (length page.items) h decoded page (bytes_in after) key refl a (own_answer StepLaw _ d e a _ t) (bytes_left after (BufferHas (Ok a) (home_bytes (blocks_of d) key.now) page.items) p);
    back = tt;
    ruled = record { rule = by_rule _ d e _ (Ok a) t; never = tt };
    backed = tt;
  }
  each (Fetch key page) (Err f) after t p = record {
    next = reading pairs refl _ _ (Err f) (fetch_quiet (blocks_of d) key.now (length page.items)) t;
    by_list = tt;
    back = tt;
    ruled = record {
      rule = by_rule _ d e _ (Err f) t;
      never = quiet_never _ d e _ (Err f) (fetch_quiet (blocks_of d) key.now (length page.items)) h.device (never_told FoundAt (fetched (blocks_of d) key.now (length page.items)) (fetched_never pairs d key.now (length page.items) h)) t;
    };
    backed = tt;
  }
  each (Get key kind page) (Ok a) after t p = record {
    next = reading pairs refl _ _ (Ok a) (fetch_quiet (blocks_of d) key.now (length page.items)) t;
    by_list = get_answers pairs d key.now (length page.items) h decoded page (bytes_in after) key kind refl a (own_answer StepLaw _ d e a _ t);
    back = λ x has. comes_back decoded pairs key kind page code own_kind fits law x has a (bytes_in after) (got (decoded kind) (blocks_of d) key.now (length page.items)) (own_answer StepLaw _ d e a _ t)
        (get_answers pairs d key.now (length page.items) h decoded page (bytes_in after) key kind refl a (own_answer StepLaw _ d e a _ t));
    ruled = record { rule = by_rule _ d e _ (Ok a) t; never = tt };
    backed = tt;
  }
  each (Get key kind page) (Err f) after t p = record {
    next = reading pairs refl _ _ (Err f) (fetch_quiet (blocks_of d) key.now (length page.items)) t;
    by_list = tt;
    back = λ is. let no = no_code decoded pairs key kind page d e h f is t in (no, λ x has. has_code decoded pairs key kind page code own_kind fits law x has no);
    ruled = record {
      rule = by_rule _ d e _ (Err f) t;
      never = quiet_never _ d e _ (Err f) (fetch_quiet (blocks_of d) key.now (length page.items)) h.device (never_told Got (got (decoded kind) (blocks_of d) key.now (length page.items)) (got_never pairs d key.now (length page.items) h (decoded kind))) t;
    };
    backed = tt;
  }
  each (Delete key) (Ok a) after t p = record {
    next = delete_holds pairs d e key.now (λ b. Deleted b) was_there (λ b. refl) (Ok a) h t;
    by_list = delete_answers pairs d key.now h code decoded (bytes_in after) key refl a (own_answer StepLaw _ d e a _ t);
    back = tt;
    ruled = record { rule = by_rule _ d e _ (Ok a) t; never = tt };
    backed = tt;
  }
  each (Delete key) (Err f) after t p = record {
    next = delete_holds pairs d e key.now (λ b. Deleted b) was_there (λ b. refl) (Err f) h t;
    by_list = tt;
    back = tt;
    ruled = record { rule = by_rule _ d e _ (Err f) t; never = delete_is_never pairs d e key.now (λ b. Deleted b) was_there (λ b. refl) (Err f) h t };
    backed = tt;
  }
  each (Step at page) (Ok a) after t p = record {
    next = reading pairs refl _ _ (Ok a) (step_quiet (blocks_of d) at (length page.items)) t;
    by_list = tt;
    back = tt;
    ruled = record { rule = by_rule _ d e _ (Ok a) t; never = tt };
    backed = tt;
  }
  each (Step at page) (Err f) after t p = record {
    next = reading pairs refl _ _ (Err f) (step_quiet (blocks_of d) at (length page.items)) t;
    by_list = tt;
    back = tt;
    ruled = record {
      rule = by_rule _ d e _ (Err f) t;
      never = quiet_never _ d e _ (Err f) (step_quiet (blocks_of d) at (length page.items)) h.device (never_told (λ s. Shown s) (stepped (blocks_of d) at (length page.items)) (stepped_never (blocks_of d) h.good at (length page.items))) t;
    };
    backed = tt;
  }
  each Flush (Ok a) after t p =
      let kept = flush_keeps pairs d t.0 (Ok tt) h t.1 in
      let same = t.2.1 in
      record {
        next = subst (λ (m : Meaning). Holding pairs m) (sym same) kept.0;
        by_list = tt;
        back = tt;
        ruled = record { rule = by_rule (flush ∷ []) d e (Ok Done) (Ok a) t; never = tt };
        backed = subst (λ (m : Meaning). Keeps pairs (backing_of m)) (sym same) (keeps pairs (backing_of t.0) (kept.1 refl));
      }
  each Flush (Err f) after t p = record {
    next = ⊎_elim (λ s. (flush_keeps pairs d e (Err f) h s).0) (λ u. absurd (no_ok (sym u.2.0))) t;
    by_list = tt;
    back = tt;
    ruled = record {
      rule = by_rule (flush ∷ []) d e (Ok Done) (Err f) t;
      never = ⊎_elim (λ s. failed_spared f e s.1) (λ u. absurd (no_ok (sym u.2.0))) t;
    };
    backed = tt;
  }
