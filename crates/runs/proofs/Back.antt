-- A record that was put comes back.
use Rattle.std.proofs.Common.{◌≡◌, ℕ, ◌+◌, ◌<◌, ◌==◌, Bool, Bor, true, false, cond, eqb, ltb, List, [], ◌∷◌, ◌++◌, length, Option, Some, None, Ok, Err, Result, is_some, refl, sym, ap, subst, ◌∙◌, ⊎_elim, arith}
use Rattle.calls.specs.Fetch.{decoding, fetch_calls, found, got, home_bytes, home_page}
use Rattle.contents.specs.Blocks.{Blocks, bits_in, blocks_of}
use Rattle.contents.specs.Test.{is_good}
use Rattle.database.proofs.Fetches.{home_good, place_there, value_shown}
use Rattle.devices.specs.Meaning.{Meaning}
use Rattle.devices.specs.Step.{Call as Asked, Failed, Step as StepLaw, fault}
use Rattle.devices.specs.Trace.{Trace}
use Rattle.directory.specs.Tree.{page_of}
use Rattle.faults.specs.Numbers.{refusal_number}
use Rattle.faults.specs.declared.Fault.{Fault}
use Rattle.faults.specs.declared.Layer.TheVariants.{Database}
use Rattle.faults.specs.declared.Refusal.{Refusal}
use Rattle.faults.specs.declared.Refusal.TheVariants.{EmptyKey, NoCode, NotABlock, PastLimit}
use Rattle.keys.specs.Hash.{hash}
use Rattle.lookup.proofs.Reading.{answer_is, reads_append}
use Rattle.lookup.specs.Pages.{bad_page}
use Rattle.lookup.specs.Reads.{home_calls, lookup_reads, reads}
use Rattle.pages.specs.Page.{Pair, look}
use Rattle.pages.specs.Read.{Place, bytes_at}
use Rattle.runs.proofs.Made.{no_ok}
use Rattle.runs.specs.Law.{ByList, HasNoCode, HasRecord}
use Rattle.runs.specs.Performed.{told_as}
use Rattle.runs.specs.declared.Answer.{Answer}
use Rattle.runs.specs.declared.Answer.TheVariants.{Got}
use Rattle.runs.specs.declared.Call.TheVariants.{Get}
use Rattle.std.proofs.lemmas.Bool.{cond_both}
use Rattle.std.specs.Prelude.{Vec}
use Rattle.std.specs.declared.alloc.Global.{Global}
use Rattle.upkeep.proofs.Rules.{by_rule}
use Rattle.upkeep.specs.Holding.{Holding}
use Rattle.upkeep.specs.Refusals.{first_refusal}

some_is : {A : Type 0} {a b : A} → ◌≡◌ {A = Option A} (Some a) (Some b) → a ≡ b
some_is {A} {a} e = ap (λ (o : Option A). elim o as (λ _. A) [ Some x ↦ x | None ↦ a ]) e

some_not_none : {A : Type 0} {a : A} → ◌≡◌ {A = Option A} (Some a) None → ⊥
some_not_none {A} e = let z : ◌≡◌ {A = Bool} true false = ap (λ (o : Option A). is_some o) e in cc

fault_is : {A : Type 0} {f g : Fault} → ◌≡◌ {A = Result A Fault} (Err f) (Err g) → f ≡ g
fault_is {A} {f} e = ap (λ (r : Result A Fault). elim r as (λ _. Fault) [ Ok x ↦ f | Err q ↦ q ]) e

-- a fetch only reads, and the rules refuse a read of a block past the limit only

abbrev AreReads : List Asked → Type 0
AreReads cs = (ns : List ℕ) × (cs ≡ reads ns)

fetch_reads : (blocks : Blocks) (key : List ℕ) (size : ℕ) → AreReads (fetch_calls blocks key size)
fetch_reads blocks key size =
    let calls = home_calls blocks (hash key) in
    let page = (4 + page_of (bits_in blocks) (hash key)) ∷ [] in
    let way = lookup_reads (bits_in blocks) (hash key) in
    cond_both (length key == 0) [] (cond (size == 1024) calls []) AreReads
    (λ _. ([], refl))
    (λ _. cond_both (size == 1024) calls [] AreReads (λ _. (way ++ page, sym (reads_append way page))) (λ _. ([], refl)))

reads_refused : (d : Meaning) (ns : List ℕ) (f : Fault) → first_refusal d (reads ns) ≡ Some f → f.refusal ≡ PastLimit
reads_refused d [] f e = absurd (some_not_none (sym e))
reads_refused d (n ∷ ns) f e = go (ltb n d.limit) (first_refusal d (reads ns)) (reads_refused d ns f) e
  where
    go : (b : Bool) (rest : Option Fault) → (rest ≡ Some f → f.refusal ≡ PastLimit) → cond b rest (Some (fault PastLimit d.layer n)) ≡ Some f → f.refusal ≡ PastLimit
    go true rest later e = later e
    go false rest later e = ap (λ (q : Fault). q.refusal) (sym (some_is e))

-- the search for the value is refused 1, 3 or 6
abbrev BeforeNine : {X : Type 0} → Result X Fault → Type 0
BeforeNine (Ok x) = Unit
BeforeNine (Err f) = refusal_number f.refusal < 9

found_refused : (blocks : Blocks) (key : List ℕ) (size : ℕ) → BeforeNine (found blocks key size)
found_refused blocks key size = go (eqb (length key) 0) (eqb size 1024) (is_good (home_bytes blocks key)) _
  where
    go : {X : Type 0} (a b g : Bool) (x : X) → BeforeNine (cond a (Err (fault EmptyKey Database 0)) (cond b (cond g (Ok x) (Err (bad_page (4 + home_page blocks key)))) (Err (fault NotABlock Database 0))))
    go true b g x = omega arith
    go false true true x = tt
    go false true false x = omega arith
    go false false g x = omega arith

module _ {K Kind : Type 0} (decoded : Kind → List ℕ → Option K) (pairs : List Pair) (k : Bor (List ℕ)) (kind : Kind) (page : Vec ℕ Global) where
  abbrev key : List ℕ
  key = k.now

  -- a get that is refused 13
  module _ (d e : Meaning) (h : Holding pairs d) (f : Fault) (is : refusal_number f.refusal ≡ 13) where
    abbrev blocks : Blocks
    blocks = blocks_of d

    abbrev size : ℕ
    size = length page.items

    other : (q : Refusal) → f.refusal ≡ q → refusal_number q < 13 → HasNoCode decoded pairs key kind
    other q same less = absurd (omega (arith, is, ap refusal_number same, less))

    value : (n : ℕ) (p : Place) → Ok (n, Some p) ≡ found blocks key size → (o : Option K) → decoded kind (bytes_at (home_bytes blocks key) p) ≡ o
        → told_as Got (elim (elim o as (λ _. Result K Fault) [ Some x ↦ Ok x | None ↦ Err (fault NoCode Database n) ]) as (λ _. Result (Option K) Fault) [ Ok x ↦ Ok (Some x) | Err f ↦ Err f ]) ≡ Err f
        → HasNoCode decoded pairs key kind
    value n p q (Some x) d e = absurd (no_ok e)
    value n p q None d e =
        let v = value_shown blocks key (Some p) (home_bytes blocks key) (home_good blocks key size n (Some p) q) (place_there blocks key size n (Some p) q) refl in
        (v.0, bytes_at (home_bytes blocks key) p, sym (h.held key) ∙ v.1, d)

    own : (x : Result (ℕ × Option Place) Fault) → x ≡ found blocks key size → told_as Got (decoding (decoded kind) (home_bytes blocks key) x) ≡ Err f → HasNoCode decoded pairs key kind
    own (Ok (n, None)) q e = absurd (no_ok e)
    own (Ok (n, Some p)) q e = value n p q (decoded kind (bytes_at (home_bytes blocks key) p)) refl e
    own (Err g) q e =
        let less : refusal_number g.refusal < 9 = subst BeforeNine (sym q) (found_refused blocks key size) in
        other g.refusal (ap (λ (z : Fault). z.refusal) (sym (fault_is e))) (omega (arith, less))

    pub no_code : Trace {X = Answer K} StepLaw d (fetch_calls blocks key size) (told_as Got (got (decoded kind) blocks key size)) (Err f) e → HasNoCode decoded pairs key kind
    no_code t =
        let all = fetch_reads blocks key size in
        ⊎_elim
        (λ (failed : Failed f e). other _ failed.refusal (omega arith))
        (λ rest.
        ⊎_elim
        (λ first. other PastLimit (reads_refused d all.0 f (ap (first_refusal d) (sym all.1) ∙ first)) (omega arith))
        (λ none. own (found blocks key size) refl none.1)
        rest)
        (by_rule (fetch_calls blocks key size) d e (told_as Got (got (decoded kind) blocks key size)) (Err f) t)

  -- where the list has a record of the kind
  module _ (code : K → List ℕ) (own_kind : K → Kind) (fits : K → Type 0) (back : (x : K) → fits x → decoded (own_kind x) (code x) ≡ Some x) (x : K) (has : HasRecord code own_kind fits pairs key kind x) where
    decodes : (spelled value : List ℕ) → look key pairs ≡ Some (spelled, value) → decoded kind value ≡ Some x
    decodes spelled value there =
        subst (λ (bytes : List ℕ). decoded kind bytes ≡ Some x) (ap (λ (p : Pair). p.1) (some_is (sym has.there ∙ there)))
        (subst (λ (q : Kind). decoded q (code x) ≡ Some x) has.of_kind (back x has.fields))

    pub has_code : HasNoCode decoded pairs key kind → ⊥
    has_code n = some_not_none (sym (decodes n.0 n.1 n.2) ∙ n.3)

    pub comes_back : (a : Answer K) (left : List ℕ) (r : Result (Option K) Fault) → Ok a ≡ told_as Got r → ByList decoded pairs (Get k kind page) (Ok a) left → a ≡ Got (Some x)
    comes_back a left (Err f) e by = absurd (no_ok e)
    comes_back a left (Ok o) e by = answer_is e ∙ go o (subst (λ (b : Answer K). ByList decoded pairs (Get k kind page) (Ok b) left) (answer_is e) by)
      where
        go : (o : Option K) → ByList decoded pairs (Get k kind page) (Ok (Got o)) left → Got o ≡ Got (Some x)
        go (Some y) by = ap Got (sym by.3 ∙ decodes by.0 by.1 by.2)
        go None by = absurd (some_not_none (sym has.there ∙ by))
