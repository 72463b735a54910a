-- A store in a directory with no bit set: its key is sought on page 0.
use Rattle.std.proofs.Common.{◌≡◌, ℕ, ◌+◌, Bool, true, false, cond, eqb, leb, List, [], ◌∷◌, ◌++◌, length, Option, Some, None, is_some, Ok, Err, Result, refl, sym, ap, ◌∙◌, subst}
use native.Mathlib.Nat.{mod-one}
use Rattle.calls.specs.Delete.{has_key, home_depth, home_pairs}
use Rattle.calls.specs.Fetch.{home_bytes, home_page}
use Rattle.calls.specs.Store.{bits_clear, change_calls, claims, inserts, planned, split_writes, store_calls, stored, under_calls}
use Rattle.calls.specs.declared.Mode.{Mode}
use Rattle.calls.specs.declared.Mode.TheVariants.{Insert, Replace}
use Rattle.contents.proofs.Tests.{good_yes}
use Rattle.contents.specs.Blocks.{Blocks, bits_in}
use Rattle.devices.specs.Step.{Call, fault, read, write}
use Rattle.directory.specs.Tree.{depth_of, low, lookup, page_of}
use Rattle.faults.specs.declared.Fault.{Fault}
use Rattle.faults.specs.declared.Layer.TheVariants.{Database}
use Rattle.faults.specs.declared.Refusal.TheVariants.{EmptyKey, KeyExists, NoPlan, PairTooLong}
use Rattle.keys.specs.Hash.{hash}
use Rattle.lookup.specs.Pages.{bad_page}
use Rattle.lookup.specs.Reads.{home_calls, lookup_reads, reads}
use Rattle.page_edits.specs.Edit.{with_pair}
use Rattle.page_edits.specs.Write.{written}
use Rattle.pages.specs.Page.{Good, Pair, look, pairs_of}
use Rattle.splits.specs.Plan.{plan}
use Rattle.splits.specs.Writes.{others}
use Rattle.upkeep.proofs.Homes.{key_there, pairs_are}

abbrev pub none_set : ℕ → Bool
none_set i = false

pub no_depth : (h : ℕ) → depth_of none_set h ≡ 0
unfolding depth_of lookup
no_depth h = refl

no_reads : (h : ℕ) → lookup_reads none_set h ≡ 0 ∷ []
unfolding lookup_reads depth_of lookup
no_reads h = refl

pub no_page : (h : ℕ) → page_of none_set h ≡ 0
no_page h = ap (low h) (no_depth h) ∙ mod-one h

inserts_none : (mode : Mode) → inserts mode false ≡ false
inserts_none Insert = refl
inserts_none Replace = refl

-- how many splits, by what is found
abbrev number : Bool → Bool → Option ℕ → ℕ → Result ℕ Fault
number good there o n =
    cond good
    (cond there (Err (fault KeyExists Database n)) (elim o as (λ _. Result ℕ Fault) [ Some s ↦ Ok s | None ↦ Err (fault NoPlan Database n) ]))
    (Err (bad_page n))

-- the calls once it is known, with the pairs of the last write
abbrev pub changing : Blocks → (ℕ → Bool) → List Pair → ℕ → ℕ → ℕ → List Pair → List Call
changing b bits ps h t s new =
    under_calls bits h t s
    ++ elim (bits_clear bits h t s) as (λ _. List Call) [
      | Ok _ ↦ claims h t s ++ (split_writes b ps h t s ++ write (4 + low h (t + s)) (written new) ∷ [])
      | Err _ ↦ []
    ]

module _ (b : Blocks) (key value : List ℕ) (mode : Mode) (clear : bits_in b ≡ none_set) (ps : List Pair) (good : Good (b 4)) (are : pairs_of (b 4) ≡ ps) (there : look key ps ≡ None)
    (named : eqb (length key) 0 ≡ false) (short : leb (length key + length value) 1008 ≡ true) where
  depth_zero : home_depth b key ≡ 0
  depth_zero = ap (λ (bits : ℕ → Bool). depth_of bits (hash key)) clear ∙ no_depth (hash key)

  page_zero : home_page b key ≡ 0
  page_zero = ap (λ (bits : ℕ → Bool). page_of bits (hash key)) clear ∙ no_page (hash key)

  home_good : Good (home_bytes b key)
  home_good = subst (λ (p : ℕ). Good (b (4 + p))) (sym page_zero) good

  pairs_zero : home_pairs b key ≡ ps
  pairs_zero = ap (λ (p : ℕ). pairs_of (b (4 + p))) page_zero ∙ are

  not_there : has_key b key ≡ false
  not_there = key_there b key home_good ∙ ap (λ (qs : List Pair). is_some (look key qs)) (pairs_are b key home_good ∙ pairs_zero) ∙ ap is_some there

  home_calls_are : home_calls b (hash key) ≡ read 0 1024 ∷ read 4 1024 ∷ []
  home_calls_are =
      ap (λ (bits : ℕ → Bool). reads (lookup_reads bits (hash key)) ++ reads ((4 + page_of bits (hash key)) ∷ [])) clear
      ∙ ap (λ (ns : List ℕ). reads ns ++ reads ((4 + page_of none_set (hash key)) ∷ [])) (no_reads (hash key))
      ∙ ap (λ (p : ℕ). reads (0 ∷ []) ++ reads ((4 + p) ∷ [])) (no_page (hash key))

  planned_is : planned b key value mode ≡ number true false (plan ps key value 0) 4
  unfolding planned
  planned_is =
      let o = plan (home_pairs b key) key value (home_depth b key) in
      let n = 4 + home_page b key in
      ap (λ (g : Bool). number g (inserts mode (has_key b key)) o n) (good_yes (home_bytes b key) home_good)
      ∙ ap (λ (t : Bool). number true (inserts mode t) o n) not_there
      ∙ ap (λ (t : Bool). number true t o n) (inserts_none mode)
      ∙ ap (λ (qs : List Pair). number true false (plan qs key value (home_depth b key)) n) pairs_zero
      ∙ ap (λ (t : ℕ). number true false (plan ps key value t) n) depth_zero
      ∙ ap (λ (p : ℕ). number true false (plan ps key value 0) (4 + p)) page_zero

  abbrev answering : Bool → Bool → Result ℕ Fault → Result Unit Fault
  answering empty fits o =
      cond empty (Err (fault EmptyKey Database 0))
      (cond fits (elim o as (λ _. Result Unit Fault) [ Ok s ↦ bits_clear (bits_in b) (hash key) (home_depth b key) s | Err f ↦ Err f ]) (Err (fault PairTooLong Database 0)))

  abbrev asking : Bool → Bool → List Call → Result ℕ Fault → List Call
  asking empty fits homes o =
      cond empty [] (cond fits (homes ++ elim o as (λ _. List Call) [ Ok s ↦ change_calls b key value s | Err _ ↦ [] ]) [])

  stored_is : stored b key value mode ≡ answering false true (number true false (plan ps key value 0) 4)
  unfolding stored
  stored_is =
      ap (λ (e : Bool). answering e (leb (length key + length value) 1008) (planned b key value mode)) named
      ∙ ap (λ (f : Bool). answering false f (planned b key value mode)) short
      ∙ ap (answering false true) planned_is

  calls_are : store_calls b key value mode ≡ asking false true (read 0 1024 ∷ read 4 1024 ∷ []) (number true false (plan ps key value 0) 4)
  unfolding store_calls
  calls_are =
      ap (λ (e : Bool). asking e (leb (length key + length value) 1008) (home_calls b (hash key)) (planned b key value mode)) named
      ∙ ap (λ (f : Bool). asking false f (home_calls b (hash key)) (planned b key value mode)) short
      ∙ ap (λ (cs : List Call). asking false true cs (planned b key value mode)) home_calls_are
      ∙ ap (asking false true (read 0 1024 ∷ read 4 1024 ∷ [])) planned_is

  -- no number of splits makes room
  pub no_plan : None ≡ plan ps key value 0 → (stored b key value mode ≡ Err (fault NoPlan Database 4)) × (store_calls b key value mode ≡ read 0 1024 ∷ read 4 1024 ∷ [])
  no_plan is = (
    stored_is ∙ ap (λ (o : Option ℕ). answering false true (number true false o 4)) (sym is),
    calls_are ∙ ap (λ (o : Option ℕ). asking false true (read 0 1024 ∷ read 4 1024 ∷ []) (number true false o 4)) (sym is),
  )

  -- s splits do
  module _ (s h : ℕ) (hashed : hash key ≡ h) where
    abbrev new : ℕ → List Pair → List Pair
    new t qs = with_pair (others qs key (t + s)) key value

    changes : change_calls b key value s ≡ changing b none_set ps h 0 s (new 0 ps)
    unfolding change_calls
    changes =
        let t = home_depth b key in
        let qs = home_pairs b key in
        ap (λ (bits : ℕ → Bool). changing b bits qs (hash key) t s (new t qs)) clear
        ∙ ap (λ (t : ℕ). changing b none_set qs (hash key) t s (new t qs)) depth_zero
        ∙ ap (λ (qs : List Pair). changing b none_set qs (hash key) 0 s (new 0 qs)) pairs_zero
        ∙ ap (λ (g : ℕ). changing b none_set ps g 0 s (new 0 ps)) hashed

    pub by_plan : Some s ≡ plan ps key value 0
        → (stored b key value mode ≡ bits_clear none_set h 0 s) × (store_calls b key value mode ≡ read 0 1024 ∷ read 4 1024 ∷ changing b none_set ps h 0 s (new 0 ps))
    by_plan is = (
      stored_is
          ∙ ap (λ (o : Option ℕ). answering false true (number true false o 4)) (sym is)
          ∙ ap (λ (bits : ℕ → Bool). bits_clear bits (hash key) (home_depth b key) s) clear
          ∙ ap (λ (t : ℕ). bits_clear none_set (hash key) t s) depth_zero
          ∙ ap (λ (g : ℕ). bits_clear none_set g 0 s) hashed,
      calls_are
          ∙ ap (λ (o : Option ℕ). asking false true (read 0 1024 ∷ read 4 1024 ∷ []) (number true false o 4)) (sym is)
          ∙ ap (λ (cs : List Call). read 0 1024 ∷ read 4 1024 ∷ cs) changes,
    )
