-- What a store leaves of the pairs held, whatever it is answered.
use Rattle.std.proofs.Common.{◌≡◌, ℕ, zero, suc, ◌+◌, ◌/◌, ◌<◌, ◌≤◌, Bool, true, false, not, cond, eqb, leb, List, [], ◌∷◌, ◌++◌, length, take, Contains, Option, Some, None, Ok, Err, Result, inl, inr, refl, sym, ap, ◌∙◌, subst, take_all, pow_mono, arith}
use Rattle.calls.specs.Delete.{has_key, home_depth, home_pairs}
use Rattle.calls.specs.Fetch.{home_bytes, home_page}
use Rattle.calls.specs.Store.{bits_clear, bits_under, change_calls, claims, inserts, last_write, planned, split_writes, store_calls, stored, under_calls, up_to}
use Rattle.calls.specs.declared.Mode.{Mode}
use Rattle.contents.proofs.Held.{contents_bits}
use Rattle.contents.proofs.Joins.{differ_append, differ_filter, filter_in}
use Rattle.contents.proofs.Tests.{good_yes}
use Rattle.contents.specs.Blocks.{Blocks, bits_in, blocks_of}
use Rattle.contents.specs.Contents.{Contents, contents_of, held, home}
use Rattle.contents.specs.Laws.{Differ}
use Rattle.contents.specs.Test.{is_good}
use Rattle.devices.specs.Meaning.{Meaning}
use Rattle.devices.specs.Step.{Call, Step, fault}
use Rattle.devices.specs.Trace.{Trace}
use Rattle.directory.proofs.Lookups.{depth_limit}
use Rattle.directory.proofs.Low.{low_lt}
use Rattle.directory.specs.Tree.{depth_of, low, node}
use Rattle.faults.specs.declared.Fault.{Fault}
use Rattle.faults.specs.declared.Layer.TheVariants.{Database}
use Rattle.faults.specs.declared.Refusal.TheVariants.{EmptyKey, KeyExists, NoPlan, PairTooLong}
use Rattle.keys.specs.Hash.{hash}
use Rattle.keys.specs.Same.{same}
use Rattle.lookup.specs.Pages.{bad_page}
use Rattle.lookup.specs.Reads.{blocks_of_bits, home_calls}
use Rattle.page_edits.specs.Edit.{dropped, with_pair}
use Rattle.pages.specs.Page.{Good, Pair}
use Rattle.splits.proofs.Finds.{look_edited}
use Rattle.splits.proofs.Plans.{plans_least}
use Rattle.splits.proofs.Rooms.{room_decides}
use Rattle.splits.proofs.Sounds.{splits_free, stores_sound}
use Rattle.splits.proofs.Stores.{stores}
use Rattle.splits.specs.Laws.{Planned, Sound}
use Rattle.splits.specs.Plan.{MaySplit, plan}
use Rattle.splits.specs.Writes.{Write, all_made, depth_at, others, pairs_at, storing}
use Rattle.std.proofs.lemmas.Bool.{both_ways, eqb-false, not-true}
use Rattle.std.proofs.lemmas.Map.Keys.{IsDistinct-from_apart}
use Rattle.upkeep.proofs.Flats.{AllClaimed, claims_held, claims_quiet, clear_under, flat, splits_held, splits_may}
use Rattle.upkeep.proofs.Holds.{sane}
use Rattle.upkeep.proofs.Homes.{depth_is, pairs_are}
use Rattle.upkeep.proofs.Outcomes.{before, refused, written as after_writes}
use Rattle.upkeep.proofs.Quiet.{Spared, home_quiet, quiet_append, quiet_reads, spared}
use Rattle.upkeep.proofs.Writes.{AllHeld, AllMay, Sane, write_calls, writes_leave}
use Rattle.upkeep.specs.Holding.{Holding}
use Rattle.upkeep.specs.Laws.{Never, StoreKeeps, StoreNever, stored_pairs}

differ_one : (p : Pair) → Differ (p ∷ [])
differ_one p = IsDistinct-from_apart _ (p ∷ []) (λ i j d l k. absurd (omega arith))

-- the key of a pair that is added differs from those of a list from which it was dropped
differ_edited : (key value : List ℕ) (ps : List Pair) → Differ ps → Differ (with_pair (dropped key ps) key value)
differ_edited key value ps differ =
    differ_append (dropped key ps) ((key, value) ∷ []) (differ_filter (λ p. not (same p.0 key)) ps differ) (differ_one (key, value))
    (λ p q i j.
    ap (λ (x : Pair). same p.0 x.0) (sym (only (key, value) q j)) ∙ not-true (same p.0 key) (filter_in (λ p. not (same p.0 key)) ps p i).1)
  where
    only : (x q : Pair) → Contains (x ∷ []) q → x ≡ q
    only x q (zero, l, e) = e
    only x q (suc k, l, e) = absurd (omega arith)

-- the writes of a store
abbrev writing : Blocks → List ℕ → List ℕ → ℕ → List Call
writing blocks key value s =
    split_writes blocks (home_pairs blocks key) (hash key) (home_depth blocks key) s ++ last_write (home_pairs blocks key) key value (home_depth blocks key + s) ∷ []

module _ (pairs : List Pair) (key value : List ℕ) where
  abbrev after : Result Unit Fault → List Pair
  after = stored_pairs pairs key value

  abbrev Fine : Result Unit Fault → Meaning → Type 0
  Fine r e = Holding (after r) e × Never r

  -- the writes of a store, on the device that its claims left
  module _ (d : Meaning) (h : Holding pairs d) (s : ℕ) (named : 0 < length key) (is : plan (home_pairs (blocks_of d) key) key value (home_depth (blocks_of d) key) ≡ Some s) where
    abbrev now : Blocks
    now = blocks_of d

    abbrev deep : ℕ
    deep = home_depth now key

    abbrev c : Contents
    c = contents_of now

    good : Good (home_bytes now key)
    good = h.good (home_page now key)

    abbrev t : ℕ
    t = depth_at c key

    abbrev ws : List Write
    ws = storing s c key value

    plan_is : plan (pairs_at c key) key value t ≡ Some s
    plan_is = ap (λ (ps : List Pair). plan ps key value t) (pairs_are now key good) ∙ ap (plan (home_pairs now key) key value) (depth_is now key) ∙ is

    limit : t + s ≤ 15
    limit = ((plans_least (pairs_at c key) key value t (depth_limit c.bits (hash key))).some s plan_is).1

    fits : Planned s c key value
    fits =
        (room_decides (pairs_at c key) key value (t + s) (h.sound.fits (home c key)) named).0
        (((plans_least (pairs_at c key) key value t (depth_limit c.bits (hash key))).some s plan_is).2)

    free : MaySplit c.bits (hash key) t s
    free = splits_free c h.sound (hash key) s limit

    clear : bits_clear (bits_in now) (hash key) deep s ≡ Ok tt
    clear = subst (λ (bits : ℕ → Bool). bits_clear bits (hash key) (depth_of bits (hash key)) s ≡ Ok tt) (contents_bits now) (clear_under c.bits (hash key) t s free)

    may : AllMay ws
    unfolding storing
    may =
        let m = pow_mono {j = 15} limit in
        splits_may (pairs_at c key) (hash key) (h.sound.fits (home c key)) s t (low (hash key) (t + s)) (with_pair (others (pairs_at c key) key (t + s)) key value)
        (omega (arith, low_lt (hash key) (t + s)), fits) limit

    to_held : AllClaimed d.held (claims (hash key) deep s) → AllHeld d.held ws
    unfolding storing
    to_held q =
        let claimed = subst (λ (u : ℕ). AllClaimed d.held (claims (hash key) u s)) (sym (depth_is now key)) q in
        splits_held (pairs_at c key) (hash key) d.held s t (with_pair (others (pairs_at c key) key (t + s)) key value) claimed.0 claimed.1

    calls_are : writing now key value s ≡ write_calls now ws
    unfolding storing
    calls_are =
        let calls : List Pair → ℕ → List Call
        = λ ps u. split_writes now ps (hash key) u s ++ last_write ps key value (u + s) ∷ [] in
        ap (λ (ps : List Pair). calls ps deep) (sym (pairs_are now key good))
        ∙ ap (calls (pairs_at c key)) (sym (depth_is now key))
        ∙ flat (pairs_at c key) (hash key) s t (low (hash key) (t + s)) (with_pair (others (pairs_at c key) key (t + s)) key value) now now limit (λ n l. refl)

    module _ (e : Meaning) where
      whole : Sane e → contents_of (blocks_of e) ≡ all_made ws c → Holding (with_pair (dropped key pairs) key value) e
      whole k is = record {
        device = k.device;
        unclaimed = k.unclaimed;
        sound = subst Sound (sym is) (subst (λ (vs : List Write). Sound (all_made vs c)) (take_all (length ws) ws (omega arith)) (stores_sound s c key value h.sound limit fits (length ws)));
        good = k.good;
        held = λ other.
            ap (λ (a : Contents). held a other) is
            ∙ (stores s c key value free).whole other
            ∙ ap (cond (same key other) (Some (key, value))) (h.held other)
            ∙ sym (look_edited key value other pairs);
        differ = differ_edited key value pairs h.differ;
      }

      front : Sane e → (n : ℕ) → n < length ws → contents_of (blocks_of e) ≡ all_made (take n ws) c → Holding pairs e
      front k n l is = record {
        device = k.device;
        unclaimed = k.unclaimed;
        sound = subst Sound (sym is) (stores_sound s c key value h.sound limit fits n);
        good = k.good;
        held = λ other. ap (λ (a : Contents). held a other) is ∙ (stores s c key value free).cut n l other ∙ h.held other;
        differ = h.differ;
      }

      writes_fine : (r : Result Unit Fault) → AllClaimed d.held (claims (hash key) deep s)
          → Trace Step d (writing now key value s) (Ok tt) r e
          → Fine r e
      writes_fine r claimed u =
          let left = writes_leave ws d e tt r may (to_held claimed) (sane pairs d h) (subst (λ (cs : List Call). Trace Step d cs (Ok tt) r e) calls_are u) in
          after_writes pairs after (λ f. refl) d e h ws r left (λ _ is. whole left.sane is) (front left.sane)

  -- the calls of a store, from a device that holds the pairs
  module _ (d e : Meaning) (h : Holding pairs d) (r : Result Unit Fault) where
    abbrev blocks : Blocks
    blocks = blocks_of d

    abbrev depth : ℕ
    depth = home_depth blocks key

    abbrev Answers : List Call → Result Unit Fault → Type 0
    Answers cs own = Trace Step d cs own r e

    abbrev homes : List Call
    homes = home_calls blocks (hash key)

    module _ (s : ℕ) (named : 0 < length key) (is : plan (home_pairs blocks key) key value depth ≡ Some s) where
      -- its reads, then its claims, and then its writes
      all_fine : Answers (homes ++ (under_calls (bits_in blocks) (hash key) depth s ++ (claims (hash key) depth s ++ writing blocks key value s))) (Ok tt) → Fine r e
      all_fine t =
          let unders = under_calls (bits_in blocks) (hash key) depth s in
          let read = quiet_reads (blocks_of_bits (node (hash key) depth / 8192) (up_to (bits_in blocks) (bits_under (hash key) depth s))) in
          let claimed = claims (hash key) depth s in
          before pairs after (λ f. refl) d e h homes (unders ++ (claimed ++ writing blocks key value s)) (Ok tt) r (home_quiet blocks (hash key)) t
          (λ m km qm um vm.
          before pairs after (λ f. refl) m e km unders (claimed ++ writing blocks key value s) (Ok tt) r read vm
          (λ n kn qn un vn.
          before pairs after (λ f. refl) n e kn claimed (writing blocks key value s) (Ok tt) r (claims_quiet (hash key) depth s) vn
          (λ o ko qo uo vo.
          let same = sym (qo.blocks ∙ qn.blocks ∙ qm.blocks) in
          let held : AllClaimed o.held claimed = claims_held claimed n o (claims_quiet (hash key) depth s) uo in
          writes_fine o ko s named (subst (λ (b : Blocks). plan (home_pairs b key) key value (home_depth b key) ≡ Some s) same is) e r
          (subst (λ (b : Blocks). AllClaimed o.held (claims (hash key) (home_depth b key) s)) same held)
          (subst (λ (b : Blocks). Trace Step o (writing b key value s) (Ok tt) r e) same vo))))

      change_fine : Answers (homes ++ change_calls blocks key value s) (bits_clear (bits_in blocks) (hash key) depth s) → Fine r e
      unfolding change_calls
      change_fine t =
          let unders = under_calls (bits_in blocks) (hash key) depth s in
          all_fine
          (subst
          (λ (o : Result Unit Fault).
          Answers (homes ++ (unders ++ elim o as (λ _. List Call) [ Ok _ ↦ claims (hash key) depth s ++ writing blocks key value s | Err _ ↦ [] ])) o)
          (clear d h s named is) t)

    refused_home : (f : Fault) → Spared f.refusal → Answers (homes ++ []) (Err f) → Fine r e
    refused_home f k t = refused pairs after (λ f. refl) d e h (homes ++ []) f r (quiet_append homes [] (home_quiet blocks (hash key)) tt) k t

    -- the calls and the answer, by the number of splits that is planned
    abbrev asked : Result ℕ Fault → List Call
    asked p = homes ++ elim p as (λ _. List Call) [ Ok s ↦ change_calls blocks key value s | Err _ ↦ [] ]

    abbrev answered : Result ℕ Fault → Result Unit Fault
    answered p = elim p as (λ _. Result Unit Fault) [ Ok s ↦ bits_clear (bits_in blocks) (hash key) depth s | Err f ↦ Err f ]

    -- the number, by whether the home page is good, whether the key is there and may not be, and the plan
    abbrev number : Bool → Bool → Option ℕ → Result ℕ Fault
    number good there o =
        cond good
        (cond there (Err (fault KeyExists Database (4 + home_page blocks key)))
        (elim o as (λ _. Result ℕ Fault) [ Some s ↦ Ok s | None ↦ Err (fault NoPlan Database (4 + home_page blocks key)) ]))
        (Err (bad_page (4 + home_page blocks key)))

    by_plan : 0 < length key → (good there : Bool) → good ≡ true → (o : Option ℕ) → plan (home_pairs blocks key) key value depth ≡ o
        → Answers (asked (number good there o)) (answered (number good there o))
        → Fine r e
    by_plan named false there is o at t = absurd (both_ways false refl is)
    by_plan named true true is o at t = refused_home (fault KeyExists Database (4 + home_page blocks key)) (spared KeyExists (inl (omega arith))) t
    by_plan named true false is None at t = refused_home (fault NoPlan Database (4 + home_page blocks key)) (spared NoPlan (inr (omega arith, λ e. omega arith))) t
    by_plan named true false is (Some s) at t = change_fine s named at t

    by_input : (mode : Mode) (empty short : Bool) → (empty ≡ false → 0 < length key)
        → Answers (cond empty [] (cond short (asked (planned blocks key value mode)) []))
        (cond empty (Err (fault EmptyKey Database 0)) (cond short (answered (planned blocks key value mode)) (Err (fault PairTooLong Database 0))))
        → Fine r e
    unfolding planned
    by_input mode true short named t = refused pairs after (λ f. refl) d e h [] (fault EmptyKey Database 0) r tt (spared EmptyKey (inl (omega arith))) t
    by_input mode false false named t = refused pairs after (λ f. refl) d e h [] (fault PairTooLong Database 0) r tt (spared PairTooLong (inl (omega arith))) t
    by_input mode false true named t =
        by_plan (named refl) (is_good (home_bytes blocks key)) (inserts mode (has_key blocks key)) (good_yes (home_bytes blocks key) (h.good (home_page blocks key)))
        (plan (home_pairs blocks key) key value depth) refl t

    stores_fine : (mode : Mode) → Answers (store_calls blocks key value mode) (stored blocks key value mode) → Fine r e
    unfolding store_calls stored
    stores_fine mode t = by_input mode (eqb (length key) 0) (leb (length key + length value) 1008) (λ e. let n = eqb-false (length key) 0 e in omega arith) t

pub store_keeps : StoreKeeps
store_keeps pairs d e key value mode r h t = (stores_fine pairs key value d e h r mode t).0

pub store_never : StoreNever
store_never pairs d e key value mode r h t = (stores_fine pairs key value d e h r mode t).1
