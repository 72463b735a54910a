use Rattle.std.proofs.lemmas.List.{length-replicate}
use Rattle.std.proofs.Common.{true, false, ◌≡◌, ℕ, ◌+◌, ◌/◌, List, [], ◌∷◌, ◌++◌, Ok, Err, Result, refl, sym, ap, subst, ◌∙◌, rules, arith}
use Rattle.calls.specs.Delete.{home_depth}
use Rattle.calls.specs.Fetch.{home_bytes}
use Rattle.calls.specs.Store.{bits_clear, change_calls, decided, planned, store_calls, stored}
use Rattle.calls.specs.declared.Mode.{Mode}
use Rattle.contents.specs.Blocks.{Blocks, bits_in, blocks_of}
use Rattle.contents.specs.Test.{is_good}
use Rattle.database.proofs.Database.store.Goals as goal
use Rattle.database.proofs.Stored.{home_refused, page_allows, page_refused, planned_bad, planned_good, refused_input}
use Rattle.devices.proofs.Traces.{trace_stop}
use Rattle.devices.specs.Meaning.{Meaning}
use Rattle.devices.specs.Step.{Filled, read}
use Rattle.devices.specs.Trace.{Account, Did, Trace}
use Rattle.directory.proofs.Lookups.{page_below}
use Rattle.directory.specs.Ending.{leaf_of}
use Rattle.directory.specs.Tree.{page_of}
use Rattle.directory.specs.declared.Leaf.{Leaf}
use Rattle.faults.specs.declared.Fault.{Fault}
use Rattle.keys.specs.Hash.{hash}
use Rattle.lookup.proofs.Reading.{answer_is, filled_shown, kept_blocks, own_answer, read_accepted, read_refused, reads_keep}
use Rattle.lookup.specs.Pages.{bad_page}
use Rattle.lookup.specs.Reads.{home_calls, lookup_calls, lookup_reads, reads}
use Rattle.pages.specs.Blank.{bytes_of}

pub returns-in_err-check_pair : goal.returns-in_err-check_pair
returns-in_err-check_pair g c =
    let did = Did g.D.Device.steps g.D.Device.meaning in
    let d = c.args.self.now.device in
    let blocks = blocks_of (g.D.Device.meaning d) in
    let key = c.args.key.now in
    let f = c.in_err-check_pair.field-0.0 in
    let is : c.from_residual.result ≡ Err f = search rules in
    subst (λ (r : Result Unit Fault). Trace did d (store_calls blocks key c.args.value.now c.args.mode) (stored blocks key c.args.value.now c.args.mode) r d) (sym is)
    (refused_input blocks key c.args.value.now c.args.mode did d f c.in_err-check_pair.ensures)

pub returns-in_err-leaf : goal.returns-in_err-leaf
returns-in_err-leaf g c =
    let did = Did g.D.Device.steps g.D.Device.meaning in
    let d = c.args.self.now.device in
    let e = c.look_up.new.device in
    let blocks = blocks_of (g.D.Device.meaning d) in
    let key = c.args.key.now in
    let f = c.in_err-leaf.field-0.0 in
    let is : c.from_residual-in_err-leaf.result ≡ Err f = search rules in
    let looked = subst (λ (h : ℕ). Trace {X = Leaf} did d (lookup_calls blocks h) (Ok (leaf_of (bits_in blocks) h)) (Err f) e) c.hash_of-hash.ensures c.in_err-leaf.ensures.made in
    subst (λ (r : Result Unit Fault). Trace did d (store_calls blocks key c.args.value.now c.args.mode) (stored blocks key c.args.value.now c.args.mode) r e) (sym is)
    (home_refused blocks key c.args.value.now c.args.mode c.in_ok-check_pair.ensures did d e f
    (trace_stop did (lookup_calls blocks (hash key)) (reads ((4 + page_of (bits_in blocks) (hash key)) ∷ [])) d e _ (Ok tt) f looked))

pub overflow_add-home : goal.overflow_add-home
overflow_add-home g c =
    let d = c.args.self.now.device in
    let blocks = blocks_of (g.D.Device.meaning d) in
    let leaf = answer_is (own_answer (Did g.D.Device.steps g.D.Device.meaning) (lookup_calls blocks c.hash_of-hash.result) d c.look_up.new.device _ _ c.in_ok-leaf.ensures.made) in
    omega (arith, ap (λ (l : Leaf). l.page) leaf, page_below (bits_in blocks) c.hash_of-hash.result)

-- the leaf is that of the key's hash
module _ {S : Type 0} (steps : Account S) (M : S → Meaning) (d m e : S) (h : ℕ) (key : List ℕ) (is : h ≡ hash key) (leaf : Leaf)
    (looked : Trace {X = Leaf} (Did steps M) d (lookup_calls (blocks_of (M d)) h) (Ok (leaf_of (bits_in (blocks_of (M d))) h)) (Ok leaf) m) where
  abbrev blocks : Blocks
  blocks = blocks_of (M d)

  made : Trace {X = Leaf} (Did steps M) d (lookup_calls blocks (hash key)) (Ok (leaf_of (bits_in blocks) (hash key))) (Ok leaf) m
  made = subst (λ (k : ℕ). Trace {X = Leaf} (Did steps M) d (lookup_calls blocks k) (Ok (leaf_of (bits_in blocks) k)) (Ok leaf) m) is looked

  leaf_is : leaf ≡ leaf_of (bits_in blocks) (hash key)
  leaf_is = answer_is (own_answer (Did steps M) (lookup_calls blocks (hash key)) d m leaf _ made)

  at : 4 + leaf.page ≡ 4 + page_of (bits_in blocks) (hash key)
  at = ap (λ (l : Leaf). 4 + l.page) leaf_is

  homed : (size : ℕ) → size ≡ 1024 → Did steps M m (read (4 + leaf.page) size) (Ok tt) e → Trace {X = Unit} (Did steps M) d (home_calls blocks (hash key)) (Ok tt) (Ok tt) e
  homed size whole s =
      subst (λ (n : ℕ). Trace {X = Unit} (Did steps M) d (lookup_calls blocks (hash key) ++ reads (n ∷ [])) (Ok tt) (Ok tt) e) at
      (read_accepted steps M (lookup_calls blocks (hash key)) d m leaf leaf (Ok tt) (made_own) (4 + leaf.page) size whole e tt refl s)
    where
      made_own : Trace {X = Leaf} (Did steps M) d (lookup_calls blocks (hash key)) (Ok leaf) (Ok leaf) m
      made_own = subst (λ (o : Leaf). Trace {X = Leaf} (Did steps M) d (lookup_calls blocks (hash key)) (Ok o) (Ok leaf) m) (sym leaf_is) made

  home_stopped : (size : ℕ) (f : Fault) → size ≡ 1024 → Did steps M m (read (4 + leaf.page) size) (Err f) e → Trace {X = Unit} (Did steps M) d (home_calls blocks (hash key)) (Ok tt) (Err f) e
  home_stopped size f whole s =
      subst (λ (n : ℕ). Trace {X = Unit} (Did steps M) d (lookup_calls blocks (hash key) ++ reads (n ∷ [])) (Ok tt) (Err f) e) at
      (read_refused steps M (lookup_calls blocks (hash key)) d m _ leaf (Ok tt) made (4 + leaf.page) size whole e f s)

  -- the reads left the blocks as they were
  kept : (size : ℕ) → Did steps M m (read (4 + leaf.page) size) (Ok tt) e → blocks_of (M e) ≡ blocks
  kept size s = kept_blocks (M m) (M e) s.1.kept ∙ reads_keep steps M (lookup_reads (bits_in blocks) (hash key)) d m _ _ made

  page_read : (size : ℕ) (old new : List ℕ) → size ≡ 1024 → Did steps M m (read (4 + leaf.page) size) (Ok tt) e → Filled (M m) (4 + leaf.page) (Ok tt) old new → new ≡ home_bytes blocks key
  page_read size old new whole s is =
      filled_shown steps M m e (4 + leaf.page) size (Ok tt) old new (omega (arith, at, page_below (bits_in blocks) (hash key))) whole s is
      ∙ ap (λ (b : Blocks). b (4 + leaf.page)) (reads_keep steps M (lookup_reads (bits_in blocks) (hash key)) d m _ _ made)
      ∙ ap blocks at

pub returns-in_err-read : goal.returns-in_err-read
returns-in_err-read g c =
    let did = Did g.D.Device.steps g.D.Device.meaning in
    let d = c.args.self.now.device in
    let e = c.read.new.self in
    let blocks = blocks_of (g.D.Device.meaning d) in
    let key = c.args.key.now in
    let f = c.in_err-read.field-0.0 in
    let is : c.from_residual-in_err-read.result ≡ Err f = search rules in
    subst (λ (r : Result Unit Fault). Trace did d (store_calls blocks key c.args.value.now c.args.mode) (stored blocks key c.args.value.now c.args.mode) r e) (sym is)
    (home_refused blocks key c.args.value.now c.args.mode c.in_ok-check_pair.ensures did d e f
    (home_stopped g.D.Device.steps g.D.Device.meaning d c.look_up.new.device e c.hash_of-hash.result key c.hash_of-hash.ensures c.in_ok-leaf.leaf c.in_ok-leaf.ensures.made _ f (length-replicate {A = ℕ} 1024 0) c.in_err-read.ensures.step))

-- what the home page says, by the page that was read
module _ (blocks : Blocks) (key value : List ℕ) (mode : Mode) (bytes : List ℕ) (is : bytes ≡ home_bytes blocks key) (leaf : Leaf) (found : leaf ≡ leaf_of (bits_in blocks) (hash key)) where
  said_bad : (f : Fault) → is_good bytes ≡ false → f ≡ bad_page (4 + leaf.page) → planned blocks key value mode ≡ Err f
  said_bad f bad e = planned_bad blocks key value mode (sym (ap is_good is) ∙ bad) ∙ ap Err (sym (e ∙ ap (λ (l : Leaf). bad_page (4 + l.page)) found))

  said_good : (page : List ℕ) → is_good bytes ≡ true → page ≡ bytes → decided page leaf.depth (4 + leaf.page) key value mode ≡ planned blocks key value mode
  said_good page good e =
      ap (λ (b : List ℕ). decided b leaf.depth (4 + leaf.page) key value mode) (e ∙ is)
      ∙ ap (λ (l : Leaf). decided (home_bytes blocks key) l.depth (4 + l.page) key value mode) found
      ∙ sym (planned_good blocks key value mode (sym (ap is_good is) ∙ good))

pub returns-in_err-page : goal.returns-in_err-page
returns-in_err-page g c =
    let steps = g.D.Device.steps in
    let M = g.D.Device.meaning in
    let d = c.args.self.now.device in
    let m = c.look_up.new.device in
    let e = c.read.new.self in
    let blocks = blocks_of (M d) in
    let key = c.args.key.now in
    let value = c.args.value.now in
    let mode = c.args.mode in
    let leaf = c.in_ok-leaf.leaf in
    let looked = c.in_ok-leaf.ensures.made in
    let long = length-replicate {A = ℕ} 1024 0 in
    let hashed = c.hash_of-hash.ensures in
    let f = c.in_err-page.field-0.0 in
    let is : c.from_residual-in_err-page.result ≡ Err f = search rules in
    let page = page_read steps M d m e _ key hashed leaf looked _ [] c.read.new.into long c.in_ok-read.ensures.step c.in_ok-read.ensures.into in
    let found = leaf_is steps M d m e _ key hashed leaf looked in
    subst (λ (r : Result Unit Fault). Trace (Did steps M) d (store_calls blocks key value mode) (stored blocks key value mode) r e) (sym is)
    (page_refused blocks key value mode c.in_ok-check_pair.ensures (Did steps M) d e f
    (said_bad blocks key value mode c.read.new.into page leaf found f c.in_err-page.ensures.0 c.in_err-page.ensures.1)
    (homed steps M d m e _ key hashed leaf looked _ long c.in_ok-read.ensures.step))

pub decide-requires : goal.decide-requires
decide-requires g c =
    let d = c.args.self.now.device in
    let blocks = blocks_of (g.D.Device.meaning d) in
    let leaf = answer_is (own_answer (Did g.D.Device.steps g.D.Device.meaning) (lookup_calls blocks c.hash_of-hash.result) d c.look_up.new.device _ _ c.in_ok-leaf.ensures.made) in
    omega (arith, ap (λ (l : Leaf). l.page) leaf, page_below (bits_in blocks) c.hash_of-hash.result)

pub returns-in_err-splits : goal.returns-in_err-splits
returns-in_err-splits g c =
    let steps = g.D.Device.steps in
    let M = g.D.Device.meaning in
    let d = c.args.self.now.device in
    let m = c.look_up.new.device in
    let e = c.read.new.self in
    let blocks = blocks_of (M d) in
    let key = c.args.key.now in
    let value = c.args.value.now in
    let mode = c.args.mode in
    let leaf = c.in_ok-leaf.leaf in
    let looked = c.in_ok-leaf.ensures.made in
    let long = length-replicate {A = ℕ} 1024 0 in
    let hashed = c.hash_of-hash.ensures in
    let f = c.in_err-splits.field-0.0 in
    let is : c.from_residual-in_err-splits.result ≡ Err f = search rules in
    let page = page_read steps M d m e _ key hashed leaf looked _ [] c.read.new.into long c.in_ok-read.ensures.step c.in_ok-read.ensures.into in
    let found = leaf_is steps M d m e _ key hashed leaf looked in
    let said = said_good blocks key value mode c.read.new.into page leaf found (bytes_of c.in_ok-page.page.good) c.in_ok-page.ensures.0 c.in_ok-page.ensures.1 in
    subst (λ (r : Result Unit Fault). Trace (Did steps M) d (store_calls blocks key value mode) (stored blocks key value mode) r e) (sym is)
    (page_refused blocks key value mode c.in_ok-check_pair.ensures (Did steps M) d e f (sym (c.in_err-splits.ensures ∙ said)) (homed steps M d m e _ key hashed leaf looked _ long c.in_ok-read.ensures.step))

pub change-requires-clause-leaf : goal.change-requires-clause-leaf
change-requires-clause-leaf g c =
    let steps = g.D.Device.steps in
    let M = g.D.Device.meaning in
    let d = c.args.self.now.device in
    let m = c.look_up.new.device in
    let e = c.read.new.self in
    let key = c.args.key.now in
    let leaf = c.in_ok-leaf.leaf in
    let looked = c.in_ok-leaf.ensures.made in
    let hashed = c.hash_of-hash.ensures in
    leaf_is steps M d m e _ key hashed leaf looked ∙ ap (λ (b : Blocks). leaf_of (bits_in b) (hash key)) (sym (kept steps M d m e _ key hashed leaf looked _ c.in_ok-read.ensures.step))

pub change-requires-clause-page : goal.change-requires-clause-page
change-requires-clause-page g c =
    let steps = g.D.Device.steps in
    let M = g.D.Device.meaning in
    let d = c.args.self.now.device in
    let m = c.look_up.new.device in
    let e = c.read.new.self in
    let key = c.args.key.now in
    let leaf = c.in_ok-leaf.leaf in
    let looked = c.in_ok-leaf.ensures.made in
    let hashed = c.hash_of-hash.ensures in
    c.in_ok-page.ensures.1
    ∙ page_read steps M d m e _ key hashed leaf looked _ [] c.read.new.into (length-replicate {A = ℕ} 1024 0) c.in_ok-read.ensures.step c.in_ok-read.ensures.into
    ∙ ap (λ (b : Blocks). home_bytes b key) (sym (kept steps M d m e _ key hashed leaf looked _ c.in_ok-read.ensures.step))

pub change-requires-clause-directory : goal.change-requires-clause-directory
change-requires-clause-directory g c = λ above.
    let steps = g.D.Device.steps in
    let M = g.D.Device.meaning in
    let d = c.args.self.now.device in
    let m = c.look_up.new.device in
    let e = c.read.new.self in
    let blocks = blocks_of (M d) in
    let key = c.args.key.now in
    let leaf = c.in_ok-leaf.leaf in
    let looked = c.in_ok-leaf.ensures.made in
    let hashed = c.hash_of-hash.ensures in
    let same = answer_is (own_answer (Did steps M) (lookup_calls blocks c.hash_of-hash.result) d m _ _ looked) in
    c.in_ok-leaf.ensures.block (omega (arith, ap (λ (l : Leaf). l.depth) same))
    ∙ ap (λ (l : Leaf). blocks (l.index / 8192)) (sym same)
    ∙ ap (λ (b : Blocks). b (leaf.index / 8192)) (sym (kept steps M d m e _ key hashed leaf looked _ c.in_ok-read.ensures.step))

pub returns : goal.returns
returns g c =
    let steps = g.D.Device.steps in
    let M = g.D.Device.meaning in
    let did = Did steps M in
    let d = c.args.self.now.device in
    let m = c.look_up.new.device in
    let e = c.read.new.self in
    let last = c.change.new.self.device in
    let r = c.change.result in
    let blocks = blocks_of (M d) in
    let key = c.args.key.now in
    let value = c.args.value.now in
    let mode = c.args.mode in
    let leaf = c.in_ok-leaf.leaf in
    let looked = c.in_ok-leaf.ensures.made in
    let long = length-replicate {A = ℕ} 1024 0 in
    let hashed = c.hash_of-hash.ensures in
    let s = c.in_ok-splits.splits in
    let page = page_read steps M d m e _ key hashed leaf looked _ [] c.read.new.into long c.in_ok-read.ensures.step c.in_ok-read.ensures.into in
    let found = leaf_is steps M d m e _ key hashed leaf looked in
    let said = said_good blocks key value mode c.read.new.into page leaf found (bytes_of c.in_ok-page.page.good) c.in_ok-page.ensures.0 c.in_ok-page.ensures.1 in
    let changed = subst (λ (b : Blocks). Trace {X = Unit} did e (change_calls b key value s) (bits_clear (bits_in b) (hash key) (home_depth b key) s) r last)
    (kept steps M d m e _ key hashed leaf looked _ c.in_ok-read.ensures.step) c.change.ensures in
    page_allows blocks key value mode c.in_ok-check_pair.ensures did d e last s r (sym (c.in_ok-splits.ensures ∙ said)) (homed steps M d m e _ key hashed leaf looked _ long c.in_ok-read.ensures.step) changed
