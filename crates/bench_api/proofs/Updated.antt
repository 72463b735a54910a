-- What stores, a flush and a cache leave of the pairs that are held.
use Rattle.std.proofs.Common.{◌≡◌, ℕ, ◌+◌, ◌<◌, List, [], ◌∷◌, take, get_or, length, Option, Ok, Err, Result, IfSome, refl, sym, subst, inl}
use Rattle.bench_api.specs.Runs.{Brings, Stores, Updates, name_in, with_name}
use Rattle.cache.specs.Shown.{cached, renamed}
use Rattle.cache.specs.declared.frames.Frame.{Frame}
use Rattle.calls.specs.Store.{store_calls, stored}
use Rattle.calls.specs.declared.Mode.TheVariants.{Replace}
use Rattle.contents.specs.Blocks.{blocks_of}
use Rattle.devices.proofs.Traces.{trace_meaning}
use Rattle.devices.specs.Meaning.{Meaning}
use Rattle.devices.specs.Step.{Step, flush}
use Rattle.devices.specs.Trace.{Account, Did, Trace}
use Rattle.faults.specs.declared.Fault.{Fault}
use Rattle.lookup.specs.Made.{Made}
use Rattle.pages.specs.Page.{Pair}
use Rattle.std.proofs.lemmas.List.Sums.{fold_more}
use Rattle.std.specs.Result.{result_ok}
use Rattle.upkeep.proofs.Holds.{flush_keeps, holding_quiet}
use Rattle.upkeep.proofs.Quiet.{quiet_from}
use Rattle.upkeep.proofs.Stores.{store_keeps}
use Rattle.upkeep.specs.Holding.{Holding, backing_of}

if_ok : (P : Type 0) (r : Result Unit Fault) (o : Option Unit) → o ≡ result_ok r → (r ≡ Ok tt → P) → IfSome o (λ _. P)
if_ok P r o is h = subst (λ (o : Option Unit). IfSome o (λ _. P)) (sym is) (go r h)
  where
    go : (r : Result Unit Fault) → (r ≡ Ok tt → P) → IfSome (result_ok r) (λ _. P)
    go (Ok u) h = h refl
    go (Err f) h = tt

module _ {S : Type 0} (steps : Account S) (M : S → Meaning) (d e : S) (r : Result Unit Fault) (o : Option Unit) (is : o ≡ result_ok r) where
  pub updates : (name value : List ℕ) → Made steps M d (λ blocks. store_calls blocks name value Replace) (λ blocks. stored blocks name value Replace) r e → IfSome o (λ _. Updates (M d) name value (M e))
  updates name value made =
      let blocks = blocks_of (M d) in
      let t = trace_meaning steps M (store_calls blocks name value Replace) d e (stored blocks name value Replace) r made in
      if_ok (Updates (M d) name value (M e)) r o is
      (λ ok pairs h. store_keeps pairs (M d) (M e) name value Replace (Ok tt) h
      (subst (λ (a : Result Unit Fault). Trace Step (M d) (store_calls blocks name value Replace) (stored blocks name value Replace) a (M e)) ok t))

  pub brings : Made steps M d (λ _. flush ∷ []) (λ _. Ok tt) r e → IfSome o (λ _. Brings (M d) (backing_of (M e)))
  brings made = if_ok (Brings (M d) (backing_of (M e))) r o is
      (λ ok pairs h.
      let t = subst (λ (a : Result Unit Fault). Trace {X = Unit} (Did steps M) d (flush ∷ []) (Ok tt) a e) ok made in
      subst (λ (s : S). Holding pairs (backing_of (M s))) (sym t.2.1) ((flush_keeps pairs (M d) (M t.0) (Ok tt) h t.1.1).1 refl))

-- one more of the names
pub one_more : (d m e : Meaning) (slots : List (List ℕ)) (i : ℕ) (value : List ℕ) → i < length slots → Stores d (take i slots) value m → Updates m (name_in (get_or slots i [])) value e → Stores d (take (i + 1) slots) value e
one_more d m e slots i value lt before now = λ pairs h.
    let more = fold_more (λ (ps : List Pair) (slot : List ℕ). with_name value ps (name_in slot)) pairs slots i [] lt in
    subst (λ (ps : List Pair). Holding ps e) (sym more) (now _ (before pairs h))

-- a cache shows the pairs of the device below, and so do its backing blocks
module _ (d e cache : Meaning) (frames : List Frame) (is : cache ≡ renamed d) where
  pub through_cache : (slots : List (List ℕ)) (value : List ℕ) → Stores cache slots value (backing_of (cached frames e)) → Stores d slots value (backing_of e)
  through_cache slots value s = λ pairs h.
      holding_quiet _ (backing_of (cached frames e)) (backing_of e)
      (s pairs (subst (λ (m : Meaning). Holding pairs m) (sym is) (holding_quiet pairs d (renamed d) h (quiet_from d (renamed d) refl refl refl (λ n k. k) (λ n k. inl k)))))
      (quiet_from (backing_of (cached frames e)) (backing_of e) refl refl refl (λ n k. k) (λ n k. inl k))
