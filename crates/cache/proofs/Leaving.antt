-- A frame leaves.
use Rattle.std.proofs.Common.{◌≡◌, ℕ, Bool, true, false, cond, eqb, List, [], ◌∷◌, Ok, Err, Result, sym, refl, ap, ◌∙◌, subst, ap₂, ⊎_elim, rules}
use mathlib.Core.Path.{fun_ext}
use Rattle.cache.proofs.Showing.{if_false, if_true}
use Rattle.cache.specs.Calls.{leaves}
use Rattle.cache.specs.Shown.{shown, cached}
use Rattle.cache.specs.declared.frames.Frame.{Frame}
use Rattle.devices.specs.Meaning.{Meaning, put}
use Rattle.devices.specs.Step.{Step, Kept, Wrote, write}
use Rattle.devices.specs.Trace.{Trace}
use Rattle.faults.specs.declared.Fault.{Fault}
use Rattle.std.proofs.lemmas.Bool.{ne_eqb, both_ways}

apart : (d : Meaning) (k n : ℕ) (h : Bool) → d.held k ≡ h → (d.held n ≡ h → ⊥) → eqb k n ≡ false
apart d k n h e other = ne_eqb k n (λ (same : k ≡ n). other (ap d.held (sym same) ∙ e))

evict_block : (f : Frame) (q : List Frame) (d e : Meaning) → d.held f.number ≡ true → e.held ≡ d.held → e.block ≡ put d.block f.number f.block → (cached q e).block ≡ (cached (f ∷ q) d).block
evict_block f q d e h eh eb =
    fun_ext (λ k.
    ap₂ (λ (t : ℕ → Bool) (b : ℕ → List ℕ). cond (t k) (shown q k (b k)) (b k)) eh eb
    ∙ if_false (d.held k) (shown q k (put d.block f.number f.block k)) (put d.block f.number f.block k) (d.block k)
    (λ un_k. ap (λ t. cond t f.block (d.block k)) (apart d k f.number false un_k (λ un. both_ways (d.held f.number) un h))))

drop_block : (f : Frame) (q : List Frame) (d : Meaning) → d.held f.number ≡ false → (cached q d).block ≡ (cached (f ∷ q) d).block
drop_block f q d h =
    fun_ext (λ k. if_true (d.held k) (shown q k (d.block k)) (shown q k (cond (eqb k f.number) f.block (d.block k))) (d.block k)
    (λ is. sym (ap (λ t. shown q k (cond t f.block (d.block k))) (apart d k f.number true is (λ un. both_ways (d.held f.number) h un)))))

pub leave_kept : (f : Frame) (q : List Frame) (d e : Meaning) → Trace {X = Unit} Step d (leaves f d) (Ok tt) (Ok tt) e → Kept (cached (f ∷ q) d) (cached q e)
leave_kept f q d e t = go (d.held f.number) refl t
  where
    go : (h : Bool) → d.held f.number ≡ h → Trace {X = Unit} Step d (cond h (write f.number f.block ∷ []) []) (Ok tt) (Ok tt) e → Kept (cached (f ∷ q) d) (cached q e)
    go true h t =
        let w : Wrote d f.number f.block e = subst (λ (m : Meaning). Wrote d f.number f.block m) (sym t.2.1) t.1 in
        record { stays = search rules; held = search rules; left = search rules; block = evict_block f q d e h w.held w.block }
    go false h t =
        subst (λ (m : Meaning). Kept (cached (f ∷ q) d) (cached q m)) (sym t.1)
        (record { stays = record { limit = refl; layer = refl; spent = refl; for_good = λ o. o }; held = refl; left = refl; block = drop_block f q d h })

pub leave_stop : (f : Frame) (d e : Meaning) (x : Fault) → Trace {X = Unit} Step d (leaves f d) (Ok tt) (Err x) e → Kept d e
leave_stop f d e x t = go (d.held f.number) t
  where
    never : ◌≡◌ {A = Result Unit Fault} (Err x) (Ok tt) → ⊥
    never h = cc

    go : (h : Bool) → Trace {X = Unit} Step d (cond h (write f.number f.block ∷ []) []) (Ok tt) (Err x) e → Kept d e
    go true t = ⊎_elim (λ s. s.0) (λ u. absurd (never u.2.0)) t
    go false t = absurd (never t.0)
