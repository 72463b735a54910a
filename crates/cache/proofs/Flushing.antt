-- A flush.
use Rattle.std.proofs.Common.{◌≡◌, ℕ, Bool, cond, List, [], ◌∷◌, ◌++◌, Ok, Err, Result, sym, refl, ap, ◌∙◌, subst, ap₂, inl, inr, ⊎_elim}
use Rattle.cache.proofs.Leaving.{leave_kept, leave_stop}
use Rattle.cache.proofs.Showing.{bare, kept_then, cached_kept}
use Rattle.cache.specs.After.{Drained}
use Rattle.cache.specs.Calls.{leaves, flush_calls}
use Rattle.cache.specs.Shown.{cached}
use Rattle.cache.specs.declared.frames.Frame.{Frame}
use Rattle.devices.proofs.Traces.{trace_then, trace_stop, trace_meaning}
use Rattle.devices.specs.Meaning.{Meaning}
use Rattle.devices.specs.Step.{Call, Step, Kept, Flushed, Failed, write, flush}
use Rattle.devices.specs.Trace.{Account, Trace, Did}
use Rattle.faults.specs.declared.Fault.{Fault}

-- a meaning is what it means
abbrev itself : Meaning → Meaning
itself d = d

pub drained_step : (q : List Frame) (d : Meaning) (r : Result Unit Fault) (p : List Frame) (e : Meaning) → Drained Step itself q d r p e → Step (cached q d) flush r (cached p e)
drained_step [] d (Ok _) p e s =
    subst (λ (o : List Frame). Flushed (cached [] d) (cached o e)) (sym s.1)
    (record { kept = cached_kept [] d e s.0.kept; backing = s.0.backing ∙ sym (bare e) })
drained_step [] d (Err x) p e s =
    subst (λ (o : List Frame). Kept (cached [] d) (cached o e) × Failed x (cached o e)) (sym s.1)
    (cached_kept [] d e s.0.0, record { refusal = s.0.1.refusal; layer = s.0.1.layer; out = s.0.1.out })
drained_step (f ∷ q) d (Ok x) p e s =
    let rest = drained_step q s.0 (Ok x) p e s.2 in
    record { kept = kept_then (cached (f ∷ q) d) (cached q s.0) (cached p e) (leave_kept f q d s.0 s.1) rest.kept; backing = rest.backing }
drained_step (f ∷ q) d (Err x) p e s =
    ⊎_elim
    (λ t. subst (λ (o : List Frame). Kept (cached (f ∷ q) d) (cached o e) × Failed x (cached o e)) (sym t.2)
    (cached_kept (f ∷ q) d e (leave_stop f d e x t.0), record { refusal = t.1.refusal; layer = t.1.layer; out = t.1.out }))
    (λ t. let rest = drained_step q t.0 (Err x) p e t.2 in
    (kept_then (cached (f ∷ q) d) (cached q t.0) (cached p e) (leave_kept f q d t.0 t.1) rest.0, rest.1))
    s

flush_held : (q : List Frame) (d m : Meaning) → m.held ≡ d.held → flush_calls q m ≡ flush_calls q d
flush_held [] d m h = refl
flush_held (f ∷ q) d m h = ap₂ (λ (a b : List Call). a ++ b) (ap (λ (t : ℕ → Bool). cond (t f.number) (write f.number f.block ∷ []) []) h) (flush_held q d m h)

pub drained_trace : {S : Type 0} (steps : Account S) (M : S → Meaning) (q : List Frame) (d : S) (r : Result Unit Fault) (p : List Frame) (e : S) → Drained (Did steps M) M q d r p e → Trace {X = Unit} (Did steps M) d (flush_calls q (M d)) (Ok tt) r e
drained_trace steps M [] d (Ok x) p e s = (e, s.0, (refl, refl))
drained_trace steps M [] d (Err x) p e s = inl s.0
drained_trace {S} steps M (f ∷ q) d (Ok x) p e s =
    let m = s.0 in
    let rest = drained_trace steps M q m (Ok x) p e s.2 in
    trace_then (Did steps M) {X = Unit} {Y = Unit} (leaves f (M d)) (flush_calls q (M d)) d m e tt tt (Ok tt) (Ok x) s.1
    (subst (λ (cs : List Call). Trace {X = Unit} (Did steps M) m cs (Ok tt) (Ok x) e) (flush_held q (M d) (M m) (leave_kept f q (M d) (M m) (trace_meaning {X = Unit} steps M (leaves f (M d)) d m (Ok tt) (Ok tt) s.1)).held) rest)
drained_trace {S} steps M (f ∷ q) d (Err x) p e s =
    ⊎_elim
    (λ t. trace_stop (Did steps M) {X = Unit} {Y = Unit} (leaves f (M d)) (flush_calls q (M d)) d e tt (Ok tt) x t.0)
    (λ t.
    let m = t.0 in
    let rest = drained_trace steps M q m (Err x) p e t.2 in
    trace_then (Did steps M) {X = Unit} {Y = Unit} (leaves f (M d)) (flush_calls q (M d)) d m e tt tt (Ok tt) (Err x) t.1
    (subst (λ (cs : List Call). Trace {X = Unit} (Did steps M) m cs (Ok tt) (Err x) e) (flush_held q (M d) (M m) (leave_kept f q (M d) (M m) (trace_meaning {X = Unit} steps M (leaves f (M d)) d m (Ok tt) (Ok tt) t.1)).held) rest))
    s

pub drained_meaning : {S : Type 0} (steps : Account S) (M : S → Meaning) (q : List Frame) (d : S) (r : Result Unit Fault) (p : List Frame) (e : S) → Drained (Did steps M) M q d r p e → Drained Step itself q (M d) r p (M e)
drained_meaning steps M [] d r p e s = (s.0.1, s.1)
drained_meaning steps M (f ∷ q) d (Ok x) p e s = (M s.0, trace_meaning {X = Unit} steps M (leaves f (M d)) d s.0 (Ok tt) (Ok tt) s.1, drained_meaning steps M q s.0 (Ok x) p e s.2)
drained_meaning steps M (f ∷ q) d (Err x) p e s =
    ⊎_elim
    (λ t. inl (trace_meaning {X = Unit} steps M (leaves f (M d)) d e (Ok tt) (Err x) t.0, t.1, t.2))
    (λ t. inr (M t.0, trace_meaning {X = Unit} steps M (leaves f (M d)) d t.0 (Ok tt) (Ok tt) t.1, drained_meaning steps M q t.0 (Err x) p e t.2))
    s
