use Rattle.std.proofs.Common.{◌≡◌, ℕ, List, [], ◌∷◌, ◌++◌, Ok, Err, Result, refl, ap, subst, inl, inr, ⊎_elim, arith}
use Rattle.faults.specs.declared.Fault.{Fault}
use Rattle.devices.specs.Meaning.{Meaning}
use Rattle.devices.specs.Step.{Call, Step}
use Rattle.devices.specs.Trace.{Trace, Did}

module _ {S : Type 0} (did : S → Call → Result Unit Fault → S → Type 0) where
  -- calls that were all accepted, and then others
  pub trace_then : {X Y : Type 0} (cs ds : List Call) (d m e : S) (x y : X) (own r : Result Y Fault) → Trace did d cs (Ok x) (Ok y) m → Trace did m ds own r e → Trace did d (cs ++ ds) own r e
  trace_then [] ds d m e x y own r t u = subst (λ (k : S). Trace did k ds own r e) t.1 u
  trace_then (c ∷ cs) ds d m e x y own (Ok z) t u = (t.0, t.1, trace_then cs ds t.0 m e x y own (Ok z) t.2 u)
  trace_then (c ∷ cs) ds d m e x y own (Err f) t u = inr (t.0, t.1, trace_then cs ds t.0 m e x y own (Err f) t.2 u)

  -- calls of which one was refused, and others that are not made
  pub trace_stop : {X Y : Type 0} (cs ds : List Call) (d e : S) (x : X) (own : Result Y Fault) (f : Fault) → Trace did d cs (Ok x) (Err f) e → Trace did d (cs ++ ds) own (Err f) e
  trace_stop [] ds d e x own f t = let q = t.0 in let z : ◌≡◌ {A = ℕ} 0 1 = cc in let no : ⊥ = omega arith in elim no [ ]
  trace_stop (c ∷ cs) ds d e x own f t = ⊎_elim inl (λ u. inr (u.0, u.1, trace_stop cs ds u.0 e x own f u.2)) t

  -- the answer of the last call is the answer
  pub last_call : (c : Call) (d e : S) (r : Result Unit Fault) → did d c r e → Trace {X = Unit} did d (c ∷ []) (Ok tt) r e
  last_call c d e (Ok _) s = (e, s, (refl, refl))
  last_call c d e (Err f) s = inl s

-- the law holds along a trace
pub trace_meaning : {S X : Type 0} (steps : S → Call → Result Unit Fault → S → Type 0) (M : S → Meaning) (cs : List Call) (d e : S) (own r : Result X Fault) → Trace (Did steps M) d cs own r e → Trace Step (M d) cs own r (M e)
trace_meaning steps M [] d e own r t = (t.0, ap M t.1)
trace_meaning steps M (c ∷ cs) d e own (Ok x) t = (M t.0, t.1.1, trace_meaning steps M cs t.0 e own (Ok x) t.2)
trace_meaning steps M (c ∷ cs) d e own (Err f) t = ⊎_elim (λ s. inl s.1) (λ u. inr (M u.0, u.1.1, trace_meaning steps M cs u.0 e own (Err f) u.2)) t
