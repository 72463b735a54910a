-- Calls and then others: which of them were made.
use Rattle.std.proofs.Common.{◌≡◌, ℕ, List, [], ◌∷◌, ◌++◌, Ok, Err, Result, inl, inr, refl, ⊎_elim, arith}
use Rattle.devices.specs.Step.{Call}
use Rattle.devices.specs.Trace.{Trace}
use Rattle.faults.specs.declared.Fault.{Fault}

module _ {S X : Type 0} (did : S → Call → Result Unit Fault → S → Type 0) where
  -- one of the first was refused, or all of them were accepted and the others came after them
  pub data Parts (cs ds : List Call) (d : S) (own r : Result X Fault) (e : S) : Type 0 where
    stopped : (f : Fault) → r ≡ Err f → Trace {X = Unit} did d cs (Ok tt) (Err f) e → Parts cs ds d own r e
    through : (m : S) → Trace {X = Unit} did d cs (Ok tt) (Ok tt) m → Trace did m ds own r e → Parts cs ds d own r e

  more_accepted : (c : Call) (cs ds : List Call) (d m e : S) (own : Result X Fault) (x : X) → did d c (Ok tt) m → Parts cs ds m own (Ok x) e → Parts (c ∷ cs) ds d own (Ok x) e
  more_accepted c cs ds d m e own x s (stopped f q t) = let z : ◌≡◌ {A = ℕ} 0 1 = cc in absurd (omega arith)
  more_accepted c cs ds d m e own x s (through n t u) = through n (m, s, t) u

  more_refused : (c : Call) (cs ds : List Call) (d m e : S) (own : Result X Fault) (f : Fault) → did d c (Ok tt) m → Parts cs ds m own (Err f) e → Parts (c ∷ cs) ds d own (Err f) e
  more_refused c cs ds d m e own f s (stopped g q t) = stopped g q (inr (m, s, t))
  more_refused c cs ds d m e own f s (through n t u) = through n (m, s, t) u

  pub parts : (cs ds : List Call) (d e : S) (own r : Result X Fault) → Trace did d (cs ++ ds) own r e → Parts cs ds d own r e
  parts [] ds d e own r t = through d (refl, refl) t
  parts (c ∷ cs) ds d e own (Ok x) t = more_accepted c cs ds d t.0 e own x t.1 (parts cs ds t.0 e own (Ok x) t.2)
  parts (c ∷ cs) ds d e own (Err f) t =
      ⊎_elim (λ s. stopped f refl (inl s)) (λ u. more_refused c cs ds d u.0 e own f u.1 (parts cs ds u.0 e own (Err f) u.2)) t
