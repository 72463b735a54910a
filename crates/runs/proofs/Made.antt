-- What a call of a list asks, answers and hands out, from what the database's own call did.
use Rattle.std.proofs.Common.{◌≡◌, ℕ, Bool, true, false, List, length, Option, Some, None, Ok, Err, Result, ap, refl, sym, subst, ◌∙◌}
use Rattle.calls.specs.Fetch.{BufferHas}
use Rattle.devices.specs.Meaning.{Meaning}
use Rattle.devices.specs.Step.{Call as Asked}
use Rattle.devices.specs.Trace.{Account, Trace}
use Rattle.faults.specs.declared.Fault.{Fault}
use Rattle.lookup.proofs.Reading.{mapped}
use Rattle.runs.specs.Performed.{Performed, bytes_in, told_as}
use Rattle.runs.specs.declared.Answer.{Answer}
use Rattle.runs.specs.declared.Call.{Call}
use Rattle.runs.specs.declared.Outcome.{Outcome}
use Rattle.std.proofs.lemmas.List.{with_items_is}
use Rattle.std.specs.Prelude.{IsSomeAnd, Vec}
use Rattle.std.specs.Result.{is_ok}
use Rattle.std.specs.Vec.{with_items}
use Rattle.std.specs.declared.alloc.Global.{Global}

pub no_ok : {A : Type 0} {x : A} {f : Fault} → ◌≡◌ {A = Result A Fault} (Ok x) (Err f) → ⊥
no_ok {A} e = let z : ◌≡◌ {A = Bool} true false = ap (λ (r : Result A Fault). is_ok r) e in cc

pub told : {S X A : Type 0} (did : S → Asked → Result Unit Fault → S → Type 0) (h : X → A) (cs : List Asked) (d e : S) (own r : Result X Fault)
    → Trace did d cs own r e → Trace did d cs (told_as h own) (told_as h r) e
told did h cs d e own r t = mapped did (told_as h) (λ f. refl) cs d e own r t

-- the caller's buffer is lent as a slice, and taken back as the call left it
pub buffer_told : {X A : Type 0} (h : X → A) (r : Result X Fault) (buffer : Vec ℕ Global) (read old new : List ℕ) → BufferHas r read old new → old ≡ buffer.items → length new ≡ buffer.len
    → BufferHas (told_as h r) read buffer.items (with_items buffer new).items
buffer_told h (Ok x) buffer read old new has same len = with_items_is buffer new len ∙ has
buffer_told h (Err f) buffer read old new has same len = with_items_is buffer new len ∙ has ∙ same

-- a call and its outcome under other names
module _ {S K Kind : Type 0} (steps : Account S) (M : S → Meaning) (code : K → List ℕ) (decoded : Kind → List ℕ → Option K) (d e : S) where
  pub as_call : (call c : Call K Kind) (o : Outcome K) (answer told : Result (Answer K) Fault) (page : Option (Vec ℕ Global)) → call ≡ c → o ≡ record { answer = answer; page = page } → answer ≡ told
      → Performed steps M code decoded c (record { answer = told; page = page }) d e → Performed steps M code decoded call o d e
  as_call call c o answer told page is out same p =
      subst (λ (k : Call K Kind). Performed steps M code decoded k o d e) (sym is)
      (subst (λ (q : Outcome K). Performed steps M code decoded c q d e) (sym (out ∙ ap (λ (a : Result (Answer K) Fault). record { answer = a; page = page }) same)) p)

-- what holds of the buffer that is handed out
pub bytes_left : (page : Option (Vec ℕ Global)) (P : List ℕ → Type 0) → IsSomeAnd page (λ left. P left.items) → P (bytes_in page)
bytes_left (Some page) P holds = holds
bytes_left None P holds = absurd holds
