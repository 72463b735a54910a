-- Calls of which some are made only where the answer so far is no refusal.
use Rattle.std.proofs.Common.{◌≡◌, ℕ, ◌+◌, List, [], ◌∷◌, ◌++◌, Ok, Err, Result, sym, refl, ap, subst, ◌∙◌, append-nil, append_assoc}
use Rattle.calls.specs.Delete.{home_depth, home_pairs}
use Rattle.calls.specs.Store.{bits_clear, change_calls, claims, last_write, room_calls, split_writes, under_calls}
use Rattle.contents.specs.Blocks.{Blocks, bits_in}
use Rattle.keys.specs.Hash.{hash}
use Rattle.devices.proofs.Traces.{trace_stop, trace_then}
use Rattle.devices.specs.Step.{Call}
use Rattle.devices.specs.Trace.{Trace}
use Rattle.faults.specs.declared.Fault.{Fault}
use Rattle.lookup.proofs.Reading.{mapped, own_answer}

-- the calls that come after an answer, unless it is a refusal
abbrev pub unless_refused : {X : Type 0} → Result X Fault → (X → List Call) → List Call
unless_refused own rest = elim own as (λ _. List Call) [ Ok x ↦ rest x | Err _ ↦ [] ]

module _ {S X : Type 0} (did : S → Call → Result Unit Fault → S → Type 0) (cs : List Call) (rest : X → List Call) where
  -- a refusal before them is the answer, whether a call's or the own one
  pub refused_before : {Y : Type 0} (own : Result X Fault) (d e : S) (f : Fault) (last : Result Y Fault)
      → ((g : Fault) → own ≡ Err g → last ≡ Err g)
      → Trace did d cs own (Err f) e → Trace did d (cs ++ unless_refused own rest) last (Err f) e
  refused_before (Ok x) d e f last keeps t = trace_stop did cs (rest x) d e x last f t
  refused_before {Y} (Err g) d e f last keeps t =
      let h : Result X Fault → Result Y Fault = λ r. elim r as (λ _. Result Y Fault) [ Ok _ ↦ last | Err k ↦ Err k ] in
      let same : Trace {X = Y} did d cs (Err g) (Err f) e = mapped did h (λ k. refl) cs d e (Err g) (Err f) t in
      subst (λ (bs : List Call). Trace did d bs last (Err f) e) (sym (append-nil cs))
      (subst (λ (own : Result Y Fault). Trace did d cs own (Err f) e) (sym (keeps g refl)) same)

  -- where there was none they are made
  pub went_on : {Y : Type 0} (own : Result X Fault) (d m e : S) (x : X) (last r : Result Y Fault) → Trace did d cs own (Ok x) m → Trace did m (rest x) last r e → Trace did d (cs ++ unless_refused own rest) last r e
  went_on own d m e x last r t u =
      let is : Ok x ≡ own = own_answer did cs d m x own t in
      subst (λ (o : Result X Fault). Trace did d (cs ++ unless_refused o rest) last r e) is
      (trace_then did cs (rest x) d m e x x last r (subst (λ (o : Result X Fault). Trace did d cs o (Ok x) m) (sym is) t) u)

-- calls in one list after an answer, and in two
unless_both : (xs ys zs : List Call) (own : Result Unit Fault) → xs ++ unless_refused own (λ _. ys ++ zs) ≡ (xs ++ unless_refused own (λ _. ys)) ++ unless_refused own (λ _. zs)
unless_both xs ys zs (Ok _) = sym (append_assoc xs ys zs)
unless_both xs ys zs (Err g) = sym (append-nil (xs ++ []))

-- what is done once the number of splits is known: room is made, and then the key's page is written
pub change_is : (blocks : Blocks) (key value : List ℕ) (s : ℕ)
    → change_calls blocks key value s
    ≡ room_calls blocks (home_pairs blocks key) (hash key) (home_depth blocks key) s
    ++ unless_refused (bits_clear (bits_in blocks) (hash key) (home_depth blocks key) s) (λ _. last_write (home_pairs blocks key) key value (home_depth blocks key + s) ∷ [])
unfolding change_calls
change_is blocks key value s =
    let h = hash key in
    let t = home_depth blocks key in
    let under = under_calls (bits_in blocks) h t s in
    let own = bits_clear (bits_in blocks) h t s in
    let splits = split_writes blocks (home_pairs blocks key) h t s in
    let last = last_write (home_pairs blocks key) key value (t + s) ∷ [] in
    ap (λ (cs : List Call). under ++ unless_refused own (λ _. cs)) (sym (append_assoc (claims h t s) splits last)) ∙ unless_both under (claims h t s ++ splits) last own
