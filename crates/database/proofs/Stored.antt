-- What a store calls and answers, by what its home page says.
use Rattle.std.proofs.Common.{◌≡◌, ℕ, ◌+◌, Bool, true, false, cond, eqb, leb, List, [], ◌++◌, length, Ok, Err, Result, refl, sym, ap, subst, ◌∙◌}
use Rattle.calls.specs.Delete.{home_depth}
use Rattle.calls.specs.Fetch.{home_bytes, home_page}
use Rattle.calls.specs.Store.{bits_clear, change_calls, decided, planned, store_calls, stored, with_pair_input}
use Rattle.calls.specs.declared.Mode.{Mode}
use Rattle.contents.specs.Blocks.{Blocks, bits_in}
use Rattle.contents.specs.Test.{is_good}
use Rattle.database.proofs.Rooms.{unless_refused}
use Rattle.devices.proofs.Traces.{trace_stop, trace_then}
use Rattle.devices.specs.Step.{Call}
use Rattle.devices.specs.Trace.{Trace}
use Rattle.faults.specs.declared.Fault.{Fault}
use Rattle.keys.specs.Hash.{hash}
use Rattle.lookup.specs.Pages.{bad_page}
use Rattle.lookup.specs.Reads.{home_calls}
use Rattle.std.proofs.lemmas.Bool.{cond-false, cond-true}

-- the answer by the number of splits, unless that is a refusal
abbrev pub by_splits : Result ℕ Fault → (ℕ → Result Unit Fault) → Result Unit Fault
by_splits own rest = elim own as (λ _. Result Unit Fault) [ Ok s ↦ rest s | Err f ↦ Err f ]

-- what is done with the input is by what the test of it answers
abbrev by_input : {X : Type 0} → Result Unit Fault → (Fault → X) → X → X
by_input {X} test refused accepted = elim test as (λ _. X) [ Ok _ ↦ accepted | Err f ↦ refused f ]

tested : {X : Type 0} (a b : Bool) (f g : Fault) (refused : Fault → X) (accepted : X)
    → cond a (refused f) (cond b accepted (refused g)) ≡ by_input (cond a (Err f) (cond b (Ok tt) (Err g))) refused accepted
tested true b f g refused accepted = refl
tested false true f g refused accepted = refl
tested false false f g refused accepted = refl

-- what the test of the input answers
abbrev pub input_answer : List ℕ → List ℕ → Result Unit Fault
input_answer key value = with_pair_input key value (λ f. Err f) (Ok tt)

abbrev pub Allowed : List ℕ → List ℕ → Type 0
Allowed key value = ◌≡◌ {A = Result Unit Fault} (Ok tt) (input_answer key value)

module _ (key value : List ℕ) (r : Result Unit Fault) (is : r ≡ input_answer key value) where
  pub input_is : {X : Type 0} (refused : Fault → X) (accepted : X) → with_pair_input key value refused accepted ≡ by_input r refused accepted
  input_is {X} refused accepted =
      tested (eqb (length key) 0) (leb (length key + length value) 1008) _ _ refused accepted ∙ ap (λ (t : Result Unit Fault). by_input t refused accepted) (sym is)

module _ (blocks : Blocks) (key value : List ℕ) (mode : Mode) where
  pub planned_good : is_good (home_bytes blocks key) ≡ true → planned blocks key value mode ≡ decided (home_bytes blocks key) (home_depth blocks key) (4 + home_page blocks key) key value mode
  unfolding planned
  planned_good good = cond-true (is_good (home_bytes blocks key)) _ (Err (bad_page (4 + home_page blocks key))) good

  pub planned_bad : is_good (home_bytes blocks key) ≡ false → planned blocks key value mode ≡ Err (bad_page (4 + home_page blocks key))
  unfolding planned
  planned_bad bad = cond-false (is_good (home_bytes blocks key)) _ (Err (bad_page (4 + home_page blocks key))) bad

  -- a store whose input was refused makes no call
  pub refused_input : {S : Type 0} (did : S → Call → Result Unit Fault → S → Type 0) (d : S) (f : Fault) → ◌≡◌ {A = Result Unit Fault} (Err f) (input_answer key value)
      → Trace did d (store_calls blocks key value mode) (stored blocks key value mode) (Err f) d
  unfolding store_calls stored
  refused_input {S} did d f is =
      let own : Result Unit Fault = by_splits (planned blocks key value mode) (bits_clear (bits_in blocks) (hash key) (home_depth blocks key)) in
      subst (λ (cs : List Call). Trace did d cs (stored blocks key value mode) (Err f) d)
      (sym (input_is key value (Err f) is {X = List Call} (λ _. []) (home_calls blocks (hash key) ++ unless_refused (planned blocks key value mode) (change_calls blocks key value))))
      (sym (input_is key value (Err f) is (λ g. Err g) own), refl)

  module _ (allowed : Allowed key value) where
    pub calls_allowed : store_calls blocks key value mode ≡ home_calls blocks (hash key) ++ unless_refused (planned blocks key value mode) (change_calls blocks key value)
    unfolding store_calls
    calls_allowed = input_is key value (Ok tt) allowed {X = List Call} (λ _. []) (home_calls blocks (hash key) ++ unless_refused (planned blocks key value mode) (change_calls blocks key value))

    pub answer_allowed : stored blocks key value mode ≡ by_splits (planned blocks key value mode) (bits_clear (bits_in blocks) (hash key) (home_depth blocks key))
    unfolding stored
    answer_allowed = input_is key value (Ok tt) allowed (λ g. Err g) (by_splits (planned blocks key value mode) (bits_clear (bits_in blocks) (hash key) (home_depth blocks key)))

    module _ {S : Type 0} (did : S → Call → Result Unit Fault → S → Type 0) (d : S) where
      abbrev pub Stores : Result Unit Fault → S → Type 0
      Stores r e = Trace did d (store_calls blocks key value mode) (stored blocks key value mode) r e

      abbrev pub Homed : Result Unit Fault → S → Type 0
      Homed r e = Trace {X = Unit} did d (home_calls blocks (hash key)) (Ok tt) r e

      -- one of the first reads was refused
      pub home_refused : (e : S) (f : Fault) → Homed (Err f) e → Stores (Err f) e
      home_refused e f t =
          subst (λ (cs : List Call). Trace did d cs (stored blocks key value mode) (Err f) e) (sym calls_allowed)
          (trace_stop did (home_calls blocks (hash key)) (unless_refused (planned blocks key value mode) (change_calls blocks key value)) d e tt (stored blocks key value mode) f t)

      -- by the home page it is refused
      pub page_refused : (e : S) (f : Fault) → planned blocks key value mode ≡ Err f → Homed (Ok tt) e → Stores (Err f) e
      page_refused e f bad t =
          let rest : List Call = unless_refused (planned blocks key value mode) (change_calls blocks key value) in
          let none : rest ≡ [] = ap (λ (o : Result ℕ Fault). unless_refused o (change_calls blocks key value)) bad in
          let answer : Err f ≡ stored blocks key value mode =
          sym (answer_allowed ∙ ap (λ (o : Result ℕ Fault). by_splits o (bits_clear (bits_in blocks) (hash key) (home_depth blocks key))) bad) in
          subst (λ (cs : List Call). Trace did d cs (stored blocks key value mode) (Err f) e) (sym calls_allowed)
          (trace_then did (home_calls blocks (hash key)) rest d e e tt tt (stored blocks key value mode) (Err f) t
          (subst (λ (cs : List Call). Trace did e cs (stored blocks key value mode) (Err f) e) (sym none) (answer, refl)))

      -- the number of splits is known
      pub page_allows : (m e : S) (s : ℕ) (r : Result Unit Fault) → planned blocks key value mode ≡ Ok s → Homed (Ok tt) m
          → Trace did m (change_calls blocks key value s) (bits_clear (bits_in blocks) (hash key) (home_depth blocks key) s) r e
          → Stores r e
      page_allows m e s r good t u =
          let rest : List Call = unless_refused (planned blocks key value mode) (change_calls blocks key value) in
          let some : rest ≡ change_calls blocks key value s = ap (λ (o : Result ℕ Fault). unless_refused o (change_calls blocks key value)) good in
          let answer : bits_clear (bits_in blocks) (hash key) (home_depth blocks key) s ≡ stored blocks key value mode =
          sym (answer_allowed ∙ ap (λ (o : Result ℕ Fault). by_splits o (bits_clear (bits_in blocks) (hash key) (home_depth blocks key))) good) in
          subst (λ (cs : List Call). Trace did d cs (stored blocks key value mode) r e) (sym calls_allowed)
          (trace_then did (home_calls blocks (hash key)) rest d m e tt tt (stored blocks key value mode) r t
          (subst (λ (cs : List Call). Trace did m cs (stored blocks key value mode) r e) (sym some)
          (subst (λ (o : Result Unit Fault). Trace did m (change_calls blocks key value s) o r e) answer u)))
