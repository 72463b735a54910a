-- What is told of the pairs that a database holds.
use Rattle.std.specs.Prelude.{◌≡◌, ℕ, List, [], ◌∷◌, ⊤, Some, None, Ok, Err, Option, Result}
use Rattle.std.specs.Borrow.{Bor}
use Rattle.calls.specs.declared.Stepped.{Stepped}
use Rattle.calls.specs.declared.Stepped.TheVariants.{End, Pair}
use Rattle.contents.specs.Contents.{Contents, Position, held, remaining}
use Rattle.faults.specs.declared.Fault.{Fault}
use Rattle.listing.specs.declared.reading.Shown.{Shown}

-- the first of the pairs that remain at a position, the others of which remain at the next one; none exactly where none remains
abbrev pub ShowsPair : Contents → Position → Result (Option Shown) Fault → Type 0
ShowsPair c at (Ok (Some s)) = remaining c at ≡ (s.key.now, s.value.now) ∷ remaining c s.next
ShowsPair c at (Ok None) = remaining c at ≡ []
ShowsPair c at (Err f) = ⊤

-- the value that is held for a name; none exactly where none is
abbrev pub ShowsBytes : Contents → List ℕ → Result (Option (Bor (List ℕ))) Fault → Type 0
ShowsBytes c name (Ok (Some value)) = (spelled : List ℕ) × (held c name ≡ Some (spelled, value.now))
ShowsBytes c name (Ok None) = held c name ≡ None
ShowsBytes c name (Err f) = ⊤

-- The position after the pair that is shown, none at the end; a refusal stays that refusal. So a step answers it, and so it is shown.
abbrev pub after_step : Result Stepped Fault → Result (Option Position) Fault
after_step (Ok (Pair s)) = Ok (Some s.2)
after_step (Ok End) = Ok None
after_step (Err f) = Err f

abbrev pub after_shown : Result (Option Shown) Fault → Result (Option Position) Fault
after_shown (Ok (Some s)) = Ok (Some s.next)
after_shown (Ok None) = Ok None
after_shown (Err f) = Err f

-- an answer without what it shows: accepted, or refused, and by which refusal
abbrev pub accepted : {X : Type 0} → Result X Fault → Result Unit Fault
accepted (Ok _) = Ok tt
accepted (Err f) = Err f
