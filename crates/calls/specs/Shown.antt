-- What the answers show of the pairs that the database holds.
use Rattle.std.specs.Prelude.{◌≡◌, ℕ, List, [], ◌∷◌, ⊤, Some, None, Ok, Err, Option, Result}
use Rattle.contents.specs.Contents.{Contents, Position, held, remaining}
use Rattle.calls.specs.declared.Stepped.{Stepped}
use Rattle.calls.specs.declared.Stepped.TheVariants.{End, Pair}
use Rattle.faults.specs.declared.Fault.{Fault}
use Rattle.pages.specs.Read.{Place, bytes_at}

-- a key is held with this value
abbrev pub HoldsValue : Contents → List ℕ → List ℕ → Type 0
HoldsValue c key value = (spelled : List ℕ) × (held c key ≡ Some (spelled, value))

-- an accepted fetch: the place, in the caller's buffer, of the value that is held for the key; none exactly where none is
abbrev pub ShowsValue : Contents → List ℕ → Result (Option Place) Fault → List ℕ → Type 0
ShowsValue c key (Ok (Some place)) page = HoldsValue c key (bytes_at page place)
ShowsValue c key (Ok None) page = held c key ≡ None
ShowsValue c key (Err f) page = ⊤

-- an accepted get: the record that the value held for the key is the code of; none exactly where none is held
abbrev pub ShowsRecord : {R : Type 0} → (List ℕ → Option R) → Contents → List ℕ → Result (Option R) Fault → Type 0
ShowsRecord decoded c key (Ok (Some x)) = (value : List ℕ) × HoldsValue c key value × (decoded value ≡ Some x)
ShowsRecord decoded c key (Ok None) = held c key ≡ None
ShowsRecord decoded c key (Err f) = ⊤

-- an accepted step: the first of the pairs that remain, the others of which remain from the next position on; or the end, where none remains
abbrev pub ShowsNext : Contents → Position → Result Stepped Fault → List ℕ → Type 0
ShowsNext c at (Ok (Pair s)) page = remaining c at ≡ (bytes_at page s.0, bytes_at page s.1) ∷ remaining c s.2
ShowsNext c at (Ok End) page = remaining c at ≡ []
ShowsNext c at (Err f) page = ⊤
