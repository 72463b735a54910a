-- What bytes decode to.
use Rattle.std.specs.Prelude.{◌≡◌, ◌≢◌, ℕ, List, Some, None, Option}

-- the record that they are the code of, and none exactly where they are the code of no record
pub record Decodes {R : Type 0} (code : R → List ℕ) (fits : R → Type 0) (bytes : List ℕ) (answer : Option R) : Type 0 where
  pub coded : (x : R) → fits x → code x ≡ bytes → answer ≡ Some x
  pub only : (x : R) → answer ≡ Some x → fits x × (code x ≡ bytes)
  pub none : ((x : R) → fits x → code x ≢ bytes) → answer ≡ None
