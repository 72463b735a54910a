-- What runs of fetches and walks over a database count, and what a run of stores leaves.
use Rattle.std.specs.Prelude.{◌≡◌, ◌⊎◌, ℕ, ◌/◌, Bool, true, false, List, [], ◌∷◌, length, take, drop, min, count_by, is_some, slice_index}
use Rattle.calls.specs.declared.Stepped.{Stepped}
use Rattle.calls.specs.declared.Stepped.TheVariants.{End, Pair}
use Rattle.contents.specs.Contents.{Contents, Position, held, remaining}
use Rattle.devices.specs.Meaning.{Meaning}
use Rattle.page_edits.specs.Edit.{dropped, with_pair}
use Rattle.pages.specs.Page.{Pair as Held}
use Rattle.slotted.specs.Image.{meaning_of}
use Rattle.std.specs.List.{fold}
use Rattle.std.specs.Simd.{first_chunks}
use Rattle.upkeep.specs.Holding.{Holding}

-- names stand in slots of 32 bytes: the length, the name, and what fills them up
abbrev pub slots_of : List ℕ → List (List ℕ)
slots_of names = first_chunks 32 (length names / 32) names

abbrev pub name_in : List ℕ → List ℕ
name_in slot = take (min (slice_index slot 0) 31) (drop 1 slot)

-- how many of the names are held
abbrev pub held_among : Contents → List (List ℕ) → ℕ
held_among c slots = count_by (λ slot. is_some (held c (name_in slot))) slots

-- how many pairs a walk from the start shows
abbrev pub pairs_held : Contents → ℕ
pairs_held c = length (remaining c (0, 0))

-- a count, or the largest number where a call was refused or there was no memory
abbrev pub Counts : ℕ → ℕ → Type 0
Counts n result = (result ≡ 18446744073709551615) ⊎ (result ≡ n)

-- a step shows one of the pairs that remain, or the end where none remains
abbrev pub ShowsRest : Contents → Position → Stepped → Type 0
ShowsRest c at (Pair s) = (pair : List ℕ × List ℕ) × (remaining c at ≡ pair ∷ remaining c s.2)
ShowsRest c at End = remaining c at ≡ []

-- the pairs once a name was stored with a value, and once each of them was
abbrev pub with_name : List ℕ → List Held → List ℕ → List Held
with_name value pairs name = with_pair (dropped name pairs) name value

abbrev pub with_names : List ℕ → List Held → List (List ℕ) → List Held
with_names value pairs slots = fold (λ ps slot. with_name value ps (name_in slot)) pairs slots

-- where the database on d holds some pairs, that on e holds them too; with a name stored; with each of the names stored
abbrev pub Brings : Meaning → Meaning → Type 0
Brings d e = (pairs : List Held) → Holding pairs d → Holding pairs e

abbrev pub Updates : Meaning → List ℕ → List ℕ → Meaning → Type 0
Updates d name value e = (pairs : List Held) → Holding pairs d → Holding (with_name value pairs name) e

abbrev pub Stores : Meaning → List (List ℕ) → List ℕ → Meaning → Type 0
Stores d slots value e = (pairs : List Held) → Holding pairs d → Holding (with_names value pairs slots) e

-- all was stored in the image, or the image stays
abbrev pub Stored : List ℕ → List (List ℕ) → List ℕ → Bool → List ℕ → Type 0
Stored image slots value true image' = Stores (meaning_of image) slots value (meaning_of image')
Stored image slots value false image' = image' ≡ image
