-- What fetch and get answer where no read is refused, what they read, and what they leave in the caller's buffer.
use Rattle.std.specs.Prelude.{◌≡◌, ℕ, ◌+◌, cond, List, [], length, Some, None, Ok, Err, Option, Result, ◌==◌}
use Rattle.contents.specs.Blocks.{Blocks, bits_in, page_in}
use Rattle.contents.specs.Test.{is_good, place_of}
use Rattle.devices.specs.Step.{Call, fault}
use Rattle.directory.specs.Tree.{page_of}
use Rattle.faults.specs.declared.Fault.{Fault}
use Rattle.faults.specs.declared.Layer.TheVariants.{Database}
use Rattle.faults.specs.declared.Refusal.TheVariants.{EmptyKey, NoCode, NotABlock}
use Rattle.keys.specs.Hash.{hash}
use Rattle.lookup.specs.Pages.{bad_page}
use Rattle.lookup.specs.Reads.{home_calls}
use Rattle.pages.specs.Read.{Place, bytes_at}

-- the page at which the lookup of a key's hash ends
abbrev pub home_page : Blocks → List ℕ → ℕ
home_page blocks key = page_of (bits_in blocks) (hash key)

abbrev pub home_bytes : Blocks → List ℕ → List ℕ
home_bytes blocks key = page_in blocks (home_page blocks key)

-- the input is refused 1 for an empty key, and then 3 for a buffer that is not a page
abbrev pub with_input : {X : Type 0} → List ℕ → ℕ → (Fault → X) → X → X
with_input key size refused accepted =
    cond (length key == 0) (refused (fault EmptyKey Database 0)) (cond (size == 1024) accepted (refused (fault NotABlock Database 0)))

-- a lookup and the home page; nothing where the input is refused
abbrev pub fetch_calls : Blocks → List ℕ → ℕ → List Call
fetch_calls blocks key size = with_input key size (λ _. []) (home_calls blocks (hash key))

-- the block of the home page, and where the value of the key lies in it, unless that page is not good
abbrev pub found : Blocks → List ℕ → ℕ → Result (ℕ × Option Place) Fault
found blocks key size =
    with_input key size (λ f. Err f)
    (cond (is_good (home_bytes blocks key)) (Ok (4 + home_page blocks key, place_of (home_bytes blocks key) key)) (Err (bad_page (4 + home_page blocks key))))

abbrev pub place_alone : Result (ℕ × Option Place) Fault → Result (Option Place) Fault
place_alone (Ok home) = Ok home.1
place_alone (Err f) = Err f

abbrev pub fetched : Blocks → List ℕ → ℕ → Result (Option Place) Fault
fetched blocks key size = place_alone (found blocks key size)

-- the bytes at the place decoded; bytes that are no code are refused 13, naming their block
abbrev pub record_at : {R : Type 0} → (List ℕ → Option R) → List ℕ → ℕ → Place → Result R Fault
record_at decoded page n place = elim (decoded (bytes_at page place)) [ Some x ↦ Ok x | None ↦ Err (fault NoCode Database n) ]

abbrev pub decoding : {R : Type 0} → (List ℕ → Option R) → List ℕ → Result (ℕ × Option Place) Fault → Result (Option R) Fault
decoding decoded page (Err f) = Err f
decoding decoded page (Ok (n, None)) = Ok None
decoding decoded page (Ok (n, Some place)) = elim (record_at decoded page n place) [ Ok x ↦ Ok (Some x) | Err f ↦ Err f ]

-- the record that the key's value is the code of
abbrev pub got : {R : Type 0} → (List ℕ → Option R) → Blocks → List ℕ → ℕ → Result (Option R) Fault
got decoded blocks key size = decoding decoded (home_bytes blocks key) (found blocks key size)

-- the caller's buffer: after an accepted call the page that was read last, after a refusal what was there
abbrev pub BufferHas : {X : Type 0} → Result X Fault → List ℕ → List ℕ → List ℕ → Type 0
BufferHas (Ok _) page old new = new ≡ page
BufferHas (Err _) page old new = new ≡ old
