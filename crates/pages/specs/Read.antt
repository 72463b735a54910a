-- What the functions on pages answer.
use Rattle.std.specs.Prelude.{◌≡◌, ℕ, ◌+◌, ◌-◌, ◌<◌, ◌≤◌, true, false, cond, List, ◌++◌, length, take, drop, Some, None, Ok, Err, Option, Result, ◌==◌, nat_le}
use Rattle.std.specs.Borrow.{Bor}
use Rattle.faults.specs.declared.Fault.{Fault}
use Rattle.faults.specs.Numbers.{numbers}
use Rattle.keys.specs.Same.{same}
use Rattle.pages.specs.Page.{pairs, pairs_of, key_of, val_of, key_at, val_at, key_end, look}

-- a place: offset and length
abbrev pub Place : Type 0
Place = ℕ × ℕ

abbrev pub bytes_at : List ℕ → Place → List ℕ
bytes_at page p = take p.1 (drop p.0 page)

-- where the key and the value of pair k lie
abbrev pub key_place : List ℕ → ℕ → Place
key_place page k = (key_at page k, key_end page k - key_at page k)

abbrev pub val_place : List ℕ → ℕ → Place
val_place page k = (val_at page k, key_at page k - val_at page k)

-- pair k of a page: there exactly when k is below the number of pairs
abbrev pub PairAt : List ℕ → ℕ → Option (Place × Place) → Type 0
PairAt page k None = pairs page ≤ k
PairAt page k (Some p) = (k < pairs page) × (p ≡ (key_place page k, val_place page k))

-- the same pair, as the bytes of its key and its value
abbrev pub PartsAt : List ℕ → ℕ → Option (Bor (List ℕ) × Bor (List ℕ)) → Type 0
PartsAt page k None = pairs page ≤ k
PartsAt page k (Some p) = (k < pairs page) × (p.0.now ≡ key_of page k) × (p.1.now ≡ val_of page k)

-- which of the first m pairs has the key
abbrev pub Which : List ℕ → ℕ → List ℕ → Option ℕ → Type 0
Which page m key None = (i : ℕ) → i < m → same (key_of page i) key ≡ false
Which page m key (Some k) = (k < m) × (same (key_of page k) key ≡ true)

-- the same pair, as its bytes lie, the value first, and how many of them are the value's
abbrev pub LiesAt : List ℕ → ℕ → Option (Bor (List ℕ) × ℕ) → Type 0
LiesAt page k None = pairs page ≤ k
LiesAt page k (Some p) = (k < pairs page) × (p.0.now ≡ val_of page k ++ key_of page k) × (p.1 ≡ length (val_of page k))

-- a search for a key: it ends at the value of the pair that has the key, or nowhere exactly when no pair has it
abbrev pub Found : List ℕ → List ℕ → Option Place → Type 0
Found page key None = look key (pairs_of page) ≡ None
Found page key (Some p) = (k : ℕ) × (k < pairs page) × (p ≡ val_place page k) × (look key (pairs_of page) ≡ Some (key_of page k, bytes_at page p))

-- the value of a key: that of the pair that has it; none exactly when no pair has
abbrev pub ValueOf : List ℕ → List ℕ → Option (Bor (List ℕ)) → Type 0
ValueOf page key None = look key (pairs_of page) ≡ None
ValueOf page key (Some value) = (spelled : List ℕ) × (look key (pairs_of page) ≡ Some (spelled, value.now))

-- the part of a page at a place: refused 3 where the page is not 1,024 bytes, then 4 where the place reaches outside
abbrev pub viewed : List ℕ → Place → Result (List ℕ) (ℕ × ℕ × ℕ)
viewed page p =
    cond (length page == 1024) (cond (nat_le (p.0 + p.1) 1024) (Ok (bytes_at page p)) (Err (4, 0, 0))) (Err (3, 0, 0))

-- an answer that is a part of a slice, by its bytes, with a refusal as three numbers
abbrev pub told_part : Result (Bor (List ℕ)) Fault → Result (List ℕ) (ℕ × ℕ × ℕ)
told_part (Ok part) = Ok part.now
told_part (Err f) = Err (numbers f)
