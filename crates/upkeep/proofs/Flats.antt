-- The calls of a store's splits as writes, one after another: which numbers they claim, and what they write.
use Rattle.std.proofs.Common.{◌≡◌, ℕ, zero, suc, ◌+◌, ◌-◌, ◌*◌, ◌/◌, ◌^◌, ◌<◌, ◌≤◌, Bool, true, min, find, flat_map, map, List, [], ◌∷◌, ◌++◌, Option, Some, None, Ok, Err, Result, refl, sym, ap, ap₂, ◌∙◌, subst, ⊎_elim, add-zero, pow-suc, pow_mono, arith}
use Rattle.calls.specs.Store.{bits_clear, claims, split_claims, split_writes, with_bit}
use Rattle.contents.specs.Blocks.{Blocks}
use Rattle.devices.specs.Meaning.{Meaning, put}
use Rattle.devices.specs.Step.{Call, Step, claim, fault, flush, read, write}
use Rattle.devices.specs.Trace.{Trace}
use Rattle.directory.proofs.Lookups.{node_lt}
use Rattle.directory.proofs.Low.{low_lt}
use Rattle.directory.specs.Tree.{NoneUnder, low, node}
use Rattle.faults.specs.declared.Fault.{Fault}
use Rattle.faults.specs.declared.Layer.TheVariants.{Database}
use Rattle.faults.specs.declared.Refusal.TheVariants.{BitBelow}
use Rattle.page_edits.specs.Edit.{falling}
use Rattle.page_edits.specs.Write.{Fits, written}
use Rattle.pages.specs.Page.{Pair}
use Rattle.splits.proofs.Rooms.{fits_falling}
use Rattle.splits.proofs.Splits.{half, put_here, put_other}
use Rattle.splits.specs.Plan.{MaySplit}
use Rattle.splits.specs.Writes.{splits, to_bit, to_page}
use Rattle.std.proofs.lemmas.Bool.{cases_eq}
use Rattle.std.specs.List.{range_with_len}
use Rattle.upkeep.proofs.Quiet.{AllQuiet, claimed_held, quiet_trace}
use Rattle.upkeep.proofs.Writes.{AllHeld, AllMay, May, after_write, write_calls}

-- claims

abbrev pub AllClaimed : (ℕ → Bool) → List Call → Type 0
AllClaimed held [] = Unit
AllClaimed held (claim n ∷ cs) = (held n ≡ true) × AllClaimed held cs
AllClaimed held (read n size ∷ cs) = AllClaimed held cs
AllClaimed held (write n bytes ∷ cs) = AllClaimed held cs
AllClaimed held (flush ∷ cs) = AllClaimed held cs

-- numbers whose claims were accepted are held
pub claims_held : (cs : List Call) (d m : Meaning) → AllQuiet cs → Trace {X = Unit} Step d cs (Ok tt) (Ok tt) m → AllClaimed m.held cs
claims_held [] d m q t = tt
claims_held (claim n ∷ cs) d m q t = ((quiet_trace {X = Unit} cs t.0 m (Ok tt) (Ok tt) q.1 t.2).held n (claimed_held d t.0 n t.1), claims_held cs t.0 m q.1 t.2)
claims_held (read n size ∷ cs) d m q t = claims_held cs t.0 m q.1 t.2
claims_held (write n bytes ∷ cs) d m q t = absurd q.0
claims_held (flush ∷ cs) d m q t = claims_held cs t.0 m q.1 t.2

splits_quiet : (h t s : ℕ) → AllQuiet (split_claims h t s)
splits_quiet h t zero = tt
splits_quiet h t (suc s) = (tt, (tt, splits_quiet h (suc t) s))

pub claims_quiet : (h t s : ℕ) → AllQuiet (claims h t s)
claims_quiet h t s = (tt, splits_quiet h t s)

-- writes

-- of the blocks, the writes of splits have only the directory's
abbrev pub SameDirectory : Blocks → Blocks → Type 0
SameDirectory a b = (n : ℕ) → n < 4 → a n ≡ b n

module _ (pairs : List Pair) (h : ℕ) where
  -- one split, at depth t, of blocks b whose directory is that of a
  module _ (t : ℕ) (a b : Blocks) (deep : t < 15) (same : SameDirectory a b) where
    abbrev at : ℕ
    at = node h t / 8192

    abbrev first : Blocks
    first = after_write b (to_page (low h t + 2 ^ t) (falling (suc t) (low h t + 2 ^ t) pairs))

    abbrev second : Blocks
    second = after_write first (to_bit (node h t))

    abbrev third : Blocks
    third = after_write second (to_page (low h t) (falling (suc t) (low h t) pairs))

    same_first : SameDirectory a first
    same_first n k = same n k ∙ sym (put_other b (4 + (low h t + 2 ^ t)) (written (falling (suc t) (low h t + 2 ^ t) pairs)) n (λ e. omega arith))

    same_bit : with_bit (a at) (node h t) ≡ with_bit (first at) (node h t)
    same_bit = ap (λ (block : List ℕ). with_bit block (node h t)) (same_first at (omega (arith, node_lt h t deep)))

    same_third : SameDirectory (put a at (with_bit (a at) (node h t))) third
    same_third n k =
        ⊎_elim
        (λ (e : n ≡ at). put_here a at (with_bit (a at) (node h t)) n e ∙ same_bit ∙ sym (put_here first at (with_bit (first at) (node h t)) n e))
        (λ (e : n ≡ at → ⊥).
        put_other a at (with_bit (a at) (node h t)) n e ∙ same_first n k ∙ sym (put_other first at (with_bit (first at) (node h t)) n e))
        (cases_eq n at)
        ∙ sym (put_other second (4 + low h t) (written (falling (suc t) (low h t) pairs)) n (λ e. omega arith))

  pub flat : (s t p : ℕ) (ps : List Pair) (a b : Blocks) → t + s ≤ 15 → SameDirectory a b
      → split_writes a pairs h t s ++ write (4 + p) (written ps) ∷ [] ≡ write_calls b (splits pairs h t s ++ to_page p ps ∷ [])
  flat zero t p ps a b l same = refl
  flat (suc s) t p ps a b l same =
      ap₂
      (λ (block : List ℕ) (rest : List Call).
      write (4 + (low h t + 2 ^ t)) (written (falling (suc t) (low h t + 2 ^ t) pairs))
      ∷ write (node h t / 8192) block
      ∷ write (4 + low h t) (written (falling (suc t) (low h t) pairs))
      ∷ rest)
      (same_bit t a b (omega arith) same)
      (flat s (suc t) p ps (put a (node h t / 8192) (with_bit (a (node h t / 8192)) (node h t))) (third t a b (omega arith) same) (omega arith) (same_third t a b (omega arith) same))

  -- the two pages of a split are of the database
  lower_page : (t : ℕ) → t < 15 → low h t < 32768
  lower_page t l = let m = pow_mono {j = 15} l in omega (arith, low_lt h t)

  upper_page : (t : ℕ) → t < 15 → low h t + 2 ^ t < 32768
  upper_page t l = let m = pow_mono {i = suc t} {j = 15} l in omega (arith, low_lt h t, pow-suc 2 t)

  -- the writes may be made
  pub splits_may : Fits pairs → (s t p : ℕ) (ps : List Pair) → May (to_page p ps) → t + s ≤ 15 → AllMay (splits pairs h t s ++ to_page p ps ∷ [])
  splits_may fits zero t p ps f l = (f, tt)
  splits_may fits (suc s) t p ps f l = (
    (upper_page t (omega arith), fits_falling (suc t) (low h t + 2 ^ t) pairs fits),
    (node_lt h t (omega arith), ((lower_page t (omega arith), fits_falling (suc t) (low h t) pairs fits), splits_may fits s (suc t) p ps f (omega arith))),
  )

  -- and they are to numbers that were claimed
  pub splits_held : (held : ℕ → Bool) (s t : ℕ) (ps : List Pair) → held (4 + low h t) ≡ true → AllClaimed held (split_claims h t s)
      → AllHeld held (splits pairs h t s ++ to_page (low h (t + s)) ps ∷ [])
  splits_held held zero t ps home c = (subst (λ (k : ℕ). held (4 + low h k) ≡ true) (sym (add-zero t)) home, tt)
  splits_held held (suc s) t ps home c =
      let e : suc t + s ≡ t + suc s = omega arith in
      let next : held (4 + low h (suc t)) ≡ true
      = ⊎_elim (λ q. ap (λ (k : ℕ). held (4 + k)) q ∙ home) (λ q. ap (λ (k : ℕ). held (4 + k)) q ∙ c.0) (half h t) in
      let rest = subst (λ (k : ℕ). AllHeld held (splits pairs h (suc t) s ++ to_page (low h k) ps ∷ [])) e (splits_held held s (suc t) ps next c.1.1) in
      (c.0, (c.1.0, (home, rest)))

-- no set bit is found under those that splits set

none_under : (bits : ℕ → Bool) (h n t : ℕ) → ((j : ℕ) → j < n → NoneUnder bits (node h (t + j)))
    → find bits (flat_map (λ i. (2 * i + 1) ∷ (2 * i + 2) ∷ []) (map (node h) (range_with_len t n))) ≡ None
none_under bits h zero t none = refl
none_under bits h (suc n) t none =
    let here = subst (λ (k : ℕ). NoneUnder bits (node h k)) (add-zero t) (none 0 (omega arith)) in
    rw (here.0, here.1)
    (none_under bits h n (t + 1)
    (λ j l.
    let e : t + suc j ≡ t + 1 + j = omega arith in
    subst (λ (k : ℕ). NoneUnder bits (node h k)) e (none (suc j) (omega arith))))

pub clear_under : (bits : ℕ → Bool) (h t s : ℕ) → MaySplit bits h t s → bits_clear bits h t s ≡ Ok tt
clear_under bits h t s may =
    ap (λ (o : Option ℕ). elim o as (λ _. Result Unit Fault) [ Some i ↦ Err (fault BitBelow Database ((i - 1) / 2 / 8192)) | None ↦ Ok tt ])
    (none_under bits h (min s (14 - t)) t (λ j l. may.clear j (omega arith) (omega arith)))
