-- Where the pairs of a page lie, and how one turn of the check goes on.
use Rattle.std.proofs.Common.{◌≡◌, ℕ, zero, suc, ◌+◌, ◌*◌, ◌%◌, ◌<◌, ◌≤◌, Bool, true, false, List, length, get_or, set, replicate, Some, None, Option, MatchOption, is_some, sym, refl, ap, ◌∙◌, subst, ⊎_elim, add-one, arith}
use lib.ListN.{length-replicate}
use Rattle.keys.proofs.Sames.{laws}
use Rattle.keys.specs.Print.{print}
use Rattle.keys.specs.Same.{same}
use Rattle.pages.specs.Page.{Apart, Bytes, Good, Laid, count, key_at, key_end, key_of, pairs, val_at}
use Rattle.pages.specs.Read.{Which}
use Rattle.std.proofs.lemmas.List.{get_or-set_same, get_or-set_other}
use Rattle.std.proofs.lemmas.Bool.{cases_Bool, cases_eq, false_from_ne_true}
use Rattle.std.specs.List.{between}

pub end_more : (page : List ℕ) (k : ℕ) → key_end page (k + 1) ≡ val_at page k
end_more page k = ap (key_end page) (add-one k)

-- the pairs that are laid lie within the page
pub end_within : (page : List ℕ) (m : ℕ) → Laid page m → (k : ℕ) → k ≤ m → key_end page k ≤ 1024
end_within page m laid zero h = omega arith
end_within page m laid (suc k) h = omega (arith, end_within page m laid k (omega arith), laid k (omega arith))

-- the offsets of a pair that is laid
pub offsets_within : (page : List ℕ) (m : ℕ) → Laid page m → (k : ℕ) → k < m → (val_at page k ≤ key_at page k) × (key_at page k ≤ key_end page k) × (key_end page k ≤ 1024)
offsets_within page m laid k h = let l = laid k h in (l.1, omega arith, end_within page m laid k (omega arith))

pub fewer : (page : List ℕ) (m n : ℕ) → m ≤ n → Laid page n → Laid page m
fewer page m n le laid k h = laid k (omega arith)

-- the part that the code cut out is the key
pub key_is : (page : List ℕ) (k at end : ℕ) → at ≡ key_at page k → end ≡ key_end page k → between at end page ≡ key_of page k
key_is page k at end p q = cc

pub not_true : (b : Bool) → (b ≡ true → ⊥) → b ≡ false
not_true b ne = ⊎_elim (λ (t : b ≡ true). absurd (ne t)) (λ (f : b ≡ false). f) (cases_Bool b)

pub not_both : (b : Bool) → b ≡ true → b ≡ false → ⊥
not_both b t f = let z : ◌≡◌ {A = Bool} true false = sym t ∙ f in let o : ◌≡◌ {A = ℕ} 0 1 = cc in omega arith

-- one more key that differs from those before it
pub apart_more : (page : List ℕ) (k : ℕ) → Apart page k → ((i : ℕ) → i < k → same (key_of page i) (key_of page k) ≡ false) → Apart page (k + 1)
apart_more page k all fresh i j h =
    ⊎_elim
    (λ (e : j ≡ k). subst (λ (m : ℕ). same (key_of page i) (key_of page m) ≡ false) (sym e) (fresh i (omega arith)))
    (λ (ne : j ≡ k → ⊥). all i j (omega arith, omega arith))
    (cases_eq j k)

-- a table of marks: what is marked stays marked
pub stays_marked : (xs : List Bool) (f j : ℕ) → f < length xs → get_or xs j false ≡ true → get_or (set xs f true) j false ≡ true
stays_marked xs f j lt h =
    ⊎_elim
    (λ (e : j ≡ f). subst (λ (m : ℕ). get_or (set xs f true) m false ≡ true) (sym e) (get_or-set_same xs f true false lt))
    (λ (ne : j ≡ f → ⊥). get_or-set_other xs f j true false ne ∙ h)
    (cases_eq j f)

pub now_marked : (xs : List Bool) (f j : ℕ) → f ≡ j → f < length xs → get_or (set xs f true) j false ≡ true
now_marked xs f j e lt = subst (λ (m : ℕ). get_or (set xs f true) m false ≡ true) e (get_or-set_same xs f true false lt)

-- a key whose print was not seen differs from those before it
pub unseen : (page : List ℕ) (seen : List Bool) (i k f : ℕ) → f ≡ print (key_of page k) → get_or seen (print (key_of page i)) false ≡ true → get_or seen f false ≡ false → same (key_of page i) (key_of page k) ≡ false
unseen page seen i k f p m z =
    false_from_ne_true _
    (λ t.
    let q : print (key_of page i) ≡ f = laws.printed (key_of page i) (key_of page k) t ∙ sym p in
    let seen_there : get_or seen f false ≡ true = rw (← q) m in cc)

-- the first of the numbers below m whose pair has the key
pub which_found : (page : List ℕ) (m : ℕ) (key : List ℕ) (r : Option ℕ)
    → MatchOption r ((k : ℕ) → 0 ≤ k → k < m → same (key_of page k) key ≡ false) (λ i. (0 ≤ i) × (i < m) × (same (key_of page i) key ≡ true) × ((k : ℕ) → 0 ≤ k → k < i → same (key_of page k) key ≡ false))
    → Which page m key r
which_found page m key None h = λ i lt. h i (omega arith) lt
which_found page m key (Some k) h = (h.1, h.2)

-- a key that no pair has is the key of none of them
pub none_among : (page : List ℕ) (m : ℕ) (key : List ℕ) (o : Option ℕ) → Which page m key o → is_some o ≡ false → (i : ℕ) → i < m → same (key_of page i) key ≡ false
none_among page m key None h e = h
none_among page m key (Some k) h e = absurd (cc)

pub good_from : (page : List ℕ) (m : ℕ) → m ≡ pairs page → length page ≡ 1024 → count page % 2 ≡ 0 → count page ≤ 510 → Laid page m → Apart page m → 2 * (count page + 1) ≤ key_end page m → Good page
good_from page m e whole even few laid apart room = record {
  whole = whole;
  even = even;
  few = few;
  laid = fewer page (pairs page) m (omega arith) laid;
  room = rw (← e) room;
  apart = λ i j h. apart i j (h.0, omega arith);
}

-- the blank page
zeros : (n i : ℕ) → get_or (replicate {A = ℕ} n 0) i 0 ≡ 0
zeros zero i = refl
zeros (suc n) zero = refl
zeros (suc n) (suc i) = zeros n i

pub blank_bytes : (page : List ℕ) → page ≡ replicate 1024 0 → Bytes page
blank_bytes page e i = let z : get_or page i 0 ≡ 0 = ap (λ (s : List ℕ). get_or s i 0) e ∙ zeros 1024 i in omega arith

pub blank_good : (page : List ℕ) → page ≡ replicate 1024 0 → Good page
blank_good page e =
    let a : get_or page 0 0 ≡ 0 = ap (λ (s : List ℕ). get_or s 0 0) e in
    let b : get_or page 1 0 ≡ 0 = ap (λ (s : List ℕ). get_or s 1 0) e in
    let n : count page ≡ 0 = omega arith in
    let z : pairs page ≡ 0 = omega arith in
    record {
      whole = ap length e ∙ length-replicate {A = ℕ} 1024 0;
      even = omega arith;
      few = omega arith;
      laid = λ k h. absurd (omega arith);
      room = let r : key_end page (pairs page) ≡ 1024 = ap (key_end page) z in omega arith;
      apart = λ i j h. absurd (omega arith);
    }
