-- A claim through a window.
use Rattle.std.proofs.Common.{◌≡◌, ℕ, ◌+◌, ◌-◌, ◌<◌, min, Bool, true, false, cond, eqb, ltb, List, Ok, Err, Result, sym, refl, ap, ◌∙◌, ⊎_elim, arith}
use mathlib.Core.Path.{fun_ext}
use Rattle.devices.proofs.Traces.{last_call}
use Rattle.devices.specs.Meaning.{Meaning, put}
use Rattle.devices.specs.Step.{Claimed, Failed, Kept, NotClaimed, Stays, Step, claim}
use Rattle.devices.specs.Trace.{Account, Trace}
use Rattle.faults.specs.declared.Fault.{Fault}
use Rattle.std.proofs.lemmas.Bool.{cases_eq, eq-eqb, ne_eqb, lt-ltb}
use Rattle.window.specs.Part.{answered, asked, held_in, reach, seen}

module _ (base long : ℕ) (d e : Meaning) where
  stays : Stays d e → Stays (seen base long d) (seen base long e)
  stays s = record {
    limit = ap (λ (l : ℕ). min long (l - base)) s.limit;
    layer = refl;
    spent = ap {B = ℕ → Fault} (λ (f : ℕ → Fault). λ (n : ℕ). f (base + n)) s.spent;
    for_good = s.for_good;
  }

  same_held : e.limit ≡ d.limit → e.held ≡ d.held → held_in base long e ≡ held_in base long d
  same_held l h =
      ap {B = ℕ → Bool} (λ (m : ℕ). λ (n : ℕ). cond (ltb n (min long (m - base))) (e.held (base + n)) false) l
      ∙ ap {B = ℕ → Bool} (λ (f : ℕ → Bool). λ (n : ℕ). cond (ltb n (reach base long d)) (f (base + n)) false) h

  same_block : e.block ≡ d.block → (seen base long e).block ≡ (seen base long d).block
  same_block h = ap {B = ℕ → List ℕ} (λ (f : ℕ → List ℕ). λ (n : ℕ). f (base + n)) h

  same_backing : e.backing ≡ d.backing → (seen base long e).backing ≡ (seen base long d).backing
  same_backing h = ap {B = ℕ → List ℕ} (λ (f : ℕ → List ℕ). λ (n : ℕ). f (base + n)) h

  pub keeps : Kept d e → Kept (seen base long d) (seen base long e)
  keeps k = record {
    stays = stays k.stays;
    held = same_held k.stays.limit k.held;
    left = k.left;
    block = same_block k.block;
  }

  module _ (n : ℕ) (lt : n < reach base long d) where
    inside : base + n < d.limit
    inside = omega arith

    held_is : held_in base long d n ≡ d.held (base + n)
    held_is = ap (λ (b : Bool). cond b (d.held (base + n)) false) (lt-ltb n (reach base long d) lt)

    new_held : e.limit ≡ d.limit → e.held ≡ put d.held (base + n) true → held_in base long e ≡ put (held_in base long d) n true
    new_held l h =
        ap {B = ℕ → Bool} (λ (m : ℕ). λ (k : ℕ). cond (ltb k (min long (m - base))) (e.held (base + k)) false) l
        ∙ ap {B = ℕ → Bool} (λ (f : ℕ → Bool). λ (k : ℕ). cond (ltb k (reach base long d)) (f (base + k)) false) h
        ∙ fun_ext (λ k.
        ⊎_elim
        (λ (q : k ≡ n).
        let a : eqb k n ≡ true = eq-eqb k n q in
        let b : eqb (base + k) (base + n) ≡ true = eq-eqb (base + k) (base + n) (omega arith) in
        let l : ltb k (reach base long d) ≡ true = lt-ltb k (reach base long d) (omega arith) in
        rw (a, b, l))
        (λ (q : k ≡ n → ⊥).
        let a : eqb k n ≡ false = ne_eqb k n q in
        let b : eqb (base + k) (base + n) ≡ false = ne_eqb (base + k) (base + n) (λ z. q (omega arith)) in
        rw (a, b))
        (cases_eq k n))

    claimed : Claimed d (base + n) e → Claimed (seen base long d) n (seen base long e)
    claimed s = record {
      stays = stays s.stays;
      range = lt;
      old_held = λ h. same_held s.stays.limit (s.old_held (sym held_is ∙ h));
      old_left = λ h. s.old_left (sym held_is ∙ h);
      new_room = λ h. s.new_room (sym held_is ∙ h);
      new_held = λ h. new_held s.stays.limit (s.new_held (sym held_is ∙ h));
      new_left = λ h. s.new_left (sym held_is ∙ h);
      block = same_block s.block;
      backing = same_backing s.backing;
    }

    not_claimed : (f : Fault) → NotClaimed d (base + n) f e → NotClaimed (seen base long d) n f (seen base long e)
    not_claimed f s = record {
      range = λ le. absurd (omega arith);
      spent = λ l h z. s.spent inside (sym held_is ∙ h) z;
      old = λ l h. failed (s.old inside (sym held_is ∙ h));
      new = λ l h z. failed (s.new inside (sym held_is ∙ h) z);
    }
      where
        failed : Failed f e → Failed f (seen base long e)
        failed b = record { refusal = b.refusal; layer = b.layer; out = b.out }

    pub through : (r : Result Unit Fault) → Step d (claim (base + n)) r e → Step (seen base long d) (claim n) r (seen base long e)
    through (Ok _) s = claimed s
    through (Err f) s = (keeps s.0, same_backing s.1, not_claimed f s.2)

-- the one call that a claim asks below
pub one_claim : {S : Type 0} (did : Account S) (base long : ℕ) (d : Meaning) (s t : S) (n : ℕ) (r : Result Unit Fault) → n < reach base long d → did s (claim (base + n)) r t → Trace did s (asked base long d (claim n)) (answered base long d (claim n)) r t
one_claim did base long d s t n r lt made = rw (lt-ltb n (reach base long d) lt) (last_call did (claim (base + n)) s t r made)
