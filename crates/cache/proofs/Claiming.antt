-- A claim, and the frames that it frees.
use Rattle.std.proofs.Common.{◌≡◌, ℕ, suc, ◌+◌, ◌<◌, ◌≤◌, Bool, true, false, cond, eqb, ◌≢◌, List, [], ◌∷◌, length, drop, sym, refl, ap, ◌∙◌, subst, ap₂, add-one, arith, drop-cons}
use mathlib.Core.Path.{fun_ext}
use Rattle.cache.specs.After.{without}
use Rattle.cache.specs.Shown.{shown, cached}
use Rattle.cache.specs.Whole.{none, at}
use Rattle.cache.specs.declared.frames.Frame.{Frame}
use Rattle.devices.specs.Meaning.{Meaning, put}
use Rattle.devices.specs.Step.{Claimed}
use Rattle.std.proofs.lemmas.Bool.{eqb-true, ne_eqb}

without_by : (f : Frame) (q o : List Frame) (n k : ℕ) (b : List ℕ) (t : Bool) → eqb n f.number ≡ t → eqb k n ≡ false → ((c : List ℕ) → shown o k c ≡ shown q k c) → shown (cond t o (f ∷ o)) k b ≡ shown q k (cond (eqb k f.number) f.block b)
without_by f q o n k b true e h rest =
    let same : n ≡ f.number = eqb-true n f.number e in
    rest b ∙ ap (λ t. shown q k (cond t f.block b)) (sym (ap (eqb k) (sym same) ∙ h))
without_by f q o n k b false e h rest = rest (cond (eqb k f.number) f.block b)

shown_without : (q : List Frame) (n k : ℕ) (b : List ℕ) → eqb k n ≡ false → shown (without q n) k b ≡ shown q k b
shown_without [] n k b h = refl
shown_without (f ∷ q) n k b h = without_by f q (without q n) n k b (eqb n f.number) refl h (λ c. shown_without q n k c h)

gone_by : (f : Frame) (o : List Frame) (n : ℕ) (b : List ℕ) (t : Bool) → eqb n f.number ≡ t → ((c : List ℕ) → shown o n c ≡ c) → shown (cond t o (f ∷ o)) n b ≡ b
gone_by f o n b true e rest = rest b
gone_by f o n b false e rest = rest (cond (eqb n f.number) f.block b) ∙ ap (λ t. cond t f.block b) e

none_without : (q : List Frame) (n : ℕ) (b : List ℕ) → shown (without q n) n b ≡ b
none_without [] n b = refl
none_without (f ∷ q) n b = gone_by f (without q n) n b (eqb n f.number) refl (λ c. none_without q n c)

-- a new number shows what is below, as before
claim_block : (q : List Frame) (d e : Meaning) (n : ℕ) → d.held n ≡ false → e.held ≡ put d.held n true → e.block ≡ d.block → (cached (without q n) e).block ≡ (cached q d).block
claim_block q d e n un h b = fun_ext (λ k. ap₂ (λ (t : ℕ → Bool) (g : ℕ → List ℕ). cond (t k) (shown (without q n) k (g k)) (g k)) h b ∙ go k (eqb k n) refl)
  where
    go : (k : ℕ) (t : Bool) → eqb k n ≡ t → cond (cond (eqb k n) true (d.held k)) (shown (without q n) k (d.block k)) (d.block k) ≡ cond (d.held k) (shown q k (d.block k)) (d.block k)
    go k true e =
        let same : k ≡ n = eqb-true k n e in
        ap (λ t. cond (cond t true (d.held k)) (shown (without q n) k (d.block k)) (d.block k)) e
        ∙ ap (λ m. shown (without q m) k (d.block k)) (sym same)
        ∙ none_without q k (d.block k)
        ∙ sym (ap (λ t. cond t (shown q k (d.block k)) (d.block k)) (ap d.held same ∙ un))
    go k false e =
        ap (λ t. cond (cond t true (d.held k)) (shown (without q n) k (d.block k)) (d.block k)) e
        ∙ ap (λ x. cond (d.held k) x (d.block k)) (shown_without q n k (d.block k) e)

pub claimed_new : (q p : List Frame) (d e : Meaning) (n : ℕ) → d.held n ≡ false → p ≡ without q n → Claimed d n e → Claimed (cached q d) n (cached p e)
claimed_new q p d e n un s c =
    subst (λ (o : List Frame). Claimed (cached q d) n (cached o e)) (sym s)
    (record {
      stays = record { limit = c.stays.limit; layer = refl; spent = c.stays.spent; for_good = c.stays.for_good };
      range = c.range;
      old_held = c.old_held;
      old_left = c.old_left;
      new_room = c.new_room;
      new_held = c.new_held;
      new_left = c.new_left;
      block = claim_block q d e n un (c.new_held un) c.block;
      backing = c.backing;
    })

-- the next frame is kept, or left out
pub next_kept : (q : List Frame) (f : Frame) (i n : ℕ) → i < length q → f ≡ at q i → f.number ≢ n → without (drop i q) n ≡ f ∷ without (drop (i + 1) q) n
next_kept q f i n h is other =
    rw (add-one, drop-cons q i none h, ← is, ne_eqb n f.number (λ e. other (sym e)))

pub length_without : (q : List Frame) (n : ℕ) → length (without q n) ≤ length q
length_without [] n = omega arith
length_without (f ∷ q) n = by (eqb n f.number) (length_without q n)
  where
    by : (t : Bool) → length (without q n) ≤ length q → length (cond t (without q n) (f ∷ without q n)) ≤ suc (length q)
    by true h = omega arith
    by false h = omega arith
