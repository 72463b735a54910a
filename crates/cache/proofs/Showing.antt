-- What a cache shows.
use Rattle.std.proofs.Common.{◌≡◌, ℕ, zero, suc, ◌<◌, Bool, true, false, cond, eqb, List, [], ◌∷◌, ◌++◌, length, set, Some, None, Option, sym, refl, ap, ◌∙◌, ap₂, arith}
use mathlib.Core.Path.{fun_ext}
use Rattle.cache.specs.InUse.{Newest}
use Rattle.cache.specs.Shown.{shown, cached, Shows}
use Rattle.cache.specs.Whole.{at}
use Rattle.cache.specs.declared.frames.Frame.{Frame}
use Rattle.devices.specs.Meaning.{Meaning, put, Sound}
use Rattle.devices.specs.Step.{Kept}
use Rattle.std.proofs.lemmas.Bool.{eqb-true, eq-eqb, ne_eqb, both_ways}

pub shown_none : (q : List Frame) (n : ℕ) (b : List ℕ) → Newest q n None → shown q n b ≡ b
shown_none [] n b h = refl
shown_none (f ∷ q) n b h =
    let e : eqb n f.number ≡ false = ne_eqb n f.number (λ e. h 0 (omega arith) (sym e)) in
    ap (λ t. shown q n (cond t f.block b)) e ∙ shown_none q n b (λ j l e. h (suc j) (omega arith) e)

pub shown_more : (q : List Frame) (f : Frame) (k : ℕ) (b : List ℕ) → shown (q ++ f ∷ []) k b ≡ cond (eqb k f.number) f.block (shown q k b)
shown_more [] f k b = refl
shown_more (g ∷ q) f k b = shown_more q f k (cond (eqb k g.number) g.block b)

pub shown_set : (q : List Frame) (n i k : ℕ) (bytes b : List ℕ) → Newest q n (Some i) → shown (set q i (record { number = n; block = bytes })) k b ≡ cond (eqb k n) bytes (shown q k b)
shown_set [] n i k bytes b h = absurd (omega arith)
shown_set (f ∷ q) n zero k bytes b h = go (eqb k n) refl
  where
    go : (t : Bool) → eqb k n ≡ t → shown q k (cond (eqb k n) bytes b) ≡ cond (eqb k n) bytes (shown q k (cond (eqb k f.number) f.block b))
    go true e =
        let same : k ≡ n = eqb-true k n e in
        ap (λ t. shown q k (cond t bytes b)) e
        ∙ shown_none q k bytes (λ j l g. h.2 (suc j) (omega arith) (omega arith) (g ∙ same))
        ∙ sym (ap (λ t. cond t bytes (shown q k (cond (eqb k f.number) f.block b))) e)
    go false e =
        ap (λ t. shown q k (cond t bytes b)) e
        ∙ sym (ap (λ t. cond t bytes (shown q k (cond t f.block b))) e)
        ∙ ap (λ m. cond (eqb k n) bytes (shown q k (cond (eqb k m) f.block b))) (sym h.1)
shown_set (f ∷ q) n (suc i) k bytes b h =
    shown_set q n i k bytes (cond (eqb k f.number) f.block b) (omega arith, h.1, (λ j a l e. h.2 (suc j) (omega arith) (omega arith) e))

shown_at : (q : List Frame) (n i : ℕ) (b : List ℕ) → Newest q n (Some i) → shown q n b ≡ (at q i).block
shown_at [] n i b h = absurd (omega arith)
shown_at (f ∷ q) n zero b h =
    shown_none q n (cond (eqb n f.number) f.block b) (λ j l g. h.2 (suc j) (omega arith) (omega arith) g)
    ∙ ap (λ t. cond t f.block b) (eq-eqb n f.number (sym h.1))
shown_at (f ∷ q) n (suc i) b h = shown_at q n i (cond (eqb n f.number) f.block b) (omega arith, h.1, (λ j a l e. h.2 (suc j) (omega arith) (omega arith) e))

pub shows_held : (q : List Frame) (d : Meaning) (n : ℕ) (r : Option ℕ) → d.held n ≡ true → Newest q n r → Shows q d n r
shows_held q d n (Some i) h l = (l.0, ap (λ t. cond t (shown q n (d.block n)) (d.block n)) h ∙ shown_at q n i (d.block n) l)
shows_held q d n None h l = ap (λ t. cond t (shown q n (d.block n)) (d.block n)) h ∙ shown_none q n (d.block n) l

swap : {X : Type 0} (t h : Bool) (b s d : X) → (t ≡ true → h ≡ true) → cond h (cond t b s) d ≡ cond t b (cond h s d)
swap true true b s d p = refl
swap true false b s d p = let no : ⊥ = both_ways false refl (p refl) in elim no [ ]
swap false h b s d p = refl

pub if_false : {X : Type 0} (h : Bool) (s x y : X) → (h ≡ false → x ≡ y) → cond h s x ≡ cond h s y
if_false true s x y p = refl
if_false false s x y p = p refl

pub if_true : {X : Type 0} (h : Bool) (s t x : X) → (h ≡ true → s ≡ t) → cond h s x ≡ cond h t x
if_true true s t x p = p refl
if_true false s t x p = refl

no_frames : {X : Type 0} (h : Bool) (x : X) → cond h x x ≡ x
no_frames true x = refl
no_frames false x = refl

pub bare : (e : Meaning) → (cached [] e).block ≡ e.block
bare e = fun_ext (λ k. no_frames (e.held k) (e.block k))

-- frames that show n as bytes, and else what q shows, write block n
pub put_block : (q p : List Frame) (n : ℕ) (bytes : List ℕ) (d : Meaning) → d.held n ≡ true → ((k : ℕ) (b : List ℕ) → shown p k b ≡ cond (eqb k n) bytes (shown q k b)) → (cached p d).block ≡ put (cached q d).block n bytes
put_block q p n bytes d h s =
    fun_ext (λ k. ap (λ x. cond (d.held k) x (d.block k)) (s k (d.block k)) ∙ swap (eqb k n) (d.held k) bytes (shown q k (d.block k)) (d.block k) (λ e. ap d.held (eqb-true k n e) ∙ h))

pub kept_self : (c : Meaning) → Kept c c
kept_self c = record { stays = record { limit = refl; layer = refl; spent = refl; for_good = λ o. o }; held = refl; left = refl; block = refl }

pub kept_then : (c d e : Meaning) → Kept c d → Kept d e → Kept c e
kept_then c d e a b =
    record {
      stays = record {
        limit = b.stays.limit ∙ a.stays.limit;
        layer = b.stays.layer ∙ a.stays.layer;
        spent = b.stays.spent ∙ a.stays.spent;
        for_good = λ o. b.stays.for_good (a.stays.for_good o);
      };
      held = b.held ∙ a.held;
      left = b.left ∙ a.left;
      block = b.block ∙ a.block;
    }

pub cached_kept : (q : List Frame) (d e : Meaning) → Kept d e → Kept (cached q d) (cached q e)
cached_kept q d e k =
    record {
      stays = record { limit = k.stays.limit; layer = refl; spent = k.stays.spent; for_good = k.stays.for_good };
      held = k.held;
      left = k.left;
      block = ap₂ {C = ℕ → List ℕ} (λ (h : ℕ → Bool) (b : ℕ → List ℕ) n. cond (h n) (shown q n (b n)) (b n)) k.held k.block;
    }

-- whole frames over a whole block show a whole block
shown_whole : (fs : List Frame) (n : ℕ) (b : List ℕ) → ((i : ℕ) → i < length fs → length (at fs i).block ≡ 1024) → length b ≡ 1024 → length (shown fs n b) ≡ 1024
shown_whole [] n b all h = h
shown_whole (f ∷ fs) n b all h = shown_whole fs n (cond (eqb n f.number) f.block b) (λ i l. all (suc i) (omega arith)) (one_of (eqb n f.number) (all 0 (omega arith)))
  where
    one_of : (t : Bool) → length f.block ≡ 1024 → length (cond t f.block b) ≡ 1024
    one_of true a = a
    one_of false a = h

pub cached_sound : (fs : List Frame) (d : Meaning) → ((i : ℕ) → i < length fs → length (at fs i).block ≡ 1024) → Sound d → Sound (cached fs d)
cached_sound fs d all s = record { bounded = s.bounded; inside = s.inside; whole = λ n l. by n (d.held n) (s.whole n l); spent = s.spent }
  where
    by : (n : ℕ) (t : Bool) → length (d.block n) ≡ 1024 → length (cond t (shown fs n (d.block n)) (d.block n)) ≡ 1024
    by n true h = shown_whole fs n (d.block n) all h
    by n false h = h
