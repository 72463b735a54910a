use Rattle.std.proofs.Common.{◌≡◌, ℕ, ◌+◌, ◌-◌, ◌*◌, ◌/◌, ◌%◌, ◌<◌, ◌≤◌, List, [], ◌∷◌, ◌++◌, length, get_or, take, drop, replicate, sym, refl, ap, ◌∙◌, subst, append_assoc, append-nil, arith, length-append}
use Rattle.std.specs.List.{between}
use Rattle.std.proofs.Math.Seq.{drop-append-add}
use borrow.Rule.Slice.PartMut.{put_mid}
use Rattle.std.proofs.lemmas.List.{take_at, drop_at, drop-drop, get_or_at, get_or-append-add, take-append-drop, length-take, length-take-le, length-drop}
use Rattle.pages.specs.Page.{word, Pair}
use Rattle.page_edits.specs.Bytes.{put}
use Rattle.page_edits.specs.Write.{le2, size, offs, body, len_of, free, shape}

-- the written page of a list, open
abbrev pub plain : List Pair → List ℕ
plain ps = shape ps (replicate (free ps) 0)

-- a write over a whole segment
pub put_seg : (a x b y : List ℕ) (i : ℕ) → length a ≡ i → length x ≡ length y → put (a ++ (x ++ b)) i y ≡ a ++ (y ++ b)
put_seg a x b y i p q =
    let t : take i (a ++ (x ++ b)) ≡ a = take_at a (x ++ b) i p in
    let l : length (a ++ x) ≡ i + length y = length-append a x ∙ omega arith in
    let d : drop (i + length y) (a ++ (x ++ b)) ≡ b = rw (← append_assoc) (drop_at (a ++ x) b (i + length y) l) in
    cc

-- a part that is a whole segment
pub between_seg : (a x b : List ℕ) (i j : ℕ) → length a ≡ i → i + length x ≡ j → between i j (a ++ (x ++ b)) ≡ x
between_seg a x b i j p q =
    let d : drop i (a ++ (x ++ b)) ≡ x ++ b = drop_at a (x ++ b) i p in
    rw d (take_at x b (j - i) (omega arith))

pub word_at : (a b : List ℕ) (i x : ℕ) → length a ≡ i → x < 65536 → word (a ++ (le2 x ++ b)) i ≡ x
word_at a b i x p lt =
    let l : get_or (a ++ (le2 x ++ b)) i 0 ≡ x % 256 = get_or_at a (x % 256) (x / 256 % 256 ∷ b) 0 i p in
    let h : get_or (a ++ (le2 x ++ b)) (i + 1) 0 ≡ x / 256 % 256 = subst (λ (n : ℕ). get_or (a ++ (le2 x ++ b)) (n + 1) 0 ≡ x / 256 % 256) p (get_or-append-add a (le2 x ++ b) 1 0) in
    omega arith

-- a list cut in two
pub cut : (n : ℕ) (xs : List ℕ) → n ≤ length xs → (a : List ℕ) × (b : List ℕ) × (xs ≡ a ++ b) × (length a ≡ n) × (length b + n ≡ length xs)
cut n xs h = (take n xs, drop n xs, sym (take-append-drop n xs), length-take-le n xs h, omega (arith, length-drop n xs))

pub offs_append : (e : ℕ) (ps qs : List Pair) → offs e (ps ++ qs) ≡ offs e ps ++ offs (e - size ps) qs
offs_append e [] qs = let z : e - 0 ≡ e = omega arith in rw z
offs_append e (p ∷ ps) qs =
    let ih = offs_append (e - len_of p) ps qs in
    let s : e - len_of p - size ps ≡ e - (len_of p + size ps) = omega arith in
    rw (ih, s)

pub body_append : (ps qs : List Pair) → body (ps ++ qs) ≡ body qs ++ body ps
body_append [] qs = simp append-nil
body_append (p ∷ ps) qs = rw (body_append ps qs) (append_assoc (body qs) (body ps) (p.1 ++ p.0))

pub size_append : (ps qs : List Pair) → size (ps ++ qs) ≡ size ps + size qs
size_append [] qs = omega arith
size_append (p ∷ ps) qs = rw (size_append ps qs) (omega arith)

pub length_offs : (e : ℕ) (ps : List Pair) → length (offs e ps) ≡ 4 * length ps
length_offs e [] = refl
length_offs e (p ∷ ps) = omega (arith, length_offs (e - len_of p) ps)

pub length_body : (ps : List Pair) → length (body ps) ≡ size ps
length_body [] = refl
length_body (p ∷ ps) = simp length-append (omega (arith, length_body ps))

-- what lies before the end of a write
pub take_put : (s b : List ℕ) (i : ℕ) → i ≤ length s → take (i + length b) (put s i b) ≡ take i s ++ b
take_put s b i h =
    let l : length (take i s ++ b) ≡ i + length b = length-append (take i s) b ∙ ap (λ (n : ℕ). n + length b) (length-take-le i s h) in
    ap (take (i + length b)) (sym (append_assoc (take i s) b (drop (i + length b) s))) ∙ take_at (take i s ++ b) (drop (i + length b) s) (i + length b) l

pub length_put : (s b : List ℕ) (i : ℕ) → i + length b ≤ length s → length (put s i b) ≡ length s
length_put s b i h = simp (length-append, length-take, length-drop) (omega arith)

-- a write beside another
pub put_beside : (s a b : List ℕ) (i j : ℕ) → j ≡ i + length a → j + length b ≤ length s → put (put s i a) j b ≡ put s i (a ++ b)
put_beside s a b i j e h =
    let front : take j (put s i a) ≡ take i s ++ a = ap (λ (n : ℕ). take n (put s i a)) e ∙ take_put s a i (omega arith) in
    let n : length (take i s ++ a) ≡ j = length-append (take i s) a ∙ omega (arith, length-take-le i s (omega arith)) in
    let back : drop (j + length b) (put s i a) ≡ drop (i + length (a ++ b)) s =
    ap (drop (j + length b)) (sym (append_assoc (take i s) a (drop (i + length a) s)))
    ∙ ap (λ (m : ℕ). drop (m + length b) ((take i s ++ a) ++ drop (i + length a) s)) (sym n)
    ∙ drop-append-add (take i s ++ a) (drop (i + length a) s) (length b)
    ∙ drop-drop (length b) (i + length a) s
    ∙ ap (λ (m : ℕ). drop m s) (omega (arith, length-append a b)) in
    rw (front, back) (simp append_assoc)

-- a write to a part of a slice
pub put_part : (s ys bs : List ℕ) (i k : ℕ) → ys ≡ bs → length bs ≡ k → put_mid i k s ys ≡ put s i bs
put_part s ys bs i k e l = rw (e, ← l) (ap (λ (t : List ℕ). take i s ++ (bs ++ t)) (drop-drop (length bs) i s))
