-- What the calls of a list are answered is by the rules of the device.
use Rattle.std.proofs.Common.{◌≡◌, ◌⊎◌, ℕ, ◌-◌, ◌<◌, ◌≤◌, Bool, true, false, eqb, ltb, List, [], ◌∷◌, length, Some, Ok, Err, Result, inl, inr, refl, sym, ap, ◌∙◌, ⊎_elim, arith}
use Rattle.devices.specs.Meaning.{Meaning, put}
use Rattle.devices.specs.Step.{Call, Failed, Kept, Step, claim, flush, read, write}
use Rattle.faults.specs.declared.Fault.{Fault}
use Rattle.std.proofs.lemmas.Bool.{cases_Bool, cases_eq, cases_lt, eq-eqb, le-ltb, lt-ltb, ne_eqb}
use Rattle.upkeep.specs.Laws.{AnsweredByRule}
use Rattle.upkeep.specs.Refusals.{ByRule, after_claim, first_refusal}

-- the rules ask no more of a device than these
record Alike (d e : Meaning) : Type 0 where
  limit : e.limit ≡ d.limit
  layer : e.layer ≡ d.layer
  spent : e.spent ≡ d.spent
  held : e.held ≡ d.held
  left : e.left ≡ d.left

alike_claimed : (d e : Meaning) (n : ℕ) → Alike d e → Alike (after_claim d n) (after_claim e n)
alike_claimed d e n a = record {
  limit = a.limit;
  layer = a.layer;
  spent = a.spent;
  held = ap (λ (h : ℕ → Bool). put h n true) a.held;
  left = ap (λ (k : ℕ). k - 1) a.left;
}

same_refusal : (cs : List Call) (d e : Meaning) → Alike d e → first_refusal e cs ≡ first_refusal d cs
same_refusal [] d e a = refl
same_refusal (claim n ∷ cs) d e a =
    let more = same_refusal cs d e a in
    let after = same_refusal cs (after_claim d n) (after_claim e n) (alike_claimed d e n a) in
    let limit = a.limit in
    let held : e.held n ≡ d.held n = ap (λ (h : ℕ → Bool). h n) a.held in
    let spent : e.spent n ≡ d.spent n = ap (λ (f : ℕ → Fault). f n) a.spent in
    cc
same_refusal (read n size ∷ cs) d e a = let more = same_refusal cs d e a in cc
same_refusal (write n bytes ∷ cs) d e a =
    let more = same_refusal cs d e a in
    let held : e.held n ≡ d.held n = ap (λ (h : ℕ → Bool). h n) a.held in
    cc
same_refusal (flush ∷ cs) d e a = same_refusal cs d e a

alike_kept : (d e : Meaning) → Kept d e → Alike d e
alike_kept d e k = record { limit = k.stays.limit; layer = k.stays.layer; spent = k.stays.spent; held = k.held; left = k.left }

-- a call that was accepted: the first refusal is that of the calls after it
accepted : (c : Call) (cs : List Call) (d m : Meaning) → Step d c (Ok tt) m → first_refusal d (c ∷ cs) ≡ first_refusal m cs
accepted (claim n) cs d m s = ⊎_elim old new (cases_Bool (d.held n))
  where
    within : ltb n d.limit ≡ true
    within = lt-ltb n d.limit s.range

    old : d.held n ≡ true → first_refusal d (claim n ∷ cs) ≡ first_refusal m cs
    old h =
        rw (within, h)
        (sym (same_refusal cs d m (record { limit = s.stays.limit; layer = s.stays.layer; spent = s.stays.spent; held = s.old_held h; left = s.old_left h })))

    new : d.held n ≡ false → first_refusal d (claim n ∷ cs) ≡ first_refusal m cs
    new h =
        let more : eqb d.left 0 ≡ false = ne_eqb d.left 0 (λ e. omega (arith, s.new_room h)) in
        rw (within, h, more)
        (sym (same_refusal cs (after_claim d n) m (record { limit = s.stays.limit; layer = s.stays.layer; spent = s.stays.spent; held = s.new_held h; left = s.new_left h })))
accepted (read n size) cs d m s =
    rw (eq-eqb size 1024 s.buffer, lt-ltb n d.limit s.range) (sym (same_refusal cs d m (alike_kept d m s.kept)))
accepted (write n bytes) cs d m s =
    rw (eq-eqb (length bytes) 1024 s.buffer, lt-ltb n d.limit s.range, s.was_held)
    (sym (same_refusal cs d m (record { limit = s.stays.limit; layer = s.stays.layer; spent = s.stays.spent; held = s.held; left = s.left })))
accepted flush cs d m s = sym (same_refusal cs d m (alike_kept d m s.kept))

-- a call that was refused: by a failure, or as the rules say
abbrev Refused : Meaning → List Call → Fault → Meaning → Type 0
Refused d cs f e = Failed f e ⊎ (first_refusal d cs ≡ Some f)

refused : (c : Call) (cs : List Call) (d e : Meaning) (f : Fault) → Step d c (Err f) e → Refused d (c ∷ cs) f e
refused (claim n) cs d e f s = ⊎_elim inside past_limit (cases_lt n d.limit)
  where
    past_limit : d.limit ≤ n → Refused d (claim n ∷ cs) f e
    past_limit l = inr (rw (le-ltb n d.limit l) (ap Some (sym (s.2.range l))))

    new : n < d.limit → d.held n ≡ false → Refused d (claim n ∷ cs) f e
    new l h =
        ⊎_elim
        (λ (e : d.left ≡ 0). inr (rw (lt-ltb n d.limit l, h, eq-eqb d.left 0 e) (ap Some (sym (s.2.spent l h e)))))
        (λ (n : d.left ≡ 0 → ⊥). inl (s.2.new l h (omega arith)))
        (cases_eq d.left 0)

    inside : n < d.limit → Refused d (claim n ∷ cs) f e
    inside l = ⊎_elim (λ h. inl (s.2.old l h)) (new l) (cases_Bool (d.held n))
refused (read n size) cs d e f s = ⊎_elim whole part (cases_eq size 1024)
  where
    part : (size ≡ 1024 → ⊥) → Refused d (read n size ∷ cs) f e
    part k = inr (rw (ne_eqb size 1024 k) (ap Some (sym (s.2.buffer k))))

    whole : size ≡ 1024 → Refused d (read n size ∷ cs) f e
    whole k =
        ⊎_elim (λ l. inl (s.2.failed k l)) (λ l. inr (rw (eq-eqb size 1024 k, le-ltb n d.limit l) (ap Some (sym (s.2.range k l)))))
        (cases_lt n d.limit)
refused (write n bytes) cs d e f s = ⊎_elim whole part (cases_eq (length bytes) 1024)
  where
    part : (length bytes ≡ 1024 → ⊥) → Refused d (write n bytes ∷ cs) f e
    part k = inr (rw (ne_eqb (length bytes) 1024 k) (ap Some (sym (s.1.buffer k))))

    inside : length bytes ≡ 1024 → n < d.limit → Refused d (write n bytes ∷ cs) f e
    inside k l =
        ⊎_elim
        (λ (h : d.held n ≡ true). inl (s.1.failed k l h))
        (λ (h : d.held n ≡ false). inr (rw (eq-eqb (length bytes) 1024 k, lt-ltb n d.limit l, h) (ap Some (sym (s.1.unheld k l h)))))
        (cases_Bool (d.held n))

    whole : length bytes ≡ 1024 → Refused d (write n bytes ∷ cs) f e
    whole k =
        ⊎_elim (inside k)
        (λ l. inr (rw (eq-eqb (length bytes) 1024 k, le-ltb n d.limit l) (ap Some (sym (s.1.range k l)))))
        (cases_lt n d.limit)
refused flush cs d e f s = inl s.1

-- after a call that was accepted the answer is by the rules of what is left
later : {X : Type 0} (c : Call) (cs : List Call) (d m e : Meaning) (own r : Result X Fault) → Step d c (Ok tt) m → ByRule m cs own r e → ByRule d (c ∷ cs) own r e
later c cs d m e own (Ok x) s b = (accepted c cs d m s ∙ b.0, b.1)
later c cs d m e own (Err f) s b =
    let go = accepted c cs d m s in
    ⊎_elim inl (λ b. inr (⊎_elim (λ first. inl (go ∙ first)) (λ none. inr (go ∙ none.0, none.1)) b)) b

pub by_rule : {X : Type 0} → AnsweredByRule X
by_rule [] d e own (Ok x) t = (refl, sym t.0)
by_rule [] d e own (Err f) t = inr (inr (refl, sym t.0))
by_rule (c ∷ cs) d e own (Ok x) t = later c cs d t.0 e own (Ok x) t.1 (by_rule cs t.0 e own (Ok x) t.2)
by_rule (c ∷ cs) d e own (Err f) t =
    ⊎_elim
    (λ s. ⊎_elim inl (λ first. inr (inl first)) (refused c cs d e f s))
    (λ u. later c cs d u.0 e own (Err f) u.1 (by_rule cs u.0 e own (Err f) u.2))
    t
