-- Bytes whose records say the same, whatever their blocks are.
use Rattle.std.proofs.Common.{◌≡◌, ℕ, Bool, not, eqb, List, length, ap, ◌∙◌}
use mathlib.Core.Path.{fun_ext}
use Rattle.slotted.specs.Image.{held_in, left_in, limit_in, slot_in, used_in, well_formed}
use Rattle.slotted.specs.Records.{table_of}
use Rattle.slotted.specs.Table.{Table}

pub same_table : (t e : Table) → ((k : ℕ) → e.used k ≡ t.used k) → ((k : ℕ) → e.free k ≡ t.free k) → ((k : ℕ) → e.number k ≡ t.number k) → e ≡ t
same_table t e a b c =
    ap (λ (f : ℕ → Bool). record { used = f; free = e.free; number = e.number }) (fun_ext a)
    ∙ ap (λ (f : ℕ → Bool). record { used = t.used; free = f; number = e.number }) (fun_ext b)
    ∙ ap (λ (f : ℕ → ℕ). record { used = t.used; free = t.free; number = f }) (fun_ext c)

module _ (s t : List ℕ) (len : length t ≡ length s) (tab : table_of t ≡ table_of s) where
  pub same_formed : well_formed t ≡ well_formed s
  unfolding well_formed
  same_formed = rw (len, tab)

  pub same_slot : (n : ℕ) → slot_in t n ≡ slot_in s n
  unfolding slot_in
  same_slot n = rw (same_formed, len, tab)

  pub same_used : used_in t ≡ used_in s
  unfolding used_in
  same_used = rw (same_formed, len, tab)

  pub same_left : left_in t ≡ left_in s
  unfolding left_in
  same_left = rw (same_formed, len, same_used)

  pub same_limit : limit_in t ≡ limit_in s
  unfolding limit_in
  same_limit = rw same_formed

  pub same_held : held_in t ≡ held_in s
  same_held = fun_ext (λ n. ap (λ (x : ℕ). not (eqb x 0)) (same_slot n))
