use Rattle.std.proofs.Common.{◌≡◌, ℕ, ◌+◌, ◌-◌, ◌*◌, List, ◌++◌, take, sym, ap, ◌∙◌, arith}
use Rattle.pages.specs.Blank.{bytes_of}
use Rattle.page_edits.specs.Write.{offs}
use Rattle.pages.proofs.Held.{good_in}
use Rattle.pages.specs.Page.{Pair, key_at, pairs, val_at}
use Rattle.pages.specs.Read.{Place}
use Rattle.page_edits.proofs.Kept.{place_ends}
use Rattle.page_edits.proofs.One.{laid_at}
use Rattle.page_edits.proofs.Rest.{raise_all, raise_none, raise_step}
use Rattle.page_edits.proofs.removing.Removal.raise.Goals as goal
use Rattle.page_edits.proofs.removing.Removal.raise.Goals.{in-Some, in_default}

pub overflow_add-key : goal.overflow_add-key
overflow_add-key c =
    let s = c.args.self.now in
    omega (arith, place_ends _ (good_in s.page) _ _ _ c.in-Some.ensures, laid_at _ (good_in s.page) _ s.within, s.end_is)

pub overflow_add-val : goal.overflow_add-val
overflow_add-val c =
    let s = c.args.self.now in
    omega (arith, place_ends _ (good_in s.page) _ _ _ c.in-Some.ensures, laid_at _ (good_in s.page) _ s.within, s.end_is)

pub loop-j-init : goal.loop-j-init
loop-j-init c =
    let s = c.args.self.now in
    record { whole = omega arith; done = rw s.end_is (raise_none (bytes_of s.page.good) s.page.typed (good_in s.page) s.number s.within c.args.out.now) }

pub loop-j-preserved : goal.loop-j-preserved
loop-j-preserved c =
    let s = c.args.self.now in
    elim c.match-pair.branch [
      | in-Some w ↦
          let h = w.in-Some.ensures in
          let ke : w.in-Some.key ≡ key_at (bytes_of s.page.good) c.loop-j.j = ap (λ (q : Place × Place). q.0.0) h.1 in
          let ve : w.in-Some.val ≡ val_at (bytes_of s.page.good) c.loop-j.j = ap (λ (q : Place × Place). q.1.0) h.1 in
          record {
            whole = omega arith;
            done = rw (w.out-is, s.end_is)
                (raise_step (bytes_of s.page.good) s.page.typed (good_in s.page) s.number s.within c.loop-j.out w.put16.new.page _ _ c.loop-j.j _ _ (omega arith) h.0 c.loop-j.invariant.whole (omega arith)
                (rw s.end_is at c.loop-j.invariant.done) (omega (arith, ke, s.end_is, s.start_is)) (omega (arith, ve, s.end_is, s.start_is)) w.put16.ensures w.put16-in-Some.ensures);
          }
      | in_default w ↦ absurd (omega (arith, w.in_default.ensures, c.loop-j-test.true, c.count-j-end.ensures))
    ]

pub returns : goal.returns
returns c =
    let s = c.args.self.now in
    let j : c.loop-j.j ≡ pairs (bytes_of s.page.good) = omega (arith, c.loop-j-test.false, c.count-j-end.ensures, s.within) in
    let e = raise_all (bytes_of s.page.good) s.page.typed (good_in s.page) s.number s.within c.loop-j.j (omega arith) in
    ap (λ (m : ℕ). take (4 * m - 2) c.loop-j.out) (sym j) ∙ c.loop-j.invariant.done ∙ ap (λ (ps : List Pair). take (4 * s.number + 2) c.args.out.now ++ offs s.end ps) e
