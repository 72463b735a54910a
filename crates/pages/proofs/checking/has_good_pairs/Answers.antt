use Rattle.std.proofs.Common.{◌≡◌, ℕ, ◌<◌, true, false, length, sym, ap, ◌∙◌, arith, rules, below_more}
use Rattle.keys.specs.Print.{print}
use Rattle.keys.specs.Same.{same}
use Rattle.pages.specs.Page.{key_of, pairs}
use Rattle.pages.proofs.Pages.{apart_more, end_more, good_from, key_is, none_among, now_marked, stays_marked, unseen}
use Rattle.pages.proofs.checking.has_good_pairs.Goals as goal
use Rattle.pages.proofs.checking.has_good_pairs.Goals.{else-seen-print-via-then-seen-print+else-is_some, else-seen-print-via-else-seen-print}
use Rattle.std.proofs.lemmas.List.{length-set}
use Rattle.std.proofs.lemmas.Bool.{leb-true, le-leb}
use Rattle.std.specs.List.{between}

-- the key at hand, and its print
key_here : (c : goal.Joined-else-seen-print) → between c.key_at-at.result c.loop-k.end c.args.page.now ≡ key_of c.args.page.now c.loop-k.k
key_here c = key_is c.args.page.now c.loop-k.k _ _ c.key_at-at.ensures c.loop-k.invariant.0

print_is : (c : goal.Joined-else-seen-print) → c.fingerprint-print.result ≡ print (key_of c.args.page.now c.loop-k.k)
print_is c = c.fingerprint-print.ensures.value ∙ ap print (key_here c)

fresh : (c : goal.Joined-else-seen-print) (i : ℕ) → i < c.loop-k.k → same (key_of c.args.page.now i) (key_of c.args.page.now c.loop-k.k) ≡ false
fresh c i lt =
    elim c.else-seen-print.branch [
      | else-seen-print-via-then-seen-print+else-is_some w ↦
          rw (key_here c) at (none_among _ _ _ _ w.number_among.ensures (sym w.is_some.ensures ∙ w.if-is_some.false) i lt)
      | else-seen-print-via-else-seen-print w ↦ unseen c.args.page.now c.loop-k.seen i c.loop-k.k _ (print_is c) (c.loop-k.invariant.4 i lt) w.if-seen-print.false
    ]

pub loop-k-preserved : goal.loop-k-preserved
loop-k-preserved c =
    let page = c.args.page.now in
    let k = c.loop-k.k in
    let seen = c.loop-k.seen in
    let lt : c.fingerprint-print.result < length seen = omega arith in (
      c.val_at-val.ensures ∙ sym (end_more page k),
      omega arith,
      below_more _ _ c.loop-k.invariant.2 (search rules),
      apart_more page k c.loop-k.invariant.3 (fresh c),
      below_more _ _
          (λ i h. stays_marked seen _ _ lt (c.loop-k.invariant.4 i h))
          (now_marked seen _ _ (print_is c) lt),
      length-set seen _ true ∙ c.loop-k.invariant.5,
    )

pub returns : goal.returns
returns c =
    let page = c.args.page.now in
    let e : c.loop-k.k ≡ pairs page = omega (arith, c.get16-n.ensures.value) in (
      λ h.
          good_from page c.loop-k.k e c.told-page (omega (arith, c.get16-n.ensures.value)) (omega (arith, c.get16-n.ensures.value))
          c.loop-k.invariant.2 c.loop-k.invariant.3 (omega (arith, leb-true _ _ h)),
      λ g.
          let r = rw (← e) at g.room in
          le-leb _ _ (omega (arith, r)),
    )
