use Rattle.std.proofs.Common.{◌≡◌, ◌+◌, ◌∙◌, ap, arith}
use Rattle.pages.specs.Blank.{bytes_of}
use Rattle.pages.specs.Page.{key_end, pairs, val_at}
use Rattle.pages.proofs.Held.{end_at, good_in}
use Rattle.pages.proofs.Pages.{end_more}
use Rattle.page_edits.proofs.Rest.{order}
use Rattle.page_edits.proofs.removing.Removal.new.Goals as goal

pub invariant_of-result : goal.invariant_of-result
invariant_of-result c =
    let p = c.args.page.now in
    let page = bytes_of p.good in
    let k = c.args.k in
    let o = order page p.typed (good_in p) k c.requires in
    let l : c.key_end.result ≡ key_end page (pairs page) = end_at page _ _ (omega (arith, c.count.ensures)) c.key_end.ensures ∙ ap (key_end page) c.count.ensures in
    let s : c.key_end-2.result ≡ val_at page k = end_at page (k + 1) _ (omega (arith, c.requires)) c.key_end-2.ensures ∙ end_more page k in
    let e : c.key_end-3.result ≡ key_end page k = end_at page k _ (omega (arith, c.requires)) c.key_end-3.ensures in
    record { within = c.requires; low_is = l; start_is = s; end_is = e; order = (omega (arith, o), (omega (arith, o), (omega (arith, o), omega (arith, o)))) }
