use Rattle.std.proofs.Common.{ℕ, sym, ap, ◌∙◌, add-one, arith}
use Rattle.directory.specs.Tree.{bit, child, node}
use Rattle.directory.proofs.Lookups.{node_lt, way_goes_down}
use Rattle.directory.proofs.way.Way.go_down.Goals as goal

pub next_index-self-requires : goal.next_index-self-requires
next_index-self-requires c =
    let way = c.args.self.now in
    (omega (arith, way.on, node_lt way.hash way.depth (omega arith)), omega arith)

pub invariant_of-self : goal.invariant_of-self
invariant_of-self c =
    let way = c.args.self.now in
    let h = way.hash in
    let t = way.depth in
    record {
      limit = omega arith;
      on = c.next_index-self.ensures ∙ ap (λ (i : ℕ). child i (bit h t)) way.on ∙ sym (way_goes_down h t) ∙ ap (node h) (sym (add-one t));
    }
