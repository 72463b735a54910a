use Rattle.std.proofs.Common.{◌≡◌, false, MatchOption, ap, arith, rules}
use Rattle.directory.specs.Tree.{bits_of}
use Rattle.directory.specs.declared.Leaf.{Leaf}
use Rattle.directory.proofs.Leaves.{leaf_is, clear_here}
use Rattle.directory.proofs.look_up.Goals as goal

pub returns : goal.returns
returns c =
    let way = c.loop-way.way in
    let bits = bits_of c.args.dir.now in
    let tested : MatchOption c.bit.result (Unit {0}) (λ i. bits i ≡ false) = search rules in
    let leaf = leaf_is bits c.args.hash way.hash way.depth c.leaf.result c.loop-way.invariant.0 way.limit c.loop-way.invariant.1 (clear_here bits way.hash way.depth _ c.bit.ensures tested) c.leaf.ensures in
    record {
      index = ap (λ (l : Leaf). l.index) leaf;
      depth = ap (λ (l : Leaf). l.depth) leaf;
      page = ap (λ (l : Leaf). l.page) leaf;
      limit = omega (arith, ap (λ (l : Leaf). l.depth) c.leaf.ensures, way.limit);
      leaf = leaf;
    }
