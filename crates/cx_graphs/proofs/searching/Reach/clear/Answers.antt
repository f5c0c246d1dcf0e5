use Rattle.std.proofs.Common.{arith, ◌<◌, ◌∷◌, [], false, length, sym, subst, ◌∙◌, inl, refl}
use Rattle.std.proofs.lemmas.List.{length-set}
use Rattle.cx_text.specs.Members.{In}
use Rattle.cx_graphs.proofs.Marks.{in_right}
use Rattle.cx_graphs.proofs.ReachWays.{kept_without}
use Rattle.cx_graphs.proofs.searching.Reach.clear.Goals as goal

pub index_mut-requires : goal.index_mut-requires
index_mut-requires c =
    let s = c.loop-node.self in
    let rest = c.last.new.waiting.items in
    let node = c.in-Some.node in
    let within : node < length s.marks.items = c.loop-node.invariant.1.within node (subst (λ l. In l node) (sym c.in-Some.ensures.some) (in_right rest (node ∷ []) node (inl refl))) in
    omega (arith, within, s.marks.ok.0)

pub loop-node-preserved : goal.loop-node-preserved
loop-node-preserved c =
    let s = c.loop-node.self in
    let node = c.in-Some.node in
    (length-set s.marks.items node false ∙ c.loop-node.invariant.0, kept_without s.marks.items s.touched.items c.last.new.waiting.items node c.in-Some.ensures.some c.loop-node.invariant.1)

pub returns : goal.returns
returns c = record {
  unmarked = record {
    size = c.loop-node.invariant.0;
    none = λ n m. subst (λ l. In l n) c.in_default.ensures.none (c.loop-node.invariant.1.all n m);
    none_touched = c.in_default.ensures.none_left;
  };
}
