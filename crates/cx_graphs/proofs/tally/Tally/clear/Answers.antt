use Rattle.std.proofs.Common.{arith, ◌<◌, ◌∷◌, [], length, sym, subst, ◌∙◌, inl, refl}
use Rattle.std.proofs.lemmas.List.{length-set}
use Rattle.cx_graphs.specs.declared.owners.Owners.TheVariants.{Nobody}
use Rattle.cx_text.specs.Members.{In}
use Rattle.cx_graphs.proofs.Marks.{in_right}
use Rattle.cx_graphs.proofs.Beginnings.{kept_without, cleared}
use Rattle.cx_graphs.proofs.tally.Tally.clear.Goals as goal

pub index_mut-requires : goal.index_mut-requires
index_mut-requires c =
    let s = c.loop-node.self in
    let rest = c.last.new.nodes.items in
    let node = c.in-Some.node in
    let within : node < length s.owners.items = c.loop-node.invariant.1.within node (subst (λ l. In l node) (sym c.in-Some.ensures.some) (in_right rest (node ∷ []) node (inl refl))) in
    omega (arith, within, s.owners.ok.0)

pub loop-node-preserved : goal.loop-node-preserved
loop-node-preserved c =
    let s = c.loop-node.self in
    let node = c.in-Some.node in
    (length-set s.owners.items node Nobody ∙ c.loop-node.invariant.0, kept_without s.owners.items s.touched.items c.last.new.nodes.items node c.in-Some.ensures.some c.loop-node.invariant.1)

pub returns : goal.returns
returns c =
    let s = c.loop-node.self in
    record { clear = cleared (length c.args.self.now.owners.items) s.owners.items s.touched.items c.last.new.nodes.items c.loop-node.invariant.0 c.loop-node.invariant.1 c.in_default.ensures.none c.in_default.ensures.left }
