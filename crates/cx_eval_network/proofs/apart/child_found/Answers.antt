use Rattle.std.specs.Prelude.{option_to_list}
use Rattle.std.proofs.Common.{◌≡◌, Some, inl, refl, sym, ap, ◌∙◌, subst}
use Rattle.cx_meaning.specs.declared.ports.PortRef.TheVariants.{Output}
use Rattle.cx_text.proofs.OptionLaws.{none_is_some}
use Rattle.cx_text.specs.Members.{In}
use Rattle.cx_state.specs.Tables.{child_of}
use Rattle.cx_eval_network.specs.Askings.{asked_of}
use Rattle.cx_eval_network.specs.Demands.{Looked}
use Rattle.cx_eval_network.specs.Networks.{seen_at}
use Rattle.cx_eval_network.specs.Nodes.{node_at}
use Rattle.cx_eval_network.proofs.LackLemmas.{child_is, child_there}
use Rattle.cx_eval_network.proofs.NetworkLemmas.{child_later}
use Rattle.cx_eval_network.proofs.OwnLemmas.{looked_mark, output_there_at, output_value}
use Rattle.cx_eval_network.proofs.apart.child_found.Goals as goal

pub unreachable-requires : goal.unreachable-requires
unreachable-requires c =
    let asking = c.args.asking.now in
    let a = asked_of asking in
    let net = c.requires.can.can.network in
    let has = c.requires.output in
    none_is_some _
    (c.in-None-node.ensures.value a.design a.rows net.numbered c.in-Some.ensures.within
    ∙ ap (λ j. node_at a.design a.rows j (Output c.args.output)) (child_is a.rows a.children c.args.instance c.args.cell c.in-Some.child c.in-Some.ensures.value)
    ∙ output_there_at a asking.nodes.now net c.args.instance c.requires.from c.requires.within c.args.cell c.args.output has.0 has.1 has.2)

pub unreachable-requires-in-None : goal.unreachable-requires-in-None
unreachable-requires-in-None c =
    let asking = c.args.asking.now in
    let a = asked_of asking in
    let has = c.requires.output in
    child_there a.rows a.children c.args.instance c.args.cell (child_later a asking.nodes.now c.requires.can.can.network c.args.instance c.args.cell has.0 c.requires.within has.1).1 c.in-None.ensures.value

pub returns : goal.returns
returns c =
    let asking = c.args.asking.now in
    let a = asked_of asking in
    let net = c.requires.can.can.network in
    let has = c.requires.output in
    let j = child_of a.rows a.children c.args.instance c.args.cell in
    let node = c.in-Some-node.node in
    let marks = c.args.marks.now in
    let is : Some node ≡ node_at a.design a.rows j (Output c.args.output) =
    c.in-Some-node.ensures.value a.design a.rows net.numbered c.in-Some.ensures.within
    ∙ ap (λ n. node_at a.design a.rows n (Output c.args.output)) (child_is a.rows a.children c.args.instance c.args.cell c.in-Some.child c.in-Some.ensures.value) in
    record {
      found =
          subst (Looked (option_to_list (node_at a.design a.rows j (Output c.args.output))) (seen_at a j (Output c.args.output)) marks) (sym c.node_found.ensures.value)
          (looked_mark (option_to_list (node_at a.design a.rows j (Output c.args.output))) (seen_at a j (Output c.args.output)) marks node (subst (λ o. In (option_to_list o) node) is (inl refl))
          (λ x known. c.requires.right node x known ∙ output_value a asking.nodes.now net c.args.instance c.requires.from c.requires.within c.args.cell c.args.output has.0 has.1 node (sym is)));
    }
