use Rattle.std.proofs.Common.{ap, sym, subst, length, ◌≡◌, ◌∙◌, ◌<◌, ℕ, Bool, List, Some, slice_get, Result, Ok, Err, IfOk}
use Rattle.std.proofs.lemmas.List.{length-map}
use Rattle.std.specs.declared.vec.Vec.{Vec}
use Rattle.cx_meaning.specs.Instances.{Instance}
use Rattle.cx_rules.specs.Ports.{component_of}
use Rattle.cx_design.specs.PlainDesigns.{plain_design}
use Rattle.cx_graphs.specs.Graphs.{IsGraph, edges_of}
use Rattle.cx_graphs.specs.Grounds.{is_grounded}
use Rattle.cx_shape_state.specs.Tells.{AreMarks}
use Rattle.cx_shape_state.specs.Waits.{waits}
use Rattle.cx_shape_state.proofs.Graph.{is_graph, graph_length}
use Rattle.cx_shape_state.proofs.resting.marks.Goals as goal

told : {A E : Type 0} (i : Instance) (inputs : Bool) (lists : List (Vec ℕ A)) → edges_of lists ≡ waits i inputs → (r : Result (Vec Bool A) E)
    → IfOk r (λ m. length m.items ≡ length lists) → IfOk r (λ m. (n : ℕ) → n < length lists → slice_get m.items n ≡ Some (is_grounded (edges_of lists) n))
    → IfOk r (λ m. AreMarks i inputs m.items)
told i inputs lists e (Ok m) len value =
    let count = sym (length-map lists _) ∙ ap length e ∙ graph_length i inputs in
    record { count = len ∙ count; tell = λ c h. value c (subst (λ k. c < k) (sym count) h) ∙ ap (λ g. Some (is_grounded g c)) e }
told i inputs lists e (Err x) len value = tt

pub grounded-requires : goal.grounded-requires
grounded-requires c =
    let i = component_of (plain_design c.args.design.now) c.args.number in
    record { graph = subst IsGraph (sym (ap edges_of c.as_slice.ensures.value ∙ c.in_ok-graph.ensures.value)) (is_graph i c.args.inputs) }

pub returns : goal.returns
returns c =
    let i = component_of (plain_design c.args.design.now) c.args.number in
    record { marks = told i c.args.inputs c.as_slice.result.now (ap edges_of c.as_slice.ensures.value ∙ c.in_ok-graph.ensures.value) c.grounded.result c.grounded.ensures.len c.grounded.ensures.value }
