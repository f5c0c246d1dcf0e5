use Rattle.std.proofs.Common.{◌≡◌, ◌∙◌, ◌<◌, Some, None, length, ⊎_elim, sym, ap, subst}
use Rattle.std.proofs.lemmas.List.{length-map}
use Rattle.cx_graphs.specs.Graphs.{IsGraph, edges_of}
use Rattle.cx_numbering.specs.Names.{number_of, component_names}
use Rattle.cx_names_scopes.proofs.NameLemmas.{numbered}
use Rattle.cx_names_scopes.specs.Scopes.{tree_in, part_in}
use Rattle.cx_names_parts.specs.Leading.{component_edges}
use Rattle.cx_names_parts.proofs.Leads.{no_marks, are_marks, edges_count, without_circle}
use Rattle.cx_names_parts.proofs.Numbers.{number_there, first_found, first_within}
use Rattle.cx_graphs.proofs.GraphsLemmas.{turned_graph}
use Rattle.cx_names_parts.proofs.circles.CellCircles.leading.Goals as goal

pub unreachable-requires : goal.unreachable-requires
unreachable-requires c =
    let scope = c.args.scope.now in
    let names = component_names (tree_in scope) in
    number_there (tree_in scope).components c.args.number (part_in scope) c.requires.number (numbered names scope.index.now.components (part_in scope).name None c.requires.scope.index.components c.in_default.ensures.value)

pub returns-then-first-number : goal.returns-then-first-number
returns-then-first-number c =
    let scope = c.args.scope.now in
    let names = component_names (tree_in scope) in
    let found : number_of (part_in scope).name names ≡ Some c.args.number =
    numbered names scope.index.now.components (part_in scope).name (Some c.in-Some.first) c.requires.scope.index.components c.in-Some.ensures.value ∙ ap Some c.if-first-number.true in
    record { value = no_marks (tree_in scope) (part_in scope) c.args.number c.requires.number found (without_circle (tree_in scope) c.args.self.now.is_circular c.requires.circles.circular c.if-not-self.true) }

pub reached-requires-clause-graph : goal.reached-requires-clause-graph
reached-requires-clause-graph c =
    subst (λ l. IsGraph (edges_of l)) (sym c.deref.ensures.value) (turned_graph (component_edges (tree_in c.args.scope.now)) (edges_of c.args.self.now.users.items) c.requires.circles.users)

pub reached-requires-clause-starts : goal.reached-requires-clause-starts
reached-requires-clause-starts c = λ n start.
    let scope = c.args.scope.now in
    let tree = tree_in scope in
    let names = component_names tree in
    let found : number_of (part_in scope).name names ≡ Some c.in-Some.first = numbered names scope.index.now.components (part_in scope).name (Some c.in-Some.first) c.requires.scope.index.components c.in-Some.ensures.value in
    let within : c.in-Some.first < length tree.components = first_within tree c.in-Some.first (first_found tree (part_in scope).name c.in-Some.first found) in
    let long : length c.deref.result.now ≡ length tree.components = ap length c.deref.ensures.value ∙ sym (length-map c.args.self.now.users.items (λ list. list.items)) ∙ c.requires.circles.users.0 ∙ edges_count tree in
    let same : c.in_ok-node.field-0 ≡ c.in-Some.first = c.in_ok-node.ensures.value in
    ⊎_elim (λ is. subst (λ m. n < m) (sym long) (subst (λ m. m < length tree.components) (sym same ∙ is) within)) (λ none. absurd none) start

pub returns : goal.returns
returns c =
    let scope = c.args.scope.now in
    let names = component_names (tree_in scope) in
    let found : number_of (part_in scope).name names ≡ Some c.in-Some.first = numbered names scope.index.now.components (part_in scope).name (Some c.in-Some.first) c.requires.scope.index.components c.in-Some.ensures.value in
    record {
      value = are_marks (tree_in scope) (part_in scope) c.args.self.now.users.items c.deref.result.now c.in-Some.first c.in_ok-node.field-0 c.in_ok-reached.field-0.items c.deref.ensures.value c.in_ok-node.ensures.value c.requires.circles.users found
          c.in_ok-reached.ensures.len c.in_ok-reached.ensures.sound c.in_ok-reached.ensures.all;
    }
