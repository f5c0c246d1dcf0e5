use Rattle.std.proofs.Common.{◌≡◌, ◌<◌, ◌∙◌, ℕ, length, sym, subst}
use Rattle.std.proofs.lemmas.List.{length-map}
use Rattle.cx_meaning.specs.declared.ports.PortRef.TheVariants as refs
use Rattle.cx_rules.specs.Ports.{component_of}
use Rattle.cx_design.specs.PlainForms.{plain_assigns}
use Rattle.cx_design.specs.PlainDesigns.{plain_design}
use Rattle.cx_design_leads.specs.Nodes.{node_count}
use Rattle.cx_shape_calls.specs.Forms.{count_of, times}
use Rattle.cx_shape_calls.specs.Inputs.{AreDependentPorts, HasPaths}
use Rattle.cx_shape_calls.proofs.DependLemmas.{are_dependent}
use Rattle.cx_shape_calls.proofs.inputs.Paths.dependent_inputs.Goals as goal

pub clear-requires : goal.clear-requires
clear-requires c =
    let i = component_of (plain_design c.args.design.now) c.args.number in
    let paths = c.dependent_ports.new.self in
    let has : HasPaths i c.args.place paths =
    c.in_ok-ports.ensures.paths c.args.place (record { nodes = c.requires.paths.nodes; graph = c.requires.paths.graph; leads = c.in_ok-add_group.ensures.value; unmarked = c.requires.paths.unmarked }) in
    let long : node_count i ≡ length paths.leads.edges.items = sym has.leads.spread.same_length ∙ length-map paths.leads.edges.items _ in
    record { within = λ n j. subst (λ count. n < count) long (has.leads.spread.within n j) }

pub returns-clause-paths : goal.returns-clause-paths
returns-clause-paths c =
    let i = component_of (plain_design c.args.design.now) c.args.number in
    let has : HasPaths i c.args.place c.dependent_ports.new.self =
    c.in_ok-ports.ensures.paths c.args.place (record { nodes = c.requires.paths.nodes; graph = c.requires.paths.graph; leads = c.in_ok-add_group.ensures.value; unmarked = c.requires.paths.unmarked }) in
    record {
      nodes = has.nodes;
      graph = has.graph;
      clear = c.clear.ensures.value (node_count i) has.leads.spread;
      unmarked = has.unmarked;
    }

pub returns-clause-value : goal.returns-clause-value
returns-clause-value c =
    let i = component_of (plain_design c.args.design.now) c.args.number in
    let g = c.args.place in
    let found = c.in_ok-ports.ports.items in
    let are : AreDependentPorts i g (plain_assigns c.args.group.now.assigns.items) found =
    subst (λ l. AreDependentPorts i g (plain_assigns l) found) c.as_slice.ensures.value
    (c.in_ok-ports.ensures.value g (record { nodes = c.requires.paths.nodes; graph = c.requires.paths.graph; leads = c.in_ok-add_group.ensures.value; unmarked = c.requires.paths.unmarked })) in
    are_dependent i g (plain_assigns c.args.group.now.assigns.items) found (times c.in_ok-dependent.dependent) are
    (subst (λ l. (x q : ℕ) → times c.in_ok-dependent.dependent x q ≡ count_of (refs.Cell x q) l) c.as_slice-2.ensures.value c.in_ok-dependent.ensures.value)
