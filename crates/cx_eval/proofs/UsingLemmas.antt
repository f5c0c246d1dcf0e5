-- What is known of the ports of cells before they are looked at, as it is used.
use Rattle.std.proofs.Common.{◌≡◌, ℕ, ◌<◌, List, [], Some, None, get_or, length, sym, ap, ◌∙◌, subst}
use Rattle.std.specs.Prelude.{slice_get}
use Rattle.cx_prim.specs.declared.ports.PortRow.{PortRow}
use Rattle.cx_meaning.specs.declared.ports.PortRef.TheVariants.{Done}
use Rattle.cx_meaning.specs.Instances.{paths_of, tree_of}
use Rattle.cx_design.specs.declared.actives.Active.{Active}
use Rattle.cx_design.specs.declared.actives.Active.TheVariants.{Group}
use Rattle.cx_state.specs.declared.tables.InstanceRow.{InstanceRow}
use Rattle.cx_state.specs.States.{PlainInstance}
use Rattle.cx_eval_network.specs.declared.asking.Asking.{Asking}
use Rattle.cx_eval_network.specs.Askings.{IsAsking, asked_of}
use Rattle.cx_eval_network.specs.Networks.{Asked}
use Rattle.cx_eval_network.specs.Nodes.{part_at}
use Rattle.cx_eval.specs.declared.demanding.PortSources.{PortSources}
use Rattle.cx_eval.specs.declared.known.Ahead.{Ahead}
use Rattle.cx_eval.specs.declared.sources.Operator.{Operator}
use Rattle.cx_eval.specs.declared.sources.Source.{Source}
use Rattle.cx_eval.specs.declared.tables.Tables.{Tables}
use Rattle.cx_eval.specs.Looked.{StandFrom}
use Rattle.cx_eval.specs.Shown.{Serves, ServesAs, ServesIn, ShowFrom, ShowPorts, Shows, own_component}
use Rattle.cx_eval.specs.Sources.{IsSeenBy}
use Rattle.cx_eval.specs.Tables.{AreTables, asked_in, design_of}
use Rattle.cx_eval.proofs.SourceLaws.{shown_by}
use Rattle.cx_eval.proofs.TableLemmas.{same_row}

-- what the ports of a cell are seen as stands at their nodes
pub shown_from : (a : Asking) (cell first : ℕ) (ports : List PortRow) (sources : PortSources) → StandFrom a cell ports first → ShowPorts (asked_of a) cell sources → ShowFrom a first ports sources
shown_from a cell first ports sources stand show port lt = record {
  component = show.component;
  can = λ source e. (show.each port source e).can;
  value = λ source e. (show.each port source e).value ∙ sym (stand.seen port lt);
}

-- WHAT IS ASKED, by the tables
module _ (t : Tables) (n : ℕ) (state : List PlainInstance) (active : Active) (asking : Asking) (is : asked_of asking ≡ asked_in t state n active) where
  pub component_is : (are : AreTables t) → n < length (paths_of (tree_of (design_of t))) → (row : InstanceRow) → row ≡ get_or t.table.rows.items n row → row.component ≡ own_component (asked_of asking)
  component_is are lt row at = ap (λ (r : InstanceRow). r.component) (sym (same_row t are n lt row at)) ∙ ap own_component (sym is)

  module _ (own : asking.active.now ≡ active) where
    pub serves : (ahead : Ahead) → ServesIn t n active ahead → Serves asking ahead
    serves ahead h =
        subst (λ (x : Active). ServesAs (part_at (asked_of asking).design (asked_of asking).rows asking.instance) x ahead) (sym own)
        (subst (λ (a : Asked). ServesAs (part_at a.design a.rows a.instance) active ahead) (sym is) h)

    -- the done hole of the active group is shown by a source that needs no operator
    pub hole_shown : IsAsking asking → (group : ℕ) → active ≡ Group group → (source : Source) → IsSeenBy (part_at (design_of t) t.table.rows.items n) (Group group) [] (Done group) source → Shows (asked_of asking) [] (Done group) source
    hole_shown can group in_group source seen =
        shown_by asking can.can [] [] (λ place o e. absurd (none_there place o e)) (Done group) source
        (subst (λ (x : Active). IsSeenBy (part_at (asked_of asking).design (asked_of asking).rows asking.instance) x [] (Done group) source) (sym (own ∙ in_group))
        (subst (λ (a : Asked). IsSeenBy (part_at a.design a.rows a.instance) (Group group) [] (Done group) source) (sym is) seen))
      where
        none_there : (place : ℕ) (o : Operator) → slice_get [] place ≡ Some o → ⊥
        none_there place o e = (let f : None ≡ Some o = e in cc)
