use Rattle.std.proofs.Common.{sym, subst}
use Rattle.std.proofs.lemmas.Option.{IfSome_then}
use Rattle.cx_rules.specs.Ports.{component_of}
use Rattle.cx_state.specs.declared.tables.InstanceRow.{InstanceRow}
use Rattle.cx_eval.specs.Sources.{AreSourcesOf, HaveSources}
use Rattle.cx_eval.specs.Tables.{design_of}
use Rattle.cx_eval.proofs.TableLemmas.{same_row}
use Rattle.cx_eval.proofs.tables.known_group.Goals as goal

pub returns : goal.returns
returns c =
    let t = c.args.tables.now in
    let are = c.requires.tables in
    let d = design_of t in
    record {
      value = IfSome_then c.group_sources.result c.group_sources.ensures.value (λ known h.
          subst (λ (row : InstanceRow). AreSourcesOf (component_of d row.component) c.args.group known.now) (sym (same_row t are c.args.instance c.requires.instance c.index.result.now c.index.ensures))
          (h d (subst (HaveSources d) (sym c.deref.ensures.value) are.sources)));
    }
