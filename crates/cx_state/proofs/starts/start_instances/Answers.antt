use Rattle.std.proofs.Common.{◌≡◌, sym, subst}
use Rattle.cx_meaning.specs.Designs.{component_at}
use Rattle.cx_design.specs.PlainForms.{plain_component}
use Rattle.cx_design.specs.PlainDesigns.{plain_design}
use Rattle.cx_state.specs.Tables.{row_at}
use Rattle.cx_state.specs.States.{words_in}
use Rattle.cx_state.specs.Starts.{TakeWords, words_of_main}
use Rattle.cx_state.proofs.StartLemmas.{component_own, component_takes, started_next}
use Rattle.cx_state.proofs.starts.start_instances.Goals as goal

pub start_instance-requires : goal.start_instance-requires
start_instance-requires c =
    let d = plain_design c.args.design.now in
    let own : plain_component c.index-components-row.result ≡ component_at d (row_at c.args.table.now.rows.items c.loop-number.number).component =
    component_own c.args.design.now.components.items c.args.design.now.main c.args.table.now.rows.items c.as_slice-rows.result.now c.args.table.now.children.items c.loop-number.number _
    c.as_slice-components.result.now c.index-components-row.result c.requires.table c.as_slice-rows.ensures.value c.loop-number-test.true c.as_slice-components.ensures.value c.index-components-row.is in
    record {
      takes =
          subst (λ ws. TakeWords (plain_component c.index-components-row.result).cells ws) (sym c.memories_of.ensures)
          (subst (λ part. TakeWords part.cells (words_of_main c.loop-number.number (words_in c.args.memories.now))) (sym own) (component_takes d c.args.table.now.rows.items c.args.table.now.children.items (words_in c.args.memories.now) c.loop-number.number c.requires.table c.requires.takes));
    }

pub loop-number-preserved : goal.loop-number-preserved
loop-number-preserved c =
    let d = plain_design c.args.design.now in
    let own : plain_component c.index-components-row.result ≡ component_at d (row_at c.args.table.now.rows.items c.loop-number.number).component =
    component_own c.args.design.now.components.items c.args.design.now.main c.args.table.now.rows.items c.as_slice-rows.result.now c.args.table.now.children.items c.loop-number.number _
    c.as_slice-components.result.now c.index-components-row.result c.requires.table c.as_slice-rows.ensures.value c.loop-number-test.true c.as_slice-components.ensures.value c.index-components-row.is in
    started_next d c.args.table.now.rows.items c.args.table.now.children.items (words_in c.args.memories.now) (words_in c.memories_of.result.now) c.loop-number.number c.loop-number.instances.items c.push.new.self.items
    c.in_ok-start_instance.field-0 (plain_component c.index-components-row.result) c.requires.table c.loop-number.invariant own c.memories_of.ensures c.in_ok-start_instance.ensures.value c.in_ok-push.ensures.items
