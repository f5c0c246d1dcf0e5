use Rattle.std.proofs.Common.{rules, ◌≡◌, ◌<◌, List, length, map, sym, ap, ◌∙◌, subst, arith}
use Rattle.std.specs.Vec.{with_items}
use Rattle.std.proofs.lemmas.List.{with_items_is}
use Rattle.cx_text.specs.Loading.{plain_loaded, plain_memory, FitsRows, with_words}
use Rattle.cx_meaning.specs.Designs.{PlainComponent, PlainDesign, component_at}
use Rattle.cx_rules.specs.Externals.{external_rows}
use Rattle.cx_design.specs.PlainForms.{plain_cell}
use Rattle.cx_design.specs.PlainDesigns.{plain_design}
use Rattle.cx_state.specs.States.{PlainInstance, plain_state, instance_state}
use Rattle.cx_state.specs.Reading.{words_among}
use Rattle.cx_state.proofs.MainLemmas.{first_there, first_index, first_cells, main_readable, main_fits, main_words, reads_alike, writes_alike}
use Rattle.cx_state.proofs.words.external_words.Goals as goal

pub write_cells-requires : goal.write_cells-requires
write_cells-requires c =
    let d : PlainDesign = plain_design c.args.design.now in
    let rows : List PlainInstance = plain_state c.args.state.now in
    let lt : 0 < length c.args.state.now.instances.items = first_index c.args.state.now.instances.items (first_there d rows c.requires.state) in
    let cells : map plain_cell c.as_slice.result.now ≡ (component_at d d.main).cells = ap (map plain_cell) c.as_slice.ensures.value ∙ ap (λ (p : PlainComponent). p.cells) c.component-main.ensures.value in
    let held : c.as_slice-held.result.now ≡ (instance_state rows 0).cells = c.as_slice-held.ensures.value ∙ first_cells c.args.state.now.instances.items c.index.result.now lt c.index.ensures in
    let same : map plain_memory c.deref_mut.result.now ≡ plain_loaded c.args.into.now = ap (map plain_memory) c.deref_mut.ensures.value in
    reads_alike (map plain_cell c.as_slice.result.now) (component_at d d.main).cells c.as_slice-held.result.now (instance_state rows 0).cells (map plain_memory c.deref_mut.result.now) (plain_loaded c.args.into.now) cells held same
    (main_readable d rows (plain_loaded c.args.into.now) c.args.design.now.keeps c.requires.state c.requires.fits)

pub returns-clause-words : goal.returns-clause-words
returns-clause-words c s stands =
    let d : PlainDesign = plain_design c.args.design.now in
    let rows : List PlainInstance = plain_state c.args.state.now in
    let lt : 0 < length c.args.state.now.instances.items = first_index c.args.state.now.instances.items (first_there d rows c.requires.state) in
    let cells : map plain_cell c.as_slice.result.now ≡ (component_at d d.main).cells = ap (map plain_cell) c.as_slice.ensures.value ∙ ap (λ (p : PlainComponent). p.cells) c.component-main.ensures.value in
    let held : c.as_slice-held.result.now ≡ (instance_state rows 0).cells = c.as_slice-held.ensures.value ∙ first_cells c.args.state.now.instances.items c.index.result.now lt c.index.ensures in
    let same : map plain_memory c.deref_mut.result.now ≡ plain_loaded c.args.into.now = ap (map plain_memory) c.deref_mut.ensures.value in
    let count : length c.write_cells.new.memories ≡ c.args.into.now.memories.len =
    first_of (omega (arith, c.write_cells.auto.memories, c.deref_mut.ensures.len), search (rules, c.write_cells.auto.memories, c.deref_mut.ensures.len)) in
    let written : map plain_memory (with_items c.args.into.now.memories c.write_cells.new.memories).items ≡ with_words (plain_loaded c.args.into.now) (words_among (component_at d d.main).cells (instance_state rows 0).cells) =
    ap (map plain_memory) (with_items_is c.args.into.now.memories c.write_cells.new.memories count)
    ∙ c.write_cells.ensures
    ∙ writes_alike (map plain_cell c.as_slice.result.now) (component_at d d.main).cells c.as_slice-held.result.now (instance_state rows 0).cells (map plain_memory c.deref_mut.result.now) (plain_loaded c.args.into.now) cells held same in
    written ∙ ap (with_words (plain_loaded c.args.into.now)) (main_words d rows (plain_loaded c.args.into.now) c.args.design.now.keeps c.requires.state c.requires.fits s stands)

pub returns-clause-fits : goal.returns-clause-fits
returns-clause-fits c =
    let d : PlainDesign = plain_design c.args.design.now in
    let rows : List PlainInstance = plain_state c.args.state.now in
    let lt : 0 < length c.args.state.now.instances.items = first_index c.args.state.now.instances.items (first_there d rows c.requires.state) in
    let cells : map plain_cell c.as_slice.result.now ≡ (component_at d d.main).cells = ap (map plain_cell) c.as_slice.ensures.value ∙ ap (λ (p : PlainComponent). p.cells) c.component-main.ensures.value in
    let held : c.as_slice-held.result.now ≡ (instance_state rows 0).cells = c.as_slice-held.ensures.value ∙ first_cells c.args.state.now.instances.items c.index.result.now lt c.index.ensures in
    let same : map plain_memory c.deref_mut.result.now ≡ plain_loaded c.args.into.now = ap (map plain_memory) c.deref_mut.ensures.value in
    let count : length c.write_cells.new.memories ≡ c.args.into.now.memories.len =
    first_of (omega (arith, c.write_cells.auto.memories, c.deref_mut.ensures.len), search (rules, c.write_cells.auto.memories, c.deref_mut.ensures.len)) in
    let written : map plain_memory (with_items c.args.into.now.memories c.write_cells.new.memories).items ≡ with_words (plain_loaded c.args.into.now) (words_among (component_at d d.main).cells (instance_state rows 0).cells) =
    ap (map plain_memory) (with_items_is c.args.into.now.memories c.write_cells.new.memories count)
    ∙ c.write_cells.ensures
    ∙ writes_alike (map plain_cell c.as_slice.result.now) (component_at d d.main).cells c.as_slice-held.result.now (instance_state rows 0).cells (map plain_memory c.deref_mut.result.now) (plain_loaded c.args.into.now) cells held same in
    subst (FitsRows (external_rows d)) (sym written) (main_fits d rows (plain_loaded c.args.into.now) c.args.design.now.keeps c.requires.state c.requires.fits)
