use Rattle.std.proofs.Common.{rules, ◌≡◌, ◌+◌, ◌<◌, length, map, get_or, set, sym, ap, ◌∙◌, subst, arith}
use Rattle.std.specs.Vec.{with_items}
use Rattle.std.proofs.lemmas.List.{with_items_is}
use Rattle.std.proofs.lemmas.Grind.{common_steps}
use Rattle.cx_text.specs.declared.loading.LoadedMemory.{LoadedMemory}
use Rattle.cx_text.specs.Loading.{plain_memory}
use Rattle.cx_design.specs.PlainForms.{plain_cell, plain_kind}
use Rattle.cx_state.specs.Reading.{CanRead, words_held}
use Rattle.cx_state.proofs.WriteLemmas.{with_word, AreWritten, written_begin, written_on, written_past, held_there, memory_there, reads_next, cell_at, cell_there, memory_at, memory_back, memory_set, all_written}
use Rattle.cx_state.proofs.words.write_cells.Goals.{then-cell, else-cell}
use Rattle.cx_state.proofs.words.write_cells.Goals as goal

pub loop-n-init : goal.loop-n-init
loop-n-init c = written_begin (map plain_cell c.args.cells.now) c.args.held.now (map plain_memory c.args.memories.now) c.requires

pub bounds-held-n : goal.bounds-held-n
bounds-held-n c =
    held_there (map plain_cell c.args.cells.now) c.args.held.now (map plain_memory c.args.memories.now) (map plain_memory c.loop-n.memories) c.loop-n.n c.loop-n.next (plain_cell c.index-cells-n.result) c.loop-n.invariant
    (cell_there c.args.cells.now c.loop-n.n c.loop-n-test.true) (cell_at c.args.cells.now c.loop-n.n c.index-cells-n.result c.loop-n-test.true c.index-cells-n.is) c.if-cell.true

pub offset_bounds-held-n : goal.offset_bounds-held-n
offset_bounds-held-n c = let l = bounds-held-n c in grind (arith, common_steps)

pub bounds-memories-next : goal.bounds-memories-next
bounds-memories-next c =
    memory_back c.loop-n.memories c.loop-n.next
    (memory_there (map plain_cell c.args.cells.now) c.args.held.now (map plain_memory c.args.memories.now) (map plain_memory c.loop-n.memories) c.loop-n.n c.loop-n.next (plain_cell c.index-cells-n.result) c.loop-n.invariant
    (cell_there c.args.cells.now c.loop-n.n c.loop-n-test.true) (cell_at c.args.cells.now c.loop-n.n c.index-cells-n.result c.loop-n-test.true c.index-cells-n.is) c.if-cell.true)

pub offset_bounds-memories-next : goal.offset_bounds-memories-next
offset_bounds-memories-next c = let l = bounds-memories-next c in grind (arith, common_steps)

pub write_words-requires : goal.write_words-requires
write_words-requires c =
    let lt : c.loop-n.next < length c.loop-n.memories = memory_back c.loop-n.memories c.loop-n.next (memory_there (map plain_cell c.args.cells.now) c.args.held.now (map plain_memory c.args.memories.now) (map plain_memory c.loop-n.memories) c.loop-n.n c.loop-n.next (plain_cell c.index-cells-n.result) c.loop-n.invariant
    (cell_there c.args.cells.now c.loop-n.n c.loop-n-test.true) (cell_at c.args.cells.now c.loop-n.n c.index-cells-n.result c.loop-n-test.true c.index-cells-n.is) c.if-cell.true) in
    subst (CanRead (plain_kind c.index-cells-n.result.kind) c.index-held-n.result) (sym (c.deref_mut.ensures.value ∙ ap (λ (m : LoadedMemory). m.words.items) (sym c.index-memories-next.is)))
    (reads_next (map plain_cell c.args.cells.now) c.args.held.now (map plain_memory c.args.memories.now) (map plain_memory c.loop-n.memories) c.loop-n.n c.loop-n.next (plain_cell c.index-cells-n.result) c.loop-n.invariant
    (cell_there c.args.cells.now c.loop-n.n c.loop-n-test.true) (cell_at c.args.cells.now c.loop-n.n c.index-cells-n.result c.loop-n-test.true c.index-cells-n.is) c.if-cell.true c.index-held-n.result (plain_memory c.index-memories-next.result) (sym c.index-held-n.is)
    (memory_at c.loop-n.memories c.loop-n.next c.index-memories-next.result lt c.index-memories-next.is))

pub overflow_add-next : goal.overflow_add-next
overflow_add-next c =
    let lt : c.loop-n.next < length c.loop-n.memories = memory_back c.loop-n.memories c.loop-n.next (memory_there (map plain_cell c.args.cells.now) c.args.held.now (map plain_memory c.args.memories.now) (map plain_memory c.loop-n.memories) c.loop-n.n c.loop-n.next (plain_cell c.index-cells-n.result) c.loop-n.invariant
    (cell_there c.args.cells.now c.loop-n.n c.loop-n-test.true) (cell_at c.args.cells.now c.loop-n.n c.index-cells-n.result c.loop-n-test.true c.index-cells-n.is) c.if-cell.true) in
    first_of (grind (arith, common_steps), search (rules, lt))

pub loop-n-preserved : goal.loop-n-preserved
loop-n-preserved c = elim c.if-cell.branch [
  | then-cell w ↦
      let lt : c.loop-n.next < length c.loop-n.memories = memory_back c.loop-n.memories c.loop-n.next (memory_there (map plain_cell c.args.cells.now) c.args.held.now (map plain_memory c.args.memories.now) (map plain_memory c.loop-n.memories) c.loop-n.n c.loop-n.next (plain_cell c.index-cells-n.result) c.loop-n.invariant
      (cell_there c.args.cells.now c.loop-n.n c.loop-n-test.true) (cell_at c.args.cells.now c.loop-n.n c.index-cells-n.result c.loop-n-test.true c.index-cells-n.is) w.if-cell.true) in
      let count : length w.write_words.new.words ≡ (get_or c.loop-n.memories c.loop-n.next w.index-memories-next.result).words.len = first_of (omega (arith, w.write_words.auto.words, w.deref_mut.ensures.len), search (rules, w.write_words.auto.words, w.deref_mut.ensures.len)) in
      let same : map plain_memory c.if-cell.memories ≡ set (map plain_memory c.loop-n.memories) c.loop-n.next (with_word (plain_memory w.index-memories-next.result) (words_held w.index-held-n.result)) =
      ap (map plain_memory) w.memories-is
      ∙ memory_set c.loop-n.memories c.loop-n.next (get_or c.loop-n.memories c.loop-n.next w.index-memories-next.result)
      (record { row = (get_or c.loop-n.memories c.loop-n.next w.index-memories-next.result).row; signed = (get_or c.loop-n.memories c.loop-n.next w.index-memories-next.result).signed; words = with_items (get_or c.loop-n.memories c.loop-n.next w.index-memories-next.result).words w.write_words.new.words }) w.write_words.new.words
      (ap (with_word (plain_memory (get_or c.loop-n.memories c.loop-n.next w.index-memories-next.result))) (with_items_is (get_or c.loop-n.memories c.loop-n.next w.index-memories-next.result).words w.write_words.new.words count))
      ∙ ap (λ ws. set (map plain_memory c.loop-n.memories) c.loop-n.next (with_word (plain_memory (get_or c.loop-n.memories c.loop-n.next w.index-memories-next.result)) ws)) w.write_words.ensures
      ∙ ap (λ (m : LoadedMemory). set (map plain_memory c.loop-n.memories) c.loop-n.next (with_word (plain_memory m) (words_held w.index-held-n.result))) (sym w.index-memories-next.is) in
      subst (AreWritten (map plain_cell c.args.cells.now) c.args.held.now (map plain_memory c.args.memories.now) (map plain_memory c.if-cell.memories) (c.loop-n.n + 1)) (sym w.next-is)
      (subst (λ ms. AreWritten (map plain_cell c.args.cells.now) c.args.held.now (map plain_memory c.args.memories.now) ms (c.loop-n.n + 1) (c.loop-n.next + 1)) (sym same)
      (written_on (map plain_cell c.args.cells.now) c.args.held.now (map plain_memory c.args.memories.now) (map plain_memory c.loop-n.memories) c.loop-n.n c.loop-n.next (plain_cell c.index-cells-n.result) c.loop-n.invariant
      (cell_there c.args.cells.now c.loop-n.n c.loop-n-test.true) (cell_at c.args.cells.now c.loop-n.n c.index-cells-n.result c.loop-n-test.true c.index-cells-n.is) w.if-cell.true w.index-held-n.result (plain_memory w.index-memories-next.result) (sym w.index-held-n.is)
      (memory_at c.loop-n.memories c.loop-n.next w.index-memories-next.result lt w.index-memories-next.is)))
  | else-cell w ↦
      subst (AreWritten (map plain_cell c.args.cells.now) c.args.held.now (map plain_memory c.args.memories.now) (map plain_memory c.if-cell.memories) (c.loop-n.n + 1)) (sym w.next-is)
      (subst (λ ms. AreWritten (map plain_cell c.args.cells.now) c.args.held.now (map plain_memory c.args.memories.now) (map plain_memory ms) (c.loop-n.n + 1) c.loop-n.next) (sym w.memories-is)
      (written_past (map plain_cell c.args.cells.now) c.args.held.now (map plain_memory c.args.memories.now) (map plain_memory c.loop-n.memories) c.loop-n.n c.loop-n.next (plain_cell c.index-cells-n.result) c.loop-n.invariant
      (cell_there c.args.cells.now c.loop-n.n c.loop-n-test.true) (cell_at c.args.cells.now c.loop-n.n c.index-cells-n.result c.loop-n-test.true c.index-cells-n.is) w.if-cell.false))
]

pub returns : goal.returns
returns c = all_written c.args.cells.now c.args.held.now (map plain_memory c.args.memories.now) (map plain_memory c.loop-n.memories) c.loop-n.n c.loop-n.next c.loop-n.invariant c.loop-n-test.false
