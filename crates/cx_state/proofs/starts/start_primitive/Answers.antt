use Rattle.std.proofs.Common.{◌≡◌, sym, subst}
use Rattle.std.specs.Result.{IfOk}
use Rattle.cx_prim.specs.CellStates.{TakesWords}
use Rattle.cx_prim.specs.Rows.{start_with}
use Rattle.cx_prim.specs.Table.{row_of}
use Rattle.cx_state.specs.Starts.{RowTakes, row_started}
use Rattle.cx_state.proofs.StartLemmas.{next_words}
use Rattle.cx_state.proofs.starts.start_primitive.Goals as goal

pub start_with-requires : goal.start_with-requires
start_with-requires c =
    subst (λ words. TakesWords (row_of c.args.primitive.now).shape words) (sym c.as_slice.ensures.value)
    (subst (RowTakes (row_of c.args.primitive.now)) (next_words c.args.memories.now c.args.next c.index-memories-next.result c.args.external c.if-external.true c.if-next-memories.true) c.requires.takes)

pub returns-then-next-memories-clause-value : goal.returns-then-next-memories-clause-value
returns-then-next-memories-clause-value c =
    subst (λ words. IfOk c.start_with.result (λ held. held ≡ row_started (row_of c.args.primitive.now) words))
    (sym (next_words c.args.memories.now c.args.next c.index-memories-next.result c.args.external c.if-external.true c.if-next-memories.true))
    (subst (λ words. IfOk c.start_with.result (λ held. held ≡ start_with (row_of c.args.primitive.now) words)) c.as_slice.ensures.value c.start_with.ensures.value)
