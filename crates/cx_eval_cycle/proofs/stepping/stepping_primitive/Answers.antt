use Rattle.std.proofs.Common.{sym, arith}
use Rattle.std.proofs.lemmas.Bool.{eqb-true}
use Rattle.std.specs.Vec.{vec_len}
use Rattle.cx_prim.specs.Table.{row_of}
use Rattle.cx_eval_cycle.proofs.InertLemmas.{none_numbered}
use Rattle.cx_eval_cycle.proofs.stepping.stepping_primitive.Goals as goal

pub returns-then-is_empty : goal.returns-then-is_empty
returns-then-is_empty c =
    let numbers = c.in_ok-enabling.enabling in
    let none = eqb-true (vec_len numbers) 0 (sym c.if-is_empty.ensures) in
    record { value = none_numbered (row_of c.args.primitive.now) numbers.items c.in_ok-enabling.ensures.value (omega (arith, numbers.ok, none)) }
