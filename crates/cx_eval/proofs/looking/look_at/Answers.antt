use Rattle.std.proofs.Common.{◌≡◌, true, sym, ◌∙◌, arith}
use Rattle.std.proofs.lemmas.Result.{err_from_is_err_and}
use Rattle.cx_prim.specs.Table.{row_of}
use Rattle.cx_prim.proofs.TableLaws.{row_of_lawful}
use Rattle.cx_eval_network.proofs.ShortLemmas.{rows_are_short}
use Rattle.cx_eval_cycle.proofs.LookLemmas.{looked_all, looked_beyond, looked_goes, quiet_goes, quiet_looked, stops_demanded, stops_enabling}
use Rattle.cx_eval.specs.Looked.{seen_from}
use Rattle.cx_eval.proofs.NodePlaces.{outcome_from}
use Rattle.cx_eval.proofs.looking.look_at.Goals as goal

pub returns-in_err-quiet-clause-value : goal.returns-in_err-quiet-clause-value
returns-in_err-quiet-clause-value c = λ cell stand.
    let a = c.args.asking.now in
    let p = c.args.stepping.now.primitive.now in
    let first = c.args.first in
    let told = err_from_is_err_and c.from_residual.result c.from_residual.ensures.1 in
    rw (told.1, told.2)
    (stops_enabling (seen_from a first) (row_of p) c.args.state.now c.in_err-quiet.field-0.0 c.in_err-quiet.ensures.stops
    ∙ outcome_from a cell p first c.args.state.now stand)

pub returns-then-quiet-clause-value : goal.returns-then-quiet-clause-value
returns-then-quiet-clause-value c = λ cell stand.
    let a = c.args.asking.now in
    let p = c.args.stepping.now.primitive.now in
    let first = c.args.first in
    let on : c.in_ok-quiet.quiet ≡ true = cc in
    quiet_goes (seen_from a first) (row_of p) c.args.state.now (row_of_lawful p) c.demand_enabling.new.inputs c.in_ok-quiet.ensures.stand (c.in_ok-quiet.ensures.quiet on)
    ∙ outcome_from a cell p first c.args.state.now stand

pub returns-then-quiet-clause-looked_at : goal.returns-then-quiet-clause-looked_at
returns-then-quiet-clause-looked_at c =
    let p = c.args.stepping.now.primitive.now in
    let on : c.in_ok-quiet.quiet ≡ true = cc in
    quiet_looked (seen_from c.args.asking.now c.args.first) (row_of p) c.args.state.now (row_of_lawful p) c.demand_enabling.new.inputs c.in_ok-quiet.ensures.stand (c.in_ok-quiet.ensures.quiet on)

pub returns-in_err-demand_plain-clause-value : goal.returns-in_err-demand_plain-clause-value
returns-in_err-demand_plain-clause-value c = λ cell stand.
    let a = c.args.asking.now in
    let p = c.args.stepping.now.primitive.now in
    let first = c.args.first in
    let told = err_from_is_err_and c.from_residual-in_err-demand_plain.result c.from_residual-in_err-demand_plain.ensures.1 in
    rw (told.1, told.2)
    (stops_demanded (seen_from a first) (row_of p) c.args.state.now (row_of_lawful p) c.demand_enabling.new.inputs c.in_ok-quiet.ensures.stand c.in_err-demand_plain.field-0.0 c.in_err-demand_plain.ensures.stops
    ∙ outcome_from a cell p first c.args.state.now stand)

pub overflow_cast-result : goal.overflow_cast-result
overflow_cast-result c =
    let p = c.args.stepping.now.primitive.now in
    let others = c.demand_plain.new.inputs in
    let below = (row_of_lawful p).ranges others c.in-Some.port (sym (c.requires.stepping.addresses others) ∙ sym c.out_of_range.ensures.value ∙ c.in-Some.is) in
    let short = rows_are_short p in
    omega (arith, below, short)

pub returns-in-Some-clause-value : goal.returns-in-Some-clause-value
returns-in-Some-clause-value c = λ cell stand.
    let a = c.args.asking.now in
    let p = c.args.stepping.now.primitive.now in
    let first = c.args.first in
    let others = c.demand_plain.new.inputs in
    looked_beyond (seen_from a first) (row_of p) c.args.state.now (row_of_lawful p) c.demand_enabling.new.inputs c.in_ok-quiet.ensures.stand others c.in_ok-demand_plain.ensures.stand c.in-Some.port
    (sym (c.requires.stepping.addresses others) ∙ sym c.out_of_range.ensures.value ∙ c.in-Some.is)
    ∙ outcome_from a cell p first c.args.state.now stand

pub returns-in-None-clause-value : goal.returns-in-None-clause-value
returns-in-None-clause-value c = λ cell stand.
    let a = c.args.asking.now in
    let p = c.args.stepping.now.primitive.now in
    let first = c.args.first in
    let others = c.demand_plain.new.inputs in
    looked_goes (seen_from a first) (row_of p) c.args.state.now (row_of_lawful p) c.demand_enabling.new.inputs c.in_ok-quiet.ensures.stand others c.in_ok-demand_plain.ensures.stand
    (sym (c.requires.stepping.addresses others) ∙ sym c.out_of_range.ensures.value ∙ c.in-None.is)
    ∙ outcome_from a cell p first c.args.state.now stand

pub returns-in-None-clause-looked_at : goal.returns-in-None-clause-looked_at
returns-in-None-clause-looked_at c =
    let p = c.args.stepping.now.primitive.now in
    looked_all (seen_from c.args.asking.now c.args.first) (row_of p) c.args.state.now (row_of_lawful p) c.demand_enabling.new.inputs c.in_ok-quiet.ensures.stand
    c.demand_plain.new.inputs c.in_ok-demand_plain.ensures.stand
