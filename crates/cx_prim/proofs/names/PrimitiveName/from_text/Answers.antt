use Rattle.std.proofs.Common.{arith}
use Rattle.std.proofs.lemmas.Option.{slice_get-get_or}
use Rattle.cx_prim.proofs.NameLemmas.{all_names, nameable_at, stands, unnamed_next}
use Rattle.cx_prim.proofs.names.PrimitiveName.from_text.Goals as goal

pub returns-then-is_spelled-clause-some : goal.returns-then-is_spelled-clause-some
returns-then-is_spelled-clause-some c = record {
  spelled = c.is_spelled.ensures.value.0 c.if-is_spelled.true;
  nameable = nameable_at c.loop-name.name-index _ (slice_get-get_or all_names c.loop-name.name-index _ c.loop-name-test.true);
}

pub loop-name-preserved : goal.loop-name-preserved
loop-name-preserved c =
    unnamed_next c.args.text.now c.loop-name.name-index _ (slice_get-get_or all_names c.loop-name.name-index _ c.loop-name-test.true)
    (λ spelled. let wrong = c.is_spelled.ensures.value.1 spelled in let off = c.if-is_spelled.false in cc) c.loop-name.invariant

pub returns-clause-none : goal.returns-clause-none
returns-clause-none c name named =
    let place = stands name named.nameable in
    c.loop-name.invariant place.0 name (omega (arith, c.loop-name-test.false, place.1)) place.2 named.spelled
