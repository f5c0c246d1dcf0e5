use Rattle.std.proofs.Common.{◌<◌, None, length, ◌∙◌, subst, arith}
use Rattle.std.proofs.lemmas.List.{get_or-set_other, length-set}
use Rattle.std.specs.Prelude.{nat_lt}
use Rattle.cx_eval_drives.proofs.GatherLemmas.{so_far_next}
use Rattle.cx_eval_network.specs.Evaluated.{FillsWith, IsNoValue}
use Rattle.cx_eval_network.proofs.GatheredLemmas.{filled, gathered_end, lacked}
use Rattle.cx_eval_network.proofs.outputs.gather_known.Goals as goal

pub returns-in-Some-clause-value : goal.returns-in-Some-clause-value
returns-in-Some-clause-value c = λ look agree.
    let sized = c.loop-port.invariant.sized in
    let most = c.requires.reads in
    let lt : c.loop-port.port < c.args.reads = omega arith in
    lacked c.args.own.now c.args.first c.args.reads look agree c.loop-port.port lt (length c.args.inputs.now) c.loop-port.inputs _ c.in-Some.found (omega (arith, lt, most)) (length-set _ _ _ ∙ sized)
    (c.loop-port.invariant.far look agree) (subst (λ x. IsNoValue x c.in-Some.found) c.found_at.ensures.value c.in-Some.ensures.lacks)

pub loop-port-preserved : goal.loop-port-preserved
loop-port-preserved c =
    let sized = c.loop-port.invariant.sized in
    let most = c.requires.reads in
    let port = c.loop-port.port in
    let lt : port < c.args.reads = omega arith in
    record {
      sized = length-set c.loop-port.inputs port c.fill.new.slot ∙ sized;
      far = λ look agree.
          so_far_next look (λ q. nat_lt q c.args.reads) (length c.args.inputs.now) port c.loop-port.inputs c.fill.new.slot (omega (arith, lt, most)) (omega (arith, lt, most, sized)) (c.loop-port.invariant.far look agree)
          (filled c.args.own.now c.args.first c.args.reads look agree port lt c.fill.new.slot (subst (FillsWith c.fill.new.slot) c.found_at.ensures.value c.in_default.ensures.given));
      bare = λ n le. get_or-set_other c.loop-port.inputs port n c.fill.new.slot None (λ e. omega (arith, le, e)) ∙ c.loop-port.invariant.bare n (omega (arith, le));
    }

pub returns-clause-value : goal.returns-clause-value
returns-clause-value c = λ look agree.
    gathered_end look c.args.reads (length c.args.inputs.now) c.loop-port.port c.loop-port.inputs c.loop-port.invariant.sized (omega arith) c.loop-port.invariant.bare (c.loop-port.invariant.far look agree)
