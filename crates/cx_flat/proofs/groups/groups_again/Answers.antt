use Rattle.std.proofs.Common.{◌≡◌, ◌∙◌, ◌<◌, get_or, length, ap, arith, subst}
use Rattle.std.specs.Vec.{vec_len}
use Rattle.cx_flattening.specs.Flattened.{first_copy}
use Rattle.cx_flat.specs.Callers.{kids_in, part_of}
use Rattle.cx_flat.proofs.GroupLemmas.{first_is, firsts_told, groups_more}
use Rattle.cx_flat.proofs.groups.groups_again.Goals as goal
use Rattle.cx_text.proofs.ListLaws.{range_pushed}

pub loop-invoke-preserved : goal.loop-invoke-preserved
loop-invoke-preserved c =
    let kids = kids_in c.args.caller in
    let part = c.args.caller.part.now in
    let i = c.loop-invoke.invoke-index in
    let v = c.invoke-item.result in
    let less : i < length part.invokes.items = subst (λ vs. i < length vs) c.deref-invoke-items.ensures.value c.loop-invoke-test.true in
    let at : v ≡ get_or part.invokes.items i v = c.invoke-item.is ∙ ap (λ vs. get_or vs i v) c.deref-invoke-items.ensures.value in
    let size : vec_len c.loop-invoke.groups ≡ length c.loop-invoke.groups.items = omega (arith, c.loop-invoke.groups.ok.0) in
    let first : c.in_ok-number.field-0 ≡ first_copy kids (part_of c.args.caller) i =
    c.in_ok-number.ensures.value ∙ c.len-in-loop-invoke.ensures ∙ size ∙ first_is kids part i c.loop-invoke.groups.items c.loop-invoke.invariant.groups in
    record {
      groups = groups_more kids part i c.loop-invoke.groups.items c.in_ok-groups-2.groups.items v less at c.loop-invoke.invariant.groups c.in_ok-groups-2.ensures.value;
      firsts = range_pushed (first_copy kids (part_of c.args.caller)) c.loop-invoke.firsts.items c.push.new.self.items c.in_ok-number.field-0 i c.in_ok-push.ensures.items c.loop-invoke.invariant.firsts first;
    }

pub returns-clause-firsts : goal.returns-clause-firsts
returns-clause-firsts c = λ k n at.
    firsts_told (first_copy (kids_in c.args.caller) (part_of c.args.caller)) c.loop-invoke.firsts.items c.loop-invoke.invoke-index k n c.loop-invoke.invariant.firsts at
