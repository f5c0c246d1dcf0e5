use Rattle.std.proofs.Common.{◌≡◌, ◌==◌, IsSome, refl, ap, sym, ◌∙◌, subst, arith}
use Rattle.std.proofs.lemmas.Option.{get_or_from_slice_get}
use Rattle.cx_bits.specs.BitVector.{BitVector}
use Rattle.cx_vnets.specs.Search.{no_bits}
use Rattle.cx_vnets.proofs.Widths.{net_there}
use Rattle.cx_text.proofs.ListLaws.{read_at}
use Rattle.cx_vnets.proofs.runs.look.Goals as goal

pub index-requires : goal.index-requires
index-requires c =
    let m = c.args.machine.now in
    let b = c.values.new.bench in
    let r = c.in_default.ensures.ready in
    let lt = net_there b.values.items m.done (subst IsSome (sym (r.values m.done)) r.done) in
    omega (arith, lt, b.values.ok.0)

pub returns-then-value-eq1-clause-value : goal.returns-then-value-eq1-clause-value
returns-then-value-eq1-clause-value c =
    let m = c.args.machine.now in
    let values = c.values.new.bench.values.items in
    let r = c.in_default.ensures.ready in
    let lt = net_there values m.done (subst IsSome (sym (r.values m.done)) r.done) in
    let v : BitVector = c.index.result.now in
    let at = get_or_from_slice_get values m.done v no_bits (read_at values m.done v lt c.index.ensures) in
    let one : v.value ≡ 1 = sym c.value.ensures.value ∙ c.if-value-eq1.true in
    (refl, c.in_default.ensures.value, ap (λ (b : BitVector). b.value == 1) at ∙ ap (λ x. x == 1) one)
