use Rattle.std.proofs.Common.{◌≡◌, List, length, ap, sym, ◌∙◌, subst}
use Rattle.cx_bits.specs.BitVector.{BitVector}
use Rattle.cx_vnets.specs.Carriers.{origin_at}
use Rattle.cx_vnets.specs.Fits.{width_at}
use Rattle.cx_vnets.proofs.CarrierLemmas.{origin_width}
use Rattle.cx_vnets.proofs.WholeLooks.{same_length}
use Rattle.cx_vnets.proofs.runs.carry_values.Goals as goal

pub carry_all-requires-clause-carriers : goal.carry_all-requires-clause-carriers
carry_all-requires-clause-carriers c =
    let m = c.args.machine.now in
    (m.nets, m.readers.ranks.items, c.requires.readers.carriers c.if-machine.true)

pub carry_all-requires-clause-long : goal.carry_all-requires-clause-long
carry_all-requires-clause-long c =
    let m = c.args.machine.now in
    let s = c.args.stored.now in
    let b = c.args.bench.now in
    ap (λ (xs : List BitVector). length xs) c.deref_mut.ensures.value ∙ same_length b.values.items s.nets.items c.requires.ready.values ∙ sym c.requires.ready.fits.long
    ∙ sym (c.requires.readers.carriers c.if-machine.true).long

pub carry_all-requires-clause-wide : goal.carry_all-requires-clause-wide
carry_all-requires-clause-wide c =
    let m = c.args.machine.now in
    let s = c.args.stored.now in
    let r = c.requires.ready in
    let origins = m.readers.carriers.origins.items in
    λ f. subst (λ (values : List BitVector). width_at values f ≡ width_at values (origin_at origins f)) (sym c.deref_mut.ensures.value)
    (r.values f ∙ origin_width m.nets m.readers.ranks.items m.readers.carriers (c.requires.readers.carriers c.if-machine.true) s r.fits f ∙ sym (r.values (origin_at origins f)))
