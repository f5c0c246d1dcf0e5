use Rattle.std.proofs.Common.{◌≡◌, ℕ, List, length, sym, ap, ◌∙◌, subst}
use Rattle.std.proofs.lemmas.List.{with_items_is}
use Rattle.std.specs.Vec.{with_items}
use Rattle.cx_bits.specs.BitVector.{BitVector}
use Rattle.cx_vnets.specs.Carriers.{AreAlike}
use Rattle.cx_vnets.specs.Gates.{ZerosStand}
use Rattle.cx_vnets.specs.Readers.{Sweeping, UnmarkedAgree}
use Rattle.cx_vnets.specs.Runs.{AreValues}
use Rattle.cx_vnets.proofs.CurrentLemmas.{swept_values}
use Rattle.cx_vnets.proofs.WholeLooks.{same_length}
use Rattle.cx_text.proofs.ListLaws.{written_back}
use Rattle.cx_vnets.proofs.runs.values.Goals as goal

pub returns-then-machine-clause-value : goal.returns-then-machine-clause-value
returns-then-machine-clause-value c =
    let m = c.args.machine.now in
    let s = c.args.stored.now in
    let b = c.args.bench.now in
    let new = c.sweep.new.values in
    let swept = subst (λ o. Sweeping m.nets s m.readers c.sweep.new.stale new (length o)) c.deref.ensures.value c.sweep.ensures.sweeping in
    let long : b.values.len ≡ length new = b.values.ok.0 ∙ same_length b.values.items s.nets.items c.requires.ready.values ∙ sym (same_length new s.nets.items swept.widths) in
    subst (AreValues m s) (sym (written_back new _ b.values.len long)) (swept_values m s b c.sweep.new.stale new c.requires.ready c.requires.current c.if-machine.true swept)

pub returns-then-machine-clause-current : goal.returns-then-machine-clause-current
returns-then-machine-clause-current c =
    let m = c.args.machine.now in
    let s = c.args.stored.now in
    let b = c.args.bench.now in
    let swept = c.sweep.ensures.sweeping in
    let stale : (with_items b.stale c.sweep.new.stale).items ≡ c.sweep.new.stale = with_items_is b.stale c.sweep.new.stale (c.sweep.auto.stale ∙ c.deref_mut.ensures.len) in
    let values : (with_items b.values c.sweep.new.values).items ≡ c.sweep.new.values = with_items_is b.values c.sweep.new.values (c.sweep.auto.values ∙ c.deref_mut-then-machine.ensures.len) in
    let nonzero : (with_items b.nonzero c.sweep.new.nonzero).items ≡ c.sweep.new.nonzero = with_items_is b.nonzero c.sweep.new.nonzero (c.sweep.auto.nonzero ∙ c.deref_mut-then-machine-2.ensures.len) in
    record {
      readers = c.requires.current.readers;
      long = ap (λ (xs : List ℕ). length xs) stale ∙ swept.long;
      agree = λ is. subst (λ (xs : List ℕ). UnmarkedAgree m.nets s m.readers.ranks.items xs (with_items b.values c.sweep.new.values).items) (sym stale)
          (subst (λ (vs : List BitVector). UnmarkedAgree m.nets s m.readers.ranks.items c.sweep.new.stale vs) (sym values) swept.agree);
      alike = λ is. subst (λ (vs : List BitVector). AreAlike m.readers.carriers.origins.items vs) (sym values) swept.alike;
      nonzero = λ is. subst (λ (bytes : List ℕ). ZerosStand m.readers.carriers.origins.items bytes (with_items b.values c.sweep.new.values).items) (sym nonzero)
          (subst (λ (vs : List BitVector). ZerosStand m.readers.carriers.origins.items c.sweep.new.nonzero vs) (sym values) c.sweep.ensures.nonzero);
    }
