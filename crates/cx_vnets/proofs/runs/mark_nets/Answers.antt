use Rattle.std.proofs.Common.{◌≡◌, ℕ, true, false, List, length, sym, ap, ◌∙◌, subst}
use Rattle.std.proofs.lemmas.List.{with_items_is}
use Rattle.std.specs.Vec.{with_items}
use Rattle.cx_bits.specs.BitVector.{BitVector}
use Rattle.cx_vnets.specs.Gates.{IsZero, ZerosStand}
use Rattle.cx_vnets.specs.Stale.{is_stale, rank_at}
use Rattle.cx_vnets.proofs.RankLemmas.{has_place}
use Rattle.cx_vnets.proofs.runs.mark_nets.Goals as goal

pub returns-clause-current : goal.returns-clause-current
returns-clause-current c =
    let m = c.args.machine.now in
    let b = c.carry_values.new.bench in
    let all = c.mark_all.new.stale in
    let noted = c.note_zeros.new.nonzero in
    let stale : (with_items b.stale all).items ≡ all = with_items_is b.stale all (c.mark_all.ensures.long ∙ c.deref_mut.ensures.len) in
    let nonzero : (with_items b.nonzero noted).items ≡ noted = with_items_is b.nonzero noted (c.note_zeros.ensures.long ∙ c.deref_mut-2.ensures.len) in
    let long : length all ≡ length m.nets.drivers.items = c.mark_all.ensures.long ∙ ap (λ (xs : List ℕ). length xs) c.deref_mut.ensures.value ∙ ap (λ (xs : List ℕ). length xs) c.carry_values.ensures.stale ∙ c.requires.stale in
    record {
      readers = c.requires.readers;
      long = ap (λ (xs : List ℕ). length xs) stale ∙ long;
      agree = λ is f lt free.
          let rank = rank_at m.readers.ranks.items f in
          let place = has_place m.nets m.order.items m.readers.ranks.items all (c.requires.readers.ranked is) long f lt in
          let marked : is_stale all rank ≡ true = c.mark_all.ensures.all rank place.1 in
          let unmarked : is_stale all rank ≡ false = ap (λ xs. is_stale xs rank) (sym stale) ∙ free in
          absurd (let e : true ≡ false = sym marked ∙ unmarked in cc);
      alike = c.carry_values.ensures.alike;
      nonzero = λ is. subst (λ (bytes : List ℕ). ZerosStand m.readers.carriers.origins.items bytes b.values.items) (sym nonzero)
          (λ f own known. subst (λ (values : List BitVector). IsZero values f) c.deref.ensures.value (c.note_zeros.ensures.stand f known));
    }
