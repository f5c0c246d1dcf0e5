use Rattle.std.proofs.Common.{◌+◌, Bool, refl, sym, ap, subst}
use Rattle.cx_weave.specs.Ledger.{arms_amount, arms_box_amount, arms_left_amount}
use Rattle.cx_weave.specs.Strands.{plain_arms}
use Rattle.cx_weave.specs.Strides.{IsInFront, kept_if}
use Rattle.cx_weave.proofs.PartLedgers.{half_alone, half_place, halves_kept, other_place}
use Rattle.cx_weave.proofs.parts.front_left.Goals as goal

pub give_arms-requires : goal.give_arms-requires
give_arms-requires c = record {
  place = half_place c.args.spares.now (kept_if c.args.goes c.args.one.value) (λ x. arms_amount x c.args.other.value) (λ x. (arms_box_amount x + arms_left_amount x (kept_if c.args.goes c.args.one.value)) + (arms_box_amount x + arms_amount x c.args.other.value)) (λ x. refl) c.requires.places;
}

pub only-requires : goal.only-requires
only-requires c = record {
  places = other_place c.args.spares.now c.give_arms.new.spares (kept_if c.args.goes c.args.one.value) (λ x. arms_amount x c.args.other.value) (λ x. (arms_box_amount x + arms_left_amount x (kept_if c.args.goes c.args.one.value)) + (arms_box_amount x + arms_amount x c.args.other.value)) (λ x. refl) c.requires.places
      c.give_arms.ensures.ledger;
}

pub returns-then-goes-clause-front : goal.returns-then-goes-clause-front
returns-then-goes-clause-front c = subst (λ (g : Bool). IsInFront (kept_if g c.args.one.value) (plain_arms c.args.other.value) (plain_arms c.both.result)) (sym c.if-goes.true) c.both.ensures.both

pub returns-then-goes-clause-ledger : goal.returns-then-goes-clause-ledger
returns-then-goes-clause-ledger c = halves_kept c.args.spares.now (kept_if c.args.goes c.args.one.value) c.args.one.value c.both.result (λ x. arms_amount x c.args.other.value) (λ x. (arms_box_amount x + arms_left_amount x (kept_if c.args.goes c.args.one.value)) + (arms_box_amount x + arms_amount x c.args.other.value))
    (ap (λ (g : Bool). kept_if g c.args.one.value) c.if-goes.true) (λ x. refl) c.both.ensures.amount

pub returns-clause-front : goal.returns-clause-front
returns-clause-front c = subst (λ (g : Bool). IsInFront (kept_if g c.args.one.value) (plain_arms c.args.other.value) (plain_arms c.only.result)) (sym c.if-goes.false) (ap plain_arms c.only.ensures.value)

pub returns-clause-ledger : goal.returns-clause-ledger
returns-clause-ledger c =
    half_alone c.args.spares.now c.give_arms.new.spares c.only.new.spares (kept_if c.args.goes c.args.one.value) c.only.result c.args.other.value (λ x. (arms_box_amount x + arms_left_amount x (kept_if c.args.goes c.args.one.value)) + (arms_box_amount x + arms_amount x c.args.other.value))
    (ap (λ (g : Bool). kept_if g c.args.one.value) c.if-goes.false) c.only.ensures.value (λ x. refl) c.give_arms.ensures.ledger c.only.ensures.ledger
