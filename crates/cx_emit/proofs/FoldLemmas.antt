-- Bits under one operator have the value of their fold, however they are paired.
use Rattle.std.proofs.Common.{◌≡◌, ℕ, zero, suc, Bool, true, false, List, [], ◌∷◌, length, sym, subst, if◌then◌else◌}
use Rattle.std.specs.Prelude.{nat_lt}
use Rattle.cx_bits.specs.BitVector.{BitVector}
use Rattle.cx_vtree.specs.declared.operators.Operator.{Operator}
use Rattle.cx_vtree.specs.Plain.{PlainExpr, Applied}
use Rattle.cx_vtree.specs.Operators.{operate}
use Rattle.cx_net.specs.NetMeaning.{truth_bit}
use Rattle.cx_emit.specs.Exprs.{paired, paired_often, to_the_right, joined, rounds, folded}
use Rattle.cx_emit.proofs.Evals.{IsReading}

module _ (E : PlainExpr → BitVector → Type 0) (reads : IsReading E) (op : Operator) (join : Bool → Bool → Bool)
    (step : (a b : Bool) → operate op (truth_bit a) (truth_bit b) ≡ truth_bit (join a b)) where
  -- the parts are bits, and these together make this one
  pub data Folds : List PlainExpr → Bool → Type 0 where
    last_part : {e : PlainExpr} {a : Bool} → E e (truth_bit a) → Folds (e ∷ []) a
    a_part : {e f : PlainExpr} {es : List PlainExpr} {a b : Bool} → E e (truth_bit a) → Folds (f ∷ es) b → Folds (e ∷ f ∷ es) (join a b)

  two : (a b : PlainExpr) (x y : Bool) → E a (truth_bit x) → E b (truth_bit y) → E (Applied op a b) (truth_bit (join x y))
  two a b x y h k = subst (E (Applied op a b)) (step x y) (reads.applied op a b (truth_bit x) (truth_bit y) h k)

  folds-right : (e : PlainExpr) (es : List PlainExpr) (v : Bool) → Folds (e ∷ es) v → E (to_the_right op e es) (truth_bit v)
  folds-right e [] v (last_part h) = h
  folds-right e (f ∷ es) v (a_part {a = a} {b = b} h k) = two e (to_the_right op f es) a b h (folds-right f es b k)

  module _ (assoc : (x y z : Bool) → join x (join y z) ≡ join (join x y) z) where
    folds-paired : (es : List PlainExpr) (v : Bool) → Folds es v → Folds (paired op es) v
    folds-paired [] v h = absurd (elim h [ ])
    folds-paired (e ∷ []) v h = h
    folds-paired (e ∷ f ∷ []) v (a_part {a = a} h (last_part {a = b} k)) = last_part (two e f a b h k)
    folds-paired (e ∷ f ∷ g ∷ []) v (a_part {a = a} h (a_part {a = b} {b = c} k r)) = subst (Folds (Applied op e f ∷ g ∷ [])) (sym (assoc a b c)) (a_part (two e f a b h k) r)
    folds-paired (e ∷ f ∷ g ∷ i ∷ es) v (a_part {a = a} h (a_part {a = b} {b = c} k r)) =
        subst (Folds (Applied op e f ∷ Applied op g i ∷ paired op es)) (sym (assoc a b c)) (a_part (two e f a b h k) (folds-paired (g ∷ i ∷ es) c r))

    by_test : (t : Bool) (xs ys : List PlainExpr) (v : Bool) → Folds xs v → Folds ys v → Folds (if t then xs else ys) v
    by_test true xs ys v h k = h
    by_test false xs ys v h k = k

    folds-paired_often : (n : ℕ) (es : List PlainExpr) (v : Bool) → Folds es v → Folds (paired_often n op es) v
    folds-paired_often zero es v h = h
    folds-paired_often (suc n) es v h = by_test (nat_lt 1 (length es)) (paired_often n op (paired op es)) es v (folds-paired_often n (paired op es) v (folds-paired es v h)) h

    folds-joined : (none : PlainExpr) (es : List PlainExpr) (v : Bool) → Folds es v → E (joined op none es) (truth_bit v)
    folds-joined none [] v h = absurd (elim h [ ])
    folds-joined none (e ∷ es) v h = folds-right e es v h

    -- so their fold has that value
    pub folds-folded : (none : PlainExpr) (es : List PlainExpr) (v : Bool) → Folds es v → E (folded op none es) (truth_bit v)
    folds-folded none es v h = folds-joined none (paired_often rounds op es) v (folds-paired_often rounds es v h)
