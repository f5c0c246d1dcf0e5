-- What an expression of a net computes its expression in the text computes too.
use Rattle.std.proofs.Common.{◌≡◌, ℕ, zero, suc, ◌==◌, Bool, true, false, ◌&&◌, ◌||◌, not, List, [], ◌∷◌, Option, Some, option_map, refl, ap, sym, ◌∙◌, subst, if◌then◌else◌, arith}
use Rattle.std.specs.Prelude.{nat_lt, slice_get, codes}
use Rattle.std.proofs.lemmas.Bool.{ne_eqb}
use Rattle.cx_bits.specs.BitVector.{BitVector}
use Rattle.cx_bits.specs.Operators.{sum_of, and_of, or_of, complement_of}
use Rattle.cx_bits.proofs.OperatorLaws.{Fits-sum_of, Fits-complement_of}
use Rattle.cx_prim.specs.Rows.{IsOfWidth}
use Rattle.cx_meaning.specs.declared.ports.PortRef.{PortRef}
use Rattle.cx_meaning.specs.declared.ports.Comparison.{Comparison}
use Rattle.cx_meaning.specs.declared.ports.Comparison.TheVariants as comparisons
use Rattle.cx_meaning.specs.Truths.{compares}
use Rattle.cx_vtree.specs.declared.operators.Operator.TheVariants as operators
use Rattle.cx_vtree.specs.Plain.{PlainExpr, Named, Number, Chosen}
use Rattle.cx_vtree.specs.Operators.{operate}
use Rattle.cx_net.specs.Nets.{PlainNetExpr, OfPort, OfRegister, OfWire, OfHole, OfGo, Fixed, Inverse, AllOf, AnyOf, Sum, Compares, PlainNetExprs, no_exprs, an_expr, PlainNetDriver, PlainNetComponent, PlainNet}
use Rattle.cx_net.specs.NetMeaning.{Node, NetAround, truth_bit, both_known, is_true, net_expr, all_expr, any_expr, chain}
use Rattle.cx_net.proofs.DriverLemmas.{AreFitDrivers}
use Rattle.cx_emit.specs.Exprs.{literal, port_expr, operator_of, expr_of, exprs_to}
use Rattle.cx_emit.specs.Names.{wire_name, register_name}
use Rattle.cx_emit.specs.Chains.{is_one, before, chain_of}
use Rattle.cx_net.specs.NetFits.{HasWidth, HasPortWidth, AreBits}
use Rattle.cx_emit.proofs.Evals.{IsReading}
use Rattle.cx_emit.proofs.FoldLemmas.{Folds, last_part, a_part, folds-folded}
use Rattle.cx_text.proofs.OptionLaws.{map_some, bind_some}
use Rattle.cx_text.proofs.BoolLaws.{or_false, and_true_also, from_not, not_not, or_assoc}
use Rattle.cx_net.proofs.NetMeaningLemmas.{and_two, or_two, not_bit, bit_width}
use Rattle.cx_net.proofs.WidthLaws.{bit_is}

-- a value has the width, and stands in the text
abbrev pub Reads : (PlainExpr → BitVector → Type 0) → PlainExpr → ℕ → BitVector → Type 0
Reads E e w v = E e v × IsOfWidth w v

both_some : (f : BitVector → BitVector → BitVector) (a b : Option BitVector) (v : BitVector) → both_known f a b ≡ Some v → (x y : BitVector) × (a ≡ Some x) × (b ≡ Some y) × (f x y ≡ v)
both_some f a b v e =
    let (x, is, g) = bind_some (λ x. option_map (f x) b) a v e in
    let (y, is', h) = map_some (f x) b v g in
    (x, y, is, is', h)

some_is : (x y : BitVector) → Some x ≡ Some y → x ≡ y
some_is x y e = cc

and_assoc : (a b c : Bool) → (a && (b && c)) ≡ ((a && b) && c)
and_assoc true b c = refl
and_assoc false b c = refl

-- a comparison of the text is that of the net
compared : (c : Comparison) (x y : BitVector) → operate (operator_of c) x y ≡ truth_bit (compares c x.value y.value)
compared comparisons.Equal x y = refl
compared comparisons.NotEqual x y = not_bit (x.value == y.value)
compared comparisons.Less x y = refl
compared comparisons.Greater x y = refl
compared comparisons.AtMost x y = not_bit (nat_lt y.value x.value)
compared comparisons.AtLeast x y = not_bit (nat_lt x.value y.value)

module _ (net : PlainNet) (part : PlainNetComponent) (no_holes : part.holes ≡ 0) (E : PlainExpr → BitVector → Type 0) (reads : IsReading E)
    (around : NetAround) (registers : ℕ → Option BitVector) (look : Node → Option BitVector)
    (ports_read : (p : PortRef) (w : ℕ) (v : BitVector) → HasPortWidth net part p w → net_expr around registers look (OfPort p) ≡ Some v → Reads E (port_expr p) w v)
    (registers_read : (n w : ℕ) (v : BitVector) → slice_get part.registers n ≡ Some w → registers n ≡ Some v → Reads E (Named (register_name n)) w v)
    (wires_read : (n w : ℕ) (v : BitVector) → slice_get part.wires n ≡ Some w → net_expr around registers look (OfWire n) ≡ Some v → Reads E (Named (wire_name n)) w v)
    (go_reads : (v : BitVector) → around.go ≡ Some v → Reads E (Named (codes "go")) 1 v) where
  abbrev value : PlainNetExpr → Option BitVector
  value = net_expr around registers look

  abbrev all_value : PlainNetExprs → Option BitVector
  all_value = all_expr around registers look

  abbrev any_value : PlainNetExprs → Option BitVector
  any_value = any_expr around registers look

  abbrev AllFold : List PlainExpr → Bool → Type 0
  AllFold = Folds E reads operators.And ◌&&◌ and_two

  abbrev AnyFold : List PlainExpr → Bool → Type 0
  AnyFold = Folds E reads operators.Or ◌||◌ or_two

  -- the parts of a conjunction, and of a disjunction
  abbrev AllTogether : PlainNetExprs → Bool → Type 0
  AllTogether no_exprs b = b ≡ true
  AllTogether (an_expr a es) b = AllFold (exprs_to (an_expr a es)) b

  abbrev AnyTogether : PlainNetExprs → Bool → Type 0
  AnyTogether no_exprs b = b ≡ false
  AnyTogether (an_expr a es) b = AnyFold (exprs_to (an_expr a es)) b

  one_more_all : (a : PlainNetExpr) (es : PlainNetExprs) (c d : Bool) → E (expr_of a) (truth_bit c) → AllTogether es d → AllFold (exprs_to (an_expr a es)) (c && d)
  one_more_all a no_exprs c d h rest = subst (AllFold (expr_of a ∷ [])) (sym (ap (λ x. c && x) rest ∙ and_true_also c)) (last_part h)
  one_more_all a (an_expr b es) c d h rest = a_part h rest

  one_more_any : (a : PlainNetExpr) (es : PlainNetExprs) (c d : Bool) → E (expr_of a) (truth_bit c) → AnyTogether es d → AnyFold (exprs_to (an_expr a es)) (c || d)
  one_more_any a no_exprs c d h rest = subst (AnyFold (expr_of a ∷ [])) (sym (ap (λ x. c || x) rest ∙ or_false c)) (last_part h)
  one_more_any a (an_expr b es) c d h rest = a_part h rest

  all_reads : (es : PlainNetExprs) (b : Bool) → AllTogether es b → E (expr_of (AllOf es)) (truth_bit b)
  all_reads no_exprs b h = subst (λ x. E (expr_of (AllOf no_exprs)) (truth_bit x)) (sym h) (reads.number (truth_bit true))
  all_reads (an_expr a es) b h = folds-folded E reads operators.And ◌&&◌ and_two and_assoc (literal 1 1) (exprs_to (an_expr a es)) b h

  any_reads : (es : PlainNetExprs) (b : Bool) → AnyTogether es b → E (expr_of (AnyOf es)) (truth_bit b)
  any_reads no_exprs b h = subst (λ x. E (expr_of (AnyOf no_exprs)) (truth_bit x)) (sym h) (reads.number (truth_bit false))
  any_reads (an_expr a es) b h = folds-folded E reads operators.Or ◌||◌ or_two (λ x y z. sym (or_assoc x y z)) (literal 1 0) (exprs_to (an_expr a es)) b h

  mutual
    pub reads_expr : (e : PlainNetExpr) (w : ℕ) (v : BitVector) → HasWidth net part e w → value e ≡ Some v → Reads E (expr_of e) w v
    reads_expr (OfPort p) w v h e = ports_read p w v h e
    reads_expr (OfRegister n) w v h e = registers_read n w v h e
    reads_expr (OfWire n) w v h e = wires_read n w v h e
    reads_expr (OfHole n) w v h e = absurd (let lower = h.0 in omega arith)
    reads_expr OfGo w v h e = subst (λ u. Reads E (Named (codes "go")) u v) (sym h) (go_reads v e)
    reads_expr (Fixed b) w v h e = let same : b ≡ v = cc in subst (λ u. Reads E (Number b) w u) same (reads.number b, h)
    reads_expr (Inverse a) w v h e =
        let (x, is, f) = map_some complement_of (value a) v e in
        let r = reads_expr a w x h is in
        subst (Reads E (expr_of (Inverse a)) w) f (reads.opposite (expr_of a) x r.0, record { same_width = r.1.same_width; fits = Fits-complement_of x r.1.fits })
    reads_expr (AllOf es) w v h e =
        let (b, is, fold) = all_folds es v h.1 e in
        subst (Reads E (expr_of (AllOf es)) w) (sym is) (all_reads es b fold, subst (λ u. IsOfWidth u (truth_bit b)) (sym h.0) (bit_width b))
    reads_expr (AnyOf es) w v h e =
        let (b, is, fold) = any_folds es v h.1 e in
        subst (Reads E (expr_of (AnyOf es)) w) (sym is) (any_reads es b fold, subst (λ u. IsOfWidth u (truth_bit b)) (sym h.0) (bit_width b))
    reads_expr (Sum a b) w v h e =
        let (x, y, is, is', f) = both_some sum_of (value a) (value b) v e in
        let r = reads_expr a w x h.0 is in
        let q = reads_expr b w y h.1 is' in
        subst (Reads E (expr_of (Sum a b)) w) f (
          reads.applied operators.Add (expr_of a) (expr_of b) x y r.0 q.0,
          record { same_width = r.1.same_width; fits = Fits-sum_of x y r.1.fits },
        )
    reads_expr (Compares c a b) w v h e =
        let (x, y, is, is', f) = both_some (λ x y. truth_bit (compares c x.value y.value)) (value a) (value b) v e in
        let r = reads_expr a h.1.0 x h.1.1 is in
        let q = reads_expr b h.1.0 y h.1.2 is' in
        let same : operate (operator_of c) x y ≡ v = compared c x y ∙ f in
        subst (λ u. Reads E (expr_of (Compares c a b)) u v) (sym h.0) (
          subst (E (expr_of (Compares c a b))) same (reads.applied (operator_of c) (expr_of a) (expr_of b) x y r.0 q.0),
          subst (IsOfWidth 1) f (bit_width (compares c x.value y.value)),
        )

    all_folds : (es : PlainNetExprs) (v : BitVector) → AreBits net part es → all_value es ≡ Some v → (b : Bool) × (v ≡ truth_bit b) × AllTogether es b
    all_folds no_exprs v h e = (true, sym (some_is (truth_bit true) v e), refl)
    all_folds (an_expr a es) v h e =
        let (x, y, is, is', f) = both_some and_of (value a) (all_value es) v e in
        let r = reads_expr a 1 x h.0 is in
        let (c, bit) = bit_is x r.1 in
        let (d, rest, fold) = all_folds es y h.1 is' in
        (c && d, sym f ∙ ap (λ u. and_of u y) bit ∙ ap (and_of (truth_bit c)) rest ∙ and_two c d, one_more_all a es c d (subst (E (expr_of a)) bit r.0) fold)

    any_folds : (es : PlainNetExprs) (v : BitVector) → AreBits net part es → any_value es ≡ Some v → (b : Bool) × (v ≡ truth_bit b) × AnyTogether es b
    any_folds no_exprs v h e = (false, sym (some_is (truth_bit false) v e), refl)
    any_folds (an_expr a es) v h e =
        let (x, y, is, is', f) = both_some or_of (value a) (any_value es) v e in
        let r = reads_expr a 1 x h.0 is in
        let (c, bit) = bit_is x r.1 in
        let (d, rest, fold) = any_folds es y h.1 is' in
        (c || d, sym f ∙ ap (λ u. or_of u y) bit ∙ ap (or_of (truth_bit c)) rest ∙ or_two c d, one_more_any a es c d (subst (E (expr_of a)) bit r.0) fold)

  -- a guard that is the number 1 is 1
  one_is_true : (g : PlainNetExpr) (v : BitVector) → is_one g ≡ true → value g ≡ Some v → is_true v ≡ true
  one_is_true (Fixed b) v one e =
      let same : b ≡ v = cc in
      subst (λ (u : BitVector). is_true u ≡ true) same (number_is_true b.value one)
    where
      number_is_true : (n : ℕ) → (n == 1) ≡ true → not (n == 0) ≡ true
      number_is_true zero h = absurd (cc)
      number_is_true (suc n) h = ap not (ne_eqb (suc n) 0 (λ q. absurd (omega arith)))
  one_is_true (OfPort p) v one e = absurd (cc)
  one_is_true (OfRegister n) v one e = absurd (cc)
  one_is_true (OfWire n) v one e = absurd (cc)
  one_is_true (OfHole n) v one e = absurd (cc)
  one_is_true OfGo v one e = absurd (cc)
  one_is_true (Inverse a) v one e = absurd (cc)
  one_is_true (AllOf es) v one e = absurd (cc)
  one_is_true (AnyOf es) v one e = absurd (cc)
  one_is_true (Sum a b) v one e = absurd (cc)
  one_is_true (Compares c a b) v one e = absurd (cc)

  if_both : (b : Bool) (x y : PlainExpr) (v : BitVector) → E x v → E y v → E (if b then x else y) v
  if_both true x y v h k = h
  if_both false x y v h k = k

  if_other : (b : Bool) (x y : PlainExpr) (v : BitVector) → (b ≡ true → ⊥) → E y v → E (if b then x else y) v
  if_other true x y v h k = absurd (h refl)
  if_other false x y v h k = k

  -- a chain has the value of its first driver whose guard is 1, or what stands last
  pub reads_chain : (last : PlainExpr) (u : BitVector) (w : ℕ) → Reads E last w u → (ds : List PlainNetDriver) → AreFitDrivers net part w ds → (v : BitVector)
      → chain around registers look u ds ≡ Some v → Reads E (chain_of last ds) w v
  reads_chain last u w h [] fits v e = let same : u ≡ v = cc in subst (Reads E last w) same h
  reads_chain last u w h (d ∷ ds) fits v e =
      let (g, is, f) = bind_some (λ g. if is_true g then value d.source else chain around registers look u ds) (value d.guard) v e in
      go g is (is_true g) refl f (reads_expr d.guard 1 g fits.0 is).0 (reads_chain last u w h ds fits.2 v)
    where
      go : (g : BitVector) → value d.guard ≡ Some g → (t : Bool) → is_true g ≡ t → (if t then value d.source else chain around registers look u ds) ≡ Some v → E (expr_of d.guard) g
          → (chain around registers look u ds ≡ Some v → Reads E (chain_of last ds) w v) → Reads E (before d (chain_of last ds)) w v
      go g is true test f guard later =
          let r = reads_expr d.source w v fits.1 f in (
            if_both (is_one d.guard) (expr_of d.source) (Chosen (expr_of d.guard) (expr_of d.source) (chain_of last ds)) v r.0
                (reads.one (expr_of d.guard) (expr_of d.source) (chain_of last ds) g v guard (from_not (g.value == 0) test) r.0),
            r.1,
          )
      go g is false test f guard later =
          let r = later f in (
            if_other (is_one d.guard) (expr_of d.source) (Chosen (expr_of d.guard) (expr_of d.source) (chain_of last ds)) v
                (λ one. let same = sym test ∙ one_is_true d.guard g one is in cc)
                (reads.other (expr_of d.guard) (expr_of d.source) (chain_of last ds) g v guard (not_not (g.value == 0) test) r.0),
            r.1,
          )
