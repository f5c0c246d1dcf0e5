-- Expressions and chains of a net keep the rules in a scope, where its ports, registers and wires do.
use Rattle.std.proofs.Common.{◌≡◌, ℕ, zero, suc, ◌+◌, ◌-◌, ◌*◌, ◌^◌, ◌<◌, ◌≤◌, Bool, true, false, List, [], ◌∷◌, length, slice_get, Some, refl, ap, sym, subst, if◌then◌else◌, arith}
use Rattle.std.specs.Prelude.{nat_lt, codes}
use Rattle.std.proofs.lemmas.Bool.{ltb-true, ltb-false}
use Rattle.cx_text.specs.Members.{Each}
use Rattle.cx_prim.specs.Rows.{IsOfWidth}
use Rattle.cx_meaning.specs.declared.ports.PortRef.{PortRef}
use Rattle.cx_meaning.specs.declared.ports.Comparison.{Comparison}
use Rattle.cx_meaning.specs.declared.ports.Comparison.TheVariants as comparisons
use Rattle.cx_vtree.specs.declared.operators.Operator.{Operator}
use Rattle.cx_vtree.specs.declared.operators.Operator.TheVariants as operators
use Rattle.cx_vtree.specs.Plain.{PlainExpr, Named, Applied, Chosen}
use Rattle.cx_vtree.specs.Sound.{Scope, is_comparison}
use Rattle.cx_net.specs.Nets.{PlainNetExpr, OfPort, OfRegister, OfWire, OfHole, OfGo, Fixed, Inverse, AllOf, AnyOf, Sum, Compares, PlainNetExprs, no_exprs, an_expr, PlainNetDriver, PlainNetComponent, PlainNet}
use Rattle.cx_net.specs.NetFits.{HasPortWidth, HasWidth, AreBits}
use Rattle.cx_net.specs.NetLimits.{IsRead, parts_of, StandsIn, AllStandIn, IsWritableDriver}
use Rattle.cx_emit.specs.Exprs.{paired, paired_often, joined, folded, literal, port_expr, operator_of, expr_of, exprs_to}
use Rattle.cx_emit.specs.Names.{wire_name, register_name}
use Rattle.cx_emit.specs.Chains.{is_one, chain_of}
use Rattle.cx_net.proofs.DriverLemmas.{AreFitDrivers}
use Rattle.cx_emit.proofs.Keeping.{Keeps, keeps_number, keeps_applied, keeps_inverted, keeps_chosen, keeps_more, keeps_as}

-- half of the parts, and one more of an odd number
length-paired : (op : Operator) (xs : List PlainExpr) (n : ℕ) → length xs ≤ 2 * n → length (paired op xs) ≤ n
length-paired op [] n few = omega arith
length-paired op (a ∷ []) n few = omega (arith, few)
length-paired op (a ∷ b ∷ xs) zero few = absurd (omega (arith, few))
length-paired op (a ∷ b ∷ xs) (suc n) few = let rest = length-paired op xs n (omega (arith, few)) in omega (arith, rest)

-- BITS UNDER ONE OPERATOR
module _ (scope : Scope) (op : Operator) (bits : is_comparison op ≡ false) where
  abbrev Bits : ℕ → List PlainExpr → Type 0
  Bits levels xs = Each (λ x. Keeps scope levels x 1) xs

  bits_more : (m n : ℕ) (xs : List PlainExpr) → m ≤ n → Bits m xs → Bits n xs
  bits_more m n [] more each = tt
  bits_more m n (x ∷ xs) more each = (keeps_more scope m n x 1 more each.0, bits_more m n xs more each.1)

  paired_keep : (levels : ℕ) (xs : List PlainExpr) → Bits levels xs → Bits (suc levels) (paired op xs)
  paired_keep levels [] each = tt
  paired_keep levels (a ∷ []) each = (keeps_more scope levels (suc levels) a 1 (omega arith) each.0, tt)
  paired_keep levels (a ∷ b ∷ xs) each =
      let less : levels ≡ suc levels - 1 = omega arith in (
        keeps_as scope (suc levels) (Applied op a b) (if is_comparison op then 1 else 1) 1 (ap (λ t. if t then 1 else 1) bits)
            (keeps_applied scope (suc levels) (omega arith) op a b 1 (subst (λ l. Keeps scope l a 1) less each.0) (subst (λ l. Keeps scope l b 1) less each.1.0)),
        paired_keep levels xs each.1.1,
      )

  -- up to 2 ^ n parts are one after n rounds, n levels deeper
  often_keep : (left n levels : ℕ) (xs : List PlainExpr) → n ≤ left → length xs ≤ 2 ^ n → Bits levels xs → (length (paired_often left op xs) ≤ 1) × Bits (levels + n) (paired_often left op xs)
  often_keep zero n levels xs within few each = let none : n ≡ 0 = omega (arith, within) in (subst (λ m. length xs ≤ 2 ^ m) none few, bits_more levels (levels + n) xs (omega arith) each)
  often_keep (suc left) n levels xs within few each =
      go (nat_lt 1 (length xs)) refl n within few (λ m inside half. often_keep left m (suc levels) (paired op xs) inside half (paired_keep levels xs each))
    where
      go : (b : Bool) → nat_lt 1 (length xs) ≡ b → (n : ℕ) → n ≤ suc left → length xs ≤ 2 ^ n
          → ((m : ℕ) → m ≤ left → length (paired op xs) ≤ 2 ^ m → (length (paired_often left op (paired op xs)) ≤ 1) × Bits (suc levels + m) (paired_often left op (paired op xs)))
          → (length (if b then paired_often left op (paired op xs) else xs) ≤ 1) × Bits (levels + n) (if b then paired_often left op (paired op xs) else xs)
      go false test n within few later = (let one = ltb-false 1 (length xs) test in one, bits_more levels (levels + n) xs (omega arith) each)
      go true test zero within few later = absurd (let several = ltb-true 1 (length xs) test in omega (arith, several, few))
      go true test (suc n) within few later =
          let double : 2 ^ suc n ≡ 2 * 2 ^ n = omega arith in
          let half = length-paired op xs (2 ^ n) (omega (arith, few, double)) in
          let rest = later n (omega (arith, within)) half in
          let same : suc levels + n ≡ levels + suc n = omega arith in
          (rest.0, subst (λ l. Bits l (paired_often left op (paired op xs))) same rest.1)

  joined_keeps : (levels : ℕ) (none : PlainExpr) (xs : List PlainExpr) → Keeps scope levels none 1 → length xs ≤ 1 → Bits levels xs → Keeps scope levels (joined op none xs) 1
  joined_keeps levels none [] last one each = last
  joined_keeps levels none (x ∷ []) last one each = each.0
  joined_keeps levels none (x ∷ y ∷ xs) last one each = absurd (omega (arith, one))

  pub folded_keeps : (levels n : ℕ) (none : PlainExpr) (xs : List PlainExpr) → Keeps scope levels none 1 → n ≤ 14 → n ≤ levels → length xs ≤ 2 ^ n → Bits (levels - n) xs → Keeps scope levels (folded op none xs) 1
  folded_keeps levels n none xs last within some few each =
      let r = often_keep 14 n (levels - n) xs within few each in
      let same : levels - n + n ≡ levels = omega (arith, some) in
      joined_keeps levels none (paired_often 14 op xs) last r.0 (subst (λ l. Bits l (paired_often 14 op xs)) same r.1)

length-exprs : (es : PlainNetExprs) → length (exprs_to es) ≡ parts_of es
length-exprs no_exprs = refl
length-exprs (an_expr e es) = ap suc (length-exprs es)

compares : (c : Comparison) → is_comparison (operator_of c) ≡ true
compares comparisons.Equal = refl
compares comparisons.NotEqual = refl
compares comparisons.Less = refl
compares comparisons.Greater = refl
compares comparisons.AtMost = refl
compares comparisons.AtLeast = refl

-- EXPRESSIONS
module _ (net : PlainNet) (part : PlainNetComponent) (no_holes : part.holes ≡ 0) (scope : Scope)
    (ports_keep : (p : PortRef) (w : ℕ) → HasPortWidth net part p w → IsRead p → Keeps scope 0 (port_expr p) w)
    (registers_keep : (n w : ℕ) → slice_get part.registers n ≡ Some w → Keeps scope 0 (Named (register_name n)) w)
    (wires_keep : (n w : ℕ) → slice_get part.wires n ≡ Some w → Keeps scope 0 (Named (wire_name n)) w)
    (go_keeps : Keeps scope 0 (Named (codes "go")) 1) where
  shallow : (levels : ℕ) (e : PlainExpr) (w : ℕ) → Keeps scope 0 e w → Keeps scope levels e w
  shallow levels e w k = keeps_more scope 0 levels e w (omega arith) k

  bit_wide : (value : ℕ) → value < 2 → IsOfWidth 1 (record { width = 1; value = value })
  bit_wide value small = record { same_width = refl; fits = record { some_bits = omega arith; few_bits = omega arith; in_range = small } }

  mutual
    pub expr_keeps : (levels : ℕ) (e : PlainNetExpr) (w : ℕ) → HasWidth net part e w → StandsIn levels e → Keeps scope levels (expr_of e) w
    expr_keeps levels (OfPort p) w h s = shallow levels (port_expr p) w (ports_keep p w h s)
    expr_keeps levels (OfRegister n) w h s = shallow levels (Named (register_name n)) w (registers_keep n w h)
    expr_keeps levels (OfWire n) w h s = shallow levels (Named (wire_name n)) w (wires_keep n w h)
    expr_keeps levels (OfHole n) w h s = absurd (let lower = h.0 in omega (arith, lower, no_holes))
    expr_keeps levels OfGo w h s = keeps_as scope levels (Named (codes "go")) 1 w (sym h) (shallow levels (Named (codes "go")) 1 go_keeps)
    expr_keeps levels (Fixed b) w h s = keeps_number scope levels b w h
    expr_keeps levels (Inverse a) w h s = keeps_inverted scope levels s.0 (expr_of a) w (expr_keeps (levels - 1) a w h s.1)
    expr_keeps levels (AllOf es) w h (n, within, some, few, each) =
        keeps_as scope levels (expr_of (AllOf es)) 1 w (sym h.0)
        (folded_keeps scope operators.And refl levels n (literal 1 1) (exprs_to es) (keeps_number scope levels (record { width = 1; value = 1 }) 1 (bit_wide 1 (omega arith))) within some
        (subst (λ l. l ≤ 2 ^ n) (sym (length-exprs es)) few) (exprs_keep (levels - n) es h.1 each))
    expr_keeps levels (AnyOf es) w h (n, within, some, few, each) =
        keeps_as scope levels (expr_of (AnyOf es)) 1 w (sym h.0)
        (folded_keeps scope operators.Or refl levels n (literal 1 0) (exprs_to es) (keeps_number scope levels (record { width = 1; value = 0 }) 1 (bit_wide 0 (omega arith))) within some
        (subst (λ l. l ≤ 2 ^ n) (sym (length-exprs es)) few) (exprs_keep (levels - n) es h.1 each))
    expr_keeps levels (Sum a b) w h s =
        keeps_applied scope levels s.0 operators.Add (expr_of a) (expr_of b) w (expr_keeps (levels - 1) a w h.0 s.1) (expr_keeps (levels - 1) b w h.1 s.2)
    expr_keeps levels (Compares c a b) w h s =
        keeps_as scope levels (expr_of (Compares c a b)) 1 w (sym h.0)
        (keeps_as scope levels (expr_of (Compares c a b)) (if is_comparison (operator_of c) then 1 else h.1.0) 1 (ap (λ t. if t then 1 else h.1.0) (compares c))
        (keeps_applied scope levels s.0 (operator_of c) (expr_of a) (expr_of b) h.1.0 (expr_keeps (levels - 1) a h.1.0 h.1.1 s.1) (expr_keeps (levels - 1) b h.1.0 h.1.2 s.2)))

    exprs_keep : (levels : ℕ) (es : PlainNetExprs) → AreBits net part es → AllStandIn levels es → Each (λ x. Keeps scope levels x 1) (exprs_to es)
    exprs_keep levels no_exprs h s = tt
    exprs_keep levels (an_expr e es) h s = (expr_keeps levels e 1 h.0 s.0, exprs_keep levels es h.1 s.1)

  -- CHAINS: each driver takes one level
  pub chain_keeps : (last : PlainExpr) (w : ℕ) (ds : List PlainNetDriver) → Keeps scope 0 last w → AreFitDrivers net part w ds → Each IsWritableDriver ds → Keeps scope (47 + length ds) (chain_of last ds) w
  chain_keeps last w [] end fits each = keeps_more scope 0 47 last w (omega arith) end
  chain_keeps last w (d ∷ ds) end fits each = by_guard (is_one d.guard) (chain_keeps last w ds end fits.2 each.1) where
    by_guard : (b : Bool) → Keeps scope (47 + length ds) (chain_of last ds) w → Keeps scope (47 + length (d ∷ ds)) (if b then expr_of d.source else Chosen (expr_of d.guard) (expr_of d.source) (chain_of last ds)) w
    by_guard true rest = keeps_more scope 47 (47 + length (d ∷ ds)) (expr_of d.source) w (omega arith) (expr_keeps 47 d.source w fits.1 each.0.source)
    by_guard false rest =
        let same : 47 + length ds ≡ 47 + length (d ∷ ds) - 1 = omega arith in
        keeps_chosen scope (47 + length (d ∷ ds)) (omega arith) (expr_of d.guard) (expr_of d.source) (chain_of last ds) w
        (keeps_more scope 47 (47 + length (d ∷ ds) - 1) (expr_of d.guard) 1 (omega arith) (expr_keeps 47 d.guard 1 fits.0 each.0.guard))
        (keeps_more scope 47 (47 + length (d ∷ ds) - 1) (expr_of d.source) w (omega arith) (expr_keeps 47 d.source w fits.1 each.0.source))
        (subst (λ l. Keeps scope l (chain_of last ds) w) same rest)
