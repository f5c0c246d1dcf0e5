-- One rule of a node gives what the rule of the node gives that stands for it.
use Rattle.std.proofs.Common.{◌≡◌, ℕ, ◌+◌, ◌<◌, ◌==◌, Bool, true, false, if◌then◌else◌, List, [], ◌∷◌, length, map, Option, option_map, option_and_then, refl, sym, ap, ap₂, ◌∙◌, ⊎_elim, arith}
use Rattle.std.proofs.lemmas.Bool.{eq-eqb, ne_eqb, cases_eq}
use Rattle.cx_bits.specs.BitVector.{BitVector}
use Rattle.cx_bits.specs.Operators.{sum_of, and_of, or_of, complement_of}
use Rattle.cx_meaning.specs.declared.ports.PortRef.{PortRef}
use Rattle.cx_meaning.specs.declared.ports.PortRef.TheVariants as ports
use Rattle.cx_meaning.specs.Truths.{compares}
use Rattle.cx_net.specs.Nets.{PlainNetExpr, OfPort, OfRegister, OfWire, OfHole, OfGo, Fixed, Inverse, AllOf, AnyOf, Sum, Compares, PlainNetExprs, no_exprs, an_expr, PlainNetTarget, ToPort, ToRegister, ToWire, ToHole, ToDone, PlainNetDriver, PlainNetComponent}
use Rattle.cx_net.specs.NetMeaning.{Node, NetAround, both_known, truth_bit, is_true, net_expr, all_expr, any_expr, chain, same_target, drivers_to}
use Rattle.cx_holes.specs.Inlining.{inlined_expr, inlined_exprs, inlined_target, inlined_driver}
use Rattle.cx_holes.specs.Names.{ExprNames, ExprsName, TargetNames, DriversName}
use Rattle.cx_holes.specs.Renamed.{Alike}

module _ (part : PlainNetComponent) (around : NetAround) (registers : ℕ → Option BitVector) (look new : Node → Option BitVector) (alike : Alike part look new) where
  port_same : (p : PortRef) → net_expr around registers new (OfPort p) ≡ net_expr around registers look (OfPort p)
  port_same (ports.Cell c p) = alike.ports (ports.Cell c p)
  port_same (ports.Input n) = refl
  port_same (ports.Output n) = alike.ports (ports.Output n)
  port_same (ports.Done g) = alike.ports (ports.Done g)
  port_same (ports.Literal w v) = refl

  mutual
    pub expr_same : (e : PlainNetExpr) → ExprNames (length part.wires) part.holes e → net_expr around registers new (inlined_expr (length part.wires) e) ≡ net_expr around registers look e
    expr_same (OfPort p) n = port_same p
    expr_same (OfRegister m) n = refl
    expr_same (OfWire m) n = alike.wires m n
    expr_same (OfHole m) n = alike.holes m n
    expr_same OfGo n = refl
    expr_same (Fixed b) n = refl
    expr_same (Inverse e) n = ap (option_map complement_of) (expr_same e n)
    expr_same (AllOf es) n = all_same es n
    expr_same (AnyOf es) n = any_same es n
    expr_same (Sum a b) n = ap₂ (both_known sum_of) (expr_same a n.0) (expr_same b n.1)
    expr_same (Compares c a b) n = ap₂ (both_known (λ x y. truth_bit (compares c x.value y.value))) (expr_same a n.0) (expr_same b n.1)

    all_same : (es : PlainNetExprs) → ExprsName (length part.wires) part.holes es → all_expr around registers new (inlined_exprs (length part.wires) es) ≡ all_expr around registers look es
    all_same no_exprs n = refl
    all_same (an_expr e es) n = ap₂ (both_known and_of) (expr_same e n.0) (all_same es n.1)

    any_same : (es : PlainNetExprs) → ExprsName (length part.wires) part.holes es → any_expr around registers new (inlined_exprs (length part.wires) es) ≡ any_expr around registers look es
    any_same no_exprs n = refl
    any_same (an_expr e es) n = ap₂ (both_known or_of) (expr_same e n.0) (any_same es n.1)

  pub chain_same : (undriven : BitVector) (ds : List PlainNetDriver) → DriversName (length part.wires) part.holes ds
      → chain around registers new undriven (map (inlined_driver (length part.wires)) ds) ≡ chain around registers look undriven ds
  chain_same undriven [] n = refl
  chain_same undriven (d ∷ ds) n =
      ap₂ (λ rest g. option_and_then (λ b. if is_true b then net_expr around registers new (inlined_expr (length part.wires) d.source) else rest) g)
      (chain_same undriven ds n.1) (expr_same d.guard n.0.guard)
      ∙ ap (λ s. option_and_then (λ b. if is_true b then s else chain around registers look undriven ds) (net_expr around registers look d.guard)) (expr_same d.source n.0.source)

module _ (wires holes : ℕ) where
  port_wire : (p : PortRef) (n m : ℕ) → same_target (ToPort p) (ToWire n) ≡ same_target (ToPort p) (ToHole m)
  port_wire (ports.Cell c p) n m = refl
  port_wire (ports.Input k) n m = refl
  port_wire (ports.Output k) n m = refl
  port_wire (ports.Done k) n m = refl
  port_wire (ports.Literal w v) n m = refl

  wire_hole : (n m : ℕ) → n < wires → (n == wires + m) ≡ false
  wire_hole n m h = ne_eqb n (wires + m) (λ e. let k : n ≡ wires + m = e in absurd (omega arith))

  hole_wire : (n m : ℕ) → m < wires → (wires + n == m) ≡ false
  hole_wire n m h = ne_eqb (wires + n) m (λ e. let k : wires + n ≡ m = e in absurd (omega arith))

  hole_hole : (n m : ℕ) → (wires + n == wires + m) ≡ (n == m)
  hole_hole n m =
      ⊎_elim
      (λ e. let k : n ≡ m = e in let l : wires + n ≡ wires + m = omega arith in eq-eqb (wires + n) (wires + m) l ∙ sym (eq-eqb n m e))
      (λ differ. ne_eqb (wires + n) (wires + m) (λ e. let k : wires + n ≡ wires + m = e in differ (omega arith)) ∙ sym (ne_eqb n m differ))
      (cases_eq n m)

  target_same : (a b : PlainNetTarget) → TargetNames wires holes a → TargetNames wires holes b → same_target (inlined_target wires a) (inlined_target wires b) ≡ same_target a b
  target_same (ToPort p) (ToPort q) h k = refl
  target_same (ToPort p) (ToRegister m) h k = refl
  target_same (ToPort p) (ToWire m) h k = refl
  target_same (ToPort p) (ToHole m) h k = port_wire p (wires + m) m
  target_same (ToPort p) ToDone h k = refl
  target_same (ToRegister n) (ToPort q) h k = refl
  target_same (ToRegister n) (ToRegister m) h k = refl
  target_same (ToRegister n) (ToWire m) h k = refl
  target_same (ToRegister n) (ToHole m) h k = refl
  target_same (ToRegister n) ToDone h k = refl
  target_same (ToWire n) (ToPort q) h k = refl
  target_same (ToWire n) (ToRegister m) h k = refl
  target_same (ToWire n) (ToWire m) h k = refl
  target_same (ToWire n) (ToHole m) h k = wire_hole n m h
  target_same (ToWire n) ToDone h k = refl
  target_same (ToHole n) (ToPort q) h k = refl
  target_same (ToHole n) (ToRegister m) h k = refl
  target_same (ToHole n) (ToWire m) h k = hole_wire n m k
  target_same (ToHole n) (ToHole m) h k = hole_hole n m
  target_same (ToHole n) ToDone h k = refl
  target_same ToDone (ToPort q) h k = refl
  target_same ToDone (ToRegister m) h k = refl
  target_same ToDone (ToWire m) h k = refl
  target_same ToDone (ToHole m) h k = refl
  target_same ToDone ToDone h k = refl

  -- the drivers of a target, and of what stands for it
  pub drivers_same : (t : PlainNetTarget) (ds : List PlainNetDriver) → TargetNames wires holes t → DriversName wires holes ds
      → drivers_to (inlined_target wires t) (map (inlined_driver wires) ds) ≡ map (inlined_driver wires) (drivers_to t ds)
  drivers_same t [] h n = refl
  drivers_same t (d ∷ ds) h n =
      ap₂ (λ b l. if b then inlined_driver wires d ∷ l else l) (target_same d.target t n.0.target h) (drivers_same t ds h n.1)
      ∙ choice (same_target d.target t)
    where
      choice : (b : Bool)
          → (if b then inlined_driver wires d ∷ map (inlined_driver wires) (drivers_to t ds) else map (inlined_driver wires) (drivers_to t ds))
          ≡ map (inlined_driver wires) (if b then d ∷ drivers_to t ds else drivers_to t ds)
      choice true = refl
      choice false = refl

  pub drivers_name : (t : PlainNetTarget) (ds : List PlainNetDriver) → DriversName wires holes ds → DriversName wires holes (drivers_to t ds)
  drivers_name t [] n = tt
  drivers_name t (d ∷ ds) n = choice (same_target d.target t) (drivers_name t ds n.1)
    where
      choice : (b : Bool) → DriversName wires holes (drivers_to t ds) → DriversName wires holes (if b then d ∷ drivers_to t ds else drivers_to t ds)
      choice true rest = (n.0, rest)
      choice false rest = rest
