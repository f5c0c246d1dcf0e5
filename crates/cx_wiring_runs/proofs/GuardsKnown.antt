-- Where the ports that a guard names have values, and its offset has one, the guard has a value in the net, and all its drivers are fed.
use Rattle.std.proofs.Common.{ℕ, suc, ◌+◌, ◌≤◌, inl, inr, true, false, List, Option, Some, refl, arith}
use Rattle.cx_bits.specs.BitVector.{BitVector}
use Rattle.cx_bits.specs.Operators.{and_of, or_of}
use Rattle.cx_meaning.specs.declared.ports.PortRef.{PortRef}
use Rattle.cx_meaning.specs.declared.ports.Comparison.TheVariants.{Less, AtLeast}
use Rattle.cx_meaning.specs.Designs.{PlainGuard, Always, Atom, Negation, All, Any, Compared, Within, PlainGuards, no_guards, a_guard}
use Rattle.cx_meaning.specs.Sights.{GuardNames, AnyNames}
use Rattle.cx_meaning.specs.Truths.{compares}
use Rattle.cx_net.specs.Nets.{PlainNetExpr, OfPort, Compares, PlainNetDriver}
use Rattle.cx_net.specs.NetMeaning.{Node, NetAround, truth_bit, all_expr, any_expr}
use Rattle.cx_wiring.specs.Parts.{word, connect}
use Rattle.cx_wiring.specs.Guards.{part_wires, part_expr, parts_exprs, guard_expr, guard_drivers, part_drivers, parts_drivers}
use Rattle.cx_wiring.specs.Takings.{value, AllConnect}
use Rattle.cx_wiring.proofs.TakingLemmas.{connect_both}
use Rattle.cx_wiring_runs.proofs.KnownLemmas.{Known, known_as, known_both, known_two, known_inverse, KnownExpr, Fed, AllOfThem, all_append}

module _ (around : NetAround) (registers : ℕ → Option BitVector) (look : Node → Option BitVector) where
  abbrev K : PlainNetExpr → Type 0
  K = KnownExpr around registers look

  abbrev AllFed : List PlainNetDriver → Type 0
  AllFed ds = AllOfThem (Fed around registers look) ds

  -- a wire that takes its one driver
  pub fed_connect : (n : ℕ) (e : PlainNetExpr) → KnownExpr around registers look e → Fed around registers look (connect n e)
  fed_connect n e k = record { guard = (truth_bit true, refl); source = λ on. k }

  module _ (offset : PlainNetExpr) (bound : ℕ) (offset_known : KnownExpr around registers look offset) where
    within_known : (from to : ℕ) → K (guard_expr offset 0 (Within from to))
    within_known from to =
        known_two around registers look (Compares AtLeast offset (word from)) (Compares Less offset (word to))
        (known_both (λ x y. truth_bit (compares AtLeast x.value y.value)) (value around registers look offset) (Some (record { width = 32; value = from })) offset_known (_, refl))
        (known_both (λ x y. truth_bit (compares Less x.value y.value)) (value around registers look offset) (Some (record { width = 32; value = to })) offset_known (_, refl))

    mutual
      pub guard_known : (g : PlainGuard) (wire : ℕ) → bound ≤ wire → AllConnect around registers look bound (guard_drivers offset wire g) → ((q : PortRef) → GuardNames g q → KnownExpr around registers look (OfPort q))
          → KnownExpr around registers look (guard_expr offset wire g) × AllOfThem (Fed around registers look) (guard_drivers offset wire g)
      guard_known Always wire low c h = ((truth_bit true, refl), tt)
      guard_known (Atom p) wire low c h = (h p.port refl, tt)
      guard_known (Negation g) wire low c h = let k = part_known g wire low c h in (known_inverse around registers look (part_expr wire g) k.0, k.1)
      guard_known (All gs) wire low c h = let k = parts_known gs wire low c h in (k.0, k.2)
      guard_known (Any gs) wire low c h = let k = parts_known gs wire low c h in (k.1, k.2)
      guard_known (Compared k a b) wire low c h = (known_both (λ x y. truth_bit (compares k x.value y.value)) _ _ (h a.port (inl refl)) (h b.port (inr refl)), tt)
      guard_known (Within from to) wire low c h = (within_known from to, tt)

      part_known : (g : PlainGuard) (wire : ℕ) → bound ≤ wire → AllConnect around registers look bound (part_drivers offset wire g) → ((q : PortRef) → GuardNames g q → K (OfPort q)) → K (part_expr wire g) × AllFed (part_drivers offset wire g)
      part_known Always wire low c h = (known_as _ _ (c.0 low) (truth_bit true, refl), (fed_connect wire _ (truth_bit true, refl), tt))
      part_known (Atom p) wire low c h = (h p.port refl, tt)
      part_known (Negation g) wire low c h =
          let cs = connect_both around registers look bound (part_drivers offset (suc wire) g) _ c in
          let k = part_known g (suc wire) (omega arith) cs.0 h in
          let i = known_inverse around registers look (part_expr (suc wire) g) k.0 in
          (known_as _ _ (cs.1.0 low) i, all_append (Fed around registers look) (part_drivers offset (suc wire) g) _ k.1 (fed_connect wire _ i, tt))
      part_known (All gs) wire low c h =
          let cs = connect_both around registers look bound (parts_drivers offset (suc wire) gs) _ c in
          let k = parts_known gs (suc wire) (omega arith) cs.0 h in
          (known_as _ _ (cs.1.0 low) k.0, all_append (Fed around registers look) (parts_drivers offset (suc wire) gs) _ k.2 (fed_connect wire _ k.0, tt))
      part_known (Any gs) wire low c h =
          let cs = connect_both around registers look bound (parts_drivers offset (suc wire) gs) _ c in
          let k = parts_known gs (suc wire) (omega arith) cs.0 h in
          (known_as _ _ (cs.1.0 low) k.1, all_append (Fed around registers look) (parts_drivers offset (suc wire) gs) _ k.2 (fed_connect wire _ k.1, tt))
      part_known (Compared k a b) wire low c h =
          let e = known_both (λ x y. truth_bit (compares k x.value y.value)) _ _ (h a.port (inl refl)) (h b.port (inr refl)) in
          (known_as _ _ (c.0 low) e, (fed_connect wire _ e, tt))
      part_known (Within from to) wire low c h = (known_as _ _ (c.0 low) (within_known from to), (fed_connect wire _ (within_known from to), tt))

      parts_known : (gs : PlainGuards) (wire : ℕ) → bound ≤ wire → AllConnect around registers look bound (parts_drivers offset wire gs) → ((q : PortRef) → AnyNames gs q → K (OfPort q))
          → Known (all_expr around registers look (parts_exprs wire gs)) × Known (any_expr around registers look (parts_exprs wire gs)) × AllFed (parts_drivers offset wire gs)
      parts_known no_guards wire low c h = ((truth_bit true, refl), (truth_bit false, refl), tt)
      parts_known (a_guard g gs) wire low c h =
          let cs = connect_both around registers look bound (part_drivers offset wire g) (parts_drivers offset (wire + part_wires g) gs) c in
          let k = part_known g wire low cs.0 (λ q n. h q (inl n)) in
          let l = parts_known gs (wire + part_wires g) (omega arith) cs.1 (λ q n. h q (inr n)) in
          (known_both and_of _ _ k.0 l.0, known_both or_of _ _ k.0 l.1, all_append (Fed around registers look) (part_drivers offset wire g) _ k.1 l.2)
