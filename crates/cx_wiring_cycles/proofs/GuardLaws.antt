-- A guard in the net says what it means: where its ports have their values and each of its wires has that of its own driver.
use Rattle.std.proofs.Common.{◌≡◌, ℕ, suc, ◌+◌, ◌<◌, ◌≤◌, Bool, false, ◌&&◌, ◌||◌, nat_lt, nat_le, List, [], ◌∷◌, ◌++◌, Option, Some, refl, ap, ap₂, ◌∙◌, arith}
use Rattle.cx_bits.specs.BitVector.{BitVector}
use Rattle.cx_bits.specs.Operators.{or_of}
use Rattle.cx_meaning.specs.declared.ports.Comparison.TheVariants.{Less, AtLeast}
use Rattle.cx_meaning.specs.Designs.{PlainGuard, Always, Atom, Negation, All, Any, Compared, Within, PlainGuards, no_guards, a_guard}
use Rattle.cx_meaning.specs.Truths.{compares}
use Rattle.cx_control.specs.Flows.{Values, guard_on, all_on, any_on}
use Rattle.cx_net.specs.Nets.{PlainNetExpr, Compares, PlainNetExprs, ToWire, PlainNetDriver}
use Rattle.cx_net.specs.NetMeaning.{Node, NetAround, both_known, truth_bit, all_expr, any_expr, same_target}
use Rattle.cx_static.specs.Islands.{PlainIsland}
use Rattle.cx_wiring.specs.Parts.{word, connect}
use Rattle.cx_wiring.specs.Guards.{guard_wires, part_wires, parts_wires, part_expr, parts_exprs, guard_expr, guard_drivers, part_drivers, parts_drivers}
use Rattle.cx_wiring.specs.Bounds.{AllDrive, IslandsName}
use Rattle.cx_wiring.specs.Takings.{value, Says, AllConnect}
use Rattle.cx_wiring.specs.IslandDrivers.{island_wires}
use Rattle.cx_wiring.proofs.AssignTargets.{part_drives, parts_drive}
use Rattle.cx_wiring.proofs.RoomLemmas.{Wires}
use Rattle.cx_wiring.proofs.TakingLemmas.{says_both, says_not, says_all, connect_both, connects_join}
use Rattle.cx_wiring_cycles.specs.GuardPorts.{GuardPorts, PartsPorts}
use Rattle.cx_wiring_cycles.specs.Shown.{wide}
use Rattle.std.proofs.lemmas.Bool.{ne_eqb}
use Rattle.cx_wiring_cycles.proofs.ConnectLaws.{Reads, read_before, read_behind, read_here}
use Rattle.cx_net.proofs.NetMeaningLemmas.{or_two}
use Rattle.cx_text.proofs.NumberLaws.{turned}

module _ (around : NetAround) (registers : ℕ → Option BitVector) (look : Node → Option BitVector) where
  pub says_any : (e : PlainNetExpr) (es : PlainNetExprs) (a b : Bool) → Says around registers look e a → any_expr around registers look es ≡ Some (truth_bit b)
      → both_known or_of (value around registers look e) (any_expr around registers look es) ≡ Some (truth_bit (a || b))
  says_any e es a b h k = ap₂ (both_known or_of) h k ∙ ap Some (or_two a b)

  -- WHAT A GUARD SAYS at an offset
  module _ (v : Values) (bound : ℕ) (at : BitVector) (offset : PlainNetExpr) (known : value around registers look offset ≡ Some at) where
    within_says : (from to : ℕ) → Says around registers look (guard_expr offset 0 (Within from to)) (nat_le from at.value && nat_lt at.value to)
    within_says from to =
        says_both around registers look (Compares AtLeast offset (word from)) (Compares Less offset (word to)) (nat_le from at.value) (nat_lt at.value to)
        (ap (λ o. both_known (λ x y. truth_bit (compares AtLeast x.value y.value)) o (Some (wide from))) known ∙ ap (λ b. Some (truth_bit b)) (turned from at.value))
        (ap (λ o. both_known (λ x y. truth_bit (compares Less x.value y.value)) o (Some (wide to))) known)

    mutual
      pub guard_says : (g : PlainGuard) (wire : ℕ) → bound ≤ wire → AllConnect around registers look bound (guard_drivers offset wire g) → GuardPorts around registers look v g
          → Says around registers look (guard_expr offset wire g) (guard_on v at.value g)
      guard_says Always wire low c h = refl
      guard_says (Atom p) wire low c h = h
      guard_says (Negation g) wire low c h = says_not around registers look (part_expr wire g) (guard_on v at.value g) (part_says g wire low c h)
      guard_says (All gs) wire low c h = all_says gs wire low c h
      guard_says (Any gs) wire low c h = any_says gs wire low c h
      guard_says (Compared k a b) wire low c h = ap₂ (both_known (λ x y. truth_bit (compares k x.value y.value))) h.0 h.1
      guard_says (Within from to) wire low c h = within_says from to

      part_says : (g : PlainGuard) (wire : ℕ) → bound ≤ wire → AllConnect around registers look bound (part_drivers offset wire g) → GuardPorts around registers look v g
          → Says around registers look (part_expr wire g) (guard_on v at.value g)
      part_says Always wire low c h = c.0 low
      part_says (Atom p) wire low c h = h
      part_says (Negation g) wire low c h =
          let k = connect_both around registers look bound (part_drivers offset (suc wire) g) _ c in
          k.1.0 low ∙ says_not around registers look (part_expr (suc wire) g) (guard_on v at.value g) (part_says g (suc wire) (omega arith) k.0 h)
      part_says (All gs) wire low c h =
          let k = connect_both around registers look bound (parts_drivers offset (suc wire) gs) _ c in k.1.0 low ∙ all_says gs (suc wire) (omega arith) k.0 h
      part_says (Any gs) wire low c h =
          let k = connect_both around registers look bound (parts_drivers offset (suc wire) gs) _ c in k.1.0 low ∙ any_says gs (suc wire) (omega arith) k.0 h
      part_says (Compared k a b) wire low c h = c.0 low ∙ ap₂ (both_known (λ x y. truth_bit (compares k x.value y.value))) h.0 h.1
      part_says (Within from to) wire low c h = c.0 low ∙ within_says from to

      all_says : (gs : PlainGuards) (wire : ℕ) → bound ≤ wire → AllConnect around registers look bound (parts_drivers offset wire gs) → PartsPorts around registers look v gs
          → all_expr around registers look (parts_exprs wire gs) ≡ Some (truth_bit (all_on v at.value gs))
      all_says no_guards wire low c h = refl
      all_says (a_guard g gs) wire low c h =
          let k = connect_both around registers look bound (part_drivers offset wire g) (parts_drivers offset (wire + part_wires g) gs) c in
          says_all around registers look (part_expr wire g) (parts_exprs (wire + part_wires g) gs) (guard_on v at.value g) (all_on v at.value gs) (part_says g wire low k.0 h.0) (all_says gs (wire + part_wires g) (omega arith) k.1 h.1)

      any_says : (gs : PlainGuards) (wire : ℕ) → bound ≤ wire → AllConnect around registers look bound (parts_drivers offset wire gs) → PartsPorts around registers look v gs
          → any_expr around registers look (parts_exprs wire gs) ≡ Some (truth_bit (any_on v at.value gs))
      any_says no_guards wire low c h = refl
      any_says (a_guard g gs) wire low c h =
          let k = connect_both around registers look bound (part_drivers offset wire g) (parts_drivers offset (wire + part_wires g) gs) c in
          says_any (part_expr wire g) (parts_exprs (wire + part_wires g) gs) (guard_on v at.value g) (any_on v at.value gs) (part_says g wire low k.0 h.0) (any_says gs (wire + part_wires g) (omega arith) k.1 h.1)

-- EACH WIRE of a guard has one driver
module _ (groups : ℕ) (islands : List PlainIsland) (named : IslandsName groups islands) (around : NetAround) (registers : ℕ → Option BitVector) (look : Node → Option BitVector) (offset : PlainNetExpr) where
  abbrev R : ℕ → List PlainNetDriver → Type 0
  R n ds = Reads groups islands named around registers look n ds

  abbrev Joined : List PlainNetDriver → Type 0
  Joined ds = AllConnect around registers look (groups + island_wires islands) ds

  before : (n : ℕ) (xs ys : List PlainNetDriver) → R n (xs ++ ys) → R n xs
  before n xs ys h = read_before groups islands named around registers look n xs ys h

  later_than : (n wire count : ℕ) → n < wire → Wires (λ u. same_target u (ToWire n) ≡ false) wire count
  later_than n wire count less = record { among = λ m l h. ne_eqb m n (λ e. omega arith) }

  earlier_than : (n wire count : ℕ) → wire + count ≤ n → Wires (λ u. same_target u (ToWire n) ≡ false) wire count
  earlier_than n wire count more = record { among = λ m l h. ne_eqb m n (λ e. omega arith) }

  -- the last of some drivers, which drive later wires
  last_one : (wire : ℕ) (source : PlainNetExpr) (xs : List PlainNetDriver) → AllDrive (λ u. same_target u (ToWire wire) ≡ false) xs → R wire (xs ++ connect wire source ∷ []) → Joined xs → Joined (xs ++ connect wire source ∷ [])
  last_one wire source xs skips h all =
      connects_join around registers look (groups + island_wires islands) xs (connect wire source ∷ []) all
      ((λ l. read_here groups islands named around registers look wire source [] (read_behind groups islands named around registers look wire xs (connect wire source ∷ []) skips h)), tt)

  mutual
    pub guard_connects : (g : PlainGuard) (wire : ℕ) → ((n : ℕ) → wire ≤ n → n < wire + guard_wires g → R n (guard_drivers offset wire g)) → Joined (guard_drivers offset wire g)
    guard_connects Always wire h = tt
    guard_connects (Atom p) wire h = tt
    guard_connects (Negation g) wire h = part_connects g wire h
    guard_connects (All gs) wire h = parts_connect gs wire h
    guard_connects (Any gs) wire h = parts_connect gs wire h
    guard_connects (Compared c a b) wire h = tt
    guard_connects (Within from to) wire h = tt

    part_connects : (g : PlainGuard) (wire : ℕ) → ((n : ℕ) → wire ≤ n → n < wire + part_wires g → R n (part_drivers offset wire g)) → Joined (part_drivers offset wire g)
    part_connects Always wire h = ((λ l. read_here groups islands named around registers look wire _ [] (h wire (omega arith) (omega arith))), tt)
    part_connects (Atom p) wire h = tt
    part_connects (Negation g) wire h =
        last_one wire _ (part_drivers offset (suc wire) g) (part_drives (λ u. same_target u (ToWire wire) ≡ false) offset g (suc wire) (later_than wire (suc wire) (part_wires g) (omega arith)))
        (h wire (omega arith) (omega arith)) (part_connects g (suc wire) (λ n l m. before n (part_drivers offset (suc wire) g) _ (h n (omega arith) (omega arith))))
    part_connects (All gs) wire h =
        last_one wire _ (parts_drivers offset (suc wire) gs) (parts_drive (λ u. same_target u (ToWire wire) ≡ false) offset gs (suc wire) (later_than wire (suc wire) (parts_wires gs) (omega arith)))
        (h wire (omega arith) (omega arith)) (parts_connect gs (suc wire) (λ n l m. before n (parts_drivers offset (suc wire) gs) _ (h n (omega arith) (omega arith))))
    part_connects (Any gs) wire h =
        last_one wire _ (parts_drivers offset (suc wire) gs) (parts_drive (λ u. same_target u (ToWire wire) ≡ false) offset gs (suc wire) (later_than wire (suc wire) (parts_wires gs) (omega arith)))
        (h wire (omega arith) (omega arith)) (parts_connect gs (suc wire) (λ n l m. before n (parts_drivers offset (suc wire) gs) _ (h n (omega arith) (omega arith))))
    part_connects (Compared c a b) wire h = ((λ l. read_here groups islands named around registers look wire _ [] (h wire (omega arith) (omega arith))), tt)
    part_connects (Within from to) wire h = ((λ l. read_here groups islands named around registers look wire _ [] (h wire (omega arith) (omega arith))), tt)

    parts_connect : (gs : PlainGuards) (wire : ℕ) → ((n : ℕ) → wire ≤ n → n < wire + parts_wires gs → R n (parts_drivers offset wire gs)) → Joined (parts_drivers offset wire gs)
    parts_connect no_guards wire h = tt
    parts_connect (a_guard g gs) wire h =
        connects_join around registers look (groups + island_wires islands) (part_drivers offset wire g) (parts_drivers offset (wire + part_wires g) gs)
        (part_connects g wire (λ n l m. before n (part_drivers offset wire g) _ (h n l (omega arith))))
        (parts_connect gs (wire + part_wires g) (λ n l m. read_behind groups islands named around registers look n (part_drivers offset wire g) _
        (part_drives (λ u. same_target u (ToWire n) ≡ false) offset g wire (earlier_than n wire (part_wires g) l)) (h n (omega arith) (omega arith))))
