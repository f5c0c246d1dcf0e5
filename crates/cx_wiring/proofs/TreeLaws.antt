-- Trees give each target what all its drivers give it.
use Rattle.std.proofs.Common.{◌≡◌, ℕ, ◌≤◌, ◌==◌, Bool, true, false, if◌then◌else◌, List, [], ◌∷◌, ◌++◌, length, flat_map, Option, refl, sym, ap, ◌∙◌, subst, arith}
use Rattle.std.proofs.lemmas.Bool.{eqb-true}
use Rattle.cx_bits.specs.BitVector.{BitVector}
use Rattle.cx_meaning.specs.declared.ports.PortRef.TheVariants as ports
use Rattle.cx_net.specs.Nets.{PlainNetTarget, ToPort, ToRegister, ToWire, ToHole, ToDone, PlainNetDriver}
use Rattle.cx_net.specs.NetMeaning.{Node, NetAround, same_target, drivers_to, chain as first_true}
use Rattle.cx_wiring.specs.Trees.{Driven, behind, tree, pairs, trees}
use Rattle.cx_wiring.specs.Bounds.{AllDrive}
use Rattle.cx_wiring.proofs.BundleLaws.{top_within, TreeHolds, tree_takes}
use Rattle.cx_wiring.proofs.BundleTargets.{to_append, append_none, of_first, of_second, tree_dropped, tree_kept}
use Rattle.cx_wiring.proofs.DrivenLemmas.{IsProper, NoneHas, AreEntries}
use Rattle.cx_text.proofs.NumberLaws.{never}

one_cell : (c p d q : ℕ) (t : Bool) → (c == d) ≡ t → (if t then p == q else false) ≡ true → ◌≡◌ {A = PlainNetTarget} (ToPort (ports.Cell c p)) (ToPort (ports.Cell d q))
one_cell c p d q true e h = ap (λ n. ToPort (ports.Cell n p)) (eqb-true c d e) ∙ ap (λ n. ToPort (ports.Cell d n)) (eqb-true p q h)
one_cell c p d q false e h = never h

pub target_is : (a b : PlainNetTarget) → IsProper a → IsProper b → same_target a b ≡ true → a ≡ b
target_is (ToPort (ports.Cell c p)) (ToPort (ports.Cell d q)) x y h = one_cell c p d q (c == d) refl h
target_is (ToPort (ports.Cell c p)) (ToPort (ports.Output m)) x y h = never h
target_is (ToPort (ports.Cell c p)) (ToRegister m) x y h = never h
target_is (ToPort (ports.Cell c p)) (ToWire m) x y h = never h
target_is (ToPort (ports.Cell c p)) (ToHole m) x y h = never h
target_is (ToPort (ports.Cell c p)) ToDone x y h = never h
target_is (ToPort (ports.Cell c p)) (ToPort (ports.Input i)) x y h = absurd y
target_is (ToPort (ports.Cell c p)) (ToPort (ports.Done i)) x y h = absurd y
target_is (ToPort (ports.Cell c p)) (ToPort (ports.Literal i j)) x y h = absurd y
target_is (ToPort (ports.Output n)) (ToPort (ports.Cell d q)) x y h = never h
target_is (ToPort (ports.Output n)) (ToPort (ports.Output m)) x y h = ap (λ k. ToPort (ports.Output k)) (eqb-true n m h)
target_is (ToPort (ports.Output n)) (ToRegister m) x y h = never h
target_is (ToPort (ports.Output n)) (ToWire m) x y h = never h
target_is (ToPort (ports.Output n)) (ToHole m) x y h = never h
target_is (ToPort (ports.Output n)) ToDone x y h = never h
target_is (ToPort (ports.Output n)) (ToPort (ports.Input i)) x y h = absurd y
target_is (ToPort (ports.Output n)) (ToPort (ports.Done i)) x y h = absurd y
target_is (ToPort (ports.Output n)) (ToPort (ports.Literal i j)) x y h = absurd y
target_is (ToRegister n) (ToPort (ports.Cell d q)) x y h = never h
target_is (ToRegister n) (ToPort (ports.Output m)) x y h = never h
target_is (ToRegister n) (ToRegister m) x y h = ap (λ k. ToRegister k) (eqb-true n m h)
target_is (ToRegister n) (ToWire m) x y h = never h
target_is (ToRegister n) (ToHole m) x y h = never h
target_is (ToRegister n) ToDone x y h = never h
target_is (ToRegister n) (ToPort (ports.Input i)) x y h = absurd y
target_is (ToRegister n) (ToPort (ports.Done i)) x y h = absurd y
target_is (ToRegister n) (ToPort (ports.Literal i j)) x y h = absurd y
target_is (ToWire n) (ToPort (ports.Cell d q)) x y h = never h
target_is (ToWire n) (ToPort (ports.Output m)) x y h = never h
target_is (ToWire n) (ToRegister m) x y h = never h
target_is (ToWire n) (ToWire m) x y h = ap (λ k. ToWire k) (eqb-true n m h)
target_is (ToWire n) (ToHole m) x y h = never h
target_is (ToWire n) ToDone x y h = never h
target_is (ToWire n) (ToPort (ports.Input i)) x y h = absurd y
target_is (ToWire n) (ToPort (ports.Done i)) x y h = absurd y
target_is (ToWire n) (ToPort (ports.Literal i j)) x y h = absurd y
target_is (ToHole n) (ToPort (ports.Cell d q)) x y h = never h
target_is (ToHole n) (ToPort (ports.Output m)) x y h = never h
target_is (ToHole n) (ToRegister m) x y h = never h
target_is (ToHole n) (ToWire m) x y h = never h
target_is (ToHole n) (ToHole m) x y h = ap (λ k. ToHole k) (eqb-true n m h)
target_is (ToHole n) ToDone x y h = never h
target_is (ToHole n) (ToPort (ports.Input i)) x y h = absurd y
target_is (ToHole n) (ToPort (ports.Done i)) x y h = absurd y
target_is (ToHole n) (ToPort (ports.Literal i j)) x y h = absurd y
target_is ToDone (ToPort (ports.Cell d q)) x y h = never h
target_is ToDone (ToPort (ports.Output m)) x y h = never h
target_is ToDone (ToRegister m) x y h = never h
target_is ToDone (ToWire m) x y h = never h
target_is ToDone (ToHole m) x y h = never h
target_is ToDone ToDone x y h = refl
target_is ToDone (ToPort (ports.Input i)) x y h = absurd y
target_is ToDone (ToPort (ports.Done i)) x y h = absurd y
target_is ToDone (ToPort (ports.Literal i j)) x y h = absurd y
target_is (ToPort (ports.Input i)) b x y h = absurd x
target_is (ToPort (ports.Done i)) b x y h = absurd x
target_is (ToPort (ports.Literal i j)) b x y h = absurd x

abbrev pub flat : List Driven → List PlainNetDriver
flat ts = flat_map (λ t. t.drivers) ts

pub all_dropped : (t : PlainNetTarget) (ds : List PlainNetDriver) → AllDrive (λ v. same_target v t ≡ false) ds → drivers_to t ds ≡ []
all_dropped t [] h = refl
all_dropped t (d ∷ ds) h = ap (λ b. if b then d ∷ drivers_to t ds else drivers_to t ds) h.0 ∙ all_dropped t ds h.1

pub all_kept : (t : PlainNetTarget) (ds : List PlainNetDriver) → AllDrive (λ v. IsProper v × (same_target v t ≡ true)) ds → drivers_to t ds ≡ ds
all_kept t [] h = refl
all_kept t (d ∷ ds) h = ap (λ b. if b then d ∷ drivers_to t ds else drivers_to t ds) h.0.1 ∙ ap (λ l. d ∷ l) (all_kept t ds h.1)

-- drivers of another target
pub of_other : (t u : PlainNetTarget) (ds : List PlainNetDriver) → IsProper t → IsProper u → same_target u t ≡ false → AllDrive (λ v. IsProper v × (same_target v u ≡ true)) ds → AllDrive (λ v. same_target v t ≡ false) ds
of_other t u [] x y e h = tt
of_other t u (d ∷ ds) x y e h = (subst (λ v. same_target v t ≡ false) (sym (target_is d.target u h.0.0 y h.0.1)) e, of_other t u ds x y e h.1)

pub flat_dropped : (t : PlainNetTarget) (ts : List Driven) → IsProper t → AreEntries ts → NoneHas t ts → drivers_to t (flat ts) ≡ []
flat_dropped t [] x es n = refl
flat_dropped t (u ∷ us) x es n =
    to_append t u.drivers (flat us) ∙ ap (λ l. l ++ drivers_to t (flat us)) (all_dropped t u.drivers (of_other t u.target u.drivers x es.0 n.0 es.1)) ∙ flat_dropped t us x es.3 n.1

-- no wire from one on is the target
abbrev pub NoWireFrom : PlainNetTarget → ℕ → Type 0
NoWireFrom t wire = (n : ℕ) → wire ≤ n → same_target (ToWire n) t ≡ false

trees_dropped : (t : PlainNetTarget) (ts : List Driven) (wire : ℕ) → NoneHas t ts → NoWireFrom t wire → drivers_to t (trees wire ts) ≡ []
trees_dropped t [] wire n free = refl
trees_dropped t (u ∷ us) wire n free =
    of_second t (tree u.target wire u.drivers) (trees (behind wire (pairs (length u.drivers))) us) (tree_dropped u.target t n.0 (length u.drivers) wire u.drivers (λ m low high. free m low))
    ∙ trees_dropped t us (behind wire (pairs (length u.drivers))) n.1 (λ m low. free m (omega arith))

-- the drivers that stand at the target of an entry itself
abbrev pub top : ℕ → Driven → List PlainNetDriver
top wire u = top_within u.target (length u.drivers) wire u.drivers

-- what stands of the drivers of a target in all trees, from their first wire on
abbrev pub top_of : PlainNetTarget → ℕ → List Driven → List PlainNetDriver
top_of t wire [] = []
top_of t wire (u ∷ us) = if same_target u.target t then top wire u else top_of t (behind wire (pairs (length u.drivers))) us

pub trees_stand : (t : PlainNetTarget) (ts : List Driven) (wire : ℕ) → IsProper t → AreEntries ts → NoWireFrom t wire → drivers_to t (trees wire ts) ≡ top_of t wire ts
trees_stand t [] wire x es free = refl
trees_stand t (u ∷ us) wire x es free = choice (same_target u.target t) refl (trees_stand t us (behind wire (pairs (length u.drivers))) x es.3 (λ m low. free m (omega arith)))
  where
    choice : (b : Bool) → same_target u.target t ≡ b → drivers_to t (trees (behind wire (pairs (length u.drivers))) us) ≡ top_of t (behind wire (pairs (length u.drivers))) us
        → drivers_to t (tree u.target wire u.drivers ++ trees (behind wire (pairs (length u.drivers))) us) ≡ (if b then top wire u else top_of t (behind wire (pairs (length u.drivers))) us)
    choice true e ih =
        of_first t (tree u.target wire u.drivers) (trees (behind wire (pairs (length u.drivers))) us)
        (trees_dropped t us (behind wire (pairs (length u.drivers))) (subst (λ v. NoneHas v us) (target_is u.target t es.0 x e) es.2) (λ m low. free m (omega arith)))
        ∙ tree_kept u.target t e (length u.drivers) wire u.drivers (λ m low high. free m low)
    choice false e ih =
        of_second t (tree u.target wire u.drivers) (trees (behind wire (pairs (length u.drivers))) us) (tree_dropped u.target t e (length u.drivers) wire u.drivers (λ m low high. free m low)) ∙ ih

-- each wire of each tree has what its drivers give it
module _ (around : NetAround) (registers : ℕ → Option BitVector) (look : Node → Option BitVector) (undriven : PlainNetTarget → BitVector) where
  abbrev pub EntryHolds : ℕ → Driven → Type 0
  EntryHolds wire u = TreeHolds around registers look (undriven u.target) u.target (length u.drivers) wire u.drivers

  abbrev pub AllHold : ℕ → List Driven → Type 0
  AllHold wire [] = Unit {0}
  AllHold wire (u ∷ us) = EntryHolds wire u × AllHold (behind wire (pairs (length u.drivers))) us

  -- A TARGET takes what all its drivers give it
  pub tops_give : (t : PlainNetTarget) (ts : List Driven) (wire : ℕ) → IsProper t → AreEntries ts → AllHold wire ts
      → first_true around registers look (undriven t) (top_of t wire ts) ≡ first_true around registers look (undriven t) (drivers_to t (flat ts))
  tops_give t [] wire x es hold = refl
  tops_give t (u ∷ us) wire x es hold =
      choice (same_target u.target t) refl (tops_give t us (behind wire (pairs (length u.drivers))) x es.3 hold.1)
      ∙ ap (first_true around registers look (undriven t)) (sym (to_append t u.drivers (flat us)))
    where
      choice : (b : Bool) → same_target u.target t ≡ b
          → first_true around registers look (undriven t) (top_of t (behind wire (pairs (length u.drivers))) us) ≡ first_true around registers look (undriven t) (drivers_to t (flat us))
          → first_true around registers look (undriven t) (if b then top wire u else top_of t (behind wire (pairs (length u.drivers))) us)
          ≡ first_true around registers look (undriven t) (drivers_to t u.drivers ++ drivers_to t (flat us))
      choice true e ih =
          let is : u.target ≡ t = target_is u.target t es.0 x e in
          tree_takes around registers look (undriven t) (undriven u.target) u.target (length u.drivers) wire u.drivers hold.0
          ∙ ap (first_true around registers look (undriven t)) (sym (append_none (drivers_to t u.drivers) (drivers_to t (flat us)) (flat_dropped t us x es.3 (subst (λ v. NoneHas v us) is es.2))
          ∙ all_kept t u.drivers (subst (λ v. AllDrive (λ w. IsProper w × (same_target w v ≡ true)) u.drivers) is es.1)))
      choice false e ih = ih ∙ ap (λ l. first_true around registers look (undriven t) (l ++ drivers_to t (flat us))) (sym (all_dropped t u.drivers (of_other t u.target u.drivers x es.0 e es.1)))
