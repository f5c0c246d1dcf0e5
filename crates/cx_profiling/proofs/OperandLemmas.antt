-- The ports that stand by themselves in a guard and those of its comparisons are among its operands.
use Rattle.std.proofs.Common.{◌≡◌, inl, inr, List, ◌++◌, refl, ap}
use Rattle.cx_text.proofs.MemberLaws.{in_left, in_right, of_joined}
use Rattle.cx_meaning.specs.Designs.{PlainGuard, Always, Atom, Negation, All, Any, Compared, Within, PlainGuards, no_guards, a_guard}
use Rattle.cx_meaning.specs.declared.ports.PlacedPort.{PlacedPort}
use Rattle.cx_text.specs.Members.{In}
use Rattle.cx_rules.specs.Items.{Pair, comparisons_of, comparisons_in, operands_of, operands_in}

abbrev pub ArePorts : List PlacedPort → Pair → Type 0
ArePorts ps pair = ((p : PlacedPort) × In ps p × (p.port ≡ pair.first)) × ((p : PlacedPort) × In ps p × (p.port ≡ pair.second))

more_left : (ps qs : List PlacedPort) (pair : Pair) → ArePorts ps pair → ArePorts (ps ++ qs) pair
more_left ps qs pair ((p, i, e), (q, j, f)) = ((p, in_left ps qs p i, e), (q, in_left ps qs q j, f))

more_right : (ps qs : List PlacedPort) (pair : Pair) → ArePorts qs pair → ArePorts (ps ++ qs) pair
more_right ps qs pair ((p, i, e), (q, j, f)) = ((p, in_right ps qs p i, e), (q, in_right ps qs q j, f))

mutual
  pub comparisons_are_operands : (g : PlainGuard) (pair : Pair) → In (comparisons_of g) pair → ArePorts (operands_of g) pair
  comparisons_are_operands Always pair i = absurd i
  comparisons_are_operands (Atom q) pair i = absurd i
  comparisons_are_operands (Negation g) pair i = comparisons_are_operands g pair i
  comparisons_are_operands (All gs) pair i = comparisons_in_operands gs pair i
  comparisons_are_operands (Any gs) pair i = comparisons_in_operands gs pair i
  comparisons_are_operands (Compared c a b) pair (inl e) = ((a, inl refl, ap (λ x. x.first) e), (b, inr (inl refl), ap (λ x. x.second) e))
  comparisons_are_operands (Compared c a b) pair (inr i) = absurd i
  comparisons_are_operands (Within from to) pair i = absurd i

  comparisons_in_operands : (gs : PlainGuards) (pair : Pair) → In (comparisons_in gs) pair → ArePorts (operands_in gs) pair
  comparisons_in_operands no_guards pair i = absurd i
  comparisons_in_operands (a_guard g gs) pair i =
      of_joined (comparisons_of g) (comparisons_in gs) pair i (λ j. more_left (operands_of g) (operands_in gs) pair (comparisons_are_operands g pair j))
      (λ j. more_right (operands_of g) (operands_in gs) pair (comparisons_in_operands gs pair j))
