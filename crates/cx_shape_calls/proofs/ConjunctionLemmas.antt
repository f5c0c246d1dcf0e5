-- The ports of which a guard is the conjunction are its atoms, where it is one.
use Rattle.std.proofs.Common.{◌≡◌, Bool, true, false, ◌&&◌, cond, List, ◌++◌, Option, Some, None, map, refl, sym, ap, ◌∙◌}
use Rattle.std.proofs.lemmas.List.{map-append}
use Rattle.cx_meaning.specs.declared.ports.PortRef.{PortRef}
use Rattle.cx_meaning.specs.declared.ports.PlacedPort.{PlacedPort}
use Rattle.cx_meaning.specs.Designs.{PlainGuard, Always, Atom, Negation, All, Any, Compared, Within, PlainGuards, no_guards, a_guard}
use Rattle.cx_rules.specs.Items.{atoms_of, atoms_in}
use Rattle.cx_rules.specs.CallShape.{joined, conjuncts, conjuncts_in}
use Rattle.cx_shape_calls.specs.Forms.{is_conjunction, are_conjunctions}

abbrev some_if : Bool → List PlacedPort → Option (List PortRef)
some_if b ps = cond b (Some (map (λ p. p.port) ps)) None

both : (s t : Bool) (xs ys : List PlacedPort) → joined (some_if s xs) (some_if t ys) ≡ some_if (s && t) (xs ++ ys)
both true true xs ys = ap Some (sym (map-append (λ (p : PlacedPort). p.port) xs ys))
both true false xs ys = refl
both false t xs ys = refl

mutual
  conjuncts_are : (g : PlainGuard) → conjuncts g ≡ some_if (is_conjunction g) (atoms_of g)
  conjuncts_are Always = refl
  conjuncts_are (Atom p) = refl
  conjuncts_are (Negation g) = refl
  conjuncts_are (All gs) = conjuncts_in_are gs
  conjuncts_are (Any gs) = refl
  conjuncts_are (Compared c a b) = refl
  conjuncts_are (Within from to) = refl

  conjuncts_in_are : (gs : PlainGuards) → conjuncts_in gs ≡ some_if (are_conjunctions gs) (atoms_in gs)
  conjuncts_in_are no_guards = refl
  conjuncts_in_are (a_guard g gs) =
      ap (λ o. joined o (conjuncts_in gs)) (conjuncts_are g)
      ∙ ap (λ o. joined (some_if (is_conjunction g) (atoms_of g)) o) (conjuncts_in_are gs)
      ∙ both (is_conjunction g) (are_conjunctions gs) (atoms_of g) (atoms_in gs)

pub none_if_not : (g : PlainGuard) → is_conjunction g ≡ false → None ≡ conjuncts g
none_if_not g e = sym (conjuncts_are g ∙ ap (λ b. some_if b (atoms_of g)) e)

pub some_if_so : (g : PlainGuard) (found : List PortRef) → is_conjunction g ≡ true → found ≡ map (λ p. p.port) (atoms_of g) → Some found ≡ conjuncts g
some_if_so g found is same = ap Some same ∙ sym (conjuncts_are g ∙ ap (λ b. some_if b (atoms_of g)) is)
