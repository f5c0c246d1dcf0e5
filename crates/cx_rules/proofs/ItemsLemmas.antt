-- Facts of what `Items` defines, that several crates above take.
use Rattle.std.proofs.Common.{◌≡◌, inl, inr, Option, Some, None, ap, ◌∙◌, List, [], ◌∷◌, refl, sym, subst, length, ℕ, ◌<◌, false, true}
use Rattle.cx_text.proofs.MemberLaws.{in_left, in_right, of_joined}
use Rattle.cx_meaning.specs.declared.ports.PlacedPort.{PlacedPort}
use Rattle.cx_meaning.specs.Designs.{no_component, OfComponent, OfPrimitive, PlainDesign, PlainKind, PlainStatement, PlainStatements, a_statement, list_of, no_statements, PlainGuard, Always, Atom, Negation, All, Any, Compared, Within, PlainGuards, no_guards, a_guard}
use Rattle.cx_text.specs.Members.{In}
use Rattle.cx_rules.specs.Items.{Visited, statements_in, test_in, option_list, Context, visit, visit_all, is_plain, atoms_of, atoms_in, operands_of, operands_in}
use Rattle.std.specs.Prelude.{flat_map, is_some}
use Rattle.cx_rules.specs.Wellformed.{IsKind, IsForm}
use Rattle.cx_meaning.specs.declared.kinds.GroupKind.TheVariants as kinds
use Rattle.cx_meaning.specs.declared.kinds.GroupKind.{GroupKind}
use Rattle.cx_meaning.specs.Islands.{kind_length}

pub bare_test : (v : Visited) (p : PlacedPort) → In (statements_in no_component) v → test_in v.form ≡ Some p → ⊥
bare_test v p (inl e) f = none_port (ap (λ w. test_in w.form) e ∙ f)
  where
    none_port : ◌≡◌ {A = Option PlacedPort} None (Some p) → ⊥
    none_port g = cc
bare_test v p (inr i) f = absurd i

pub bare_form : (v : Visited) → In (statements_in no_component) v → IsForm no_component v.form
bare_form v (inl e) = subst (λ w. IsForm no_component w.form) e tt
bare_form v (inr i) = absurd i

-- the tests of statements inside
pub tests_flat : (vs : List Visited) (w : Visited) (p : PlacedPort) → In vs w → test_in w.form ≡ Some p → In (flat_map (λ v. option_list (test_in v.form)) vs) p
tests_flat [] w p j e = absurd j
tests_flat (v ∷ vs) w p (inl f) e =
    in_left (option_list (test_in v.form)) (flat_map (λ x. option_list (test_in x.form)) vs) p (subst (λ o. In (option_list o) p) (sym (ap (λ x. test_in x.form) f ∙ e)) (inl refl))
tests_flat (v ∷ vs) w p (inr j) e = in_right (option_list (test_in v.form)) (flat_map (λ x. option_list (test_in x.form)) vs) p (tests_flat vs w p j e)

pub option_in : (o : Option PlacedPort) (p : PlacedPort) → In (option_list o) p → o ≡ Some p
option_in None p j = absurd j
option_in (Some q) p (inl e) = ap Some e
option_in (Some q) p (inr none) = absurd none

-- each design has them
pub kind_there : (d : PlainDesign) (kind : PlainKind) (j : ℕ) → IsKind d kind → kind ≡ OfComponent j → j < length d.components
kind_there d (OfPrimitive primitive) j h e = absurd (cc)
kind_there d (OfComponent k) j h e = let same : k ≡ j = cc in subst (λ n. n < length d.components) same h

-- the parts of a statement are visited
pub part_in : (context : Context) (ss : PlainStatements) (s : PlainStatement) → In (list_of ss) s → (v : Visited) → In (visit context s) v → In (visit_all context ss) v
part_in context no_statements s i v j = absurd i
part_in context (a_statement x xs) s (inl e) v j = in_left (visit context x) (visit_all context xs) v (subst (λ y. In (visit context y) v) (sym e) j)
part_in context (a_statement x xs) s (inr i) v j = in_right (visit context x) (visit_all context xs) v (part_in context xs s i v j)

pub plain_untimed : (kind : GroupKind) → is_plain kind ≡ true → is_some (kind_length kind) ≡ true → ⊥
plain_untimed kinds.Plain e f = absurd (let clash : false ≡ true = f in cc)
plain_untimed kinds.Comb e f = absurd (let clash : false ≡ true = f in cc)
plain_untimed (kinds.Timed n) e f = absurd (let clash : false ≡ true = e in cc)

-- a port alone in a guard is one of its operands
mutual
  pub atoms_are_operands : (g : PlainGuard) (p : PlacedPort) → In (atoms_of g) p → In (operands_of g) p
  atoms_are_operands Always p i = i
  atoms_are_operands (Atom q) p i = i
  atoms_are_operands (Negation g) p i = atoms_are_operands g p i
  atoms_are_operands (All gs) p i = atoms_in_operands gs p i
  atoms_are_operands (Any gs) p i = atoms_in_operands gs p i
  atoms_are_operands (Compared c a b) p i = absurd i
  atoms_are_operands (Within from to) p i = absurd i

  atoms_in_operands : (gs : PlainGuards) (p : PlacedPort) → In (atoms_in gs) p → In (operands_in gs) p
  atoms_in_operands no_guards p i = i
  atoms_in_operands (a_guard g gs) p i =
      of_joined (atoms_of g) (atoms_in gs) p i (λ j. in_left (operands_of g) (operands_in gs) p (atoms_are_operands g p j)) (λ j. in_right (operands_of g) (operands_in gs) p (atoms_in_operands gs p j))
