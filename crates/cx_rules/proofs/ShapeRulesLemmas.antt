-- Facts of what `ShapeRules` defines, that several crates above take.
use Rattle.std.proofs.Common.{◌≡◌, ℕ, Option, Some, None, inl, inr, Bool, true, false, ◌||◌, List, [], ◌∷◌, refl, ap, ◌∙◌, ⊎_elim}
use Rattle.cx_meaning.specs.declared.ports.PortRef.{PortRef}
use Rattle.cx_meaning.specs.declared.ports.PortRef.TheVariants as ports
use Rattle.cx_meaning.specs.Islands.{group_length}
use Rattle.cx_meaning.specs.Designs.{PlainAssign, All, Always, Any, Atom, Compared, Negation, PlainComponent, PlainGuard, Within}
use Rattle.cx_text.specs.Members.{In}
use Rattle.cx_rules.specs.ShapeRules.{some_target, owner_length}
use Rattle.std.proofs.lemmas.Bool.{or_cases, eqb-true}
use Rattle.cx_text.proofs.NumberLaws.{false_true}
use Rattle.cx_rules.specs.CallShape.{is_always, is_port_of}

pub some_in : (test : PortRef → Bool) (list : List PlainAssign) (a : PlainAssign) → In list a → test a.target ≡ true → some_target test list ≡ true
some_in test [] a j e = absurd j
some_in test (x ∷ xs) a (inl same) e = ap (λ b. b || some_target test xs) (ap (λ y. test y.target) same ∙ e)
some_in test (x ∷ xs) a (inr j) e = by (test x.target) (some_in test xs a j e)
  where
    by : (b : Bool) → some_target test xs ≡ true → (b || some_target test xs) ≡ true
    by true later = refl
    by false later = later

-- a list of assignments and one of them
pub a_target : (test : PortRef → Bool) (list : List PlainAssign) → some_target test list ≡ true → (a : PlainAssign) × In list a × (test a.target ≡ true)
a_target test [] e = absurd (cc)
a_target test (a ∷ rest) e = ⊎_elim (λ h. (a, inl refl, h)) (λ h. let r = a_target test rest h in (r.0, inr r.1, r.2)) (or_cases (test a.target) (some_target test rest) e)

pub always_is : (g : PlainGuard) → is_always g ≡ true → g ≡ Always
always_is Always e = refl
always_is (Atom p) e = absurd (false_true e)
always_is (Negation g) e = absurd (false_true e)
always_is (All gs) e = absurd (false_true e)
always_is (Any gs) e = absurd (false_true e)
always_is (Compared c a b) e = absurd (false_true e)
always_is (Within from to) e = absurd (false_true e)

-- groups that last as long are as long for their assignments
pub owner_length-same : (part other : PlainComponent) → ((g : ℕ) → group_length other g ≡ group_length part g) → (owner : Option ℕ) → owner_length other owner ≡ owner_length part owner
owner_length-same part other lengths None = refl
owner_length-same part other lengths (Some g) = lengths g

-- a port of a cell, by its number
pub port_of_is : (e : ℕ) (t : PortRef) → is_port_of e t ≡ true → (n : ℕ) × (t ≡ ports.Cell e n)
port_of_is e (ports.Cell d n) h = (n, ap (λ x. ports.Cell x n) (eqb-true d e h))
port_of_is e (ports.Input n) h = absurd (cc)
port_of_is e (ports.Output n) h = absurd (cc)
port_of_is e (ports.Done g) h = absurd (cc)
port_of_is e (ports.Literal w v) h = absurd (cc)
