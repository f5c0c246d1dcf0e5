-- What is set among some stays so among more.
use Rattle.std.proofs.Common.{List, [], ◌∷◌, ◌++◌, Bool, true, false, Some, refl, sym, subst, if◌then◌else◌}
use Rattle.std.specs.Prelude.{ℕ, IsSome}
use Rattle.std.specs.Cmp.Lexicographic.{bytes_decides}
use Rattle.cx_vtree.specs.Plain.{PlainDecl, WireOf, RegisterOf, ArrayOf, PlainAssign}
use Rattle.cx_vtree.specs.InstanceTree.{same_name, assigned}
use Rattle.cx_emitted.specs.Resets.{IsSetAmong}

some_left : (xs ys : List PlainAssign) (name : List ℕ) → IsSome (assigned xs name) → IsSome (assigned (xs ++ ys) name)
some_left [] ys name h = absurd (cc)
some_left (x ∷ xs) ys name h = go (same_name x.name name) (some_left xs ys name) h where
  go : (same : Bool) → (IsSome (assigned xs name) → IsSome (assigned (xs ++ ys) name)) → IsSome (if same then Some x.value else assigned xs name) → IsSome (if same then Some x.value else assigned (xs ++ ys) name)
  go true later k = refl
  go false later k = later k

some_right : (xs ys : List PlainAssign) (name : List ℕ) → IsSome (assigned ys name) → IsSome (assigned (xs ++ ys) name)
some_right [] ys name h = h
some_right (x ∷ xs) ys name h = go (same_name x.name name) (some_right xs ys name h) where
  go : (same : Bool) → IsSome (assigned (xs ++ ys) name) → IsSome (if same then Some x.value else assigned (xs ++ ys) name)
  go true k = refl
  go false k = k

pub set_left : (xs ys : List PlainAssign) (d : PlainDecl) → IsSetAmong xs d → IsSetAmong (xs ++ ys) d
set_left xs ys (WireOf n w) h = tt
set_left xs ys (RegisterOf n w) h = some_left xs ys n h
set_left xs ys (ArrayOf n w k) h = tt

pub set_right : (xs ys : List PlainAssign) (d : PlainDecl) → IsSetAmong ys d → IsSetAmong (xs ++ ys) d
set_right xs ys (WireOf n w) h = tt
set_right xs ys (RegisterOf n w) h = some_right xs ys n h
set_right xs ys (ArrayOf n w k) h = tt

-- what sets a name sets the register of this name
pub set_alone : (a : PlainAssign) (w : ℕ) → IsSetAmong (a ∷ []) (RegisterOf a.name w)
set_alone a w = subst (λ same. IsSome (if same then Some a.value else assigned [] a.name)) (sym ((bytes_decides a.name a.name).1 refl)) refl
