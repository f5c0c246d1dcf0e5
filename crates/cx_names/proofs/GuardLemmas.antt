-- Guards of a list, and as the list of a guard.
use Rattle.std.proofs.Common.{◌≡◌, ◌≤◌, ℕ, List, [], ◌∷◌, ◌++◌, map, drop, length, append-nil, refl, sym, ◌∙◌, ap}
use Rattle.std.proofs.lemmas.List.{drop_all}
use Rattle.cx_ast.specs.PlainGuards as written
use Rattle.cx_ast.specs.PlainTree.{PlainTree, PlainComponent}
use Rattle.cx_meaning.specs.Designs.{a_guard, guards_of}
use Rattle.cx_numbering.specs.DesignOf.{guard_of, guards_in}

pub guards_listed : (tree : PlainTree) (part : PlainComponent) (gs : List written.PlainGuard) → guards_in tree part (written.guards_of gs) ≡ guards_of (map (guard_of tree part) gs)
guards_listed tree part [] = refl
guards_listed tree part (g ∷ gs) = ap (λ rest. a_guard (guard_of tree part g) rest) (guards_listed tree part gs)

-- nothing is left of a list
pub all_done : {A B : Type 0} (front : List B) (f : List A → List B) (xs : List A) (i : ℕ) (all : List B) → f [] ≡ [] → length xs ≤ i → front ++ f (drop i xs) ≡ all → front ≡ all
all_done front f xs i all none past h = sym (append-nil front) ∙ ap (λ rest. front ++ rest) (sym (ap f (drop_all i xs past) ∙ none)) ∙ h
