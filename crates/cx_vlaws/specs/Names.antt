-- The names of an instance.
use Rattle.std.specs.Prelude.{◌≡◌, ℕ, List, [], ◌∷◌, ◌++◌, Some, map, slice_get}
use Rattle.cx_vtree.specs.InstanceTree.{Placed, ports_at, decls_at}
use Rattle.cx_vtree.specs.Sound.{decl_name}

-- all names that the ports and the declarations of an instance give
abbrev pub names_at : List Placed → ℕ → List (List ℕ)
names_at tree i = map (λ p. p.name) (ports_at tree i) ++ map decl_name (decls_at tree i)

-- no name stands at two places
abbrev pub AreApart : List (List ℕ) → Type 0
AreApart names = (j k : ℕ) (n : List ℕ) → slice_get names j ≡ Some n → slice_get names k ≡ Some n → j ≡ k
