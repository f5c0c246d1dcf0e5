-- How many nets, arrays and words a list of instances has.
use Rattle.std.specs.Prelude.{ℕ, ◌+◌, List, [], ◌∷◌, length}
use Rattle.cx_vtree.specs.Plain.{PlainDecl, WireOf, RegisterOf, ArrayOf}
use Rattle.cx_vtree.specs.InstanceTree.{Placed, declared_nets, declared_arrays}

-- the words of all arrays
abbrev pub declared_words : List PlainDecl → ℕ
declared_words [] = 0
declared_words (WireOf n w ∷ ds) = declared_words ds
declared_words (RegisterOf n w ∷ ds) = declared_words ds
declared_words (ArrayOf n w k ∷ ds) = k + declared_words ds

-- the nets of all instances
abbrev pub nets_count : List Placed → ℕ
nets_count [] = 0
nets_count (p ∷ ps) = length p.part.ports + length (declared_nets p.part.decls) + nets_count ps

-- the arrays of all instances
abbrev pub arrays_count : List Placed → ℕ
arrays_count [] = 0
arrays_count (p ∷ ps) = length (declared_arrays p.part.decls) + arrays_count ps

-- the words of the arrays of all instances
abbrev pub words_count : List Placed → ℕ
words_count [] = 0
words_count (p ∷ ps) = declared_words p.part.decls + words_count ps
