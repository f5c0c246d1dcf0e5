-- Which memories take the words of the tests, and have a word at each place of them.
use Rattle.std.specs.Prelude.{◌≡◌, ℕ, ◌≤◌, ◌^◌, Bool, true, List, [], ◌∷◌, if◌then◌else◌}
use Rattle.std.specs.Str.{bytes_eq}
use Rattle.std.proofs.Common.{◌∙◌, arith, lit≤}
use Rattle.cx_prim.specs.declared.names.PrimitiveName.{PrimitiveName}
use Rattle.cx_prim.specs.declared.names.PrimitiveName.TheVariants.{Timer}
use Rattle.cx_prim.specs.PrimitiveNames.{name_text}
use Rattle.cx_prim.specs.Table.{PrimitiveRow}
use Rattle.cx_prim.proofs.NameLemmas.{all_names}

-- the first of the names that is spelled so
abbrev spelled : List ℕ → List PrimitiveName → PrimitiveName
spelled text [] = Timer
spelled text (name ∷ names) = if bytes_eq (name_text name) text then name else spelled text names

abbrev pub name_of : List ℕ → PrimitiveName
name_of text = spelled text all_names
