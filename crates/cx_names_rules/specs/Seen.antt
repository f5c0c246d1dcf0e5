-- Names that are seen one after another.
use Rattle.std.specs.Prelude.{◌≡◌, ℕ, List, ◌∷◌, ◌++◌, Option, is_some}
use Rattle.cx_text.specs.declared.diagnostics.Diagnostic.{Diagnostic}
use Rattle.cx_text.specs.declared.places.Place.{Place}
use Rattle.cx_text.specs.declared.rules.Rule.TheVariants.{Duplicate}
use Rattle.cx_numbering.specs.Names.{is_among}
use Rattle.cx_numbering.specs.NameRules.{Named, duplicates, tell_if}
use Rattle.cx_names_scopes.specs.declared.numbers.Numbers.{Numbers}
use Rattle.cx_names_scopes.specs.Numbered.{number_in}
use Rattle.cx_names_rules.specs.Found.{first_of}

-- these names are seen
abbrev pub Sees : List (List ℕ) → Numbers → Type 0
Sees before seen = (n : List ℕ) → is_some (number_in seen n) ≡ is_among n before

-- one more part is seen, and told of where its name was
pub record SeesOne (before : List (List ℕ)) (name : List ℕ) (place : Place) (start : Option Diagnostic)
    (seen : Numbers) (found : Option Diagnostic) : Type 0 where
  pub sees : Sees (name ∷ before) seen
  pub told : found ≡ first_of start (tell_if (is_among name before) Duplicate place name)

-- of all parts those that are left are not yet seen
pub record SeesUpTo (before : List (List ℕ)) (all left : List Named) (start : Option Diagnostic)
    (seen : Numbers) (found : Option Diagnostic) : Type 0 where
  pub after : List (List ℕ)
  pub sees : Sees after seen
  pub behind : (more : List Named)
      → first_of start (duplicates before (all ++ more)) ≡ first_of found (duplicates after (left ++ more))
