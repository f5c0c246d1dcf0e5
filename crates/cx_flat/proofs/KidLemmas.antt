-- The flat components of static children, in a table and by cells.
use Rattle.std.proofs.Common.{◌≡◌, ℕ, zero, suc, List, [], ◌∷◌, Option, Some, None, map, slice_get, refl, ap, ◌∙◌}
use Rattle.std.proofs.Common.{Bor}
use Rattle.std.specs.Prelude.{option_map}
use Rattle.std.specs.Option.{option_copied}
use Rattle.cx_design.specs.declared.cells.Cell.{Cell}
use Rattle.cx_design.specs.declared.components.Component.{Component}
use Rattle.cx_design.specs.PlainForms.{plain_cell, plain_component}
use Rattle.cx_flattening.specs.Flattened.{Kids, kid_at}
use Rattle.cx_flat.specs.Tables.{plain_table, kid_by, kids_of}

pub kid_there : (table : List (Option Component)) (k : ℕ) (x : Option Component) → slice_get table k ≡ Some x → kid_at (plain_table table) k ≡ option_map plain_component x
kid_there [] k x e = absurd (cc)
kid_there (y ∷ ys) zero x e = let same : y ≡ x = cc in ap (option_map plain_component) same
kid_there (y ∷ ys) (suc k) x e = kid_there ys k x e

pub kid_past : (table : List (Option Component)) (k : ℕ) → slice_get table k ≡ None → kid_at (plain_table table) k ≡ None
kid_past [] k e = refl
kid_past (y ∷ ys) zero e = absurd (cc)
kid_past (y ∷ ys) (suc k) e = kid_past ys k e

pub kid_of_cell : (table : Kids) (cells : List Cell) (c : ℕ) (cell : Cell) → slice_get cells c ≡ Some cell → kid_at (kids_of table (map plain_cell cells)) c ≡ kid_by table (plain_cell cell).kind
kid_of_cell table [] c cell e = absurd (cc)
kid_of_cell table (x ∷ xs) zero cell e = let same : x ≡ cell = cc in ap (λ y. kid_by table (plain_cell y).kind) same
kid_of_cell table (x ∷ xs) (suc c) cell e = kid_of_cell table xs c cell e

pub kid_of_none : (table : Kids) (cells : List Cell) (c : ℕ) → slice_get cells c ≡ None → kid_at (kids_of table (map plain_cell cells)) c ≡ None
kid_of_none table [] c e = refl
kid_of_none table (x ∷ xs) zero e = absurd (cc)
kid_of_none table (x ∷ xs) (suc c) e = kid_of_none table xs c e

-- what is lent is what is there
pub kid_seen : (r : Option (Bor Component)) (x : Option Component) → option_copied r ≡ x → option_map (λ kid. plain_component kid.now) r ≡ option_map plain_component x
kid_seen r x e = by r ∙ ap (option_map plain_component) e
  where
    by : (o : Option (Bor Component)) → option_map (λ kid. plain_component kid.now) o ≡ option_map plain_component (option_copied o)
    by None = refl
    by (Some b) = refl
