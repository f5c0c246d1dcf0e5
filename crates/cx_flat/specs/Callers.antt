-- A component whose static children are to stand in it.
use Rattle.std.specs.Prelude.{◌≡◌, ℕ, List, Some, slice_get}
use Rattle.cx_meaning.specs.Designs.{PlainComponent}
use Rattle.cx_design.specs.PlainForms.{plain_component}
use Rattle.cx_flattening.specs.Flattened.{Kids, first_copy}
use Rattle.cx_flat.specs.declared.callers.Caller.{Caller}
use Rattle.cx_flat.specs.Tables.{plain_table, kids_of}
use Rattle.cx_flat.specs.Stands.{stands_of}

abbrev pub part_of : Caller → PlainComponent
part_of caller = plain_component caller.part.now

abbrev pub kids_in : Caller → Kids
kids_in caller = kids_of (plain_table caller.table.now) (part_of caller).cells

-- its cells stand so
abbrev pub IsCaller : Caller → Type 0
IsCaller caller = caller.stands.now ≡ stands_of (kids_in caller) (part_of caller).cells

-- the numbers of the first copies of groups for its invokes
abbrev pub AreFirsts : Caller → List ℕ → Type 0
AreFirsts caller firsts = (k n : ℕ) → slice_get firsts k ≡ Some n → n ≡ first_copy (kids_in caller) (part_of caller) k
