-- What an edge may set and store.
use Rattle.std.specs.Prelude.{◌≡◌, ℕ}
use Rattle.cx_vtree.specs.declared.meanings.Meaning.TheVariants.{Register, Array}
use Rattle.cx_vtree.specs.Plain.{PlainAssign, PlainStore}
use Rattle.cx_vtree.specs.Sound.{Scope, width_of}
use Rattle.cx_vlaws.specs.Widths.{IsExpression}

-- a register takes a value of its width
pub record IsSet (scope : Scope) (a : PlainAssign) : Type 0 where
  pub register : scope a.name ≡ Register (width_of (scope a.name))
  pub value : IsExpression scope a.value (width_of (scope a.name))

-- where a bit is 1, a word of an array takes a value of the array's width
pub record IsStore (scope : Scope) (s : PlainStore) : Type 0 where
  pub array : scope s.array ≡ Array (width_of (scope s.array))
  pub guard : IsExpression scope s.guard 1
  pub index_width : ℕ
  pub index : IsExpression scope s.index index_width
  pub value : IsExpression scope s.value (width_of (scope s.array))
