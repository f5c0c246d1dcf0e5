-- The names of primitives.
use Rattle.std.specs.Prelude.{◌≡◌, refl}
use Rattle.cx_prim.specs.declared.names.PrimitiveName.{PrimitiveName}
use Rattle.cx_prim.specs.declared.names.PrimitiveName.TheVariants.{Timer}
use Rattle.cx_prim.specs.PrimitiveNames.{name_text, IsNamed}
use Rattle.cx_prim.proofs.NameLemmas.{one_name}

-- the name that designs can write for a text is the one whose text it is
pub named_one : (named own : PrimitiveName) → IsNamed named (name_text own) → named ≡ own
named_one named own is_named = one_name named own is_named.spelled

-- only the timer has a text that designs cannot write
pub unnamed_timer : (own : PrimitiveName) → ((name : PrimitiveName) → IsNamed name (name_text own) → ⊥) → Timer ≡ own
unnamed_timer Timer none = refl
unnamed_timer own none = absurd (none own (record { spelled = refl; nameable = λ e. let f = e in cc }))
