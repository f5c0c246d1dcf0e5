-- What the reading functions of the code answer, in the words of the reading on lists.
use Rattle.std.specs.Prelude.{◌≡◌, true, Option, Some, None, Result, Ok, Err}
use Rattle.cx_vread_exprs.specs.declared.faults.Fault.{Fault}
use Rattle.cx_vread_exprs.specs.declared.faults.Fault.TheVariants as faults
use Rattle.cx_vread_exprs.specs.declared.places.ReadPoint.{ReadPoint}
use Rattle.cx_vread_exprs.specs.Places.{Place}

abbrev pub place_of : ReadPoint → Place
place_of a = record { rest = a.rest.now; fits = true }

-- reading stops, unless memory ran out
abbrev pub Fails : {Y : Type 0} → Fault → Option Y → Type 0
Fails (faults.Syntax left) reads = reads ≡ None
Fails faults.Memory reads = Unit {0}

-- what a function returned, seen by view, is what reading gives, unless memory ran out
abbrev pub Gives : {X Y : Type 0} → (X → Y) → Result X Fault → Option Y → Type 0
Gives view (Ok x) reads = reads ≡ Some (view x)
Gives view (Err e) reads = Fails e reads
