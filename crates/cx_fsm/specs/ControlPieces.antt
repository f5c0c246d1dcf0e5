-- Pieces of control, as the functions that append them have them.
use Rattle.std.specs.Prelude.{ℕ, suc, ◌+◌, List, [], ◌∷◌, ◌++◌, length, Option, Some, None, slice_get}
use Rattle.cx_meaning.specs.Designs.{PlainForm, PlainStatement}
use Rattle.cx_net.specs.Nets.{PlainNetExpr, OfRegister, Sum, ToRegister, ToDone, PlainNetDriver}
use Rattle.cx_static.specs.Islands.{PlainIsland}
use Rattle.cx_wiring.specs.Parts.{word, one, both, either, equals, drive}
use Rattle.cx_wiring.specs.Counts.{form_positions, positions_of, form_wires, sample_registers, form_registers}
use Rattle.cx_wiring.specs.Stands.{Stand, end_of, ends, goes}
use Rattle.cx_wiring.specs.Control.{drivers_of, in_last_round, in_earlier_round}
use Rattle.cx_fsm.specs.PlainStands.{past}

-- what follows a statement of this form in its region
abbrev pub behind_form : List PlainIsland → PlainForm → Stand → Stand
behind_form islands form x =
    past x (suc (suc (form_wires form))) (length (form_registers islands form)) (form_positions form)

-- how many registers the samples of an island have
abbrev pub samples_of : List PlainIsland → ℕ → ℕ
samples_of islands k = length (sample_registers (slice_get islands k))

-- the control with this first wire and so many positions is done
abbrev pub finished : ℕ → ℕ → List PlainNetDriver
finished wire positions =
    drive (ToRegister 0) (end_of wire) (word positions)
    ∷ drive (ToRegister 0) (equals (OfRegister 0) positions) (word 0)
    ∷ drive ToDone one (equals (OfRegister 0) positions)
    ∷ []

-- the end of the part before, where there is one, leads to the next
abbrev pub led : Stand → Option ℕ → List PlainNetDriver
led next None = []
led next (Some wire) = goes next (end_of wire) next.position ∷ []

-- an arm has ended or ends
abbrev pub arm_ended : Stand → ℕ → PlainNetExpr
arm_ended own positions = either (equals (OfRegister own.region) positions) (end_of own.wire)

-- an arm of a par
abbrev pub arm_made : ℕ → List PlainIsland → Stand → Stand → PlainStatement → List PlainNetDriver
arm_made groups islands par own s =
    drive (ToRegister own.region) (end_of par.wire) (word 0)
    ∷ (drivers_of groups islands own s ++
    drive (ToRegister own.region) (end_of own.wire) (word (own.position + positions_of s)) ∷ [])

-- the rounds of a repeat whose body has this first wire are counted, up to the last one
abbrev pub counted_rounds : Stand → ℕ → ℕ → List PlainNetDriver
counted_rounds x body n =
    ends x (both (end_of body) (in_last_round x n))
    ∷ goes x (both (end_of body) (in_earlier_round x n)) x.position
    ∷ drive (ToRegister x.register) (end_of x.wire) (word 0)
    ∷ drive (ToRegister x.register) (end_of body) (Sum (OfRegister x.register) (word 1))
    ∷ []
