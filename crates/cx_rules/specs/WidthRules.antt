-- Stage 3: widths, literals, targets and sources.
use Rattle.std.specs.Prelude.{◌≡◌, ℕ, nat_eq, Bool, true, false, not, List, [], ◌∷◌, Option, Some, None, if◌then◌else◌}
use Rattle.cx_meaning.specs.declared.ports.PortRef.{PortRef}
use Rattle.cx_meaning.specs.declared.ports.PortRef.TheVariants as ports
use Rattle.cx_meaning.specs.declared.ports.PlacedPort.{PlacedPort}
use Rattle.cx_meaning.specs.Designs.{PlainAssign}
use Rattle.cx_meaning.specs.Instances.{Instance}
use Rattle.cx_text.specs.Members.{In}
use Rattle.cx_rules.specs.Ports.{keeps_literal, width_of, written_width, is_source_only, is_target_only, path_of}
use Rattle.cx_rules.specs.Items.{Pair, atoms_of, comparisons_of, sources_of, test_in}
use Rattle.cx_rules.specs.Spots.{Tells, AssignRule, StatementRule}

abbrev pub differ : Option ℕ → Option ℕ → Bool
differ None b = false
differ (Some a) None = false
differ (Some a) (Some b) = not (nat_eq a b)

-- the target with the source, and the comparisons of the guard
abbrev pub pairs_of : PlainAssign → List Pair
pairs_of a = record { first = a.target; second = a.source.port } ∷ comparisons_of a.guard

-- the first operand of the first pair of unequal widths
abbrev pub first_unequal : Instance → List Pair → Option PortRef
first_unequal i [] = None
first_unequal i (pair ∷ pairs) =
    if differ (width_of i pair.first) (width_of i pair.second) then Some pair.first
    else first_unequal i pairs

-- RULE width: target and source, or two compared operands, have unequal widths
abbrev pub BreaksWidth : AssignRule
BreaksWidth i a place name =
    (port : PortRef) × (first_unequal i (pairs_of a.assign) ≡ Some port)
    × Tells place name a.assign.place (path_of i port)

abbrev pub is_wide : Instance → PortRef → Bool
is_wide i port = differ (written_width i port) (Some 1)

abbrev pub first_wide : Instance → List PlacedPort → Option PortRef
first_wide i [] = None
first_wide i (p ∷ ps) = if is_wide i p.port then Some p.port else first_wide i ps

-- RULE guard-width: a port that stands by itself in a guard is not one bit wide
abbrev pub BreaksGuardWidth : AssignRule
BreaksGuardWidth i a place name =
    (port : PortRef) × (first_wide i (atoms_of a.assign.guard) ≡ Some port)
    × Tells place name a.assign.place (path_of i port)

-- and the port of an if, a while or a static if
abbrev pub TestBreaksGuardWidth : StatementRule
TestBreaksGuardWidth i v place name =
    (test : PlacedPort) × (test_in v.form ≡ Some test) × (is_wide i test.port ≡ true)
    × Tells place name v.place (path_of i test.port)

-- RULE literal: the width is not 1 to 128, or the value does not fit
abbrev pub IsBadLiteral : PortRef → Type 0
IsBadLiteral port = (w v : ℕ) × (port ≡ ports.Literal w v) × (keeps_literal w v ≡ false)

abbrev pub BreaksLiteral : AssignRule
BreaksLiteral i a place name =
    (p : PlacedPort) × In (sources_of a.assign) p × IsBadLiteral p.port × Tells place name p.place []

abbrev pub TestBreaksLiteral : StatementRule
TestBreaksLiteral i v place name =
    (test : PlacedPort) × (test_in v.form ≡ Some test) × IsBadLiteral test.port
    × Tells place name test.place []

-- RULE not-a-target: the target is an output of a cell or an input of the signature
abbrev pub BreaksNotATarget : AssignRule
BreaksNotATarget i a place name =
    (is_source_only i a.assign.target ≡ true) × Tells place name a.assign.place (path_of i a.assign.target)

-- RULE not-a-source: a source, an operand of a guard or a condition is an input of a cell or an output of the signature
abbrev pub BreaksNotASource : AssignRule
BreaksNotASource i a place name =
    (p : PlacedPort) × In (sources_of a.assign) p × (is_target_only i p.port ≡ true)
    × Tells place name p.place (path_of i p.port)

abbrev pub TestBreaksNotASource : StatementRule
TestBreaksNotASource i v place name =
    (test : PlacedPort) × (test_in v.form ≡ Some test) × (is_target_only i test.port ≡ true)
    × Tells place name test.place (path_of i test.port)
