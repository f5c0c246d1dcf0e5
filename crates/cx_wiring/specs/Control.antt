-- Control in the net: each region has a register with the number of a position, each statement a wire that says that control
-- stands there and one that says that it is in its last turn.
use Rattle.std.specs.Prelude.{ℕ, zero, suc, ◌+◌, List, [], ◌∷◌, ◌++◌, length, Option, Some, None, slice_get}
use Rattle.cx_meaning.specs.declared.ports.PortRef.{PortRef}
use Rattle.cx_meaning.specs.declared.ports.Comparison.TheVariants.{NotEqual}
use Rattle.cx_meaning.specs.Designs.{PlainForm, Empty, Enable, Seq, Par, If, While, Repeat, StaticSeq, StaticPar, StaticIf, StaticRepeat, Timed, PlainStatement, Placed, PlainStatements, no_statements, a_statement}
use Rattle.cx_net.specs.Nets.{PlainNetExpr, OfPort, OfRegister, OfHole, OfGo, Inverse, AllOf, Sum, Compares, exprs_of, ToRegister, ToHole, ToDone, PlainNetDriver}
use Rattle.cx_static.specs.Islands.{PlainIsland}
use Rattle.cx_wiring.specs.Parts.{word, one, both, either, equals, drive}
use Rattle.cx_wiring.specs.Counts.{positions_of, wires_of, registers_of}
use Rattle.cx_wiring.specs.Stands.{Stand, at, end_of, stands, ends, goes, inside, past_test, behind}
use Rattle.cx_wiring.specs.IslandDrivers.{first_of_island, island_drivers}

-- one turn in which nothing goes
abbrev pub one_turn : Stand → List PlainNetDriver
one_turn x = stands x ∷ ends x (at x) ∷ []

-- control stands at a test whose port is 1, or 0
abbrev pub found_one : Stand → PortRef → PlainNetExpr
found_one x port = both (at x) (OfPort port)

abbrev pub found_zero : Stand → PortRef → PlainNetExpr
found_zero x port = both (at x) (Inverse (OfPort port))

-- ARMS. Each has a region, whose register comes before those of the arm. The position behind all others says that the arm
-- has ended, and is left where the par ends
abbrev pub arm_stand : Stand → ℕ → ℕ → Stand
arm_stand par wire register =
    record { wire = wire; register = suc register; position = 0; region = register; acts = at par }

abbrev pub arm_over : ℕ → ℕ → PlainStatement → PlainNetExpr
arm_over wire register s = either (equals (OfRegister register) (positions_of s)) (end_of wire)

abbrev pub arm_restarts : Stand → ℕ → PlainNetDriver
arm_restarts par register = drive (ToRegister register) (end_of par.wire) (word 0)

abbrev pub arm_finishes : ℕ → ℕ → PlainStatement → PlainNetDriver
arm_finishes wire register s = drive (ToRegister register) (end_of wire) (word (positions_of s))

-- REPEATS. A register counts the rounds that are over; the last of suc n rounds is number n
abbrev pub in_last_round : Stand → ℕ → PlainNetExpr
in_last_round x n = equals (OfRegister x.register) n

abbrev pub in_earlier_round : Stand → ℕ → PlainNetExpr
in_earlier_round x n = Compares NotEqual (OfRegister x.register) (word n)

abbrev pub counted_inside : Stand → Stand
counted_inside x =
    record {
      wire = suc (suc x.wire);
      register = suc x.register;
      position = x.position;
      region = x.region;
      acts = x.acts;
    }

abbrev pub counting : Stand → ℕ → List PlainNetDriver
counting x n =
    ends x (both (end_of (suc (suc x.wire))) (in_last_round x n))
    ∷ goes x (both (end_of (suc (suc x.wire))) (in_earlier_round x n)) x.position
    ∷ drive (ToRegister x.register) (end_of x.wire) (word 0)
    ∷ drive (ToRegister x.register) (end_of (suc (suc x.wire))) (Sum (OfRegister x.register) (word 1))
    ∷ []

-- the control of a component, whose region acts where the component goes and has register 0
abbrev pub whole_stand : ℕ → Stand
whole_stand wire = record { wire = wire; register = 1; position = 0; region = 0; acts = OfGo }

-- the position behind all others says that the component is done, and is left at once
abbrev pub finishing : ℕ → PlainStatement → List PlainNetDriver
finishing wire control =
    drive (ToRegister 0) (end_of wire) (word (positions_of control))
    ∷ drive (ToRegister 0) (equals (OfRegister 0) (positions_of control)) (word 0)
    ∷ drive ToDone one (equals (OfRegister 0) (positions_of control))
    ∷ []

-- a component of so many groups: hole g says that group g is done, and hole groups + g that it goes
module _ (groups : ℕ) (islands : List PlainIsland) where
  -- a group goes until its hole says that it is done. What gives it its go looks at the end of its own turn, which is
  -- that hole where control stands there, so of all that may give it only one reads what changes
  abbrev pub enabled : Stand → ℕ → List PlainNetDriver
  enabled x g =
      stands x ∷ ends x (both (at x) (OfHole g))
      ∷ drive (ToHole (groups + g)) (at x) (Inverse (end_of x.wire)) ∷ []

  -- the comb group of a test, where there is one, goes in the turn of the test
  abbrev pub comb_goes : Stand → Option ℕ → List PlainNetDriver
  comb_goes x None = []
  comb_goes x (Some g) = drive (ToHole (groups + g)) (at x) one ∷ []

  -- an island with the number k
  abbrev pub timed_drivers : Stand → ℕ → Option PlainIsland → List PlainNetDriver
  timed_drivers x k None = []
  timed_drivers x k (Some island) = island_drivers groups x (first_of_island groups islands k) island

  abbrev pub arms_over : ℕ → ℕ → PlainStatements → List PlainNetExpr
  arms_over wire register no_statements = []
  arms_over wire register (a_statement s ss) =
      arm_over wire register s ∷ arms_over (wire + wires_of s) (suc register + length (registers_of islands s)) ss

  -- THE DRIVERS OF A STATEMENT. Its end wire tells of its last turn; where control goes then is a matter of what is around it
  abbrev mutual
    pub form_drivers : Stand → PlainForm → List PlainNetDriver
    form_drivers x Empty = one_turn x
    form_drivers x (Enable g) = enabled x g
    form_drivers x (Seq no_statements) = one_turn x
    form_drivers x (Seq (a_statement s ss)) =
        drivers_of (inside x) s ++ parts_drivers x (inside x).wire (behind islands s (inside x)) ss
    form_drivers x (Par arms) =
        stands x ∷ (arms_drivers x (suc (suc x.wire)) x.register arms
        ++ ends x (AllOf (exprs_of (at x ∷ arms_over (suc (suc x.wire)) x.register arms))) ∷ [])
    form_drivers x (If test comb a b) =
        let first = past_test x in
        let second = behind islands a first in
        stands x ∷ (comb_goes x comb
        ++ goes x (found_one x test.port) first.position ∷ (drivers_of first a
        ++ goes x (found_zero x test.port) second.position ∷ (drivers_of second b
        ++ ends x (either (end_of first.wire) (end_of second.wire)) ∷ [])))
    form_drivers x (While test comb a) =
        let body = past_test x in
        stands x ∷ (comb_goes x comb
        ++ ends x (found_zero x test.port) ∷ goes x (found_one x test.port) body.position ∷ (drivers_of body a
        ++ goes x (end_of body.wire) x.position ∷ []))
    form_drivers x (Repeat zero a) = one_turn x
    form_drivers x (Repeat (suc n) a) = drivers_of (counted_inside x) a ++ counting x n
    form_drivers x (StaticSeq written parts) = one_turn x
    form_drivers x (StaticPar written arms) = one_turn x
    form_drivers x (StaticIf written test a b) = one_turn x
    form_drivers x (StaticRepeat written count a) = one_turn x
    form_drivers x (Timed k) = stands x ∷ timed_drivers x k (slice_get islands k)

    pub drivers_of : Stand → PlainStatement → List PlainNetDriver
    drivers_of x (Placed form place) = form_drivers x form

    -- the parts of a seq that follow one whose first wire is given: its end leads to the next, and the last one's end is
    -- that of the seq
    pub parts_drivers : Stand → ℕ → Stand → PlainStatements → List PlainNetDriver
    parts_drivers seq before x no_statements = ends seq (end_of before) ∷ []
    parts_drivers seq before x (a_statement s ss) =
        goes x (end_of before) x.position ∷ (drivers_of x s ++ parts_drivers seq x.wire (behind islands s x) ss)

    pub arms_drivers : Stand → ℕ → ℕ → PlainStatements → List PlainNetDriver
    arms_drivers par wire register no_statements = []
    arms_drivers par wire register (a_statement s ss) =
        arm_restarts par register ∷ (drivers_of (arm_stand par wire register) s
        ++ arm_finishes wire register s
        ∷ arms_drivers par (wire + wires_of s) (suc register + length (registers_of islands s)) ss)

  -- CONTROL, with its first wire
  abbrev pub control_drivers : ℕ → PlainStatement → List PlainNetDriver
  control_drivers wire control = drivers_of (whole_stand wire) control ++ finishing wire control
