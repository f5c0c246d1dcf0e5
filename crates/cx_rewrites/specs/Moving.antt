-- Parts of a component whose ports are moved: each port that they name becomes the port that a map gives, and all else stays.
use Rattle.std.specs.Prelude.{map}
use Rattle.cx_meaning.specs.declared.ports.PortRef.{PortRef}
use Rattle.cx_meaning.specs.declared.ports.PlacedPort.{PlacedPort}
use Rattle.cx_meaning.specs.Designs.{PlainGuard, Always, Atom, Negation, All, Any, Compared, Within, PlainGuards, no_guards, a_guard, PlainAssign, PlainGroup, PlainForm, Empty, Enable, Seq, Par, If, While, Repeat, StaticSeq, StaticPar, StaticIf, StaticRepeat, Timed, PlainStatement, Placed, PlainStatements, no_statements, a_statement}
use Rattle.cx_meaning.specs.Active.{Acting, Owned}
use Rattle.cx_meaning.specs.Cycles.{Fault}
use Rattle.cx_meaning.specs.Islands.{Condition, Occurrence, Runs, Looks}

module _ (move : PortRef → PortRef) where
  abbrev pub moved_port : PlacedPort → PlacedPort
  moved_port p = record { port = move p.port; place = p.place }

  abbrev mutual
    pub moved_guard : PlainGuard → PlainGuard
    moved_guard Always = Always
    moved_guard (Atom p) = Atom (moved_port p)
    moved_guard (Negation g) = Negation (moved_guard g)
    moved_guard (All gs) = All (moved_guards gs)
    moved_guard (Any gs) = Any (moved_guards gs)
    moved_guard (Compared c a b) = Compared c (moved_port a) (moved_port b)
    moved_guard (Within from to) = Within from to

    pub moved_guards : PlainGuards → PlainGuards
    moved_guards no_guards = no_guards
    moved_guards (a_guard g gs) = a_guard (moved_guard g) (moved_guards gs)

  abbrev pub moved_assign : PlainAssign → PlainAssign
  moved_assign a =
      record {
        target = move a.target;
        guard = moved_guard a.guard;
        source = moved_port a.source;
        place = a.place;
      }

  abbrev pub moved_group : PlainGroup → PlainGroup
  moved_group g = record { name = g.name; kind = g.kind; assigns = map moved_assign g.assigns; place = g.place }

  abbrev pub moved_owned : Owned → Owned
  moved_owned o = record { owner = o.owner; assign = moved_assign o.assign }

  abbrev pub moved_acting : Acting → Acting
  moved_acting a = record { offset = a.offset; assign = moved_assign a.assign }

  -- the fault of the moved port
  abbrev pub moved_fault : Fault → Fault
  moved_fault f = record { kind = f.kind; path = f.path; port = move f.port }

  -- a statement keeps its shape and its groups; the ports of its tests are moved
  abbrev mutual
    pub moved_form : PlainForm → PlainForm
    moved_form Empty = Empty
    moved_form (Enable g) = Enable g
    moved_form (Seq parts) = Seq (moved_statements parts)
    moved_form (Par arms) = Par (moved_statements arms)
    moved_form (If test comb a b) = If (moved_port test) comb (moved_statement a) (moved_statement b)
    moved_form (While test comb a) = While (moved_port test) comb (moved_statement a)
    moved_form (Repeat count a) = Repeat count (moved_statement a)
    moved_form (StaticSeq length parts) = StaticSeq length (moved_statements parts)
    moved_form (StaticPar length arms) = StaticPar length (moved_statements arms)
    moved_form (StaticIf length test a b) = StaticIf length (moved_port test) (moved_statement a) (moved_statement b)
    moved_form (StaticRepeat length count a) = StaticRepeat length count (moved_statement a)
    moved_form (Timed k) = Timed k

    pub moved_statement : PlainStatement → PlainStatement
    moved_statement (Placed form place) = Placed (moved_form form) place

    pub moved_statements : PlainStatements → PlainStatements
    moved_statements no_statements = no_statements
    moved_statements (a_statement s ss) = a_statement (moved_statement s) (moved_statements ss)

  -- and the flat list of an island its groups and cycles
  abbrev pub moved_condition : Condition → Condition
  moved_condition c = record { port = move c.port; at = c.at; wanted = c.wanted }

  abbrev pub moved_occurrence : Occurrence → Occurrence
  moved_occurrence (Runs g from to conditions) = Runs g from to (map moved_condition conditions)
  moved_occurrence (Looks port at conditions) = Looks (move port) at (map moved_condition conditions)
