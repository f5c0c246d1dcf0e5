-- Designs that are the same apart from places, and whose assignments stand in the same order: what a design gives that is printed and read
-- again.
use Rattle.std.specs.Prelude.{◌≡◌, ℕ, length, map}
use Rattle.cx_meaning.specs.declared.ports.PlacedPort.{PlacedPort}
use Rattle.cx_meaning.specs.Designs.{PlainGuard, Always, Atom, Negation, All, Any, Compared, Within, PlainGuards, no_guards, a_guard, PlainAssign, PlainInvoke, PlainGroup, PlainCell, PlainForm, Empty, Enable, Seq, Par, If, While, Repeat, StaticSeq, StaticPar, StaticIf, StaticRepeat, Timed, PlainStatement, Placed, PlainStatements, no_statements, a_statement, PlainComponent, PlainDesign, component_at, no_place}
use Rattle.cx_meaning.specs.Active.{Acting, Owned, source_order}
use Rattle.cx_rules.specs.Items.{Visited}

-- parts of a design, all at one place
abbrev pub unplaced_port : PlacedPort → PlacedPort
unplaced_port p = record { port = p.port; place = no_place }

abbrev mutual
  pub unplaced_guard : PlainGuard → PlainGuard
  unplaced_guard Always = Always
  unplaced_guard (Atom p) = Atom (unplaced_port p)
  unplaced_guard (Negation g) = Negation (unplaced_guard g)
  unplaced_guard (All gs) = All (unplaced_guards gs)
  unplaced_guard (Any gs) = Any (unplaced_guards gs)
  unplaced_guard (Compared c a b) = Compared c (unplaced_port a) (unplaced_port b)
  unplaced_guard (Within from to) = Within from to

  pub unplaced_guards : PlainGuards → PlainGuards
  unplaced_guards no_guards = no_guards
  unplaced_guards (a_guard g gs) = a_guard (unplaced_guard g) (unplaced_guards gs)

abbrev pub unplaced_assign : PlainAssign → PlainAssign
unplaced_assign a =
    record {
      target = a.target;
      guard = unplaced_guard a.guard;
      source = unplaced_port a.source;
      place = no_place;
    }

abbrev pub unplaced_group : PlainGroup → PlainGroup
unplaced_group g = record { name = g.name; kind = g.kind; assigns = map unplaced_assign g.assigns; place = no_place }

abbrev pub unplaced_cell : PlainCell → PlainCell
unplaced_cell c = record { name = c.name; kind = c.kind; external = c.external; place = no_place }

abbrev pub unplaced_invoke : PlainInvoke → PlainInvoke
unplaced_invoke v =
    record {
      cell = v.cell;
      written = v.written;
      length = v.length;
      latency = v.latency;
      inputs = map unplaced_assign v.inputs;
      captures = v.captures;
    }

abbrev pub unplaced_owned : Owned → Owned
unplaced_owned o = record { owner = o.owner; assign = unplaced_assign o.assign }

abbrev pub unplaced_acting : Acting → Acting
unplaced_acting a = record { offset = a.offset; assign = unplaced_assign a.assign }

abbrev mutual
  pub unplaced_form : PlainForm → PlainForm
  unplaced_form Empty = Empty
  unplaced_form (Enable g) = Enable g
  unplaced_form (Seq parts) = Seq (unplaced_statements parts)
  unplaced_form (Par arms) = Par (unplaced_statements arms)
  unplaced_form (If test comb a b) = If (unplaced_port test) comb (unplaced a) (unplaced b)
  unplaced_form (While test comb a) = While (unplaced_port test) comb (unplaced a)
  unplaced_form (Repeat count a) = Repeat count (unplaced a)
  unplaced_form (StaticSeq length parts) = StaticSeq length (unplaced_statements parts)
  unplaced_form (StaticPar length arms) = StaticPar length (unplaced_statements arms)
  unplaced_form (StaticIf length test a b) = StaticIf length (unplaced_port test) (unplaced a) (unplaced b)
  unplaced_form (StaticRepeat length count a) = StaticRepeat length count (unplaced a)
  unplaced_form (Timed k) = Timed k

  pub unplaced : PlainStatement → PlainStatement
  unplaced (Placed form place) = Placed (unplaced_form form) no_place

  pub unplaced_statements : PlainStatements → PlainStatements
  unplaced_statements no_statements = no_statements
  unplaced_statements (a_statement s ss) = a_statement (unplaced s) (unplaced_statements ss)

abbrev pub unplaced_visited : Visited → Visited
unplaced_visited v = record { context = v.context; form = unplaced_form v.form; place = no_place }

-- two components that are the same apart from places. Their assignments stand in the same source order
pub record SamePart (part other : PlainComponent) : Type 0 where
  pub name : part.name ≡ other.name
  pub latency : part.latency ≡ other.latency
  pub inputs : part.inputs ≡ other.inputs
  pub outputs : part.outputs ≡ other.outputs
  pub cells : map unplaced_cell part.cells ≡ map unplaced_cell other.cells
  pub groups : map unplaced_group part.groups ≡ map unplaced_group other.groups
  pub always : map unplaced_assign part.always ≡ map unplaced_assign other.always
  pub order : map unplaced_owned (source_order part) ≡ map unplaced_owned (source_order other)
  pub invokes : map unplaced_invoke part.invokes ≡ map unplaced_invoke other.invokes
  pub control : unplaced part.control ≡ unplaced other.control

pub record SameDesign (d e : PlainDesign) : Type 0 where
  pub main : d.main ≡ e.main
  pub count : length d.components ≡ length e.components
  pub parts : (k : ℕ) → SamePart (component_at d k) (component_at e k)
