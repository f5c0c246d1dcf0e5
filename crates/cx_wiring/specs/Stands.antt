-- Where a statement stands in the net of its component, and its own two wires.
use Rattle.std.specs.Prelude.{ℕ, suc, ◌+◌, List, length}
use Rattle.cx_meaning.specs.Designs.{PlainStatement}
use Rattle.cx_net.specs.Nets.{PlainNetExpr, OfRegister, OfWire, ToRegister, PlainNetDriver}
use Rattle.cx_static.specs.Islands.{PlainIsland}
use Rattle.cx_wiring.specs.Parts.{word, both, equals, drive, connect}
use Rattle.cx_wiring.specs.Counts.{positions_of, wires_of, registers_of}

-- its first wire and its first register, its first position in its region, the register of the region, and what says that
-- the region acts
pub record Stand : Type 0 where
  pub wire : ℕ
  pub register : ℕ
  pub position : ℕ
  pub region : ℕ
  pub acts : PlainNetExpr

-- control stands at the first position of the statement
abbrev pub at : Stand → PlainNetExpr
at x = OfWire x.wire

-- the statement whose first wire this is is in its last turn
abbrev pub end_of : ℕ → PlainNetExpr
end_of wire = OfWire (suc wire)

abbrev pub stands : Stand → PlainNetDriver
stands x = connect x.wire (both x.acts (equals (OfRegister x.region) x.position))

abbrev pub ends : Stand → PlainNetExpr → PlainNetDriver
ends x when = connect (suc x.wire) when

-- where the guard is 1 control goes to a position of the region
abbrev pub goes : Stand → PlainNetExpr → ℕ → PlainNetDriver
goes x guard position = drive (ToRegister x.region) guard (word position)

-- the first part of a statement, at the statement's own first position
abbrev pub inside : Stand → Stand
inside x =
    record {
      wire = suc (suc x.wire);
      register = x.register;
      position = x.position;
      region = x.region;
      acts = x.acts;
    }

-- the first part of a statement with a test, which has a position before it
abbrev pub past_test : Stand → Stand
past_test x =
    record {
      wire = suc (suc x.wire);
      register = x.register;
      position = x.position + 1;
      region = x.region;
      acts = x.acts;
    }

-- what follows a statement in its region
abbrev pub behind : List PlainIsland → PlainStatement → Stand → Stand
behind islands s x = record {
  wire = x.wire + wires_of s;
  register = x.register + length (registers_of islands s);
  position = x.position + positions_of s;
  region = x.region;
  acts = x.acts;
}
