-- What a statement may have active at once.
use Rattle.std.specs.Prelude.{ℕ, List, [], ◌∷◌, Option, Some, None}
use Rattle.cx_text.specs.declared.places.Place.{Place}
use Rattle.cx_meaning.specs.declared.ports.PlacedPort.{PlacedPort}
use Rattle.cx_meaning.specs.Designs.{Enable, Seq, Par, If, While, Repeat, StaticSeq, StaticPar, StaticIf, StaticRepeat, PlainStatement, Placed, PlainStatements, list_of}
use Rattle.cx_meaning.specs.Active.{Active, nothing, group, comb, entries}
use Rattle.cx_text.specs.Members.{In}

abbrev pub or_else : Option ℕ → Option ℕ → Option ℕ
or_else None o = o
or_else (Some x) o = Some x

abbrev pub union : Active → Active → Active
union a b = record { offset = λ g. or_else (a.offset g) (b.offset g); done_cell = None }

-- the active sets, without what a done cell says, that stand at places of the statement; of a par one of each arm together.
-- Places are numbers that registers may hold, so nothing is said of cells
mutual
  pub data IsTogether : PlainStatement → Active → Type 0 where
    at_rest : {s : PlainStatement} → IsTogether s nothing
    enabled : {g : ℕ} {place : Place} → IsTogether (Placed (Enable g) place) (group g)
    in_seq : {parts : PlainStatements} {place : Place} {s : PlainStatement} {act : Active}
        → In (list_of parts) s → IsTogether s act → IsTogether (Placed (Seq parts) place) act
    at_if : {test : PlacedPort} {c : Option ℕ} {a b : PlainStatement} {place : Place}
        → IsTogether (Placed (If test c a b) place) (comb c)
    in_then : {test : PlacedPort} {c : Option ℕ} {a b : PlainStatement} {place : Place} {act : Active}
        → IsTogether a act → IsTogether (Placed (If test c a b) place) act
    in_else : {test : PlacedPort} {c : Option ℕ} {a b : PlainStatement} {place : Place} {act : Active}
        → IsTogether b act → IsTogether (Placed (If test c a b) place) act
    at_while : {test : PlacedPort} {c : Option ℕ} {a : PlainStatement} {place : Place}
        → IsTogether (Placed (While test c a) place) (comb c)
    in_while : {test : PlacedPort} {c : Option ℕ} {a : PlainStatement} {place : Place} {act : Active}
        → IsTogether a act → IsTogether (Placed (While test c a) place) act
    in_repeat : {count : ℕ} {a : PlainStatement} {place : Place} {act : Active} → IsTogether a act
        → IsTogether (Placed (Repeat count a) place) act
    -- static control: each timer has a count of its own, in step with the others or not
    at_offset : {g : ℕ} {place : Place} (o : ℕ)
        → IsTogether (Placed (Enable g) place) (entries (record { group = g; offset = o } ∷ []))
    in_static_seq : {n : Option ℕ} {parts : PlainStatements} {place : Place} {s : PlainStatement}
        {act : Active} → In (list_of parts) s → IsTogether s act
        → IsTogether (Placed (StaticSeq n parts) place) act
    in_static_par : {n : Option ℕ} {arms : PlainStatements} {place : Place} {act : Active}
        → AreTogether (list_of arms) act → IsTogether (Placed (StaticPar n arms) place) act
    in_static_then : {n : Option ℕ} {test : PlacedPort} {a b : PlainStatement} {place : Place}
        {act : Active} → IsTogether a act → IsTogether (Placed (StaticIf n test a b) place) act
    in_static_else : {n : Option ℕ} {test : PlacedPort} {a b : PlainStatement} {place : Place}
        {act : Active} → IsTogether b act → IsTogether (Placed (StaticIf n test a b) place) act
    in_static_repeat : {n : Option ℕ} {count : ℕ} {a : PlainStatement} {place : Place} {act : Active}
        → IsTogether a act → IsTogether (Placed (StaticRepeat n count a) place) act
    in_par : {arms : PlainStatements} {place : Place} {act : Active} → AreTogether (list_of arms) act
        → IsTogether (Placed (Par arms) place) act

  pub data AreTogether : List PlainStatement → Active → Type 0 where
    no_arm : AreTogether [] nothing
    an_arm : {s : PlainStatement} {rest : List PlainStatement} {act other : Active} → IsTogether s act
        → AreTogether rest other → AreTogether (s ∷ rest) (union act other)
