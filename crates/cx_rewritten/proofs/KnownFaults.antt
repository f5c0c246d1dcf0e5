-- Worked values of the faults of shared designs: at which cell a fault is told.
use Rattle.std.proofs.Common.{◌≡◌, ℕ, ◌+◌, List, [], ◌∷◌, None, false, codes, refl}
use Rattle.cx_meaning.specs.declared.ports.PortRef.{PortRef}
use Rattle.cx_meaning.specs.declared.ports.PortRef.TheVariants.{Cell, Done, Literal}
use Rattle.cx_meaning.specs.declared.sights.FaultKind.TheVariants.{Undefined}
use Rattle.cx_meaning.specs.Answers as answers
use Rattle.cx_meaning.specs.Cycles.{Fault}
use Rattle.cx_meaning.specs.Designs.{PlainKind, OfComponent, PlainCell, PlainGroup, PlainStatement, PlainComponent, PlainDesign, no_place}
use Rattle.cx_meaning.specs.Instances.{Path, tree_of}
use Rattle.cx_meaning.proofs.KnownDesigns.{assign, plain_group, reg, adder, enable, seq}
use Rattle.cx_flattening.specs.Told.{told, Faulted}
use Rattle.cx_sharing.specs.Following.{shared_fault}
use Rattle.cx_sharing.specs.SharedDesign.{shared_design}
use Rattle.cx_rewritten.specs.Alike.{kept_fault}

abbrev named : List ℕ → PlainKind → PlainCell
named name kind = record { name = name; kind = kind; external = false; place = no_place }

abbrev adds : ℕ → ℕ → ℕ → PlainGroup
adds g a column =
    plain_group (assign (Cell a 0) (Cell 0 2) column ∷ assign (Cell a 1) (Literal 32 1) (column + 1) ∷ assign (Cell 0 0) (Cell a 2) (column + 2) ∷ assign (Cell 0 1) (Literal 1 1) (column + 3) ∷ assign (Done g) (Cell 0 3) (column + 4) ∷ [])

abbrev part : List ℕ → List PlainCell → List PlainGroup → List PlainStatement → PlainComponent
part name cells groups control =
    record { name = name; latency = None; inputs = []; outputs = []; cells = cells; groups = groups; invokes = []; always = []; control = seq control; place = no_place }

-- the cells of the first are a register and the adders a and b; those of main are an adder that nothing uses and c, of the first
abbrev design : PlainDesign
design = record {
  components =
      part (codes "sums") (named (codes "r") (reg 32).kind ∷ named (codes "a") adder.kind ∷ named (codes "b") adder.kind ∷ []) (adds 0 1 0 ∷ adds 1 2 10 ∷ []) (enable 0 ∷ enable 1 ∷ [])
      ∷ part (codes "main") (named (codes "x") adder.kind ∷ named (codes "c") (OfComponent 0) ∷ []) [] [] ∷ [];
  main = 1;
}

abbrev at : Path → PortRef → Fault
at path port = record { kind = Undefined; path = path; port = port }

-- in c the adder b is given to a, so a fault at b.out is told at a.out; the path of the register stays
known_given : told design (answers.Fault (kept_fault (tree_of design) (at (1 ∷ []) (Cell 2 2))) 7) ≡ Faulted Undefined (codes "c.a.out") 7
known_given = refl

known_register : told design (answers.Fault (kept_fault (tree_of design) (at (1 ∷ []) (Cell 0 0))) 7) ≡ Faulted Undefined (codes "c.r.in") 7
known_register = refl

-- and the shared design tells it so
known_shared : told (shared_design design) (answers.Fault (shared_fault (tree_of design) (at (1 ∷ []) (Cell 2 2))) 7) ≡ Faulted Undefined (codes "c.a.out") 7
known_shared = refl
