-- The module that is simulated, and which nets an expression reads.
use Rattle.std.specs.Prelude.{List, [], ◌∷◌, ℕ, Bool, true, false, ◌||◌, codes}
use Rattle.cx_vtree.specs.Plain.{PlainExpr, Named, Number, Part, Word, Applied, Inverted, Chosen, Joined, PlainPort}
use Rattle.cx_vtree.specs.InstanceTree.{same_name}

-- the ports of `main`
abbrev pub main_ports : List PlainPort
main_ports =
    record { output = false; name = codes "clk"; width = 1 }
    ∷ record { output = false; name = codes "reset"; width = 1 }
    ∷ record { output = false; name = codes "go"; width = 1 }
    ∷ record { output = true; name = codes "done"; width = 1 } ∷ []

-- the expression reads the net of this name
abbrev pub reads_net : PlainExpr → List ℕ → Bool
reads_net (Named n) name = same_name n name
reads_net (Number b) name = false
reads_net (Part n high low) name = same_name n name
reads_net (Word n i) name = reads_net i name
reads_net (Applied op a b) name = reads_net a name || reads_net b name
reads_net (Inverted a) name = reads_net a name
reads_net (Chosen c a b) name = reads_net c name || reads_net a name || reads_net b name
reads_net (Joined a b) name = reads_net a name || reads_net b name
