-- The first node of some that is not known.
use Rattle.std.specs.Prelude.{ℕ, List, [], ◌∷◌, Option, Some, None, if◌then◌else◌}
use Rattle.cx_eval_network.specs.declared.marks.NodeMark.{NodeMark}
use Rattle.cx_eval_network.specs.Demands.{known_at}

abbrev pub unknown_in : List NodeMark → List ℕ → Option ℕ
unknown_in marks [] = None
unknown_in marks (m ∷ ms) = if known_at marks m then unknown_in marks ms else Some m
