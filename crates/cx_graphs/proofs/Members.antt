-- What stands in lists of nodes.
use Rattle.std.proofs.Common.{◌≡◌, ℕ, zero, suc, ◌<◌, List, [], ◌∷◌, length, get_or, sym, ap, arith}
use Rattle.std.specs.declared.vec.Vec.{Vec}
use Rattle.cx_text.specs.Members.{In}
use Rattle.cx_graphs.specs.Graphs.{Edges, edges_of, targets_of}

pub targets_are : {A : Type 0} (lists : List (Vec ℕ A)) (node : ℕ) (list : Vec ℕ A) → node < length lists → list ≡ get_or lists node list → targets_of (edges_of lists) node ≡ list.items
targets_are [] node list h e = absurd (omega (arith, h))
targets_are (x ∷ lists) zero list h e = ap (λ l. l.items) (sym e)
targets_are (x ∷ lists) (suc node) list h e = targets_are lists node list (omega (arith, h)) e

-- past the end no list stands
pub past_the_end : (lists : Edges) (k n : ℕ) → (k < length lists → ⊥) → In (targets_of lists k) n → ⊥
past_the_end [] k n h i = absurd i
past_the_end (l ∷ lists) zero n h i = absurd (h (omega arith))
past_the_end (l ∷ lists) (suc k) n h i = past_the_end lists k n (λ lt. h (omega (arith, lt))) i
