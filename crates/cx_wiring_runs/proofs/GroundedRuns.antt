-- A grounded net has a whole look in each state that it comes to, and an outcome for every bound.
use Rattle.std.proofs.Common.{◌≡◌, ℕ, zero, suc, ◌+◌, Bool, true, false, List, Option, Some, None, refl, sym, ◌∙◌, subst}
use Rattle.std.specs.Prelude.{IsSome}
use Rattle.cx_bits.specs.BitVector.{BitVector}
use Rattle.cx_meaning.specs.Instances.{Path}
use Rattle.cx_vtree.specs.SimRun.{Outcome, DoneAt, LoopAt, NotDone}
use Rattle.cx_net.specs.Realises.{HasOutcome, comes, waits}
use Rattle.cx_net.specs.NetTree.{NetInstance}
use Rattle.cx_net.specs.NetMeaning.{NetState, Node, NetLook, NetHas, is_node}
use Rattle.cx_net.specs.NetEdges.{net_after}
use Rattle.cx_net.specs.NetRuns.{IsWholeLook, is_done, NetRunsFrom, ends, spent, goes_on, NetRun, after_reset, Comes, at_reset, at_first, at_next, net_start, net_words}
use Rattle.cx_bits.proofs.BitVectorLemmas.{some_is, none_some}

pub record HasLook (tree : NetInstance) (go : Bool) (s : NetState) : Type 0 where
  pub look : NetLook
  pub is : IsWholeLook tree go s look

pub whole_look : (tree : NetInstance) (go : Bool) (s : NetState) → ((path : Path) (n : Node) → is_node tree path n ≡ true → (v : BitVector) × NetHas tree go s path n v) → HasLook tree go s
whole_look tree go s h = record {
  look = λ path n. pick path n (is_node tree path n) refl;
  is = record { right = λ path n v e. right path n v (is_node tree path n) refl e; whole = λ path n t. whole path n (is_node tree path n) refl t };
}
  where
    pick : (path : Path) (n : Node) (b : Bool) → is_node tree path n ≡ b → Option BitVector
    pick path n true e = Some (h path n e).0
    pick path n false e = None

    right : (path : Path) (n : Node) (v : BitVector) (b : Bool) (e : is_node tree path n ≡ b) → pick path n b e ≡ Some v → NetHas tree go s path n v
    right path n v true e f = subst (NetHas tree go s path n) (some_is (h path n e).0 v f) (h path n e).1
    right path n v false e f = absurd (none_some v f)

    whole : (path : Path) (n : Node) (b : Bool) (e : is_node tree path n ≡ b) → is_node tree path n ≡ true → IsSome (pick path n b e)
    whole path n true e t = refl
    whole path n false e t = absurd (falsehood (sym e ∙ t))
      where
        falsehood : false ≡ true → ⊥
        falsehood x = cc

runs_from : (tree : NetInstance) (loaded : List (List ℕ)) → ((go : Bool) (s : NetState) → Comes tree loaded go s → (path : Path) (n : Node) → is_node tree path n ≡ true → (v : BitVector) × NetHas tree go s path n v) → (left cycle : ℕ) (s : NetState) → Comes tree loaded true s → (o : Outcome) × NetRunsFrom tree s cycle left o
runs_from tree loaded g zero cycle s c = go (whole_look tree true s (g true s c))
  where
    go : HasLook tree true s → (o : Outcome) × NetRunsFrom tree s cycle zero o
    go l = by_done (is_done l.look) refl
      where
        by_done : (b : Bool) → is_done l.look ≡ b → (o : Outcome) × NetRunsFrom tree s cycle zero o
        by_done true e = (DoneAt cycle (net_words tree s), ends l.look l.is e)
        by_done false e = (NotDone, spent l.look l.is e)
runs_from tree loaded g (suc left) cycle s c = go (whole_look tree true s (g true s c)) (λ t d. runs_from tree loaded g left (cycle + 1) t d)
  where
    go : HasLook tree true s → ((t : NetState) → Comes tree loaded true t → (o : Outcome) × NetRunsFrom tree t (cycle + 1) left o) → (o : Outcome) × NetRunsFrom tree s cycle (suc left) o
    go l later = by_done (is_done l.look) refl
      where
        by_done : (b : Bool) → is_done l.look ≡ b → (o : Outcome) × NetRunsFrom tree s cycle (suc left) o
        by_done true e = (DoneAt cycle (net_words tree s), ends l.look l.is e)
        by_done false e = let r = later (net_after tree false true s l.look) (at_next l.look c l.is) in (r.0, goes_on l.look l.is e r.1)

-- a grounded net has an outcome within every bound
pub net_runs : (tree : NetInstance) (loaded : List (List ℕ)) → ((go : Bool) (s : NetState) → Comes tree loaded go s → (path : Path) (n : Node) → is_node tree path n ≡ true → (v : BitVector) × NetHas tree go s path n v) → (last : ℕ) → (o : Outcome) × NetRun tree loaded last o
net_runs tree loaded g last =
    let l = whole_look tree false (net_start tree loaded) (g false (net_start tree loaded) at_reset) in
    let r = runs_from tree loaded g last 0 (net_after tree true false (net_start tree loaded) l.look) (at_first l.look l.is) in
    (r.0, after_reset l.look l.is r.1)

comes_to : (runs : List (List ℕ) → ℕ → Outcome → Type 0) (words : List (List ℕ)) (last : ℕ) (o : Outcome) → ((i k : ℕ) → o ≡ LoopAt i k → ⊥) → runs words last o → HasOutcome runs words last
comes_to runs words last (DoneAt cycle left) never r = comes cycle left r
comes_to runs words last (LoopAt i k) never r = absurd (never i k refl)
comes_to runs words last NotDone never r = waits r

-- a net that is grounded comes to something, and in no run of a net a node is without a value
from_no_loop : (tree : NetInstance) (s : NetState) (cycle left : ℕ) (o : Outcome) → NetRunsFrom tree s cycle left o → (i k : ℕ) → o ≡ LoopAt i k → ⊥
from_no_loop tree s cycle left o (ends look w d) i k e = cc
from_no_loop tree s cycle left o (spent look w d) i k e = cc
from_no_loop tree s cycle (suc left) o (goes_on look w d r) i k e = from_no_loop tree (net_after tree false true s look) (cycle + 1) left o r i k e

net_no_loop : (tree : NetInstance) (loaded : List (List ℕ)) (last : ℕ) (o : Outcome) → NetRun tree loaded last o → (i k : ℕ) → o ≡ LoopAt i k → ⊥
net_no_loop tree loaded last o (after_reset look w r) i k e = from_no_loop tree (net_after tree true false (net_start tree loaded) look) 0 last o r i k e

pub net_comes : (tree : NetInstance) (loaded : List (List ℕ)) → ((go : Bool) (s : NetState) → Comes tree loaded go s → (path : Path) (n : Node) → is_node tree path n ≡ true → (v : BitVector) × NetHas tree go s path n v)
    → (last : ℕ) → HasOutcome (NetRun tree) loaded last
net_comes tree loaded g last = let r = net_runs tree loaded g last in comes_to (NetRun tree) loaded last r.0 (net_no_loop tree loaded last r.0 r.1) r.1
