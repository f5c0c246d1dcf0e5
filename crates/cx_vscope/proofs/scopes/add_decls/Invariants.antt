use Rattle.std.proofs.Common.{◌≡◌, ℕ, ◌≤◌, List, map, drop, length}
use Rattle.cx_vscope.specs.Drafts.{draft_decl}
use Rattle.cx_vtree.specs.Sound.{meant_decl}
use Rattle.cx_vscope.specs.Scopes.{meant_by}
use Rattle.cx_vscope.proofs.scopes.add_decls.Given as goal

abbrev pub invariant-loop-i : goal.invariant-loop-i
invariant-loop-i l = record {
  meant : (name : List ℕ) → meant_by l.meanings name ≡ meant_decl (map draft_decl (drop l.i l.decls)) name;
  within : l.i ≤ length l.decls;
}

abbrev pub decreases-loop-i : goal.decreases-loop-i
decreases-loop-i l = l.i
