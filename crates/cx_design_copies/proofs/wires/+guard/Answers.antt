use Rattle.std.proofs.Common.{◌≡◌, ◌∙◌, [], ap, append-nil, drop, map, sym}
use Rattle.std.proofs.lemmas.List.{drop_all}
use Rattle.cx_meaning.specs.Designs.{guards_of}
use Rattle.cx_design.specs.PlainForms.{plain_guard}
use Rattle.cx_rewrites.specs.Moving.{moved_guard}
use Rattle.cx_design_copies.proofs.MoveLemmas.{guards_of-moved}
use Rattle.cx_design_copies.proofs.wires.+guard.Goals as goal

pub moved_guards-returns : goal.moved_guards-returns
moved_guards-returns g t c =
    let none : drop c.loop-guard.guard-index c.args.guards.now ≡ [] = drop_all _ _ c.loop-guard-test.false in
    let all : map plain_guard c.loop-guard.copies.items ≡ map (moved_guard (g.M.PortMoves.moving c.args.moves.now)) (map plain_guard c.args.guards.now) =
    sym (append-nil (map plain_guard c.loop-guard.copies.items)) ∙ (rw none at c.loop-guard.invariant) in
    record { value = ap guards_of all ∙ guards_of-moved (g.M.PortMoves.moving c.args.moves.now) (map plain_guard c.args.guards.now) }
