use Rattle.std.proofs.Common.{◌≡◌, ◌∙◌, ℕ, [], ap, append-nil, drop, map, sym}
use Rattle.std.proofs.lemmas.List.{drop_all}
use Rattle.cx_meaning.specs.declared.ports.PortRef.{PortRef}
use Rattle.cx_meaning.specs.Designs.{statements_of}
use Rattle.cx_design.specs.PlainForms.{plain_statement}
use Rattle.cx_flattening.specs.Copies.{copied_statement}
use Rattle.cx_design_copies.proofs.MoveLemmas.{statements_of-copied}
use Rattle.cx_design_copies.proofs.control.+statement.Goals as goal

pub copied_parts-returns : goal.copied_parts-returns
copied_parts-returns g t c =
    let move : PortRef → PortRef = g.M.PortMoves.moving c.args.moves.now in
    let copy : ℕ → ℕ = g.G.GroupMoves.numbering c.args.groups.now in
    let none : drop c.loop-statement.statement-index c.args.parts.now ≡ [] = drop_all _ _ c.loop-statement-test.false in
    let all : map plain_statement c.loop-statement.all.items ≡ map (copied_statement move copy) (map plain_statement c.args.parts.now) =
    sym (append-nil (map plain_statement c.loop-statement.all.items)) ∙ (rw none at c.loop-statement.invariant) in
    record { value = ap statements_of all ∙ statements_of-copied move copy (map plain_statement c.args.parts.now) }
