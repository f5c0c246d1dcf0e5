use Rattle.std.proofs.Common.{◌≡◌, ◌∙◌, ℕ, [], ap, append-nil, drop, map, sym}
use Rattle.std.proofs.lemmas.List.{drop_all}
use Rattle.cx_meaning.specs.declared.ports.PortRef.{PortRef}
use Rattle.cx_meaning.specs.Designs.{PlainForm, statements_of}
use Rattle.cx_design.specs.PlainForms.{plain_statement}
use Rattle.cx_flat.specs.Callers.{kids_in, part_of}
use Rattle.cx_flat.specs.Controls.{inlined_at, statement_by}
use Rattle.cx_flat.specs.Stands.{own_by}
use Rattle.cx_flat.proofs.ControlLemmas.{statements_of-by}
use Rattle.cx_flat.proofs.control.+statement.Goals as goal

pub flat_parts_again-returns : goal.flat_parts_again-returns
flat_parts_again-returns t c =
    let move : PortRef → PortRef = own_by c.args.caller.stands.now in
    let inline : ℕ → PlainForm = inlined_at (kids_in c.args.caller) (part_of c.args.caller) in
    let none : drop c.loop-statement.statement-index c.args.parts.now ≡ [] = drop_all _ _ c.loop-statement-test.false in
    let all : map plain_statement c.loop-statement.all.items ≡ map (statement_by move inline) (map plain_statement c.args.parts.now) =
    sym (append-nil (map plain_statement c.loop-statement.all.items)) ∙ (rw none at c.loop-statement.invariant) in
    record { value = ap statements_of all ∙ statements_of-by move inline (map plain_statement c.args.parts.now) }
