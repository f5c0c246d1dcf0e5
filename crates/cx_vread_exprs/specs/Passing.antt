-- Passing over an expression, however deep it nests: what the rules look at is kept of it, and no tree.
use Rattle.std.specs.Prelude.{ℕ, zero, suc, List, [], ◌∷◌, length, Option, Some, None, codes, if◌then◌else◌}
use Rattle.cx_vscope.specs.Scopes.{nothing_meant}
use Rattle.cx_vtree.specs.Plain.{PlainExpr, Named}
use Rattle.cx_vtree.specs.Sound.{Scope}
use Rattle.cx_vread_exprs.specs.declared.passing.Await.{Await}
use Rattle.cx_vread_exprs.specs.declared.passing.Await.TheVariants.{Inverse, Index, High, Low, Sign, One, Other, Right}
use Rattle.cx_vread_exprs.specs.declared.passing.Found.{Found}
use Rattle.cx_vread_exprs.specs.declared.passing.Found.TheVariants.{Within, Ended}
use Rattle.cx_vscope.specs.declared.shapes.Shape.{Shape}
use Rattle.cx_vread_exprs.specs.Places.{Place, Reads, then_reads, then_at, after, begins}
use Rattle.cx_vread_exprs.specs.Tokens.{name_at, literal_at}
use Rattle.cx_vread_exprs.specs.Exprs.{operator_at, is_part, part_by, starts_digit}
use Rattle.cx_vscope.specs.Shapes.{shape_of, array_shape, indexed, applied, chosen, joined}

-- past a fixed text, behind which an expression of this shape has ended
abbrev pub closed_by : List ℕ → Shape → Place → Reads Found
closed_by want shape p = then_at (after want p) (λ q. Some (Ended shape, q))

-- past a fixed text, behind which an expression begins; `next` is awaited behind that
abbrev pub opened_by : List ℕ → Await → Place → Reads Found
opened_by want next p = then_at (after want p) (λ q. Some (Within next, q))

-- an expression that was read
abbrev pub ended_by : Scope → Reads PlainExpr → Reads Found
ended_by scope reads = then_reads reads (λ e q. Some (Ended (shape_of scope e), q))

-- what stands in square brackets after a name: a part, or an index
abbrev pub want_bracketed : Scope → List ℕ → Place → Reads Found
want_bracketed scope n p =
    then_at (after (codes "[") p) (λ q.
    if is_part q then ended_by scope (part_by n q) else Some (Within (Index (array_shape scope n)), q))

abbrev pub want_named : Scope → Place → Reads Found
want_named scope p =
    then_reads (name_at p) (λ n q.
    if begins (codes "[") q then want_bracketed scope n q else Some (Ended (shape_of scope (Named n)), q))

abbrev pub want_literal : Scope → Place → Reads Found
want_literal scope p = ended_by scope (literal_at p)

-- where an expression begins: past all of it, or past what stands before the first that is within it
abbrev pub want_at : Scope → Place → Reads Found
want_at scope p =
    if begins (codes "(~") p then opened_by (codes "(~") Inverse p
    else (if begins (codes "(") p then opened_by (codes "(") Sign p
    else (if begins (codes "{") p then opened_by (codes "{") High p
    else (if starts_digit p.rest then want_literal scope p else want_named scope p)))

-- what follows the first expression in round brackets
abbrev pub signed_at : Shape → Place → Reads Found
signed_at shape p =
    then_at (after (codes " ") p) (λ q. if begins (codes "? ") q then opened_by (codes "? ") (One shape) q
    else then_reads (operator_at q) (λ op r. opened_by (codes " ") (Right op shape) r))

-- behind an expression of this shape, by what is awaited there
abbrev pub end_at : Await → Shape → Place → Reads Found
end_at Inverse shape p = closed_by (codes ")") shape p
end_at (Index array) shape p = closed_by (codes "]") (indexed array shape) p
end_at High shape p = opened_by (codes ", ") (Low shape) p
end_at (Low high) shape p = closed_by (codes "}") (joined high shape) p
end_at Sign shape p = signed_at shape p
end_at (One test) shape p = opened_by (codes " : ") (Other test shape) p
end_at (Other test one) shape p = closed_by (codes ")") (chosen test one shape) p
end_at (Right op left) shape p = closed_by (codes ")") (applied op left shape) p

-- in at most so many steps to the end of the outermost expression: one begins here, or one has ended; then comes what is awaited behind
-- those around it, the innermost first
abbrev pub pass_on : Scope → ℕ → Found → List Await → Place → Reads Shape
pass_on scope zero found awaited p = None
pass_on scope (suc n) (Within next) awaited p =
    then_reads (want_at scope p) (λ found q. pass_on scope n found (next ∷ awaited) q)
pass_on scope (suc n) (Ended shape) [] p = Some (shape, p)
pass_on scope (suc n) (Ended shape) (last ∷ awaited) p =
    then_reads (end_at last shape p) (λ found q. pass_on scope n found awaited q)

-- the shape of a whole expression
abbrev pub shape_at : Scope → Place → Reads Shape
shape_at scope p = then_reads (want_at scope p) (λ found q. pass_on scope (length p.rest) found [] q)

-- past a whole expression, whatever the names in it stand for
abbrev pub passed_at : Place → Option Place
passed_at p = then_reads (shape_at nothing_meant p) (λ shape q. Some q)
