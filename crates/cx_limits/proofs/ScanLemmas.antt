-- A scan over statements that are joined.
use Rattle.std.proofs.Common.{◌≡◌, List, [], ◌∷◌, ◌++◌, Option, option_map, refl, ℕ, add-one, nat_eq, if◌then◌else◌, ◌+◌, ◌<◌, length, drop, get_or, sym, ap, ◌∙◌}
use Rattle.cx_meaning.specs.Designs.{PlainComponent, PlainDesign, component_at}
use Rattle.cx_meaning.specs.Instances.{tree_of}
use Rattle.cx_rules.specs.Items.{Visited, visit, visit_all}
use Rattle.cx_rules.specs.Counts.{Inners}
use Rattle.cx_design.specs.declared.statements.Statement.{Statement}
use Rattle.std.proofs.lemmas.List.{drop_more}
use Rattle.cx_rules.specs.Items as items
use Rattle.cx_design.specs.PlainForms.{plain_statement, plain_statements}
use Rattle.cx_design_sizes.specs.declared.tallies.LimitTally.{LimitTally}
use Rattle.cx_limits.specs.declared.found.FoundBreak.{FoundBreak}
use Rattle.cx_limits.specs.Inners.{below_at, limit_at}
use Rattle.cx_limits.specs.Rows.{counts_of}
use Rattle.cx_limits.specs.Scan.{told, noted, past_statements, past_part, past_tree, past_first}

pub past_statements_append : (part : PlainComponent) (below : Inners) (best : Option FoundBreak) (xs ys : List Visited) → past_statements part below best (xs ++ ys) ≡ past_statements part below (past_statements part below best xs) ys
past_statements_append part below best [] ys = refl
past_statements_append part below best (v ∷ xs) ys = past_statements_append part below (noted best v.place (option_map told (limit_at part below v))) xs ys

-- a scan past one statement more
pub past_all_step : (part : PlainComponent) (below : Inners) (best next : Option FoundBreak) (context : items.Context) (statements : List Statement) (i : ℕ) (s : Statement)
    → i < length statements → s ≡ get_or statements i s → next ≡ past_statements part below best (visit context (plain_statement s))
    → past_statements part below next (visit_all context (plain_statements (drop (i + 1) statements))) ≡ past_statements part below best (visit_all context (plain_statements (drop i statements)))
past_all_step part below best next context statements i s lt is e =
    ap (λ b. past_statements part below b (visit_all context (plain_statements (drop (i + 1) statements)))) e
    ∙ sym (past_statements_append part below best (visit context (plain_statement s)) (visit_all context (plain_statements (drop (i + 1) statements))))
    ∙ ap (λ x. past_statements part below best (visit_all context (plain_statements (x ∷ drop (i + 1) statements)))) is
    ∙ ap (λ xs. past_statements part below best (visit_all context (plain_statements xs))) (sym (drop_more statements i s lt))

-- two branches, each where it stands
pub both_past : (part : PlainComponent) (below : Inners) (best one two : Option FoundBreak) (a b at : items.Context) (s t first second : Statement) → a ≡ at → b ≡ at → s ≡ first → t ≡ second
    → one ≡ past_statements part below best (visit a (plain_statement s)) → two ≡ past_statements part below one (visit b (plain_statement t))
    → two ≡ past_statements part below best (visit at (plain_statement first) ++ visit at (plain_statement second))
both_past part below best one two a b at s t first second ea eb es et e f =
    f ∙ ap (λ x. past_statements part below one (visit x (plain_statement t))) eb ∙ ap (λ x. past_statements part below one (visit at (plain_statement x))) et
    ∙ ap (λ x. past_statements part below x (visit at (plain_statement second))) (e ∙ ap (λ x. past_statements part below best (visit x (plain_statement s))) ea ∙ ap (λ x. past_statements part below best (visit at (plain_statement x))) es)
    ∙ sym (past_statements_append part below best (visit at (plain_statement first)) (visit at (plain_statement second)))

-- a scan past one component more
pub scan_step : (d : PlainDesign) (best next : Option FoundBreak) (k : ℕ) (part : PlainComponent) (below : Inners) (tally : LimitTally) → best ≡ past_first d k → part ≡ component_at d k → below ≡ below_at d k
    → tally ≡ counts_of (tree_of d) → next ≡ (if nat_eq k d.main then past_tree (past_part best part below) part.place tally else past_part best part below) → next ≡ past_first d (k + 1)
scan_step d best next k part below tally so_far own there counts e =
    e ∙ ap (λ b. past b part below tally) so_far ∙ ap (λ p. past (past_first d k) p below tally) own ∙ ap (λ x. past (past_first d k) (component_at d k) x tally) there
    ∙ ap (λ t. past (past_first d k) (component_at d k) (below_at d k) t) counts ∙ ap (past_first d) (sym (add-one k))
  where
    past : Option FoundBreak → PlainComponent → Inners → LimitTally → Option FoundBreak
    past b p x t = if nat_eq k d.main then past_tree (past_part b p x) p.place t else past_part b p x
