-- Flags that are set in turn.
use Rattle.std.proofs.Common.{◌≡◌, ℕ, ◌+◌, ◌<◌, Bool, List, ◌∷◌, ◌++◌, Option, Some, None, length, drop, get_or, refl, sym, ap, ◌∙◌}
use Rattle.std.proofs.lemmas.List.{drop_more}
use Rattle.cx_meaning.specs.Control.{groups_in_all, groups_of, with_comb}
use Rattle.cx_rules.specs.Items.{option_list}
use Rattle.cx_design.specs.declared.statements.Statement.{Statement}
use Rattle.cx_design.specs.PlainForms.{plain_statement, plain_statements}
use Rattle.cx_limits.specs.Inners.{set_all}
use Rattle.cx_limits.proofs.NeededLemmas.{set_all_append}

-- one statement more
pub flag_step : (flags next : List Bool) (parts : List Statement) (i : ℕ) (s : Statement) → i < length parts → s ≡ get_or parts i s → next ≡ set_all flags (groups_of (plain_statement s))
    → set_all next (groups_in_all (plain_statements (drop (i + 1) parts))) ≡ set_all flags (groups_in_all (plain_statements (drop i parts)))
flag_step flags next parts i s lt is e =
    ap (λ x. set_all x (groups_in_all (plain_statements (drop (i + 1) parts)))) e
    ∙ sym (set_all_append flags (groups_of (plain_statement s)) (groups_in_all (plain_statements (drop (i + 1) parts))))
    ∙ ap (λ x. set_all flags (groups_in_all (plain_statements (x ∷ drop (i + 1) parts)))) is
    ∙ ap (λ xs. set_all flags (groups_in_all (plain_statements xs))) (sym (drop_more parts i s lt))

-- two branches
pub flag_both : (flags one two : List Bool) (s t first second : Statement) → s ≡ first → t ≡ second → one ≡ set_all flags (groups_of (plain_statement s)) → two ≡ set_all one (groups_of (plain_statement t))
    → two ≡ set_all flags (groups_of (plain_statement first) ++ groups_of (plain_statement second))
flag_both flags one two s t first second es et e f =
    f ∙ ap (λ x. set_all one (groups_of (plain_statement x))) et
    ∙ ap (λ x. set_all x (groups_of (plain_statement second))) (e ∙ ap (λ x. set_all flags (groups_of (plain_statement x))) es)
    ∙ sym (set_all_append flags (groups_of (plain_statement first)) (groups_of (plain_statement second)))

-- behind the group of a test
pub flag_comb : (flags : List Bool) (comb : Option ℕ) (gs : List ℕ) → set_all (set_all flags (option_list comb)) gs ≡ set_all flags (with_comb comb gs)
flag_comb flags None gs = refl
flag_comb flags (Some g) gs = refl
