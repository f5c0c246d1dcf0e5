-- When two cells meet: something uses both, so they may be wanted in one cycle.
use Rattle.std.specs.Prelude.{ℕ, Bool, false, ◌||◌, ◌&&◌, List, [], ◌∷◌}
use Rattle.std.specs.List.{list_any}
use Rattle.cx_meaning.specs.Designs.{PlainComponent, PlainForm, Empty, Enable, Seq, Par, If, While, Repeat, StaticSeq, StaticPar, StaticIf, StaticRepeat, Timed, PlainStatement, list_of}
use Rattle.cx_meaning.specs.Instances.{Set}
use Rattle.cx_rules.specs.Items.{statements_in}
use Rattle.cx_sharing.specs.Uses.{assigns_use, uses, test_uses}

abbrev pub has_both : Set → ℕ → ℕ → Bool
has_both set x y = set x && set y

-- two different arms use one each
abbrev pub arms_meet : PlainComponent → List PlainStatement → ℕ → ℕ → Bool
arms_meet part [] x y = false
arms_meet part (arm ∷ later) x y =
    (uses part arm x && list_any (λ s. uses part s y) later)
    || (uses part arm y && list_any (λ s. uses part s x) later) || arms_meet part later x y

-- in a statement, but for its parts: by the condition and comb group of an if or a while, and by the arms of a par or a static par.
-- A condition and a branch are never active together, nor are two parts of a seq
abbrev pub form_meets : PlainComponent → PlainForm → ℕ → ℕ → Bool
form_meets part Empty x y = false
form_meets part (Enable g) x y = false
form_meets part (Seq parts) x y = false
form_meets part (Par arms) x y = arms_meet part (list_of arms) x y
form_meets part (If test comb a b) x y = has_both (test_uses part test comb) x y
form_meets part (While test comb a) x y = has_both (test_uses part test comb) x y
form_meets part (Repeat count a) x y = false
form_meets part (StaticSeq length parts) x y = false
form_meets part (StaticPar length arms) x y = arms_meet part (list_of arms) x y
form_meets part (StaticIf length test a b) x y = false
form_meets part (StaticRepeat length count a) x y = false
form_meets part (Timed k) x y = false

-- MEET: one group uses both, also one that nothing enables, or they meet in some statement
abbrev pub meet : PlainComponent → ℕ → ℕ → Bool
meet part x y =
    list_any (λ g. has_both (assigns_use g.assigns) x y) part.groups
    || list_any (λ v. form_meets part v.form x y) (statements_in part)
