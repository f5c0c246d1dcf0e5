use Rattle.std.proofs.Common.{◌&&◌, ◌<◌, not, ℕ, List, get_or, length, sym, ap, ◌∙◌, subst}
use Rattle.std.specs.Prelude.{All}
use Rattle.std.proofs.lemmas.List.Sorted.{IsNonDecreasingBy-from_sort}
use Rattle.cx_meaning.specs.Control.{form_drives, groups_in}
use Rattle.cx_design.specs.PlainForms.{plain_form}
use Rattle.cx_eval_cycle.specs.Passes.{listed_in}
use Rattle.cx_turns.specs.Machines.{design_of}
use Rattle.cx_turns.specs.Marks.{Lists, is_marked}
use Rattle.cx_turns.specs.Groups.{ListDriven}
use Rattle.cx_turns.proofs.MarkLists.{listed_at, lists_cleared, lists_inside, lists_start, moved_ascends, moved_marked, set_none}
use Rattle.cx_turns.proofs.MarkSteps.{groups_within, marks_driven}
use Rattle.cx_turns.proofs.driven.list_groups.Goals as goal

pub mark_form-requires-clause-lists : goal.mark_form-requires-clause-lists
mark_form-requires-clause-lists c = subst (λ (xs : List ℕ). Lists c.args.marks.now xs) (sym c.clear.ensures.items) (lists_start c.args.marks.now c.requires.clear)

pub clear_marks-requires : goal.clear_marks-requires
clear_marks-requires c = record {
  within = subst (λ (xs : List ℕ). All (λ k. k < length c.mark_form.new.marks) xs) (sym c.as_slice.ensures.value) (lists_inside c.mark_form.new.marks c.mark_form.new.cells.items c.mark_form.ensures.lists);
}

pub returns-clause-driven : goal.returns-clause-driven
returns-clause-driven c =
    marks_driven (design_of c.args.plan.now) c.args.instance (plain_form c.args.form.now) c.args.marks.now c.mark_form.new.marks c.sort_unstable.new.self.items (set_none c.args.marks.now c.requires.clear) c.mark_form.ensures.marked
    (moved_marked c.mark_form.new.marks c.mark_form.new.cells.items c.mark_form.ensures.lists c.sort_unstable.new.self.items c.sort_unstable.ensures.permutation)

pub returns-clause-ascending : goal.returns-clause-ascending
returns-clause-ascending c =
    moved_ascends c.mark_form.new.marks c.mark_form.new.cells.items c.mark_form.ensures.lists c.sort_unstable.new.self.items c.sort_unstable.ensures.permutation
    (IsNonDecreasingBy-from_sort (λ k. k) c.sort_unstable.new.self.items c.sort_unstable.ensures.sorted)

pub returns-clause-within : goal.returns-clause-within
returns-clause-within c path number k e less =
    let d = design_of c.args.plan.now in
    let form = plain_form c.args.form.now in
    let cells = c.sort_unstable.new.self.items in
    let driven : ListDriven d c.args.instance cells (λ part. form_drives part form) =
    marks_driven d c.args.instance form c.args.marks.now c.mark_form.new.marks cells (set_none c.args.marks.now c.requires.clear) c.mark_form.ensures.marked
    (moved_marked c.mark_form.new.marks c.mark_form.new.cells.items c.mark_form.ensures.lists cells c.sort_unstable.ensures.permutation) in
    groups_within d c.requires.plan.design c.args.plan.now.table.rows.items c.args.plan.now.table.children.items c.requires.plan.table c.args.instance path number (groups_in form) (get_or cells k e)
    (sym (driven path (get_or cells k e) number) ∙ listed_at cells k e less)

pub returns-clause-clear : goal.returns-clause-clear
returns-clause-clear c =
    lists_cleared c.mark_form.new.marks c.mark_form.new.cells.items c.mark_form.ensures.lists c.clear_marks.new.marks
    (λ q. c.clear_marks.ensures.cleared q ∙ ap (λ (xs : List ℕ). not (listed_in xs q) && is_marked c.mark_form.new.marks q) c.as_slice.ensures.value)
