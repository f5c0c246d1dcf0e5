use Rattle.std.proofs.Common.{◌≡◌, ◌∙◌, ℕ, Some, None, map, ap, sym}
use Rattle.std.proofs.lemmas.Result.{IfOk-weaker}
use Rattle.cx_design.specs.PlainForms.{plain_cell, plain_component, plain_form, plain_invoke, plain_statement}
use Rattle.cx_flattening.specs.Flattened.{first_copy, inlined, kid_at}
use Rattle.cx_flat.specs.Callers.{kids_in, part_of}
use Rattle.cx_flat.specs.Tables.{kids_of, plain_table}
use Rattle.cx_flat.proofs.InvokeLemmas.{inlined_some}
use Rattle.cx_flat.proofs.invokes.inlined_invoke.Goals as goal

pub returns-in_ok-copy-in-Some : goal.returns-in_ok-copy-in-Some
returns-in_ok-copy-in-Some c =
    let kids = kids_in c.args.caller in
    let part = part_of c.args.caller in
    let v = plain_invoke c.args.invoke.now in
    let child = plain_component c.in-Some.child.now in
    let its : kid_at kids v.cell ≡ Some child =
    sym (c.in-Some.ensures.value ∙ ap (λ cs. kid_at (kids_of (plain_table c.args.caller.table.now) (map plain_cell cs)) v.cell) c.deref.ensures.value) in
    record {
      value = IfOk-weaker c.with_capture_again.result _ (λ f. (k : ℕ) → c.args.first ≡ first_copy kids part k → plain_form f ≡ inlined kids part (kid_at kids v.cell) k v)
          (λ f is k first. is ∙ inlined_some kids part v k c.args.first child (kid_at kids v.cell) (plain_statement c.in_ok-copy-in-Some.copy) its first c.in_ok-copy-in-Some.ensures.value)
          c.with_capture_again.ensures.value;
    }

pub returns-in-None : goal.returns-in-None
returns-in-None c =
    let kids = kids_in c.args.caller in
    let v = plain_invoke c.args.invoke.now in
    let none : None ≡ kid_at kids v.cell =
    c.in-None.ensures.value ∙ ap (λ cs. kid_at (kids_of (plain_table c.args.caller.table.now) (map plain_cell cs)) v.cell) c.deref.ensures.value in
    record { value = λ k first. c.nothing.ensures.value ∙ ap (λ x. inlined kids (part_of c.args.caller) x k v) none }
