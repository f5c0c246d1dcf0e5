use Rattle.std.proofs.Common.{◌≡◌, List, All, Ok, sym, ap, ◌∙◌, subst}
use Rattle.cx_text.specs.Loading.{FitsRows, PlainRow, plain_loaded, plain_rows}
use Rattle.cx_data.specs.Load.{load_of}
use Rattle.cx_data.specs.Widths.{HasWordWidth}
use Rattle.cx_design.specs.PlainDesigns.{plain_design}
use Rattle.cx_compiler.proofs.RowWidths.{rows_have_width}
use Rattle.cx_driver.proofs.counted.run_counted.Goals as goal

pub load-requires : goal.load-requires
load-requires c =
    let Wide : List PlainRow → Type 0 = λ rows. All HasWordWidth rows in
    record { widths = subst Wide (sym (ap (λ rows. plain_rows rows) c.deref.ensures.value ∙ c.in_ok-rows.ensures.value)) (rows_have_width (plain_design c.args.design) c.args.design.keeps) }

pub count_loaded-requires : goal.count_loaded-requires
count_loaded-requires c =
    let memories = plain_loaded c.in-Ok.loaded in
    let Fit : List PlainRow → Type 0 = λ rows. FitsRows rows memories in
    let Loads : List PlainRow → Type 0 = λ rows. load_of c.args.json.now rows ≡ Ok memories in
    let same = ap (λ rows. plain_rows rows) c.deref.ensures.value ∙ c.in_ok-rows.ensures.value in
    record { rules = c.requires.rules; groups = c.requires.groups; budget = c.requires.budget; fits = subst Fit same c.in-Ok.ensures.fits; loads = subst Loads same c.in-Ok.ensures.loaded }
