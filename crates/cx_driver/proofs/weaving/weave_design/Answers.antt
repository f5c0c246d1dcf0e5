use Rattle.std.proofs.Common.{◌≡◌, List, All, Ok, sym, ap, ◌∙◌, subst}
use Rattle.cx_text.specs.Loading.{PlainRow, FitsRows, plain_loaded, plain_rows}
use Rattle.cx_data.specs.Load.{load_of}
use Rattle.cx_data.specs.Widths.{HasWordWidth}
use Rattle.cx_rules.specs.Externals.{external_rows}
use Rattle.cx_design.specs.PlainDesigns.{plain_design}
use Rattle.cx_compiler.proofs.RowWidths.{rows_have_width}
use Rattle.cx_driver.proofs.WovenLemmas.{design_weaves, design_stops, unloaded_stops}
use Rattle.cx_driver.proofs.weaving.weave_design.Goals as goal

pub load-requires : goal.load-requires
load-requires c =
    let Wide : List PlainRow → Type 0 = λ rows. All HasWordWidth rows in
    record { widths = subst Wide (sym (ap (λ rows. plain_rows rows) c.deref.ensures.value ∙ c.in_ok-rows.ensures.value)) (rows_have_width (plain_design c.args.design.now) c.args.design.now.keeps) }

pub weave_loaded-requires : goal.weave_loaded-requires
weave_loaded-requires c =
    let Fit : List PlainRow → Type 0 = λ rows. FitsRows rows (plain_loaded c.in-Ok.loaded) in
    record { flat = c.requires.flat; fits = subst Fit (ap (λ rows. plain_rows rows) c.deref.ensures.value ∙ c.in_ok-rows.ensures.value) c.in-Ok.ensures.fits; some = c.requires.some }

pub returns-in-Ok : goal.returns-in-Ok
returns-in-Ok c =
    let d = plain_design c.args.design.now in
    let json = c.args.json.now in
    let list = c.args.list.now in
    let memories = plain_loaded c.in-Ok.loaded in
    let Loads : List PlainRow → Type 0 = λ rows. load_of json rows ≡ Ok memories in
    let loads : load_of json (external_rows d) ≡ Ok memories = subst Loads (ap (λ rows. plain_rows rows) c.deref.ensures.value ∙ c.in_ok-rows.ensures.value) c.in-Ok.ensures.loaded in
    record {
      answer = design_weaves d list json c.args.steps (λ v. v.items) memories c.weave_loaded.result loads c.weave_loaded.ensures.answer;
      cause = design_stops d list json c.args.steps memories c.weave_loaded.result loads c.weave_loaded.ensures.cause;
    }

pub returns : goal.returns
returns c = record {
  answer = tt;
  cause = unloaded_stops (plain_design c.args.design.now) c.args.list.now c.args.json.now c.args.steps (plain_rows c.deref.result.now) c.in-Err.stop (ap (λ rows. plain_rows rows) c.deref.ensures.value ∙ c.in_ok-rows.ensures.value) c.in-Err.ensures.cause;
}
