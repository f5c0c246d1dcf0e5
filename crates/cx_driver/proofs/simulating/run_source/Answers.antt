use Rattle.std.proofs.Common.{◌≡◌, List, All, Ok, sym, ap, ◌∙◌, subst}
use Rattle.cx_text.specs.Loading.{PlainRow, FitsRows, plain_loaded, plain_rows}
use Rattle.cx_data.specs.Load.{load_of}
use Rattle.cx_data.specs.Widths.{HasWordWidth}
use Rattle.cx_vtree.specs.PlainSources.{plain_source}
use Rattle.cx_vtree.specs.PlainParts.{rows_of}
use Rattle.cx_driver.specs.Leaving.{plain_left}
use Rattle.cx_driver.proofs.SimLemmas.{source_leaves, source_stops, unloaded_stops}
use Rattle.cx_driver.proofs.simulating.run_source.Goals as goal

pub load-requires : goal.load-requires
load-requires c =
    let Wide : List PlainRow → Type 0 = λ rows. All HasWordWidth rows in
    record { widths = subst Wide (sym (ap (λ rows. plain_rows rows) c.deref.ensures.value ∙ c.in_ok-rows.ensures)) c.source_is_sound.ensures.widths }

pub run_loaded-requires : goal.run_loaded-requires
run_loaded-requires c =
    let Fit : List PlainRow → Type 0 = λ rows. FitsRows rows (plain_loaded c.in-Ok.loaded) in
    record { fits = subst Fit (ap (λ rows. plain_rows rows) c.deref.ensures.value ∙ c.in_ok-rows.ensures) c.in-Ok.ensures.fits }

pub returns-in-Ok : goal.returns-in-Ok
returns-in-Ok c =
    let s = plain_source c.args.source.now in
    let json = c.args.json.now in
    let memories = plain_loaded c.in-Ok.loaded in
    let Loads : List PlainRow → Type 0 = λ rows. load_of json rows ≡ Ok memories in
    let loads : load_of json (rows_of s.externals) ≡ Ok memories = subst Loads (ap (λ rows. plain_rows rows) c.deref.ensures.value ∙ c.in_ok-rows.ensures) c.in-Ok.ensures.loaded in
    record {
      answer = source_leaves plain_left s json memories c.args.cycles c.run_loaded.result loads c.run_loaded.ensures.answer;
      ready = c.run_loaded.ensures.ready;
      cause = source_stops s json memories c.args.cycles c.run_loaded.result loads c.run_loaded.ensures.cause;
    }

pub returns : goal.returns
returns c = record {
  answer = tt;
  ready = tt;
  cause = unloaded_stops (plain_source c.args.source.now) (plain_rows c.deref.result.now) c.args.json.now c.args.cycles c.in-Err.stop (ap (λ rows. plain_rows rows) c.deref.ensures.value ∙ c.in_ok-rows.ensures) c.in-Err.ensures.cause;
}
