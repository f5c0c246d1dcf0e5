use Rattle.std.proofs.Common.{List, All, sym, ap, ◌∙◌, subst}
use Rattle.cx_text.specs.Loading.{PlainRow, FitsRows, plain_loaded, plain_rows}
use Rattle.cx_data.specs.Widths.{HasWordWidth}
use Rattle.cx_compile_tests.proofs.stepped.started.Goals as goal

pub load-requires : goal.load-requires
load-requires g c =
    let Wide : List PlainRow → Type 0 = λ rows. All HasWordWidth rows in
    record { widths = subst Wide (sym (ap (λ rows. plain_rows rows) c.deref.ensures.value)) c.in_ok-own.ensures.widths }

pub start-requires : goal.start-requires
start-requires g c =
    let Fit : List PlainRow → Type 0 = λ rows. FitsRows rows (plain_loaded c.in_ok-loaded.loaded) in
    record {
      net = c.in_ok-own.ensures.answer.emitted;
      words = subst Fit (ap (λ rows. plain_rows rows) c.deref.ensures.value ∙ c.in_ok-own.ensures.rows) c.in_ok-loaded.ensures.fits;
    }
