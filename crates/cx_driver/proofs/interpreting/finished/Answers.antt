use Rattle.std.proofs.Common.{refl, sym, subst}
use Rattle.cx_text.specs.Loading.{FitsRows, plain_loaded}
use Rattle.cx_rules.specs.Externals.{external_rows}
use Rattle.cx_design.specs.declared.designs.Design.{Design}
use Rattle.cx_design.specs.PlainDesigns.{plain_design}
use Rattle.cx_compiler.proofs.RowWidths.{rows_have_width, widths_fit}
use Rattle.cx_driver.proofs.interpreting.finished.Goals as goal

pub memories-requires : goal.memories-requires
memories-requires c =
    let Fit : Design → Type 0 = λ d. FitsRows (external_rows (plain_design d)) (plain_loaded c.args.loaded) in
    record {
      run = (c.args.design.now, c.requires.run.0, c.requires.run.1, c.requires.run.2);
      fits = subst Fit (sym c.requires.run.2.design) c.requires.fits;
    }

pub returns : goal.returns
returns c =
    let d = c.args.ran.now.design.now in
    record {
      count = refl;
      words = λ words budget after run is. c.memories.ensures.words c.args.design.now words budget c.args.turns after run is;
      ready = record {
        fits = c.memories.ensures.fits.whole;
        widths = widths_fit (external_rows (plain_design d)) (plain_loaded c.memories.new.into) (rows_have_width (plain_design d) d.keeps) c.memories.ensures.fits;
      };
    }
