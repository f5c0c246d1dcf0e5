use Rattle.std.proofs.Common.{All, refl, sym, subst}
use Rattle.cx_text.specs.Loading.{FitsRows, plain_loaded}
use Rattle.cx_data.specs.Widths.{HasWordWidth}
use Rattle.cx_vtree.specs.declared.sources.Source.{Source}
use Rattle.cx_vtree.specs.PlainParts.{rows_of}
use Rattle.cx_vtree.specs.PlainSources.{plain_source}
use Rattle.cx_compiler.proofs.RowWidths.{widths_fit}
use Rattle.cx_driver.proofs.simulating.finished.Goals as goal

pub memories-requires-clause-fits : goal.memories-requires-clause-fits
memories-requires-clause-fits c =
    let Fit : Source → Type 0 = λ s. FitsRows (rows_of (plain_source s).externals) (plain_loaded c.args.loaded) in
    subst Fit (sym c.requires.source) c.requires.fits

pub returns : goal.returns
returns c =
    let Wide : Source → Type 0 = λ s. All HasWordWidth (rows_of (plain_source s).externals) in
    record {
      count = refl;
      words = c.memories.ensures.words;
      ready = record {
        fits = c.memories.ensures.fits.whole;
        widths = widths_fit (rows_of (plain_source c.args.ran.now.source).externals) (plain_loaded c.memories.new.into) (subst Wide (sym c.requires.source) c.source_is_sound.ensures.widths) c.memories.ensures.fits;
      };
    }
