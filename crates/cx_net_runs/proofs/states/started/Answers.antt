use Rattle.std.proofs.Common.{ℕ, List, ap, sym, ◌∙◌, subst}
use Rattle.cx_text.specs.Loading.{FitsRows, plain_loaded, words_loaded}
use Rattle.cx_net.specs.NetsAsData.{plain_net}
use Rattle.cx_vtree.specs.declared.sources.Source.{Source}
use Rattle.cx_vtree.specs.PlainParts.{rows_of}
use Rattle.cx_vtree.specs.PlainSources.{plain_source}
use Rattle.cx_vsim.specs.Models.{Loaded}
use Rattle.cx_vsim.specs.Stands.{BuiltWith}
use Rattle.cx_net_runs.proofs.StartLemmas.{start_stands}
use Rattle.cx_net_runs.proofs.states.started.Goals as goal

abbrev loaded_of : Source → List (List ℕ) → Loaded
loaded_of source words = record { source = source; words = words }

pub load-requires : goal.load-requires
load-requires c = record {
  fits = subst (λ rows. FitsRows rows (plain_loaded c.args.loaded.now)) (sym (ap (λ (l : Loaded). rows_of (plain_source l.source).externals) c.in_ok-sim.ensures.value ∙ c.in_ok-source.ensures.rows)) c.requires.words;
}

pub returns-clause-ready : goal.returns-clause-ready
returns-clause-ready c = c.into_built.ensures.ready

pub returns-clause-stands : goal.returns-clause-stands
returns-clause-stands c =
    let ms = plain_loaded c.args.loaded.now in
    let source = c.in_ok-source.source in
    start_stands (plain_net c.args.net.now) c.requires.net.fits c.requires.net.no_holes ms c.into_built.result (plain_source source) c.in_ok-source.ensures.value c.source_is_sound.ensures.sound
    (subst (λ rows. FitsRows rows ms) (sym c.in_ok-source.ensures.rows) c.requires.words)
    (subst (λ (l : Loaded). BuiltWith (plain_source l.source) l.words c.into_built.result)
    (c.load.ensures.value ∙ ap (λ (l : Loaded). loaded_of l.source (words_loaded ms)) c.in_ok-sim.ensures.value) c.into_built.ensures)
