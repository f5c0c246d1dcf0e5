-- The machine of a net's source stands for the net's start.
use Rattle.std.proofs.Common.{◌≡◌, List, true, sym, subst}
use Rattle.cx_text.specs.Loading.{PlainMemory, FitsRows, words_loaded}
use Rattle.cx_vtree.specs.Plain.{PlainSource}
use Rattle.cx_vtree.specs.PlainParts.{rows_of}
use Rattle.cx_vtree.specs.SimRun.{start_state}
use Rattle.cx_vtree.specs.Sound.{is_sound}
use Rattle.cx_vmods.proofs.TableLaws.{each_is_built}
use Rattle.cx_vsim.specs.declared.machines.Built.{Built}
use Rattle.cx_vsim.specs.Stands.{BuiltWith}
use Rattle.cx_net.specs.Nets.{PlainNet}
use Rattle.cx_net.specs.NetFits.{IsFit, HasNoHoles}
use Rattle.cx_net.specs.NetRuns.{net_start}
use Rattle.cx_net.specs.NetTree.{net_tree}
use Rattle.cx_emit.specs.Sources.{source_of}
use Rattle.cx_emit.proofs.StartValues.{starts_stand}
use Rattle.cx_net_runs.specs.Standing.{StandsIn}

module _ (net : PlainNet) (fits : IsFit net) (no_holes : HasNoHoles net) (memories : List PlainMemory) (built : Built) where
  abbrev Starts : PlainSource → Type 0
  Starts source = is_sound source ≡ true → FitsRows (rows_of source.externals) memories → BuiltWith source (words_loaded memories) built
      → StandsIn net (net_start (net_tree net) (words_loaded memories)) built.machine built.stored

  own_start : Starts (source_of net)
  own_start sound fit stands = (
    0,
    0,
    record {
      fits = fits;
      no_holes = no_holes;
      sound = sound;
      machine = stands.machine;
      state = start_state (source_of net) (words_loaded memories);
      stored = stands.stored;
      states = starts_stand net sound (record { fits = fits; no_holes = no_holes }) each_is_built memories fit;
    },
  )

  -- of a source that is the net's
  pub start_stands : (source : PlainSource) → source ≡ source_of net → Starts source
  start_stands source same = subst Starts (sym same) own_start
