-- A `Source` as plain data.
use Rattle.cx_vtree.specs.declared.sources.Source.{Source}
use Rattle.cx_vtree.specs.Plain.{PlainSource}
use Rattle.cx_vtree.specs.Sources.{source_of}

abbrev pub plain_source : Source → PlainSource
plain_source s = source_of s.externals.items s.modules.items
