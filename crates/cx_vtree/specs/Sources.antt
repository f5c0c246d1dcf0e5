-- What a `Source` stands for.
use Rattle.std.specs.Prelude.{List}
use Rattle.cx_vtree.specs.declared.modules.Module.{Module}
use Rattle.cx_vtree.specs.declared.externals.External.{External}
use Rattle.cx_vtree.specs.Plain.{PlainSource}
use Rattle.cx_vtree.specs.PlainParts.{plain_externals, plain_modules}

-- the source of these external lines and modules
abbrev pub source_of : List External → List Module → PlainSource
source_of externals modules = record { externals = plain_externals externals; modules = plain_modules modules }
