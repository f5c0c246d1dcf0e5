-- The first break so far, and after further breaks: by place, then by the rule's number, and else the earlier in the list.
use Rattle.std.specs.Prelude.{Bool, true, List, [], ◌∷◌, Option, Some, None, if◌then◌else◌}
use Rattle.cx_text.specs.declared.diagnostics.Diagnostic.{Diagnostic}
use Rattle.cx_rules.specs.Accepted.{comes_before}
use Rattle.cx_numbering.specs.NameRules.{key_of}

-- a break takes the place of the first so far where it comes before it
abbrev pub replaces : Option Diagnostic → Diagnostic → Bool
replaces None d = true
replaces (Some first) d = comes_before (key_of d) (key_of first)

abbrev pub kept : Option Diagnostic → Diagnostic → Option Diagnostic
kept found d = if replaces found d then Some d else found

abbrev pub first_of : Option Diagnostic → List Diagnostic → Option Diagnostic
first_of found [] = found
first_of found (d ∷ ds) = first_of (kept found d) ds
