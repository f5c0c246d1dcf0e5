-- A search for the first break, line by line.
use Rattle.std.specs.Prelude.{ℕ, ◌+◌, min, List, [], ◌∷◌, Option, Some, None, if◌then◌else◌}
use Rattle.std.specs.Option.{option_or}
use Rattle.cx_vtree.specs.Sound.{Faults, Break, NameAt, WidthAt, LimitAt}
use Rattle.cx_vsound.specs.declared.search.LineFaults.{LineFaults}
use Rattle.cx_vsound.specs.declared.search.Break as told
use Rattle.cx_vsound.specs.declared.search.Break.TheVariants as breaks
use Rattle.cx_vsound.specs.declared.search.Search.{Search}

abbrev pub faults_in : LineFaults → Faults
faults_in f = record { name = f.name; width = f.width; limit = f.limit }

-- the greatest line that is told
abbrev pub last_line : ℕ
last_line = 4294967295

abbrev pub break_on : ℕ → Faults → Option told.Break
break_on line f =
    if f.name then Some (breaks.Name line) else
    (if f.width then Some (breaks.Width line) else (if f.limit then Some (breaks.Limit line) else None))

-- a search that stands at the first line
abbrev pub start : Search
start = record { line = 1; found = None }

-- past one line
abbrev pub noted : Search → Faults → Search
noted s f = record { line = min (s.line + 1) last_line; found = option_or s.found (break_on s.line f) }

-- past some lines
abbrev pub over : Search → List Faults → Search
over s [] = s
over s (f ∷ fs) = over (noted s f) fs

-- a break as it is told
abbrev pub told_break : Break → told.Break
told_break (NameAt line) = breaks.Name (min line last_line)
told_break (WidthAt line) = breaks.Width (min line last_line)
told_break (LimitAt line) = breaks.Limit (min line last_line)
