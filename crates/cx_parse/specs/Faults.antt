-- Why tokens are no file, and where.
use Rattle.std.specs.Prelude.{◌≡◌, List, length}
use Rattle.cx_text.specs.declared.places.Place.{Place}
use Rattle.cx_ast.specs.declared.tokens.Token.{Token}
use Rattle.cx_grammar.specs.Parsing.{IsUnexpected, IsDeep}
use Rattle.cx_parse.specs.declared.stops.Stop.{Stop}
use Rattle.cx_parse.specs.declared.stops.Stop.TheVariants as stops
use Rattle.cx_parse.specs.Whole.{place_at}
use Rattle.cx_parse.specs.declared.files.ParseFault.{ParseFault}
use Rattle.cx_parse.specs.declared.files.ParseFault.TheVariants as faults

-- the place of the first token, or of the end, with which the tokens so far begin no file, before any that is too deep
abbrev pub IsUnexpectedAt : List Token → Place → Type 0
IsUnexpectedAt tokens place =
    (front back : List Token) × IsUnexpected tokens front back × (place ≡ place_at back tokens)

-- the place of the token that begins the sixty-fifth level, before any that is unexpected
abbrev pub IsTooDeepAt : List Token → Place → Type 0
IsTooDeepAt tokens place = (front back : List Token) × IsDeep tokens front back × (place ≡ place_at back tokens)

-- the tokens have this fault
abbrev pub IsFault : List Token → ParseFault → Type 0
IsFault tokens (faults.Unexpected place) = IsUnexpectedAt tokens place
IsFault tokens (faults.TooDeep place) = IsTooDeepAt tokens place
IsFault tokens faults.Memory = ⊥

-- the tokens have this fault, with so many of them left
abbrev pub IsStop : List Token → Stop → Type 0
IsStop tokens (stops.Unexpected left) =
    (front back : List Token) × IsUnexpected tokens front back × (length back ≡ left)
IsStop tokens (stops.TooDeep left) = (front back : List Token) × IsDeep tokens front back × (length back ≡ left)
IsStop tokens stops.Memory = ⊥
