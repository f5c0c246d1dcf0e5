-- The names of the rules, as messages write them.
use Rattle.std.specs.Prelude.{ℕ, List, codes}
use Rattle.cx_text.specs.declared.rules.Rule.{Rule}
use Rattle.cx_text.specs.declared.rules.Rule.TheVariants.{BadByte, OpenComment, OpenString, BadLiteral, Unexpected, TooDeep, Duplicate, UnknownName, UnknownPrimitive, BadParameters, Recursive, NoMain, LeftOut, Width, GuardWidth, Literal, NotATarget, NotASource, NoDone, DoneNotState, AlwaysEnable, CombEnable, StaticGuard, StaticShape, CallShape, OutputNotState, CombCycle, Race, Limit, TooLarge}

-- a rule's name
abbrev pub text_of : Rule → List ℕ
text_of BadByte = codes "bad-byte"
text_of OpenComment = codes "open-comment"
text_of OpenString = codes "open-string"
text_of BadLiteral = codes "bad-literal"
text_of Unexpected = codes "unexpected"
text_of TooDeep = codes "too-deep"
text_of Duplicate = codes "duplicate"
text_of UnknownName = codes "unknown-name"
text_of UnknownPrimitive = codes "unknown-primitive"
text_of BadParameters = codes "bad-parameters"
text_of Recursive = codes "recursive"
text_of NoMain = codes "no-main"
text_of LeftOut = codes "left-out"
text_of Width = codes "width"
text_of GuardWidth = codes "guard-width"
text_of Literal = codes "literal"
text_of NotATarget = codes "not-a-target"
text_of NotASource = codes "not-a-source"
text_of NoDone = codes "no-done"
text_of DoneNotState = codes "done-not-state"
text_of AlwaysEnable = codes "always-enable"
text_of CombEnable = codes "comb-enable"
text_of StaticGuard = codes "static-guard"
text_of StaticShape = codes "static-shape"
text_of CallShape = codes "call-shape"
text_of OutputNotState = codes "output-not-state"
text_of CombCycle = codes "comb-cycle"
text_of Race = codes "race"
text_of Limit = codes "limit"
text_of TooLarge = codes "too-large"
