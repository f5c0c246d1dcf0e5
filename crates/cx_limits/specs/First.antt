-- What a check of a stage answers where it does not accept a design.
use Rattle.std.specs.Prelude.{◌≡◌, ℕ}
use Rattle.cx_text.specs.declared.rules.Rule.TheVariants as rules_told
use Rattle.cx_meaning.specs.Designs.{PlainDesign}
use Rattle.cx_rules.specs.Accepted.{IsFirstOf}
use Rattle.cx_rules.specs.LimitRule.{word_of}
use Rattle.cx_design.specs.declared.refusals.Refusal.{Refusal}
use Rattle.cx_design.specs.declared.refusals.Refusal.TheVariants.{Rule, Memory}
use Rattle.cx_limits.specs.declared.found.FoundBreak.{FoundBreak}
use Rattle.cx_limits.specs.Scan.{limited_of}

-- a refusal that is not want of memory tells the first break of the stage
abbrev pub IsFirstBreak : ℕ → PlainDesign → Refusal → Type 0
IsFirstBreak stage d (Rule told) = IsFirstOf stage d told
IsFirstBreak stage d Memory = Unit {0}

-- it tells what was found
abbrev pub TellsFound : FoundBreak → Refusal → Type 0
TellsFound found (Rule told) =
    (told.rule ≡ rules_told.Limit) × (told.place ≡ found.place)
    × (told.name ≡ word_of (limited_of found.limited))
TellsFound found Memory = Unit {0}
