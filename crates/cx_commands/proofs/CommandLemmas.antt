-- Words that are none of a command.
use Rattle.std.proofs.Common.{◌≡◌, ◌<◌, ◌≤◌, ℕ, Bool, true, false, ◌&&◌, nat_eq, if◌then◌else◌, List, [], ◌∷◌, length, slice_index_or, codes, Option, Some, None, MatchOption, refl, sym, ap, ◌∙◌, subst, arith}
use Rattle.std.specs.Str.Parse.{digits_value}
use Rattle.cx_commands.specs.Asked.{asked_of}
use Rattle.cx_commands.specs.Lists.{IsList}
use Rattle.cx_commands.specs.declared.commands.Command.{Command}
use Rattle.cx_commands.specs.Commands.{IsBudget, Asked, Asks, AsksNothing, AsksNoDesign, AsksNoOther, IsPossible, compile, interp, check, sim, trial, share, promote, instrument, profile, weave}

pub neither : (words : List (List ℕ)) → AsksNoDesign words → AsksNoOther words → AsksNothing words
neither words d r (compile design) asks = d.verdicts.compiles design asks
neither words d r (interp design json budget) asks = r.runs.designs.interprets design json budget asks
neither words d r (check design) asks = d.verdicts.checks design asks
neither words d r (sim verilog json budget) asks = r.runs.simulates verilog json budget asks
neither words d r (trial seed) asks = r.others.tries seed asks
neither words d r (share design) asks = d.changes.rewritings.shares design asks
neither words d r (promote design) asks = d.changes.rewritings.promotes design asks
neither words d r (instrument design) asks = d.changes.instruments design asks
neither words d r (profile design json budget) asks = r.runs.designs.profiles design json budget asks
neither words d r (weave design json steps list) asks = r.others.weaves design json steps list asks

-- two equal words
abbrev same : List ℕ → List ℕ → Bool
same [] [] = true
same [] (b ∷ ys) = false
same (a ∷ xs) [] = false
same (a ∷ xs) (b ∷ ys) = nat_eq a b && same xs ys

-- THE COMMAND of words that spell one, read from the left
abbrev on_one : List ℕ → List ℕ → Asked
on_one name word =
    if same name (codes "compile") then compile word else if same name (codes "check") then check word
    else if same name (codes "share") then share word else if same name (codes "promote") then promote word
    else if same name (codes "instrument") then instrument word else trial (digits_value 10 word)

abbrev on_two : List ℕ → List ℕ → List ℕ → List ℕ → Asked
on_two name first second digits =
    if same name (codes "interp") then interp first second (digits_value 10 digits)
    else if same name (codes "profile") then profile first second (digits_value 10 digits) else sim first second (digits_value 10 digits)

abbrev asked_by : List (List ℕ) → Option Asked
asked_by [] = None
asked_by (name ∷ []) = None
asked_by (name ∷ word ∷ []) = Some (on_one name word)
asked_by (name ∷ first ∷ second ∷ []) = None
asked_by (name ∷ first ∷ second ∷ digits ∷ []) = Some (on_two name first second digits)
asked_by (name ∷ first ∷ second ∷ digits ∷ list ∷ []) = Some (weave first second (digits_value 10 digits) list)
asked_by (name ∷ first ∷ second ∷ digits ∷ list ∷ more ∷ rest) = None

is_asked : (words : List (List ℕ)) (command : Asked) → Asks words command → asked_by words ≡ Some command
is_asked words (compile d) h = ap asked_by h
is_asked words (interp d j n) h = ap asked_by h.1 ∙ ap (λ m. Some (interp d j m)) h.2.value
is_asked words (check d) h = ap asked_by h
is_asked words (sim d j n) h = ap asked_by h.1 ∙ ap (λ m. Some (sim d j m)) h.2.value
is_asked words (trial s) h = ap asked_by h.1 ∙ ap (λ m. Some (trial m)) h.2.value
is_asked words (share d) h = ap asked_by h
is_asked words (promote d) h = ap asked_by h
is_asked words (instrument d) h = ap asked_by h
is_asked words (profile d j n) h = ap asked_by h.1 ∙ ap (λ m. Some (profile d j m)) h.2.value
is_asked words (weave d j n l) h = ap asked_by h.1 ∙ ap (λ m. Some (weave d j m l)) h.2.value

-- words ask for one command
pub one_command : (words : List (List ℕ)) (a b : Asked) → Asks words a → Asks words b → a ≡ b
one_command words a b h i =
    let first = is_asked words a h in
    let second = is_asked words b i in
    cc

-- a list with two items is those at its first two indices
pub two_items : {X : Type 0} (xs : List X) (a b : X) → 2 ≤ length xs → length xs < 3 → a ≡ slice_index_or xs 0 a → b ≡ slice_index_or xs 1 b → xs ≡ a ∷ b ∷ []
two_items [] a b least most ea eb = absurd (grind arith)
two_items (w ∷ []) a b least most ea eb = absurd (grind arith)
two_items (w ∷ x ∷ []) a b least most ea eb = cc
two_items (w ∷ x ∷ y ∷ xs) a b least most ea eb = absurd (grind arith)

-- words that ask for a woven run have a list, those that ask for a profile a budget
pub is_possible : (words : List (List ℕ)) (command : Asked) → Asks words command → IsPossible command
is_possible words (compile design) asks = tt
is_possible words (interp design json budget) asks = tt
is_possible words (check design) asks = tt
is_possible words (sim verilog json budget) asks = tt
is_possible words (trial seed) asks = tt
is_possible words (share design) asks = tt
is_possible words (promote design) asks = tt
is_possible words (instrument design) asks = tt
is_possible words (profile design json budget) asks = asks.2.limit
is_possible words (weave design json steps list) asks = asks.3

-- the words of a woven run, where the last is a list and where it is none
pub weaves_as : (words : List (List ℕ)) (design json digits list : List ℕ) (steps : ℕ) (r : Option Command) → words ≡ codes "weave" ∷ design ∷ json ∷ digits ∷ list ∷ [] → IsBudget digits steps
    → MatchOption r (IsList list → ⊥) (λ command. IsList list × (asked_of command ≡ weave design json steps list))
    → MatchOption r ((d j : List ℕ) (s : ℕ) (l : List ℕ) → Asks words (weave d j s l) → ⊥) (λ command. Asks words (asked_of command))
weaves_as words design json digits list steps None spelled budget never = λ d j s l asks.
    let other = asks.1 in
    let same : l ≡ list = cc in
    never (subst IsList same asks.3)
weaves_as words design json digits list steps (Some command) spelled budget (is, e) = subst (Asks words) (sym e) (digits, spelled, budget, is)
