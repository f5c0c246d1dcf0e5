-- The tree of reading is the tokens' tree, and there is no other.
use Rattle.std.proofs.Common.{◌≡◌, ℕ, ◌+◌, ◌-◌, List, [], ◌∷◌, ◌++◌, length, drop, length-append, Result, Ok, Err, refl, sym, ap, subst, ◌∙◌, arith, ◌⊎◌, inl, inr}
use Rattle.cx_ast.specs.declared.tokens.Token.{Token}
use Rattle.cx_ast.specs.PlainTree.{PlainTree}
use Rattle.cx_grammar.specs.Parsing.{Parse, IsUnexpected, IsDeep}
use Rattle.cx_grammar.specs.Reading.{Unexpected, TooDeep, Stop, Reads, read}
use Rattle.cx_grammar.specs.Calyx.{nested_at, file}
use Rattle.cx_grammar.proofs.OneTree.{parse_sound}
use Rattle.cx_grammar.proofs.OneReading.{one_unexpected, one_deep, not_both, tree_expected, tree_within}
use Rattle.cx_grammar.proofs.Faults.{unexpected_at, over_at, deep_stop, drop-front}
use Rattle.cx_parse.specs.declared.files.ParseFault.{ParseFault}
use Rattle.cx_parse.specs.declared.files.ParseFault.TheVariants as faults
use Rattle.cx_text.specs.declared.places.Place.{Place}
use Rattle.cx_parse.specs.declared.stops.Stop.{Stop as Stopped}
use Rattle.cx_parse.specs.declared.stops.Stop.TheVariants as stops
use Rattle.cx_parse.specs.Readings.{Fails}
use Rattle.cx_parse.specs.Whole.{then_whole, reading, place_at, place_left_of}
use Rattle.cx_parse.specs.Faults.{IsUnexpectedAt, IsTooDeepAt, IsStop, IsFault}

then_ok_of : Result PlainTree Stop → Reads PlainTree
then_ok_of (Ok x) = Ok (x, [])
then_ok_of (Err s) = Err s

no_rest : (r : Reads PlainTree) (t : PlainTree) → then_whole r ≡ Ok t → r ≡ Ok (t, [])
unfolding then_ok_of
no_rest (Ok (x, [])) t e = ap (λ r. then_ok_of r) e
no_rest (Ok (x, u ∷ us)) t e = absurd (cc)
no_rest (Err s) t e = absurd (cc)

pub reading_tree : (ts : List Token) (t : PlainTree) → reading ts ≡ Ok t → Parse ts t
unfolding reading
reading_tree ts t e = parse_sound ts t (no_rest (read (nested_at 64) file ts) t e)

err_same : (s u : Stop) → (let r : Result PlainTree Stop = Err s in r ≡ Err u) → s ≡ u
err_same s u e = cc

unexpected_cases : (ts : List Token) (left : ℕ) (r : Reads PlainTree) → read (nested_at 64) file ts ≡ r → then_whole r ≡ Err (record { why = Unexpected; left = left }) → (front back : List Token) × IsUnexpected ts front back × (length back ≡ left)
unexpected_cases ts left (Err s) is e = unexpected_at ts left (is ∙ ap (λ u. Err u) (err_same s (record { why = Unexpected; left = left }) e))
unexpected_cases ts left (Ok (x, [])) is e = absurd (cc)
unexpected_cases ts left (Ok (x, t ∷ after)) is e =
    let o = over_at ts x t after is in
    (o.0, t ∷ after, o.1, ap (λ (s : Stop). s.left) (err_same (record { why = Unexpected; left = length (t ∷ after) }) (record { why = Unexpected; left = left }) e))

why_differs : (ts : List Token) (left : ℕ) → (let s : Stop = record { why = Unexpected; left = length ts } in s ≡ record { why = TooDeep; left = left }) → ⊥
why_differs ts left e = let f = ap (λ (s : Stop). s.why) e in cc

deep_cases : (ts : List Token) (left : ℕ) (r : Reads PlainTree) → read (nested_at 64) file ts ≡ r → then_whole r ≡ Err (record { why = TooDeep; left = left }) → (front back : List Token) × IsDeep ts front back × (length back ≡ left)
deep_cases ts left (Err s) is e = deep_stop ts left (is ∙ ap (λ u. Err u) (err_same s (record { why = TooDeep; left = left }) e))
deep_cases ts left (Ok (x, [])) is e = absurd (cc)
deep_cases ts left (Ok (x, t ∷ after)) is e = absurd (why_differs (t ∷ after) left (err_same (record { why = Unexpected; left = length (t ∷ after) }) (record { why = TooDeep; left = left }) e))

-- so many tokens are left
pub drop_back : (ts front back : List Token) (left : ℕ) → ts ≡ front ++ back → length back ≡ left → drop (length ts - left) ts ≡ back
drop_back ts front back left whole count =
    let all : length ts ≡ length front + length back = ap length whole ∙ length-append front back in
    let before : length ts - left ≡ length front = omega arith in
    ap (λ n. drop n ts) before ∙ ap (drop (length front)) whole ∙ drop-front front back

place_back : (ts front back : List Token) (left : ℕ) → ts ≡ front ++ back → length back ≡ left → place_left_of ts left ≡ place_at back ts
place_back ts front back left whole count = ap (λ s. place_at s ts) (drop_back ts front back left whole count)

unexpected_reading : (ts : List Token) (left : ℕ) → reading ts ≡ Err (record { why = Unexpected; left = left }) → (front back : List Token) × IsUnexpected ts front back × (length back ≡ left)
unfolding reading
unexpected_reading ts left e = unexpected_cases ts left (read (nested_at 64) file ts) refl e

deep_reading : (ts : List Token) (left : ℕ) → reading ts ≡ Err (record { why = TooDeep; left = left }) → (front back : List Token) × IsDeep ts front back × (length back ≡ left)
unfolding reading
deep_reading ts left e = deep_cases ts left (read (nested_at 64) file ts) refl e

-- what reading comes to
pub stopped : (ts : List Token) (e : Stopped) → Fails {Y = PlainTree} e (reading ts) → (e ≡ stops.Memory) ⊎ IsStop ts e
stopped ts (stops.Unexpected left) f = inr (unexpected_reading ts left f)
stopped ts (stops.TooDeep left) f = inr (deep_reading ts left f)
stopped ts stops.Memory f = inl refl

pub tree_no_stop : (ts : List Token) (tree : PlainTree) (e : Stopped) → Parse ts tree → IsStop ts e → ⊥
tree_no_stop ts tree (stops.Unexpected left) p k = tree_expected ts tree k.0 k.1 p k.2
tree_no_stop ts tree (stops.TooDeep left) p k = tree_within ts tree k.0 k.1 p k.2
tree_no_stop ts tree stops.Memory p k = k

pub one_stop : (ts : List Token) (e f : Stopped) → IsStop ts e → IsStop ts f → e ≡ f
one_stop ts (stops.Unexpected left) (stops.Unexpected other) k l = ap (λ n. stops.Unexpected n) (sym k.3 ∙ ap length (one_unexpected ts k.0 k.1 l.0 l.1 k.2 l.2).1 ∙ l.3)
one_stop ts (stops.Unexpected left) (stops.TooDeep other) k l = absurd (not_both ts k.0 k.1 l.0 l.1 k.2 l.2)
one_stop ts (stops.TooDeep left) (stops.Unexpected other) k l = absurd (not_both ts l.0 l.1 k.0 k.1 l.2 k.2)
one_stop ts (stops.TooDeep left) (stops.TooDeep other) k l = ap (λ n. stops.TooDeep n) (sym k.3 ∙ ap length (one_deep ts k.0 k.1 l.0 l.1 k.2 l.2).1 ∙ l.3)
one_stop ts stops.Memory f k l = absurd k
one_stop ts (stops.Unexpected left) stops.Memory k l = absurd l
one_stop ts (stops.TooDeep left) stops.Memory k l = absurd l

-- a stop is a fault at its place
pub told_unexpected : (ts : List Token) (stop : Stopped) (left : ℕ) (place : Place) → stop ≡ stops.Unexpected left → ((stop ≡ stops.Memory) ⊎ IsStop ts stop) → place ≡ place_left_of ts left → IsUnexpectedAt ts place
told_unexpected ts stop left place e (inl memory) is = absurd (cc)
told_unexpected ts stop left place e (inr k) is = let l : IsStop ts (stops.Unexpected left) = subst (IsStop ts) e k in (l.0, l.1, l.2, is ∙ place_back ts l.0 l.1 left l.2.whole l.3)

pub told_deep : (ts : List Token) (stop : Stopped) (left : ℕ) (place : Place) → stop ≡ stops.TooDeep left → ((stop ≡ stops.Memory) ⊎ IsStop ts stop) → place ≡ place_left_of ts left → IsTooDeepAt ts place
told_deep ts stop left place e (inl memory) is = absurd (cc)
told_deep ts stop left place e (inr k) is = let l : IsStop ts (stops.TooDeep left) = subst (IsStop ts) e k in (l.0, l.1, l.2, is ∙ place_back ts l.0 l.1 left l.2.whole l.3)

pub tree_no_fault : (ts : List Token) (tree : PlainTree) (e : ParseFault) → Parse ts tree → IsFault ts e → ⊥
tree_no_fault ts tree (faults.Unexpected place) p k = tree_expected ts tree k.0 k.1 p k.2
tree_no_fault ts tree (faults.TooDeep place) p k = tree_within ts tree k.0 k.1 p k.2
tree_no_fault ts tree faults.Memory p k = k

pub one_fault : (ts : List Token) (e f : ParseFault) → IsFault ts e → IsFault ts f → e ≡ f
one_fault ts (faults.Unexpected place) (faults.Unexpected other) k l = ap (λ p. faults.Unexpected p) (k.3 ∙ ap (λ us. place_at us ts) (one_unexpected ts k.0 k.1 l.0 l.1 k.2 l.2).1 ∙ sym l.3)
one_fault ts (faults.Unexpected place) (faults.TooDeep other) k l = absurd (not_both ts k.0 k.1 l.0 l.1 k.2 l.2)
one_fault ts (faults.TooDeep place) (faults.Unexpected other) k l = absurd (not_both ts l.0 l.1 k.0 k.1 l.2 k.2)
one_fault ts (faults.TooDeep place) (faults.TooDeep other) k l = ap (λ p. faults.TooDeep p) (k.3 ∙ ap (λ us. place_at us ts) (one_deep ts k.0 k.1 l.0 l.1 k.2 l.2).1 ∙ sym l.3)
one_fault ts faults.Memory f k l = absurd k
one_fault ts (faults.Unexpected place) faults.Memory k l = absurd l
one_fault ts (faults.TooDeep place) faults.Memory k l = absurd l
