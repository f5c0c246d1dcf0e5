-- Two first breaks of one design are the same.
use Rattle.std.proofs.Common.{◌≡◌, ℕ, zero, suc, ◌<◌, ◌≤◌, Bool, true, false, inl, inr, ◌⊎◌, List, [], ◌∷◌, length, get_or, refl, sym, ap, ◌∙◌, subst, arith}
use Rattle.std.proofs.lemmas.Bool.{cases_lt}
use Rattle.cx_text.specs.declared.places.Place.{Place}
use Rattle.cx_text.specs.declared.diagnostics.Diagnostic.{Diagnostic}
use Rattle.cx_text.specs.declared.rules.Rule.{Rule}
use Rattle.cx_text.specs.declared.rules.Rule.TheVariants.{BadByte, OpenComment, OpenString, BadLiteral, Unexpected, TooDeep, Duplicate, UnknownName, UnknownPrimitive, BadParameters, Recursive, NoMain, LeftOut, Width, GuardWidth, Literal, NotATarget, NotASource, NoDone, DoneNotState, AlwaysEnable, CombEnable, StaticGuard, StaticShape, CallShape, OutputNotState, CombCycle, Race, Limit, TooLarge}
use Rattle.cx_meaning.specs.Designs.{PlainDesign}
use Rattle.cx_rules.specs.Accepted.{Breaks, number_of, part_key, key_of, comes_before, IsFirstOf, FirstBreak}
use Rattle.cx_rules.specs.Spots.{Part, Itself, ABind, AnAssign, AStatement, AGroup, Whole, Spot}
use Rattle.cx_rules.specs.OneBreak.{IsPlaced}
use Rattle.cx_rules.proofs.KeyOrder.{before_less, before_equal}
use Rattle.cx_rules.proofs.BreakNames.{names_of}

-- KEYS of breaks are equal where neither comes before the other
same_key : (xs ys : List ℕ) → length xs ≡ length ys → comes_before xs ys ≡ false → comes_before ys xs ≡ false → xs ≡ ys
same_key [] [] l h k = refl
same_key [] (y ∷ ys) l h k = absurd (omega arith)
same_key (x ∷ xs) [] l h k = absurd (omega arith)
same_key (x ∷ xs) (y ∷ ys) l h k = by (same_key xs ys (let e : suc (length xs) ≡ suc (length ys) = l in omega arith)) (cases_lt x y) (cases_lt y x)
  where
    contra : (b : Bool) → b ≡ true → b ≡ false → ⊥
    contra true e f = let g : true ≡ false = f in cc
    contra false e f = let g : false ≡ true = e in cc

    rest : (zs ws : List ℕ) → x ≡ y → comes_before (x ∷ zs) (y ∷ ws) ≡ false → comes_before zs ws ≡ false
    rest zs ws e f = off (comes_before zs ws) (λ g. contra (comes_before (x ∷ zs) (y ∷ ws)) (subst (λ n. comes_before (x ∷ zs) (n ∷ ws) ≡ true) e (before_equal x zs ws g)) f)
      where
        off : (b : Bool) → (b ≡ true → ⊥) → b ≡ false
        off true h = absurd (h refl)
        off false h = refl

    rest_back : (zs ws : List ℕ) → x ≡ y → comes_before (y ∷ zs) (x ∷ ws) ≡ false → comes_before zs ws ≡ false
    rest_back zs ws e f = off (comes_before zs ws) (λ g. contra (comes_before (y ∷ zs) (x ∷ ws)) (subst (λ n. comes_before (y ∷ zs) (n ∷ ws) ≡ true) (sym e) (before_equal y zs ws g)) f)
      where
        off : (b : Bool) → (b ≡ true → ⊥) → b ≡ false
        off true h = absurd (h refl)
        off false h = refl

    equal : x ≡ y → (comes_before xs ys ≡ false → comes_before ys xs ≡ false → xs ≡ ys) → (x ∷ xs) ≡ (y ∷ ys)
    equal e deep = let d : xs ≡ ys = deep (rest xs ys e h) (rest_back ys xs e k) in cc

    by : (comes_before xs ys ≡ false → comes_before ys xs ≡ false → xs ≡ ys) → (x < y) ⊎ (y ≤ x) → (y < x) ⊎ (x ≤ y) → (x ∷ xs) ≡ (y ∷ ys)
    by deep (inl lt) b = absurd (contra (comes_before (x ∷ xs) (y ∷ ys)) (before_less x y xs ys lt) h)
    by deep (inr ge) (inl lt) = absurd (contra (comes_before (y ∷ ys) (x ∷ xs)) (before_less y x ys xs lt) k)
    by deep (inr ge) (inr le) = equal (omega arith) deep

-- the rule of a number, and the part of a key
abbrev all_rules : List Rule
all_rules = BadByte ∷ BadByte ∷ OpenComment ∷ OpenString ∷ BadLiteral ∷ Unexpected ∷ TooDeep ∷ Duplicate ∷ UnknownName ∷ UnknownPrimitive ∷ BadParameters ∷ Recursive ∷ NoMain ∷ LeftOut ∷ Width ∷ GuardWidth ∷ Literal ∷ NotATarget ∷ NotASource ∷ NoDone ∷ DoneNotState ∷ AlwaysEnable ∷ CombEnable ∷ StaticGuard ∷ StaticShape ∷ CallShape ∷ OutputNotState ∷ CombCycle ∷ Race ∷ Limit ∷ TooLarge ∷ []

abbrev rule_at : ℕ → Rule
rule_at n = get_or all_rules n BadByte

rule_at-number_of : (r : Rule) → rule_at (number_of r) ≡ r
rule_at-number_of BadByte = refl
rule_at-number_of OpenComment = refl
rule_at-number_of OpenString = refl
rule_at-number_of BadLiteral = refl
rule_at-number_of Unexpected = refl
rule_at-number_of TooDeep = refl
rule_at-number_of Duplicate = refl
rule_at-number_of UnknownName = refl
rule_at-number_of UnknownPrimitive = refl
rule_at-number_of BadParameters = refl
rule_at-number_of Recursive = refl
rule_at-number_of NoMain = refl
rule_at-number_of LeftOut = refl
rule_at-number_of Width = refl
rule_at-number_of GuardWidth = refl
rule_at-number_of Literal = refl
rule_at-number_of NotATarget = refl
rule_at-number_of NotASource = refl
rule_at-number_of NoDone = refl
rule_at-number_of DoneNotState = refl
rule_at-number_of AlwaysEnable = refl
rule_at-number_of CombEnable = refl
rule_at-number_of StaticGuard = refl
rule_at-number_of StaticShape = refl
rule_at-number_of CallShape = refl
rule_at-number_of OutputNotState = refl
rule_at-number_of CombCycle = refl
rule_at-number_of Race = refl
rule_at-number_of Limit = refl
rule_at-number_of TooLarge = refl

abbrev part_at : List ℕ → Part
part_at (zero ∷ n ∷ rest) = Itself n
part_at (suc zero ∷ n ∷ rest) = ABind n
part_at (suc (suc zero) ∷ n ∷ rest) = AnAssign n
part_at (suc (suc (suc zero)) ∷ n ∷ rest) = AStatement n
part_at (suc (suc (suc (suc zero))) ∷ n ∷ rest) = AGroup n
part_at (suc (suc (suc (suc (suc k)))) ∷ n ∷ rest) = Whole n
part_at _ = AnAssign 0

part_at-part_key : (p : Part) → part_at (part_key p) ≡ p
part_at-part_key (Itself n) = refl
part_at-part_key (ABind n) = refl
part_at-part_key (AnAssign n) = refl
part_at-part_key (AStatement n) = refl
part_at-part_key (AGroup n) = refl
part_at-part_key (Whole n) = refl

key_length : (r : Rule) (s : Spot) (p : Place) → length (key_of r s p) ≡ 6
key_length r s p = by s.part
  where
    by : (q : Part) → length (p.line ∷ p.column ∷ number_of r ∷ s.component ∷ part_key q) ≡ 6
    by (Itself n) = refl
    by (ABind n) = refl
    by (AnAssign n) = refl
    by (AStatement n) = refl
    by (AGroup n) = refl
    by (Whole n) = refl

-- THE FIRST BREAK IS ONE
same_stage : (d : PlainDesign) (a b : Diagnostic) (fa : FirstBreak d a) (fb : FirstBreak d b) → fa.stage ≡ fb.stage
same_stage d a b fa fb = by (cases_lt fa.stage fb.stage) (cases_lt fb.stage fa.stage)
  where
    by : (fa.stage < fb.stage) ⊎ (fb.stage ≤ fa.stage) → (fb.stage < fa.stage) ⊎ (fa.stage ≤ fb.stage) → fa.stage ≡ fb.stage
    by (inl lt) o = absurd (fb.earlier fa.stage lt a.rule fa.first.spot a.place a.name fa.first.in_stage fa.first.breaks)
    by (inr ge) (inl lt) = absurd (fa.earlier fb.stage lt b.rule fb.first.spot b.place b.name fb.first.in_stage fb.first.breaks)
    by (inr ge) (inr le) = omega arith

-- two first breaks of a stage have one key
first_key : (d : PlainDesign) (stage : ℕ) (a b : Diagnostic) (fa : IsFirstOf stage d a) (fb : IsFirstOf stage d b) → key_of a.rule fa.spot a.place ≡ key_of b.rule fb.spot b.place
first_key d stage a b fa fb =
    same_key (key_of a.rule fa.spot a.place) (key_of b.rule fb.spot b.place) (key_length a.rule fa.spot a.place ∙ sym (key_length b.rule fb.spot b.place))
    (fb.first a.rule fa.spot a.place a.name fa.in_stage fa.breaks) (fa.first b.rule fb.spot b.place b.name fb.in_stage fb.breaks)

record SameKey (a b : Diagnostic) (s t : Spot) : Type 0 where
  line : a.place.line ≡ b.place.line
  column : a.place.column ≡ b.place.column
  number : number_of a.rule ≡ number_of b.rule
  component : s.component ≡ t.component
  part : part_key s.part ≡ part_key t.part

key_parts : (a b : Diagnostic) (s t : Spot) → key_of a.rule s a.place ≡ key_of b.rule t b.place → SameKey a b s t
key_parts a b s t e = record { line = cc; column = cc; number = cc; component = cc; part = cc }

pub one_rule : (d : PlainDesign) (stage : ℕ) (a b : Diagnostic) → IsFirstOf stage d a → IsFirstOf stage d b → a.rule ≡ b.rule
one_rule d stage a b fa fb =
    let k : SameKey a b fa.spot fb.spot = key_parts a b fa.spot fb.spot (first_key d stage a b fa fb) in
    sym (rule_at-number_of a.rule) ∙ ap rule_at k.number ∙ rule_at-number_of b.rule

pub one_place : (d : PlainDesign) (stage : ℕ) (a b : Diagnostic) → IsFirstOf stage d a → IsFirstOf stage d b → a.place ≡ b.place
one_place d stage a b fa fb =
    let k : SameKey a b fa.spot fb.spot = key_parts a b fa.spot fb.spot (first_key d stage a b fa fb) in
    λ i. record { line = k.line i; column = k.column i }

one_spot : (d : PlainDesign) (stage : ℕ) (a b : Diagnostic) (fa : IsFirstOf stage d a) (fb : IsFirstOf stage d b) → fa.spot ≡ fb.spot
one_spot d stage a b fa fb =
    let k : SameKey a b fa.spot fb.spot = key_parts a b fa.spot fb.spot (first_key d stage a b fa fb) in
    let p : fa.spot.part ≡ fb.spot.part = sym (part_at-part_key fa.spot.part) ∙ ap part_at k.part ∙ part_at-part_key fb.spot.part in
    λ i. record { component = k.component i; part = p i }

pub one_name : (d : PlainDesign) (stage : ℕ) (a b : Diagnostic) → (a.rule ≡ NotASource → IsPlaced d) → IsFirstOf stage d a → IsFirstOf stage d b → a.name ≡ b.name
one_name d stage a b placed fa fb =
    names_of d fa.spot a.place a.name b.name a.rule placed fa.breaks
    (subst (λ r. Breaks d r fa.spot a.place b.name) (sym (one_rule d stage a b fa fb))
    (subst (λ p. Breaks d b.rule fa.spot p b.name) (sym (one_place d stage a b fa fb))
    (subst (λ s. Breaks d b.rule s b.place b.name) (sym (one_spot d stage a b fa fb)) fb.breaks)))

-- and two first breaks of the design
pub one_break : (d : PlainDesign) (a b : Diagnostic) → FirstBreak d a → FirstBreak d b → (a.rule ≡ b.rule) × (a.place ≡ b.place)
one_break d a b fa fb =
    let other : IsFirstOf fa.stage d b = subst (λ s. IsFirstOf s d b) (sym (same_stage d a b fa fb)) fb.first in
    (one_rule d fa.stage a b fa.first other, one_place d fa.stage a b fa.first other)

pub one_break_name : (d : PlainDesign) (a b : Diagnostic) → (a.rule ≡ NotASource → IsPlaced d) → FirstBreak d a → FirstBreak d b → a.name ≡ b.name
one_break_name d a b placed fa fb =
    one_name d fa.stage a b placed fa.first (subst (λ s. IsFirstOf s d b) (sym (same_stage d a b fa fb)) fb.first)
