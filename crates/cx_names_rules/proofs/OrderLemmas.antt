-- The first break of a list, found from the front, is that of the definition.
use Rattle.std.proofs.Common.{◌≡◌, ℕ, Bool, true, false, ◌&&◌, ◌||◌, List, [], ◌∷◌, Option, Some, None, cond, nat_lt, nat_eq, refl, sym, ap, ◌∙◌, arith}
use Rattle.std.proofs.lemmas.Bool.Decides.{nat_tests}
use Rattle.cx_text.specs.declared.diagnostics.Diagnostic.{Diagnostic}
use Rattle.cx_rules.specs.Accepted.{comes_before, number_of}
use Rattle.cx_numbering.specs.NameRules.{key_of, earlier, first_break}
use Rattle.cx_names_rules.specs.Found.{first_of}

-- two numbers, and where they are equal what comes behind
abbrev lex : ℕ → ℕ → Bool → Bool
lex a b p = nat_lt a b || (nat_eq a b && p)

lex_chain : (a b c : ℕ) (p q r : Bool) → (p ≡ true → q ≡ true → r ≡ true) → lex a b p ≡ true → lex b c q ≡ true → lex a c r ≡ true
lex_chain a b c true true r h x y = let e : r ≡ true = h refl refl in grind (arith, nat_tests)
lex_chain a b c true false r h x y = grind (arith, nat_tests)
lex_chain a b c false true r h x y = grind (arith, nat_tests)
lex_chain a b c false false r h x y = grind (arith, nat_tests)

lex_level : (a b c : ℕ) (p q r : Bool) → (p ≡ false → q ≡ false → r ≡ false) → lex a b p ≡ false → lex b c q ≡ false → lex a c r ≡ false
lex_level a b c false false r h x y = let e : r ≡ false = h refl refl in grind (arith, nat_tests)
lex_level a b c true false r h x y = grind (arith, nat_tests)
lex_level a b c false true r h x y = grind (arith, nat_tests)
lex_level a b c true true r h x y = grind (arith, nat_tests)

abbrev before : Diagnostic → Diagnostic → Bool
before d e = comes_before (key_of d) (key_of e)

chain : (d e g : Diagnostic) → before d e ≡ true → before e g ≡ true → before d g ≡ true
chain d e g =
    lex_chain d.place.line e.place.line g.place.line _ _ _
    (lex_chain d.place.column e.place.column g.place.column _ _ _
    (lex_chain (number_of d.rule) (number_of e.rule) (number_of g.rule) false false false (λ p q. p)))

level : (d e g : Diagnostic) → before d e ≡ false → before e g ≡ false → before d g ≡ false
level d e g =
    lex_level d.place.line e.place.line g.place.line _ _ _
    (lex_level d.place.column e.place.column g.place.column _ _ _
    (lex_level (number_of d.rule) (number_of e.rule) (number_of g.rule) false false false (λ p q. p)))

-- a break kept before the breaks behind
kept_earlier : (e d : Diagnostic) (m : Option Diagnostic) (b : Bool) → before d e ≡ b → earlier (cond b d e) m ≡ earlier e (earlier d m)
kept_earlier e d None b p = by b p
  where
    by : (b : Bool) → before d e ≡ b → Some (cond b d e) ≡ cond (before d e) (Some d) (Some e)
    by true p = ap (λ x. cond x (Some d) (Some e)) (sym p)
    by false p = ap (λ x. cond x (Some d) (Some e)) (sym p)
kept_earlier e d (Some x) b p = by b (before x d) (before x e) p refl refl
  where
    by : (b y z : Bool) → before d e ≡ b → before x d ≡ y → before x e ≡ z → earlier (cond b d e) (Some x) ≡ earlier e (earlier d (Some x))
    by true true z p q r = ap (λ t. cond t (Some x) (Some d)) q ∙ sym (ap (λ t. earlier e (cond t (Some x) (Some d))) q ∙ ap (λ t. cond t (Some x) (Some e)) (chain x d e q p))
    by true false z p q r = ap (λ t. cond t (Some x) (Some d)) q ∙ sym (ap (λ t. earlier e (cond t (Some x) (Some d))) q ∙ ap (λ t. cond t (Some d) (Some e)) p)
    by false true z p q r = sym (ap (λ t. earlier e (cond t (Some x) (Some d))) q)
    by false false z p q r = ap (λ t. cond t (Some x) (Some e)) (level x d e q p) ∙ sym (ap (λ t. earlier e (cond t (Some x) (Some d))) q ∙ ap (λ t. cond t (Some d) (Some e)) p)

first_behind : (e : Diagnostic) (ds : List Diagnostic) → first_of (Some e) ds ≡ earlier e (first_break ds)
first_behind e [] = refl
first_behind e (d ∷ ds) = by (before d e) refl (first_behind d ds) (first_behind e ds)
  where
    by : (b : Bool) → before d e ≡ b → first_of (Some d) ds ≡ earlier d (first_break ds) → first_of (Some e) ds ≡ earlier e (first_break ds)
        → first_of (cond (before d e) (Some d) (Some e)) ds ≡ earlier e (earlier d (first_break ds))
    by true p h g = ap (λ b. first_of (cond b (Some d) (Some e)) ds) p ∙ h ∙ kept_earlier e d (first_break ds) true p
    by false p h g = ap (λ b. first_of (cond b (Some d) (Some e)) ds) p ∙ g ∙ kept_earlier e d (first_break ds) false p

pub first_of_all : (ds : List Diagnostic) → first_of None ds ≡ first_break ds
first_of_all [] = refl
first_of_all (d ∷ ds) = first_behind d ds
