-- Facts of what `Designs` defines, that several crates above take.
use Rattle.std.proofs.Common.{◌≡◌, ℕ, zero, suc, refl, ◌<◌, ⊎_elim, length, subst, ◌≤◌, true, false, sym, ap, ◌∙◌, List, [], ◌∷◌, ◌++◌, Some, get_or, slice_get, arith, inl, inr, Option}
use Rattle.cx_meaning.specs.Designs.{PlainDesign, component_at, PlainAssign, PlainComponent, group_at, no_group, PlainGroup, PlainStatement, PlainStatements, no_statements, a_statement, statements_of, list_of}
use Rattle.cx_meaning.specs.Instances.{part_of, tree_within}
use Rattle.std.proofs.lemmas.Bool.{cases_lt}
use Rattle.std.proofs.lemmas.List.{get_or_past}
use Rattle.cx_text.specs.Members.{In}
use Rattle.cx_meaning.specs.Control.{assigns_drive, group_drives}
use Rattle.cx_meaning.specs.Active.{owned}
use Rattle.cx_meaning.specs.Designs as plain
use Rattle.cx_meaning.specs.declared.ports.PlacedPort.{PlacedPort}

pub same_part : (d : PlainDesign) (n k : ℕ) → part_of (tree_within d n k) ≡ component_at d k
same_part d zero k = refl
same_part d (suc n) k = refl

pub group_there : (part : PlainComponent) (g : ℕ) (a : PlainAssign) → In (group_at part g).assigns a → g < length part.groups
group_there part g a i = ⊎_elim (λ l. l) (λ l. let none : In no_group.assigns a = subst (λ x. In x.assigns a) (get_or_past part.groups g no_group l) i in absurd none) (cases_lt g (length part.groups))

pub driver_there : (part : PlainComponent) (g c : ℕ) → group_drives part g c ≡ true → g < length part.groups
driver_there part g c e = ⊎_elim
    (λ (less : g < length part.groups). less)
    (λ (past : length part.groups ≤ g). absurd (let none : group_drives part g c ≡ false = ap (λ (x : PlainGroup). assigns_drive x.assigns c) (get_or_past part.groups g no_group past) in let f : true ≡ false = sym e ∙ none in cc))
    (cases_lt g (length part.groups))

pub there_below : (groups : List PlainGroup) (n : ℕ) → n < length groups → slice_get groups n ≡ Some (get_or groups n no_group)
there_below [] n h = absurd (omega (arith, h))
there_below (x ∷ xs) zero h = refl
there_below (x ∷ xs) (suc n) h = there_below xs n (omega (arith, h))

-- statements before others
abbrev pub joined : List PlainStatement → PlainStatements → PlainStatements
joined [] rest = rest
joined (s ∷ ss) rest = a_statement s (joined ss rest)

-- nothing behind them
pub joined_none : (ss : List PlainStatement) → joined ss no_statements ≡ statements_of ss
joined_none [] = refl
joined_none (s ∷ ss) = ap (a_statement s) (joined_none ss)

-- one more before the others
pub joined_more : (ss : List PlainStatement) (s : PlainStatement) (rest : PlainStatements) → joined (ss ++ s ∷ []) rest ≡ joined ss (a_statement s rest)
joined_more [] s rest = refl
joined_more (t ∷ ss) s rest = ap (a_statement t) (joined_more ss s rest)

pub list_again : (ss : List PlainStatement) → list_of (statements_of ss) ≡ ss
list_again [] = refl
list_again (s ∷ ss) = ap (λ l. s ∷ l) (list_again ss)

pub owned_has : (owner : Option ℕ) (list : List PlainAssign) (a : PlainAssign) → In list a → In (owned owner list) (record { owner = owner; assign = a })
owned_has owner [] a i = absurd i
owned_has owner (x ∷ list) a (inl e) = inl (ap (λ y. record { owner = owner; assign = y }) e)
owned_has owner (x ∷ list) a (inr i) = inr (owned_has owner list a i)

-- forms of parts that are the same
pub if_is : {p q : PlacedPort} {c d : Option ℕ} {s t u v : PlainStatement} → p ≡ q → c ≡ d → s ≡ t → u ≡ v → plain.If p c s u ≡ plain.If q d t v
if_is {q = q} {c = c} {d = d} {s = s} {t = t} {u = u} e f g h = ap (λ x. plain.If x c s u) e ∙ ap (λ x. plain.If q x s u) f ∙ ap (λ x. plain.If q d x u) g ∙ ap (plain.If q d t) h

pub while_is : {p q : PlacedPort} {c d : Option ℕ} {s t : PlainStatement} → p ≡ q → c ≡ d → s ≡ t → plain.While p c s ≡ plain.While q d t
while_is {q = q} {c = c} {d = d} {s = s} e f g = ap (λ x. plain.While x c s) e ∙ ap (λ x. plain.While q x s) f ∙ ap (plain.While q d) g

pub static_if_is : {p q : PlacedPort} {s t u v : PlainStatement} (written : Option ℕ) → p ≡ q → s ≡ t → u ≡ v → plain.StaticIf written p s u ≡ plain.StaticIf written q t v
static_if_is {q = q} {s = s} {t = t} {u = u} written e f g = ap (λ x. plain.StaticIf written x s u) e ∙ ap (λ x. plain.StaticIf written q x u) f ∙ ap (plain.StaticIf written q t) g
