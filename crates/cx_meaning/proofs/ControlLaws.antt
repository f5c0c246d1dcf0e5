-- Facts of what `Control` defines, that several crates above take.
use Rattle.std.proofs.Common.{◌≡◌, ℕ, true, ◌||◌, inl, inr, List, [], ◌∷◌, ap, ◌∙◌, Bool, false, refl, subst, sym}
use Rattle.std.proofs.lemmas.Bool.{or_right}
use Rattle.cx_text.proofs.MemberLaws.{in_left, in_right}
use Rattle.cx_meaning.specs.Designs.{PlainComponent, PlainStatement, PlainStatements, a_statement, list_of, no_statements}
use Rattle.cx_text.specs.Members.{In}
use Rattle.cx_meaning.specs.Control.{group_drives, groups_drive, groups_in_all, groups_of}

-- GROUPS: what a group of a statement drives the statement drives
pub groups_drive_in : (part : PlainComponent) (gs : List ℕ) (g c : ℕ) → In gs g → group_drives part g c ≡ true → groups_drive part gs c ≡ true
groups_drive_in part [] g c i e = absurd i
groups_drive_in part (h ∷ gs) g c (inl same) e = ap (λ k. group_drives part k c || groups_drive part gs c) same ∙ ap (λ b. b || groups_drive part gs c) e
groups_drive_in part (h ∷ gs) g c (inr i) e = or_right (group_drives part h c) (groups_drive part gs c) (groups_drive_in part gs g c i e)

-- which of the groups drives a cell
pub driver : (part : PlainComponent) (gs : List ℕ) (c : ℕ) → groups_drive part gs c ≡ true → (g : ℕ) × In gs g × (group_drives part g c ≡ true)
driver part [] c e = absurd (cc)
driver part (g ∷ gs) c e = go (group_drives part g c) refl e (driver part gs c)
  where
    go : (b : Bool) → group_drives part g c ≡ b → (b || groups_drive part gs c) ≡ true → (groups_drive part gs c ≡ true → (h : ℕ) × In gs h × (group_drives part h c ≡ true)) → (h : ℕ) × In (g ∷ gs) h × (group_drives part h c ≡ true)
    go true here e later = (g, inl refl, here)
    go false here e later = let r = later e in (r.0, inr r.1, r.2)

pub in_parts : (ss : PlainStatements) (s : PlainStatement) (g : ℕ) → In (list_of ss) s → In (groups_of s) g → In (groups_in_all ss) g
in_parts no_statements s g i j = absurd i
in_parts (a_statement x xs) s g (inl e) j = in_left (groups_of x) (groups_in_all xs) g (subst (λ y. In (groups_of y) g) (sym e) j)
in_parts (a_statement x xs) s g (inr i) j = in_right (groups_of x) (groups_in_all xs) g (in_parts xs s g i j)
