-- Names that come one after another, none of them twice.
use Rattle.std.proofs.Common.{◌≡◌, ℕ, zero, suc, List, [], ◌∷◌, ◌++◌, Bool, true, false, ◌||◌, map, Some, slice_get, option_map, refl, ap, sym, ◌∙◌, subst, append_assoc, append-nil}
use Rattle.std.proofs.lemmas.Bool.{or_parts, or_left, or_right, or_from, both_ways, false_from_ne_true}
use Rattle.std.proofs.lemmas.Option.{slice_get-map}
use Rattle.cx_vtree.specs.Plain.{PlainDecl, WireOf, RegisterOf, ArrayOf}
use Rattle.cx_vtree.specs.InstanceTree.{same_name, declared_nets, declared_arrays}
use Rattle.cx_vtree.specs.Sound.{has_name, decl_name}
use Rattle.cx_vlaws.specs.Names.{AreApart}
use Rattle.cx_text.proofs.BoolLaws.{or_second}
use Rattle.cx_vtree.proofs.InstanceTreeLemmas.{is_same, same_is, same_self}

-- whether a name is among two lists
pub has-append : (xs ys : List (List ℕ)) (n : List ℕ) → has_name (xs ++ ys) n ≡ (has_name xs n || has_name ys n)
has-append [] ys n = refl
has-append (x ∷ xs) ys n = ap (λ b. same_name x n || b) (has-append xs ys n) ∙ or-assoc (same_name x n) (has_name xs n) (has_name ys n)
  where
    or-assoc : (a b c : Bool) → (a || (b || c)) ≡ ((a || b) || c)
    or-assoc true b c = refl
    or-assoc false b c = refl

pub has_left : (xs ys : List (List ℕ)) (n : List ℕ) → has_name xs n ≡ true → has_name (xs ++ ys) n ≡ true
has_left xs ys n e = has-append xs ys n ∙ or_left (has_name xs n) (has_name ys n) e

pub has_right : (xs ys : List (List ℕ)) (n : List ℕ) → has_name ys n ≡ true → has_name (xs ++ ys) n ≡ true
has_right xs ys n e = has-append xs ys n ∙ or_right (has_name xs n) (has_name ys n) e

pub has_neither : (xs ys : List (List ℕ)) (n : List ℕ) → has_name (xs ++ ys) n ≡ false → (has_name xs n ≡ false) × (has_name ys n ≡ false)
has_neither xs ys n e = or_parts (has_name xs n) (has_name ys n) (sym (has-append xs ys n) ∙ e)

pub has_at : (xs : List (List ℕ)) (k : ℕ) (n : List ℕ) → slice_get xs k ≡ Some n → has_name xs n ≡ true
has_at [] k n e = absurd (cc)
has_at (x ∷ xs) zero n e = let same : x ≡ n = cc in or_left (same_name x n) (has_name xs n) (is_same x n same)
has_at (x ∷ xs) (suc k) n e = or_right (same_name x n) (has_name xs n) (has_at xs k n e)

-- the name of a part is among those of all
pub has_each : {A : Type 0} (name : A → List ℕ) (xs : List A) (k : ℕ) (x : A) → slice_get xs k ≡ Some x → has_name (map name xs) (name x) ≡ true
has_each name xs k x e = has_at (map name xs) k (name x) (slice_get-map name xs k ∙ ap (option_map name) e)

pub at_has : (xs : List (List ℕ)) (n : List ℕ) → has_name xs n ≡ true → (k : ℕ) × (slice_get xs k ≡ Some n)
at_has [] n e = absurd (cc)
at_has (x ∷ xs) n e = go (same_name x n) refl e (at_has xs n) where
  go : (same : Bool) → same_name x n ≡ same → (same || has_name xs n) ≡ true → (has_name xs n ≡ true → (k : ℕ) × (slice_get xs k ≡ Some n)) → (k : ℕ) × (slice_get (x ∷ xs) k ≡ Some n)
  go true is h next = (zero, ap Some (same_is x n is))
  go false is h next = let later = next h in (suc later.0, later.1)

-- each of the names is none of those before it
abbrev pub Fresh : List (List ℕ) → List (List ℕ) → Type 0
Fresh earlier [] = Unit {0}
Fresh earlier (n ∷ ns) = (has_name earlier n ≡ false) × Fresh (earlier ++ n ∷ []) ns

-- one that was there before is none of them
pub fresh_not : (earlier ns : List (List ℕ)) (n : List ℕ) → Fresh earlier ns → has_name earlier n ≡ true → has_name ns n ≡ false
fresh_not earlier [] n f e = refl
fresh_not earlier (x ∷ xs) n f e =
    or_from (same_name x n) (has_name xs n)
    (false_from_ne_true (same_name x n) (λ same. both_ways (has_name earlier x) f.0 (subst (λ m. has_name earlier m ≡ true) (sym (same_is x n same)) e)))
    (fresh_not (earlier ++ x ∷ []) xs n f.1 (has_left earlier (x ∷ []) n e))

-- the first is none of the others
pub fresh_head : (earlier ns : List (List ℕ)) (n : List ℕ) → Fresh (earlier ++ n ∷ []) ns → has_name ns n ≡ false
fresh_head earlier ns n f = fresh_not (earlier ++ n ∷ []) ns n f (has_right earlier (n ∷ []) n (or_left (same_name n n) false (same_self n)))

pub fresh_left : (earlier xs ys : List (List ℕ)) → Fresh earlier (xs ++ ys) → Fresh earlier xs
fresh_left earlier [] ys f = tt
fresh_left earlier (x ∷ xs) ys f = (f.0, fresh_left (earlier ++ x ∷ []) xs ys f.1)

pub fresh_right : (earlier xs ys : List (List ℕ)) → Fresh earlier (xs ++ ys) → Fresh (earlier ++ xs) ys
fresh_right earlier [] ys f = subst (λ e. Fresh e ys) (sym (append-nil earlier)) f
fresh_right earlier (x ∷ xs) ys f = subst (λ e. Fresh e ys) (append_assoc earlier (x ∷ []) xs) (fresh_right (earlier ++ x ∷ []) xs ys f.1)

pub fresh_both : (earlier xs ys : List (List ℕ)) → Fresh earlier xs → Fresh (earlier ++ xs) ys → Fresh earlier (xs ++ ys)
fresh_both earlier [] ys f g = subst (λ e. Fresh e ys) (append-nil earlier) g
fresh_both earlier (x ∷ xs) ys f g =
    (f.0, fresh_both (earlier ++ x ∷ []) xs ys f.1 (subst (λ e. Fresh e ys) (sym (append_assoc earlier (x ∷ []) xs)) g))

-- what is among the first is not among the second
pub fresh_sides : (earlier xs ys : List (List ℕ)) (n : List ℕ) → Fresh earlier (xs ++ ys) → has_name xs n ≡ true → has_name ys n ≡ false
fresh_sides earlier xs ys n f e = fresh_not (earlier ++ xs) ys n (fresh_right earlier xs ys f) (has_right earlier xs n e)

pub fresh_apart : (earlier ns : List (List ℕ)) → Fresh earlier ns → AreApart ns
fresh_apart earlier [] f j k n e g = absurd (cc)
fresh_apart earlier (x ∷ xs) f zero zero n e g = refl
fresh_apart earlier (x ∷ xs) f zero (suc k) n e g =
    let same : x ≡ n = cc in
    absurd (both_ways (has_name xs n) (subst (λ m. has_name xs m ≡ false) same (fresh_head earlier xs x f.1)) (has_at xs k n g))
fresh_apart earlier (x ∷ xs) f (suc j) zero n e g =
    let same : x ≡ n = cc in
    absurd (both_ways (has_name xs n) (subst (λ m. has_name xs m ≡ false) same (fresh_head earlier xs x f.1)) (has_at xs j n e))
fresh_apart earlier (x ∷ xs) f (suc j) (suc k) n e g = ap suc (fresh_apart (earlier ++ x ∷ []) xs f.1 j k n e g)

-- what one list has the other has too
abbrev pub Within : List (List ℕ) → List (List ℕ) → Type 0
Within less more = (n : List ℕ) → has_name less n ≡ true → has_name more n ≡ true

pub within_out : (less more : List (List ℕ)) (n : List ℕ) → Within less more → has_name more n ≡ false → has_name less n ≡ false
within_out less more n w e = false_from_ne_true (has_name less n) (λ h. both_ways (has_name more n) e (w n h))

pub within_next : (less more : List (List ℕ)) (n : List ℕ) → Within less more → Within (less ++ n ∷ []) (more ++ n ∷ [])
within_next less more n w m h = go (has_name less m) refl (sym (has-append less (n ∷ []) m) ∙ h) where
  go : (b : Bool) → has_name less m ≡ b → (b || has_name (n ∷ []) m) ≡ true → has_name (more ++ n ∷ []) m ≡ true
  go true is e = has_left more (n ∷ []) m (w m is)
  go false is e = has_right more (n ∷ []) m e

pub within_more : (less more : List (List ℕ)) (n : List ℕ) → Within less more → Within less (more ++ n ∷ [])
within_more less more n w m h = has_left more (n ∷ []) m (w m h)

-- of the declared names those of nets, and those of arrays
pub fresh-nets : (less more : List (List ℕ)) (ds : List PlainDecl) → Within less more → Fresh more (map decl_name ds) → Fresh less (declared_nets ds)
fresh-nets less more [] w f = tt
fresh-nets less more (WireOf n v ∷ ds) w f = (within_out less more n w f.0, fresh-nets (less ++ n ∷ []) (more ++ n ∷ []) ds (within_next less more n w) f.1)
fresh-nets less more (RegisterOf n v ∷ ds) w f = (within_out less more n w f.0, fresh-nets (less ++ n ∷ []) (more ++ n ∷ []) ds (within_next less more n w) f.1)
fresh-nets less more (ArrayOf n v k ∷ ds) w f = fresh-nets less (more ++ n ∷ []) ds (within_more less more n w) f.1

pub fresh-arrays : (less more : List (List ℕ)) (ds : List PlainDecl) → Within less more → Fresh more (map decl_name ds) → Fresh less (declared_arrays ds)
fresh-arrays less more [] w f = tt
fresh-arrays less more (WireOf n v ∷ ds) w f = fresh-arrays less (more ++ n ∷ []) ds (within_more less more n w) f.1
fresh-arrays less more (RegisterOf n v ∷ ds) w f = fresh-arrays less (more ++ n ∷ []) ds (within_more less more n w) f.1
fresh-arrays less more (ArrayOf n v k ∷ ds) w f = (within_out less more n w f.0, fresh-arrays (less ++ n ∷ []) (more ++ n ∷ []) ds (within_next less more n w) f.1)

-- a net is declared
pub declared-net : (ds : List PlainDecl) (n : List ℕ) → has_name (declared_nets ds) n ≡ true → has_name (map decl_name ds) n ≡ true
declared-net [] n e = e
declared-net (WireOf x w ∷ ds) n e = or_second (same_name x n) (has_name (declared_nets ds) n) (has_name (map decl_name ds) n) (declared-net ds n) e
declared-net (RegisterOf x w ∷ ds) n e = or_second (same_name x n) (has_name (declared_nets ds) n) (has_name (map decl_name ds) n) (declared-net ds n) e
declared-net (ArrayOf x w k ∷ ds) n e = or_right (same_name x n) (has_name (map decl_name ds) n) (declared-net ds n e)
