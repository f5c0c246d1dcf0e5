-- Numbers of names, and the parts that they name.
use Rattle.std.proofs.Common.{◌≡◌, ℕ, zero, suc, Bool, true, false, cond, is_some, List, [], ◌∷◌, Option, Some, None, map, slice_get, unwrap_or, refl, sym, ap, ◌∙◌, subst, true≢false}
use Rattle.cx_text.proofs.MemberLaws.{in_at}
use Rattle.cx_ast.specs.PlainTree.{PlainComponent, PlainCell}
use Rattle.cx_text.specs.Members.{In}
use Rattle.cx_numbering.specs.Names.{same_name, number_of, later, is_among, cell_among, component_among}
use Rattle.cx_numbering.specs.DesignOf.{number_or_0}
use Rattle.cx_names_scopes.proofs.NameLemmas.{cell_at, part_at}
use Rattle.cx_numbering.proofs.NamesLemmas.{same_name-true, same_name-refl}
use Rattle.cx_names_scopes.specs.Scopes.{at_number}
use Rattle.cx_names.proofs.Base.{Distinct}

pub number_at : (name : List ℕ) (names : List (List ℕ)) (k : ℕ) → number_of name names ≡ Some k → slice_get names k ≡ Some name
number_at name [] k h = absurd cc
number_at name (x ∷ xs) k h = by (same_name x name) (number_of name xs) refl (λ n. number_at name xs n) h
  where
    by : (b : Bool) (o : Option ℕ) → same_name x name ≡ b → ((n : ℕ) → o ≡ Some n → slice_get xs n ≡ Some name) → cond b (Some 0) (later o) ≡ Some k → slice_get (x ∷ xs) k ≡ Some name
    by true o e at h = let first : 0 ≡ k = cc in subst (λ n. slice_get (x ∷ xs) n ≡ Some name) first (ap Some (same_name-true x name e))
    by false None e at h = absurd cc
    by false (Some n) e at h = let next : suc n ≡ k = cc in subst (λ m. slice_get (x ∷ xs) m ≡ Some name) next (at n refl)

pub there : (name : List ℕ) (names : List (List ℕ)) → is_among name names ≡ true → (k : ℕ) × (number_of name names ≡ Some k)
there name names h = by (number_of name names) h refl
  where
    by : (o : Option ℕ) → is_some o ≡ true → number_of name names ≡ o → (k : ℕ) × (number_of name names ≡ Some k)
    by None h e = absurd (true≢false (sym h))
    by (Some k) h e = (k, e)

pub or_0 : (name : List ℕ) (names : List (List ℕ)) (k : ℕ) → number_of name names ≡ Some k → number_or_0 name names ≡ k
or_0 name names k h = ap (λ o. unwrap_or o 0) h

-- where names are apart, a name has the place that it stands at
pub number_is : (names : List (List ℕ)) → Distinct names → (k : ℕ) (name : List ℕ) → slice_get names k ≡ Some name → number_of name names ≡ Some k
number_is [] d k name h = absurd cc
number_is (x ∷ xs) d zero name h = let same : x ≡ name = cc in ap (λ b. cond b (Some 0) (later (number_of name xs))) (ap (λ y. same_name y name) same ∙ same_name-refl name)
number_is (x ∷ xs) d (suc k) name h =
    by (same_name x name) refl (number_is xs d.1 k name h)
  where
    by : (b : Bool) → same_name x name ≡ b → number_of name xs ≡ Some k → number_of name (x ∷ xs) ≡ Some (suc k)
    by true e rest = absurd (d.0 (subst (λ y. In xs y) (sym (same_name-true x name e)) (in_at xs k name h)))
    by false e rest = ap (λ b. cond b (Some 0) (later (number_of name xs))) e ∙ ap later rest

-- the first cell of a name, by its number
pub record CellAt (cells : List PlainCell) (name : List ℕ) (cell : PlainCell) : Type 0 where
  pub number : ℕ
  pub is : number_of name (map (λ c. c.name) cells) ≡ Some number
  pub at : slice_get cells number ≡ Some cell

pub cell_found : (name : List ℕ) (cells : List PlainCell) (cell : PlainCell) → cell_among name cells ≡ Some cell → CellAt cells name cell
cell_found name cells cell h = by (number_of name (map (λ c. c.name) cells)) refl (sym (cell_at name cells) ∙ h)
  where
    by : (o : Option ℕ) → number_of name (map (λ c. c.name) cells) ≡ o → at_number (number_of name (map (λ c. c.name) cells)) cells ≡ Some cell → CellAt cells name cell
    by None e h = absurd (let no : None ≡ Some cell = ap (λ o. at_number o cells) (sym e) ∙ h in cc)
    by (Some n) e h = record { number = n; is = e; at = ap (λ o. at_number o cells) (sym e) ∙ h }

-- the first component of a name: it has that name
pub component_named : (name : List ℕ) (parts : List PlainComponent) (part : PlainComponent) → component_among name parts ≡ Some part → part.name ≡ name
component_named name [] part h = absurd cc
component_named name (p ∷ parts) part h = by (same_name p.name name) refl (component_named name parts part) h
  where
    by : (b : Bool) → same_name p.name name ≡ b → (component_among name parts ≡ Some part → part.name ≡ name) → cond b (Some p) (component_among name parts) ≡ Some part → part.name ≡ name
    by true e rest h = let same : p ≡ part = cc in ap (λ q. q.name) (sym same) ∙ same_name-true p.name name e
    by false e rest h = rest h

pub record PartAt (parts : List PlainComponent) (part : PlainComponent) : Type 0 where
  pub number : ℕ
  pub is : number_of part.name (map (λ p. p.name) parts) ≡ Some number
  pub at : slice_get parts number ≡ Some part

pub part_found : (name : List ℕ) (parts : List PlainComponent) (part : PlainComponent) → component_among name parts ≡ Some part → PartAt parts part
part_found name parts part h =
    let named = component_named name parts part h in
    by (number_of name (map (λ c. c.name) parts)) (ap (λ m. number_of m (map (λ c. c.name) parts)) named) refl (sym (part_at name parts) ∙ h)
  where
    by : (o : Option ℕ) → number_of part.name (map (λ c. c.name) parts) ≡ number_of name (map (λ c. c.name) parts) → number_of name (map (λ c. c.name) parts) ≡ o → at_number (number_of name (map (λ c. c.name) parts)) parts ≡ Some part → PartAt parts part
    by None same e h = absurd (let no : None ≡ Some part = ap (λ o. at_number o parts) (sym e) ∙ h in cc)
    by (Some n) same e h = record { number = n; is = same ∙ e; at = ap (λ o. at_number o parts) (sym e) ∙ h }
