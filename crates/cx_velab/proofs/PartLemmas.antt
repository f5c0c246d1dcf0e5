-- The codes of a module, by their numbers.
use Rattle.std.proofs.Common.{◌≡◌, ℕ, zero, suc, ◌+◌, ◌<◌, ◌≤◌, ⊎_elim, Bool, true, false, cond, List, [], ◌∷◌, ◌++◌, map, length, Some, slice_get, refl, ap, sym, ◌∙◌, subst, arith, length-append}
use Rattle.std.proofs.lemmas.Bool.{cases_lt}
use Rattle.std.specs.HashMap as maps
use Rattle.std.specs.HashMap.{HashMap}
use Rattle.std.specs.Cmp.Lexicographic.{same_text}
use denote.Ref.{Bor}
use Rattle.cx_vtree.specs.InstanceTree.{Placed, same_name, declared_nets, declared_arrays}
use Rattle.cx_vtree.specs.declared.modules.Decl.{Decl}
use Rattle.cx_vtree.specs.declared.modules.ModulePort.{ModulePort}
use Rattle.cx_vtree.specs.PlainParts.{plain_port, plain_decl}
use Rattle.cx_vtree.specs.Plain.{PlainExpr, PlainModule}
use Rattle.cx_vnets.specs.declared.codes.Code.{Code}
use Rattle.cx_vtree.specs.NameNumbers.{position, number_by}
use Rattle.cx_vnets.specs.ModuleCodes.{Numbering, IsCode}
use Rattle.cx_velab.specs.Added.{Paired}
use Rattle.cx_velab.specs.Coded.{AddsCodes}
use Rattle.cx_velab.specs.declared.parts.ModulePart.{ModulePart}
use Rattle.cx_velab.specs.Parts.{HasCodes, PartStands, Extends, HasPart, AreFound}
use Rattle.cx_text.proofs.ListLaws.{behind, front}

paired_at : {A B : Type 0} (R : A → B → Type 0) (xs : List A) (ys : List B) (j : ℕ) (y : B) → Paired R xs ys → slice_get ys j ≡ Some y → (x : A) × (slice_get xs j ≡ Some x) × R x y
paired_at R [] [] j y h e = absurd (cc)
paired_at R (x ∷ xs) (z ∷ ys) zero y h e = let same : z ≡ y = cc in (x, refl, subst (λ v. R x v) same h.0)
paired_at R (x ∷ xs) (z ∷ ys) (suc j) y h e = paired_at R xs ys j y h.1 e
paired_at R [] (z ∷ ys) j y h e = absurd h
paired_at R (x ∷ xs) [] j y h e = absurd h

-- codes that were added, by their numbers
pub codes_at : (nets arrays : Numbering) (old new : List Code) (first : ℕ) (exprs : List PlainExpr) → first ≡ length old → AddsCodes nets arrays old new exprs → HasCodes nets arrays new first exprs
codes_at nets arrays old new first exprs is a j e at =
    let c = paired_at (IsCode nets arrays) a.0 exprs j e a.2 at in
    let number : first + j ≡ length old + j = omega arith in
    (c.0, ap (λ l. slice_get l (first + j)) a.1 ∙ behind old a.0 (first + j) j number ∙ c.1, c.2)

-- numberings by the parts of a module that are borrowed
pub nets_same : (nets : Numbering) (ps qs : List ModulePort) (ds es : List Decl) → nets ≡ position (map (λ p. p.name) (map plain_port ps) ++ declared_nets (map plain_decl ds)) → ps ≡ qs → ds ≡ es
    → nets ≡ position (map (λ p. p.name) (map plain_port qs) ++ declared_nets (map plain_decl es))
nets_same nets ps qs ds es is e f =
    is ∙ ap (λ l. position (map (λ p. p.name) (map plain_port l) ++ declared_nets (map plain_decl ds))) e ∙ ap (λ l. position (map (λ p. p.name) (map plain_port qs) ++ declared_nets (map plain_decl l))) f

pub arrays_same : (arrays : Numbering) (ds es : List Decl) → arrays ≡ position (declared_arrays (map plain_decl ds)) → ds ≡ es → arrays ≡ position (declared_arrays (map plain_decl es))
arrays_same arrays ds es is f = is ∙ ap (λ l. position (declared_arrays (map plain_decl l))) f

extended : {A : Type 0} (old new made : List A) (k : ℕ) (x : A) → new ≡ old ++ made → slice_get old k ≡ Some x → slice_get new k ≡ Some x
extended old new made k x e at = ap (λ l. slice_get l k) e ∙ front old made k x at

longer : {A : Type 0} (old new made : List A) → new ≡ old ++ made → length new ≡ length old + length made
longer old new made e = ap length e ∙ length-append old made

paired_count : {A B : Type 0} (R : A → B → Type 0) (xs : List A) (ys : List B) → Paired R xs ys → length xs ≡ length ys
paired_count R [] [] h = refl
paired_count R (x ∷ xs) (y ∷ ys) h = ap suc (paired_count R xs ys h.1)
paired_count R [] (y ∷ ys) h = absurd h
paired_count R (x ∷ xs) [] h = absurd h

-- as many codes were added as there are expressions
pub codes_within : (nets arrays : Numbering) (old new : List Code) (first : ℕ) (exprs : List PlainExpr) → first ≡ length old → AddsCodes nets arrays old new exprs → first + length exprs ≤ length new
codes_within nets arrays old new first exprs is a =
    let more = longer old new a.0 a.1 in
    let same = paired_count (IsCode nets arrays) a.0 exprs a.2 in
    omega (arith, is, more, same)

-- a part stands with more codes
part_kept : (old new made : List Code) (m : PlainModule) (x : ModulePart) → new ≡ old ++ made → PartStands old m x → PartStands new m x
part_kept old new made m x e p = record {
  nets = p.nets;
  arrays = p.arrays;
  coded = λ j y at. let c = p.coded j y at in (c.0, extended old new made (x.first + j) c.0 e c.1, c.2);
  within = let was = p.within in let more = longer old new made e in omega (arith, was, more);
}

-- and so does what has a part, with more parts
pub has_kept : (list more : List ModulePart) (x : ModulePart) (old new : List Code) → more ≡ list ++ x ∷ [] → Extends old new → (j : ℕ) (m : PlainModule) → HasPart list old j m → HasPart more new j m
has_kept list more x old new e made j m h = (h.0, extended list more (x ∷ []) j h.0 e h.1, part_kept old new made.0 m h.0 made.1 h.2)

pub has_new : (list more : List ModulePart) (x : ModulePart) (codes : List Code) (n : ℕ) (m : PlainModule) → more ≡ list ++ x ∷ [] → n ≡ length list → PartStands codes m x → HasPart more codes n m
has_new list more x codes n m e is p =
    let at : n ≡ length list + 0 = omega arith in
    (x, ap (λ l. slice_get l n) e ∙ behind list (x ∷ []) n 0 at, p)

-- a name more is found
abbrev by_bytes : Bor (List ℕ) → Bor (List ℕ) → Bool
by_bytes x y = same_name x.now y.now

pub found_more : {S : Type 0} (instances : List Placed) (found more : HashMap (Bor (List ℕ)) ℕ S) (list next : List ModulePart) (old new : List Code) (n i : ℕ) (p : Placed)
    → AreFound instances found list old → ((j : ℕ) (m : PlainModule) → HasPart list old j m → HasPart next new j m)
    → ((q : Bor (List ℕ)) → maps.get by_bytes more q ≡ cond (same_name p.part.name q.now) (Some n) (maps.get by_bytes found q)) → slice_get instances i ≡ Some p → HasPart next new n p.part → AreFound instances more next new
found_more instances found more list next old new n i p had keeps up at part name j is =
    go (same_name p.part.name name) refl (sym (up (record { ref_ptr = (0, 0); now = name })) ∙ is)
  where
    go : (t : Bool) → same_name p.part.name name ≡ t → cond t (Some n) (number_by found name) ≡ Some j → (h : ℕ) × (q : Placed) × (slice_get instances h ≡ Some q) × (q.part.name ≡ name) × HasPart next new j q.part
    go true e f = let same : n ≡ j = cc in (i, p, at, same_text p.part.name name (sym e), subst (λ k. HasPart next new k p.part) same part)
    go false e f = let r = had name j f in (r.0, r.1, r.2, r.3, keeps j r.1.part r.4)

-- one instance more has its part
pub stand_more : (tree : List Placed) (list next : List ModulePart) (old new : List Code) (of_rows more : List ℕ) (i j : ℕ) → more ≡ of_rows ++ j ∷ [] → length of_rows ≡ i
    → ((n : ℕ) (m : PlainModule) → HasPart list old n m → HasPart next new n m) → ((p : Placed) → slice_get tree i ≡ Some p → HasPart next new j p.part)
    → ((k : ℕ) (p : Placed) → k < i → slice_get tree k ≡ Some p → (n : ℕ) × (slice_get of_rows k ≡ Some n) × HasPart list old n p.part)
    → (k : ℕ) (p : Placed) → k < i + 1 → slice_get tree k ≡ Some p → (n : ℕ) × (slice_get more k ≡ Some n) × HasPart next new n p.part
stand_more tree list next old new of_rows more i j e long keeps here before k p lt at =
    ⊎_elim
    (λ less. let h = before k p less at in (h.0, ap (λ l. slice_get l k) e ∙ front of_rows (j ∷ []) k h.0 h.1, keeps h.0 p.part h.2))
    (λ reach. let same : k ≡ i = omega (arith, lt, reach) in let last : k ≡ length of_rows + 0 = omega (arith, same, long) in
    (j, ap (λ l. slice_get l k) e ∙ behind of_rows (j ∷ []) k 0 last, here p (subst (λ n. slice_get tree n ≡ Some p) same at)))
    (cases_lt k i)
