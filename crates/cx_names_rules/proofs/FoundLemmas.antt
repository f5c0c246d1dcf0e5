-- The first break of two lists is that of the second, begun with that of the first.
use Rattle.std.proofs.Common.{◌≡◌, ℕ, ◌+◌, ◌<◌, flat_map, length, drop, get_or, List, [], ◌∷◌, ◌++◌, Option, refl, ap, sym, ◌∙◌, append-nil, is_some}
use Rattle.std.proofs.lemmas.Grind.{flat_map-append}
use Rattle.cx_text.specs.declared.diagnostics.Diagnostic.{Diagnostic}
use Rattle.cx_text.specs.declared.rules.Rule.TheVariants.{Duplicate}
use Rattle.cx_numbering.specs.Names.{is_among}
use Rattle.cx_numbering.specs.NameRules.{Named, duplicates, tell_if}
use Rattle.cx_names_scopes.specs.Numbered.{AreNumbersOf}
use Rattle.cx_names_scopes.specs.declared.numbers.Numbers.{Numbers}
use Rattle.cx_names_rules.specs.Found.{kept, first_of}
use Rattle.cx_names_rules.specs.Seen.{Sees, SeesOne, SeesUpTo}
use Rattle.cx_text.proofs.ListLaws.{drop_item}

pub first_of-append : (found : Option Diagnostic) (xs ys : List Diagnostic) → first_of found (xs ++ ys) ≡ first_of (first_of found xs) ys
first_of-append found [] ys = refl
first_of-append found (d ∷ ds) ys = first_of-append (kept found d) ds ys

-- the breaks of some parts, and of those behind
pub parts_step : {X : Type 0} (f : X → List Diagnostic) (xs ys : List X) (found new total : Option Diagnostic) → first_of found (flat_map f (xs ++ ys)) ≡ total → new ≡ first_of found (flat_map f xs) → first_of new (flat_map f ys) ≡ total
parts_step f xs ys found new total behind told =
    ap (λ g. first_of g (flat_map f ys)) told ∙ sym (first_of-append found (flat_map f xs) (flat_map f ys)) ∙ ap (λ ds. first_of found ds) (sym (flat_map-append f xs ys)) ∙ behind

-- the breaks of the parts of two lists
pub both_parts : {X : Type 0} (f : X → List Diagnostic) (xs ys all : List X) (found middle new : Option Diagnostic) → all ≡ xs ++ ys → middle ≡ first_of found (flat_map f xs) → new ≡ first_of middle (flat_map f ys) → new ≡ first_of found (flat_map f all)
both_parts f xs ys all found middle new joined one other =
    other ∙ ap (λ g. first_of g (flat_map f ys)) one ∙ sym (first_of-append found (flat_map f xs) (flat_map f ys)) ∙ ap (λ ds. first_of found ds) (sym (flat_map-append f xs ys)) ∙ ap (λ zs. first_of found (flat_map f zs)) (sym joined)

pub drop_known : {A : Type 0} (xs : List A) (i : ℕ) (x y : A) → x ≡ get_or xs i x → x ≡ y → i < length xs → drop i xs ≡ y ∷ drop (i + 1) xs
drop_known xs i x y at known within = drop_item xs i x at within ∙ ap (λ z. z ∷ drop (i + 1) xs) known

-- the breaks of one part, and those behind
pub item_step : {X : Type 0} (f : X → List Diagnostic) (x : X) (ys : List X) (found new total : Option Diagnostic) → first_of found (flat_map f (x ∷ ys)) ≡ total → new ≡ first_of found (f x) → first_of new (flat_map f ys) ≡ total
item_step f x ys found new total behind told = ap (λ g. first_of g (flat_map f ys)) told ∙ sym (first_of-append found (f x) (flat_map f ys)) ∙ behind

-- before the first part is seen
pub sees_start : (all : List Named) (seen : Numbers) (start found : Option Diagnostic) (before : List (List ℕ)) → Sees before seen → found ≡ start → SeesUpTo before all all start seen found
sees_start all seen start found before sees same = record { after = before; sees = sees; behind = λ more. ap (λ f. first_of f (duplicates before (all ++ more))) (sym same) }

-- one part more is seen
pub sees_step : (before : List (List ℕ)) (all left : List Named) (x : Named) (start found new_found : Option Diagnostic) (seen new_seen : Numbers) → SeesUpTo before all (x ∷ left) start seen found
    → ((names : List (List ℕ)) → Sees names seen → SeesOne names x.name x.place found new_seen new_found) → SeesUpTo before all left start new_seen new_found
sees_step before all left x start found new_found seen new_seen up one =
    let told : SeesOne up.after x.name x.place found new_seen new_found = one up.after up.sees in
    record {
      after = x.name ∷ up.after;
      sees = told.sees;
      behind = λ more.
          up.behind more
          ∙ first_of-append found (tell_if (is_among x.name up.after) Duplicate x.place x.name) (duplicates (x.name ∷ up.after) (left ++ more))
          ∙ ap (λ f. first_of f (duplicates (x.name ∷ up.after) (left ++ more))) (sym told.told);
    }

-- all parts are seen
pub sees_all : (all : List Named) (start found : Option Diagnostic) (seen : Numbers) → SeesUpTo [] all [] start seen found → found ≡ first_of start (duplicates [] all)
sees_all all start found seen up = sym (ap (λ xs. first_of start (duplicates [] xs)) (sym (append-nil all)) ∙ up.behind [])

-- the parts of two lists are seen
pub sees_both : (all others : List Named) (start middle found : Option Diagnostic) (seen new_seen : Numbers) → SeesUpTo [] all [] start seen middle
    → ((names : List (List ℕ)) → Sees names seen → SeesUpTo names others [] middle new_seen found) → found ≡ first_of start (duplicates [] (all ++ others))
sees_both all others start middle found seen new_seen up next =
    let then_up : SeesUpTo up.after others [] middle new_seen found = next up.after up.sees in
    sym (up.behind others ∙ ap (λ xs. first_of middle (duplicates up.after xs)) (sym (append-nil others)) ∙ then_up.behind [])

-- before any part no name is seen
pub sees_none : (seen : Numbers) → AreNumbersOf [] seen → Sees [] seen
sees_none seen none = λ n. ap is_some (none n)
