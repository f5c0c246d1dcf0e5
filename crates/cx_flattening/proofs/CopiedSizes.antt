-- SIZES OF COPIES: a copy of control has as many statements as the control, and as many occurrences where each copied group lasts as long as
-- the group; what stands in static control is no island; and a size is that of groups, continuous assignments and control.
use Rattle.std.proofs.Common.{◌≡◌, ℕ, suc, ◌+◌, inl, inr, ⊎_elim, Bool, true, false, ◌&&◌, List, [], ◌∷◌, ◌++◌, length, map, refl, sym, ap, ap₂, ◌∙◌, arith}
use Rattle.std.specs.Prelude.{is_some}
use Rattle.std.proofs.lemmas.List.{length-append}
use Rattle.cx_text.proofs.MemberLaws.{in_either}
use Rattle.cx_meaning.specs.declared.ports.PortRef.{PortRef}
use Rattle.cx_meaning.specs.Designs.{PlainAssign, PlainGroup, PlainComponent, PlainForm, Empty, Enable, Seq, Par, If, While, Repeat, StaticSeq, StaticPar, StaticIf, StaticRepeat, Timed, PlainStatement, Placed, PlainStatements, no_statements, a_statement}
use Rattle.cx_meaning.specs.Control.{groups_in, groups_of, groups_in_all}
use Rattle.cx_meaning.specs.Islands.{group_length}
use Rattle.cx_text.specs.Members.{In}
use Rattle.cx_rules.specs.Items.{Context, Dynamic, InStatic, Branch, Amiss, below_dynamic, Visited, visit, visit_parts, visit_all, statements_in}
use Rattle.cx_rules.specs.Sizes.{assigns_size, groups_size, size_of}
use Rattle.cx_rules.specs.StaticControl.{is_dynamic, is_island_form, is_island, one_if, form_occurrences, occurrences, occurrences_in, island_occurrences, occurrences_of}
use Rattle.cx_rewrites.proofs.MovedLists as lists
use Rattle.cx_flattening.specs.Copies.{copied_group, copied_form, copied_statement, copied_statements}
use Rattle.cx_flattening.proofs.FlatLengths.{Lasting, lasting_left, lasting_right}
use Rattle.cx_flattening.proofs.FlatLists.{form_still}

-- LISTS
pub assigns_size-append : (xs ys : List PlainAssign) → assigns_size (xs ++ ys) ≡ assigns_size xs + assigns_size ys
assigns_size-append [] ys = omega arith
assigns_size-append (x ∷ xs) ys = let h : assigns_size (xs ++ ys) ≡ assigns_size xs + assigns_size ys = assigns_size-append xs ys in omega (arith, h)

pub groups_size-append : (xs ys : List PlainGroup) → groups_size (xs ++ ys) ≡ groups_size xs + groups_size ys
groups_size-append [] ys = omega arith
groups_size-append (x ∷ xs) ys = let h : groups_size (xs ++ ys) ≡ groups_size xs + groups_size ys = groups_size-append xs ys in omega (arith, h)

pub groups_size-copied : (move : PortRef → PortRef) (xs : List PlainGroup) → groups_size (map (copied_group move) xs) ≡ groups_size xs
groups_size-copied move [] = refl
groups_size-copied move (x ∷ xs) = ap₂ (λ n m. 1 + n + m) (lists.assigns_size-moved move x.assigns) (groups_size-copied move xs)

both_long : (xs ys zs ws : List Visited) → length xs ≡ length zs → length ys ≡ length ws → length (xs ++ ys) ≡ length (zs ++ ws)
both_long xs ys zs ws e f = length-append xs ys ∙ ap₂ (λ n m. n + m) e f ∙ sym (length-append zs ws)

-- STATEMENTS of a copy, wherever it stands
module _ (f : PortRef → PortRef) (copy : ℕ → ℕ) where
  mutual
    pub visits_one : (c e : Context) (s : PlainStatement) → length (visit c (copied_statement f copy s)) ≡ length (visit e s)
    visits_one c e (Placed form place) = ap suc (visits_form c e form)

    pub visits_form : (c e : Context) (form : PlainForm) → length (visit_parts c (copied_form f copy form)) ≡ length (visit_parts e form)
    visits_form c e Empty = refl
    visits_form c e (Enable g) = refl
    visits_form c e (Seq ss) = visits_all (below_dynamic c) (below_dynamic e) ss
    visits_form c e (Par arms) = visits_all (below_dynamic c) (below_dynamic e) arms
    visits_form c e (If test comb a b) =
        both_long (visit (below_dynamic c) (copied_statement f copy a)) (visit (below_dynamic c) (copied_statement f copy b)) (visit (below_dynamic e) a) (visit (below_dynamic e) b)
        (visits_one (below_dynamic c) (below_dynamic e) a) (visits_one (below_dynamic c) (below_dynamic e) b)
    visits_form c e (While test comb a) = visits_one (below_dynamic c) (below_dynamic e) a
    visits_form c e (Repeat count a) = visits_one (below_dynamic c) (below_dynamic e) a
    visits_form c e (StaticSeq written ss) = visits_all InStatic InStatic ss
    visits_form c e (StaticPar written arms) = visits_all InStatic InStatic arms
    visits_form c e (StaticIf written test a b) =
        both_long (visit Branch (copied_statement f copy a)) (visit Branch (copied_statement f copy b)) (visit Branch a) (visit Branch b) (visits_one Branch Branch a) (visits_one Branch Branch b)
    visits_form c e (StaticRepeat written count a) = visits_one InStatic InStatic a
    visits_form c e (Timed k) = refl

    visits_all : (c e : Context) (ss : PlainStatements) → length (visit_all c (copied_statements f copy ss)) ≡ length (visit_all e ss)
    visits_all c e no_statements = refl
    visits_all c e (a_statement s ss) =
        both_long (visit c (copied_statement f copy s)) (visit_all c (copied_statements f copy ss)) (visit e s) (visit_all e ss) (visits_one c e s) (visits_all c e ss)

-- OCCURRENCES in a copy
module _ (J K : PlainComponent) (f : PortRef → PortRef) (copy : ℕ → ℕ) where
  mutual
    pub form_occurs : (form : PlainForm) → Lasting J K copy (groups_in form) → form_occurrences J (copied_form f copy form) ≡ form_occurrences K form
    form_occurs Empty h = refl
    form_occurs (Enable g) h = ap (λ o. one_if (is_some o)) (h g (inl refl))
    form_occurs (Seq ss) h = refl
    form_occurs (Par arms) h = refl
    form_occurs (If test comb a b) h = refl
    form_occurs (While test comb a) h = refl
    form_occurs (Repeat count a) h = refl
    form_occurs (StaticSeq written ss) h = all_occur ss h
    form_occurs (StaticPar written arms) h = all_occur arms h
    form_occurs (StaticIf written test a b) h =
        ap₂ (λ n m. n + m) (one_occurs a (lasting_left J K copy (groups_of a) (groups_of b) h)) (one_occurs b (lasting_right J K copy (groups_of a) (groups_of b) h))
    form_occurs (StaticRepeat written count a) h = one_occurs a h
    form_occurs (Timed k) h = refl

    pub one_occurs : (s : PlainStatement) → Lasting J K copy (groups_of s) → occurrences J (copied_statement f copy s) ≡ occurrences K s
    one_occurs (Placed form place) h = form_occurs form h

    all_occur : (ss : PlainStatements) → Lasting J K copy (groups_in_all ss) → occurrences_in J (copied_statements f copy ss) ≡ occurrences_in K ss
    all_occur no_statements h = refl
    all_occur (a_statement s ss) h =
        ap₂ (λ n m. n + m) (one_occurs s (lasting_left J K copy (groups_of s) (groups_in_all ss) h)) (all_occur ss (lasting_right J K copy (groups_of s) (groups_in_all ss) h))

-- what is not in dynamic control is no island
abbrev pub AllStill : List Visited → Type 0
AllStill vs = (v : Visited) → In vs v → is_dynamic v.context ≡ false

below_still : (c : Context) → is_dynamic c ≡ false → is_dynamic (below_dynamic c) ≡ false
below_still Dynamic e = absurd (let clash : true ≡ false = e in cc)
below_still InStatic e = refl
below_still Branch e = refl
below_still Amiss e = refl

pub both_still : (xs ys : List Visited) → AllStill xs → AllStill ys → AllStill (xs ++ ys)
both_still xs ys h k v i = ⊎_elim (λ j. h v j) (λ j. k v j) (in_either xs ys v i)

mutual
  pub still_one : (c : Context) (s : PlainStatement) → is_dynamic c ≡ false → AllStill (visit c s)
  still_one c (Placed form place) e v (inl same) = ap (λ (x : Visited). is_dynamic x.context) (sym same) ∙ e
  still_one c (Placed form place) e v (inr i) = still_form c form e v i

  pub still_form : (c : Context) (form : PlainForm) → is_dynamic c ≡ false → AllStill (visit_parts c form)
  still_form c Empty e = λ v i. absurd i
  still_form c (Enable g) e = λ v i. absurd i
  still_form c (Seq ss) e = still_all (below_dynamic c) ss (below_still c e)
  still_form c (Par arms) e = still_all (below_dynamic c) arms (below_still c e)
  still_form c (If test comb a b) e =
      both_still (visit (below_dynamic c) a) (visit (below_dynamic c) b) (still_one (below_dynamic c) a (below_still c e)) (still_one (below_dynamic c) b (below_still c e))
  still_form c (While test comb a) e = still_one (below_dynamic c) a (below_still c e)
  still_form c (Repeat count a) e = still_one (below_dynamic c) a (below_still c e)
  still_form c (StaticSeq written ss) e = still_all InStatic ss refl
  still_form c (StaticPar written arms) e = still_all InStatic arms refl
  still_form c (StaticIf written test a b) e = both_still (visit Branch a) (visit Branch b) (still_one Branch a refl) (still_one Branch b refl)
  still_form c (StaticRepeat written count a) e = still_one InStatic a refl
  still_form c (Timed k) e = λ v i. absurd i

  pub still_all : (c : Context) (ss : PlainStatements) → is_dynamic c ≡ false → AllStill (visit_all c ss)
  still_all c no_statements e = λ v i. absurd i
  still_all c (a_statement s ss) e = both_still (visit c s) (visit_all c ss) (still_one c s e) (still_all c ss e)

pub occurrences_still : (J : PlainComponent) (vs : List Visited) → AllStill vs → occurrences_of J vs ≡ 0
occurrences_still J [] h = refl
occurrences_still J (v ∷ vs) h =
    let own : island_occurrences J (is_island J v) v.form ≡ 0 = ap (λ b. island_occurrences J (b && is_island_form J v.form) v.form) (h v (inl refl)) in
    let rest : occurrences_of J vs ≡ 0 = occurrences_still J vs (λ w i. h w (inr i)) in
    omega (arith, own, rest)

-- OF COMPONENTS whose groups last as long
module _ (A B : PlainComponent) (same : (g : ℕ) → group_length A g ≡ group_length B g) where
  pub occurrences_alike : (form : PlainForm) → form_occurrences A form ≡ form_occurrences B form
  occurrences_alike form = ap (form_occurrences A) (sym (form_still form)) ∙ form_occurs A B (λ q. q) (λ g. g) form (λ g i. same g)

  pub island_alike : (form : PlainForm) → is_island_form A form ≡ is_island_form B form
  island_alike Empty = refl
  island_alike (Enable g) = ap is_some (same g)
  island_alike (Seq ss) = refl
  island_alike (Par arms) = refl
  island_alike (If test comb a b) = refl
  island_alike (While test comb a) = refl
  island_alike (Repeat count a) = refl
  island_alike (StaticSeq written ss) = refl
  island_alike (StaticPar written arms) = refl
  island_alike (StaticIf written test a b) = refl
  island_alike (StaticRepeat written count a) = refl
  island_alike (Timed k) = refl

  in_island : (b : Bool) (form : PlainForm) → island_occurrences A b form ≡ island_occurrences B b form
  in_island true form = occurrences_alike form
  in_island false form = refl

  all_alike : (vs : List Visited) → occurrences_of A vs ≡ occurrences_of B vs
  all_alike [] = refl
  all_alike (v ∷ vs) =
      ap₂ (λ n m. n + m) (ap (λ b. island_occurrences A (is_dynamic v.context && b) v.form) (island_alike v.form) ∙ in_island (is_island B v) v.form) (all_alike vs)

  -- THE SIZE
  pub size_alike : length A.inputs ≡ length B.inputs → length A.outputs ≡ length B.outputs → length A.cells ≡ length B.cells → groups_size A.groups ≡ groups_size B.groups
      → assigns_size A.always ≡ assigns_size B.always → A.control ≡ B.control → size_of A ≡ size_of B
  size_alike inputs outputs cells groups always control =
      let statements : length (statements_in A) ≡ length (statements_in B) = ap (λ s. length (visit Dynamic s)) control in
      let islands : occurrences_of A (statements_in A) ≡ occurrences_of B (statements_in B) = all_alike (statements_in A) ∙ ap (λ s. occurrences_of B (visit Dynamic s)) control in
      omega (arith, inputs, outputs, cells, groups, always, statements, islands)
