-- WHAT IS DONE AT ONCE IS APART: no static child is fed twice, and no group looks at what another drives, since such deeds are of two arms.
use Rattle.std.proofs.Common.{◌≡◌, ℕ, ◌+◌, ◌<◌, ◌⊎◌, inl, inr, Bool, true, false, ◌||◌, nat_eq, List, [], ◌∷◌, ◌++◌, length, map, Option, Some, refl, sym, ap, ◌∙◌, subst, arith}
use Rattle.std.specs.Prelude.{flat_map}
use Rattle.std.proofs.lemmas.Bool.{eq-eqb, ne_eqb}
use Rattle.std.proofs.lemmas.Option.{slice_get-get_or}
use Rattle.cx_text.proofs.MemberLaws.{in_left, in_right}
use Rattle.cx_meaning.specs.declared.ports.PlacedPort.{PlacedPort}
use Rattle.cx_text.specs.declared.places.Place.{Place}
use Rattle.cx_meaning.specs.Designs.{PlainComponent, PlainForm, StaticSeq, StaticPar, StaticIf, StaticRepeat, Timed, PlainStatement, Placed, form_of, PlainStatements, no_statements, a_statement, list_of}
use Rattle.cx_meaning.specs.Control.{groups_in, groups_of, group_drives, groups_drive, drives}
use Rattle.cx_text.specs.Members.{In}
use Rattle.cx_meaning.proofs.ControlLaws.{groups_drive_in}
use Rattle.cx_rules.specs.Items.{Context, Dynamic, InStatic, Branch, Visited, visit, statements_in, option_list}
use Rattle.cx_rules.specs.Footprints.{AssignNames, Reads}
use Rattle.cx_rules.specs.Footprints as plain
use Rattle.cx_rules.specs.Invokes.{invoke_at, invoke_in, invokes_of, capture_of, captures_of, is_cell_of, invokes_cell, drives_all, ReadsAll, driven, named, captured, through}
use Rattle.cx_rules.proofs.InvokesLemmas.{drives_more}
use Rattle.cx_text.proofs.BoolLaws.{or_left, or_right}
use Rattle.cx_laws.proofs.EdgeLemmas.{enabled}
use Rattle.cx_flattening.specs.Events.{no_invoke, the_invoke}
use Rattle.cx_flattening.specs.Deeds.{Deed, Acts, Fed, deed_if, own_entries, deeds_below}
use Rattle.cx_flattening.specs.Controlled.{timed_in, timed_of, timed_all}
use Rattle.cx_flattening.specs.FedOnce.{one_more, count_fed}
use Rattle.cx_flattening.proofs.Statements.{timed_one}
use Rattle.cx_flattening.proofs.FlatDeeds.{lower}
use Rattle.cx_rules.proofs.ItemsLemmas.{part_in}

-- lists of deeds
pub own-both : (xs ys : List Deed) → own_entries (xs ++ ys) ≡ own_entries xs ++ own_entries ys
own-both [] ys = refl
own-both (Acts [] e ∷ xs) ys = ap (λ l. e ∷ l) (own-both xs ys)
own-both (Acts (c ∷ at) e ∷ xs) ys = own-both xs ys
own-both (Fed at c inputs ∷ xs) ys = own-both xs ys

pub fed-both : (c : ℕ) (xs ys : List Deed) → count_fed c (xs ++ ys) ≡ count_fed c xs + count_fed c ys
fed-both c [] ys = zero_plus (count_fed c ys)
  where
    zero_plus : (a : ℕ) → a ≡ 0 + a
    zero_plus a = omega arith
fed-both c (Acts at e ∷ xs) ys = fed-both c xs ys
fed-both c (Fed [] d inputs ∷ xs) ys = choice (nat_eq d c) (fed-both c xs ys)
  where
    choice : (b : Bool) → count_fed c (xs ++ ys) ≡ count_fed c xs + count_fed c ys → one_more b (count_fed c (xs ++ ys)) ≡ one_more b (count_fed c xs) + count_fed c ys
    choice true ih = omega (arith, ih)
    choice false ih = ih
fed-both c (Fed (d ∷ at) e inputs ∷ xs) ys = fed-both c xs ys

pub below-both : (c : ℕ) (xs ys : List Deed) → deeds_below c (xs ++ ys) ≡ deeds_below c xs ++ deeds_below c ys
below-both c [] ys = refl
below-both c (Acts [] e ∷ xs) ys = below-both c xs ys
below-both c (Acts (d ∷ at) e ∷ xs) ys = choice (nat_eq d c) (below-both c xs ys)
  where
    choice : (b : Bool) → deeds_below c (xs ++ ys) ≡ deeds_below c xs ++ deeds_below c ys → deed_if b (Acts at e) (deeds_below c (xs ++ ys)) ≡ deed_if b (Acts at e) (deeds_below c xs) ++ deeds_below c ys
    choice true ih = ap (λ l. Acts at e ∷ l) ih
    choice false ih = ih
below-both c (Fed [] d inputs ∷ xs) ys = below-both c xs ys
below-both c (Fed (d ∷ at) e inputs ∷ xs) ys = choice (nat_eq d c) (below-both c xs ys)
  where
    choice : (b : Bool) → deeds_below c (xs ++ ys) ≡ deeds_below c xs ++ deeds_below c ys → deed_if b (Fed at e inputs) (deeds_below c (xs ++ ys)) ≡ deed_if b (Fed at e inputs) (deeds_below c xs) ++ deeds_below c ys
    choice true ih = ap (λ l. Fed at e inputs ∷ l) ih
    choice false ih = ih

pub own-lower : (c : ℕ) (kds : List Deed) → own_entries (map (lower (c ∷ [])) kds) ≡ []
own-lower c [] = refl
own-lower c (Acts at e ∷ rest) = own-lower c rest
own-lower c (Fed at d inputs ∷ rest) = own-lower c rest

pub fed-lower : (c d : ℕ) (kds : List Deed) → count_fed d (map (lower (c ∷ [])) kds) ≡ 0
fed-lower c d [] = refl
fed-lower c d (Acts at e ∷ rest) = fed-lower c d rest
fed-lower c d (Fed at f inputs ∷ rest) = fed-lower c d rest

pub lower-there : (c d : ℕ) (kds : List Deed) → c ≡ d → deeds_below d (map (lower (c ∷ [])) kds) ≡ kds
lower-there c d [] e = refl
lower-there c d (Acts at x ∷ rest) e = ap (λ b. deed_if b (Acts at x) (deeds_below d (map (lower (c ∷ [])) rest))) (eq-eqb c d e) ∙ ap (λ l. Acts at x ∷ l) (lower-there c d rest e)
lower-there c d (Fed at f inputs ∷ rest) e = ap (λ b. deed_if b (Fed at f inputs) (deeds_below d (map (lower (c ∷ [])) rest))) (eq-eqb c d e) ∙ ap (λ l. Fed at f inputs ∷ l) (lower-there c d rest e)

pub lower-elsewhere : (c d : ℕ) (kds : List Deed) → (c ≡ d → ⊥) → deeds_below d (map (lower (c ∷ [])) kds) ≡ []
lower-elsewhere c d [] apart = refl
lower-elsewhere c d (Acts at x ∷ rest) apart = ap (λ b. deed_if b (Acts at x) (deeds_below d (map (lower (c ∷ [])) rest))) (ne_eqb c d apart) ∙ lower-elsewhere c d rest apart
lower-elsewhere c d (Fed at f inputs ∷ rest) apart = ap (λ b. deed_if b (Fed at f inputs) (deeds_below d (map (lower (c ∷ [])) rest))) (ne_eqb c d apart) ∙ lower-elsewhere c d rest apart

pub timed_parts : (ss : PlainStatements) (s : PlainStatement) (k : ℕ) → In (list_of ss) s → In (timed_of s) k → In (timed_all ss) k
timed_parts no_statements s k i j = absurd i
timed_parts (a_statement x xs) s k (inl e) j = in_left (timed_of x) (timed_all xs) k (subst (λ y. In (timed_of y) k) (sym e) j)
timed_parts (a_statement x xs) s k (inr i) j = in_right (timed_of x) (timed_all xs) k (timed_parts xs s k i j)

module _ (part : PlainComponent) where
  -- a form whose statements all stand in the component
  pub record Stands (form : PlainForm) : Type 0 where
    pub context : Context
    pub place : Place
    pub inside : (v : Visited) → In (visit context (Placed form place)) v → In (statements_in part) v

  stands_as : (context : Context) (s : PlainStatement) → ((v : Visited) → In (visit context s) v → In (statements_in part) v) → Stands (form_of s)
  stands_as context (Placed form place) inside = record { context = context; place = place; inside = inside }

  pub stands_whole : Stands (form_of part.control)
  stands_whole = stands_as Dynamic part.control (λ v i. i)

  pub stands_part : {written : Option ℕ} {ss : PlainStatements} (s : PlainStatement) → Stands (StaticSeq written ss) → In (list_of ss) s → Stands (form_of s)
  stands_part {written} {ss} s h i = stands_as InStatic s (λ v j. h.inside v (inr (part_in InStatic ss s i v j)))

  pub stands_arm : {written : Option ℕ} {ss : PlainStatements} (s : PlainStatement) → Stands (StaticPar written ss) → In (list_of ss) s → Stands (form_of s)
  stands_arm {written} {ss} s h i = stands_as InStatic s (λ v j. h.inside v (inr (part_in InStatic ss s i v j)))

  pub stands_one : {written : Option ℕ} {test : PlacedPort} {a b : PlainStatement} → Stands (StaticIf written test a b) → Stands (form_of a)
  stands_one {written} {test} {a} {b} h = stands_as Branch a (λ v j. h.inside v (inr (in_left (visit Branch a) (visit Branch b) v j)))

  pub stands_other : {written : Option ℕ} {test : PlacedPort} {a b : PlainStatement} → Stands (StaticIf written test a b) → Stands (form_of b)
  stands_other {written} {test} {a} {b} h = stands_as Branch b (λ v j. h.inside v (inr (in_right (visit Branch a) (visit Branch b) v j)))

  pub stands_round : {written : Option ℕ} {count : ℕ} {a : PlainStatement} → Stands (StaticRepeat written count a) → Stands (form_of a)
  stands_round {written} {count} {a} h = stands_as InStatic a (λ v j. h.inside v (inr j))

  -- A GROUP OF A FORM: it enables it, or it captures for an invoke in it
  abbrev pub IsOwned : PlainForm → ℕ → Type 0
  IsOwned form g = In (groups_in form) g ⊎ ((j : ℕ) × In (timed_in form) j × (j < length part.invokes) × ((the_invoke part j).captures ≡ Some g))

  abbrev pub IsFedBy : PlainForm → ℕ → Type 0
  IsFedBy form c = (j : ℕ) × In (timed_in form) j × (j < length part.invokes) × ((the_invoke part j).cell ≡ c)

  groups_same : (s : PlainStatement) (g : ℕ) → In (groups_in (form_of s)) g → In (groups_of s) g
  groups_same (Placed form place) g i = i

  timed_same : (s : PlainStatement) (j : ℕ) → In (timed_in (form_of s)) j → In (timed_of s) j
  timed_same (Placed form place) j i = i

  pub owned_more : (form : PlainForm) (s : PlainStatement) (g : ℕ) → ((h : ℕ) → In (groups_of s) h → In (groups_in form) h) → ((j : ℕ) → In (timed_of s) j → In (timed_in form) j) → IsOwned (form_of s) g → IsOwned form g
  owned_more form s g groups timed (inl i) = inl (groups g (groups_same s g i))
  owned_more form s g groups timed (inr (j, i, less, e)) = inr (j, timed j (timed_same s j i), less, e)

  pub fed_more : (form : PlainForm) (s : PlainStatement) (c : ℕ) → ((j : ℕ) → In (timed_of s) j → In (timed_in form) j) → IsFedBy (form_of s) c → IsFedBy form c
  fed_more form s c timed (j, i, less, e) = (j, timed j (timed_same s j i), less, e)

  -- the static invokes of a statement, as the rules number them
  pub invoke_among : (s : PlainStatement) (j : ℕ) → In (timed_of s) j → In (invokes_of s) j
  invoke_among s j i = let r = timed_one j Dynamic s i in numbered (visit Dynamic s) r.0 r.1 r.2
    where
      numbered : (vs : List Visited) (v : Visited) → In vs v → v.form ≡ Timed j → In (flat_map (λ (x : Visited). invoke_in x.form) vs) j
      numbered [] v k e = absurd k
      numbered (x ∷ xs) v (inl same) e =
          in_left (invoke_in x.form) (flat_map (λ (y : Visited). invoke_in y.form) xs) j (subst (λ form. In (invoke_in form) j) (sym (ap (λ (y : Visited). y.form) same ∙ e)) (inl refl))
      numbered (x ∷ xs) v (inr k) e = in_right (invoke_in x.form) (flat_map (λ (y : Visited). invoke_in y.form) xs) j (numbered xs v k e)

  pub at_number : (j : ℕ) → j < length part.invokes → invoke_at part j ≡ Some (the_invoke part j)
  at_number j less = slice_get-get_or part.invokes j no_invoke less

  capture_among : (ks : List ℕ) (j g : ℕ) → In ks j → j < length part.invokes → (the_invoke part j).captures ≡ Some g → In (captures_of part ks) g
  capture_among [] j g i less e = absurd i
  capture_among (k ∷ ks) j g (inl same) less e =
      in_left (capture_of (invoke_at part k)) (captures_of part ks) g
      (subst (λ o. In (capture_of o) g) (sym (ap (invoke_at part) same ∙ at_number j less)) (subst (λ o. In (option_list o) g) (sym e) (inl refl)))
  capture_among (k ∷ ks) j g (inr i) less e = in_right (capture_of (invoke_at part k)) (captures_of part ks) g (capture_among ks j g i less e)

  cell_among : (ks : List ℕ) (j c : ℕ) → In ks j → j < length part.invokes → (the_invoke part j).cell ≡ c → invokes_cell part ks c ≡ true
  cell_among [] j c i less e = absurd i
  cell_among (k ∷ ks) j c (inl same) less e =
      or_left (is_cell_of (invoke_at part k) c) (invokes_cell part ks c) (ap (λ o. is_cell_of o c) (ap (invoke_at part) same ∙ at_number j less) ∙ eq-eqb (the_invoke part j).cell c e)
  cell_among (k ∷ ks) j c (inr i) less e = or_right (is_cell_of (invoke_at part k) c) (invokes_cell part ks c) (cell_among ks j c i less e)

  -- what it drives and reads the statement does
  pub owned_drives : (s : PlainStatement) (g c : ℕ) → IsOwned (form_of s) g → group_drives part g c ≡ true → drives_all part s c ≡ true
  owned_drives s g c (inl i) e = drives_more part s c (groups_drive_in part (groups_of s) g c (groups_same s g i) e)
  owned_drives s g c (inr (j, i, less, captures)) e =
      or_right (drives part s c) (invokes_cell part (invokes_of s) c || groups_drive part (captures_of part (invokes_of s)) c)
      (or_right (invokes_cell part (invokes_of s) c) (groups_drive part (captures_of part (invokes_of s)) c)
      (groups_drive_in part (captures_of part (invokes_of s)) g c (capture_among (invokes_of s) j g (invoke_among s j (timed_same s j i)) less captures) e))

  pub fed_drives : (s : PlainStatement) (c : ℕ) → IsFedBy (form_of s) c → drives_all part s c ≡ true
  fed_drives s c (j, i, less, e) =
      or_right (drives part s c) (invokes_cell part (invokes_of s) c || groups_drive part (captures_of part (invokes_of s)) c)
      (or_left (invokes_cell part (invokes_of s) c) (groups_drive part (captures_of part (invokes_of s)) c) (cell_among (invokes_of s) j c (invoke_among s j (timed_same s j i)) less e))

  only_drives : (g c : ℕ) → drives part (enabled g) c ≡ true → group_drives part g c ≡ true
  only_drives g c e = go (group_drives part g c) e
    where
      go : (b : Bool) → (b || false) ≡ true → b ≡ true
      go true f = refl
      go false f = f

  pub owned_reads : (s : PlainStatement) (g : ℕ) → IsOwned (form_of s) g → {c : ℕ} → Reads part (enabled g) c → ReadsAll part s c
  owned_reads s g own {c} (plain.driven e) = driven (owned_drives s g c own (only_drives g c e))
  owned_reads s g (inl i) (plain.named p h a (inl same) j names) = named p h a (subst (In (groups_of s)) same (groups_same s g i)) j names
  owned_reads s g (inl i) (plain.named p h a (inr none) j names) = absurd none
  owned_reads s g (inr (k, i, less, captures)) (plain.named p h a (inl same) j names) =
      captured p h a (subst (In (captures_of part (invokes_of s))) same (capture_among (invokes_of s) k g (invoke_among s k (timed_same s k i)) less captures)) j names
  owned_reads s g (inr x) (plain.named p h a (inr none) j names) = absurd none
  owned_reads s g own (plain.tested p test i e) = absurd i
  owned_reads s g own (plain.through e p q a r i f names) = through e p q a (owned_reads s g own r) i f names
