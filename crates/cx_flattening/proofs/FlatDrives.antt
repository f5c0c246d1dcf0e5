-- WHAT A FLAT STATEMENT DRIVES: a cell that is kept where the statement drives it, and of a static child's cells those alone that it invokes.
use Rattle.std.proofs.Common.{◌≡◌, ℕ, zero, suc, ◌+◌, ◌<◌, inl, inr, ⊎_elim, true, false, List, [], ◌∷◌, ◌++◌, length, get_or, Option, Some, None, refl, sym, ap, ◌∙◌, subst, arith}
use Rattle.std.proofs.lemmas.Bool.{eqb-true}
use Rattle.std.proofs.lemmas.Option.{get_or_from_slice_get}
use Rattle.cx_text.proofs.MemberLaws.{in_either, in_left, in_right}
use Rattle.cx_meaning.specs.declared.ports.PortRef.{PortRef}
use Rattle.cx_meaning.specs.declared.ports.PortRef.TheVariants as ports
use Rattle.cx_meaning.specs.Designs.{PlainAssign, PlainGroup, PlainInvoke, PlainComponent, no_group, PlainForm, Empty, Enable, Seq, Par, If, While, Repeat, StaticSeq, StaticPar, StaticIf, StaticRepeat, Timed, PlainStatement, Placed, PlainStatements, no_statements, a_statement}
use Rattle.cx_meaning.specs.Control.{with_comb, groups_in, groups_of, groups_in_all, targets_cell, assigns_drive}
use Rattle.cx_text.specs.Members.{In}
use Rattle.cx_meaning.proofs.InstancesLemmas.{just_true}
use Rattle.cx_rules.specs.Counts.{is_one_of}
use Rattle.cx_rules.specs.Items.{Context, Dynamic, InStatic, Branch, below_dynamic, Visited, visit, visit_parts, visit_all, option_list}
use Rattle.cx_rules.specs.Invokes.{invoke_at, invokes_of, capture_of, captures_of, is_cell_of, invokes_cell}
use Rattle.cx_text.proofs.ListLaws.{there_below}
use Rattle.cx_text.proofs.BoolLaws.{or_either}
use Rattle.cx_flattening.specs.Events.{no_invoke, the_invoke}
use Rattle.cx_flattening.specs.Flattened.{Kids, flat_form, flat_statement, flat_statements}
use Rattle.cx_flattening.specs.Targets.{AllUsed}
use Rattle.cx_flattening.specs.Controlled.{timed_in, timed_of, timed_all}
use Rattle.cx_flattening.proofs.Ruled.{invoke_found}

-- an assignment that drives a cell
pub driving : (list : List PlainAssign) (c : ℕ) → assigns_drive list c ≡ true → (a : PlainAssign) × (p : ℕ) × In list a × (a.target ≡ ports.Cell c p)
driving [] c e = absurd (let f : false ≡ true = e in cc)
driving (a ∷ rest) c e =
    ⊎_elim
    (λ h. let r = at a.target h in (a, r.0, inl refl, r.1))
    (λ h. let r = driving rest c h in (r.0, r.1, inr r.2, r.3))
    (or_either (targets_cell a.target c) (assigns_drive rest c) e)
  where
    at : (t : PortRef) → targets_cell t c ≡ true → (p : ℕ) × (t ≡ ports.Cell c p)
    at (ports.Cell d p) h = (p, ap (λ k. ports.Cell k p) (just_true d c h))
    at (ports.Input n) h = absurd (let f : false ≡ true = h in cc)
    at (ports.Output n) h = absurd (let f : false ≡ true = h in cc)
    at (ports.Done g) h = absurd (let f : false ≡ true = h in cc)
    at (ports.Literal w v) h = absurd (let f : false ≡ true = h in cc)

-- used groups
pub used_target : (P : PlainAssign → Type 0) (used : List ℕ) (g : ℕ) (xs : List PlainGroup) → AllUsed P used g xs → (n : ℕ) → n < length xs → is_one_of (g + n) used ≡ true → (a : PlainAssign) → In (get_or xs n no_group).assigns a → P a
used_target P used g [] all n less e a i = absurd (omega (arith, less))
used_target P used g (x ∷ xs) all zero less e a i = all.0 (ap (λ k. is_one_of k used) (let z : g ≡ g + 0 = omega arith in z) ∙ e) a i
used_target P used g (x ∷ xs) all (suc n) less e a i =
    used_target P used (suc g) xs all.1 n (omega (arith, less)) (ap (λ k. is_one_of k used) (let z : suc g + n ≡ g + suc n = omega arith in z) ∙ e) a i

-- the groups of a statement are among those of its flat form
module _ (kids : Kids) (part : PlainComponent) (g : ℕ) where
  wider : (xs ys zs ws : List ℕ) → (In xs g → In zs g) → (In ys g → In ws g) → In (xs ++ ys) g → In (zs ++ ws) g
  wider xs ys zs ws one other i = ⊎_elim (λ j. in_left zs ws g (one j)) (λ j. in_right zs ws g (other j)) (in_either xs ys g i)

  with_more : (comb : Option ℕ) (xs ys : List ℕ) → (In xs g → In ys g) → In (with_comb comb xs) g → In (with_comb comb ys) g
  with_more None xs ys one i = one i
  with_more (Some h) xs ys one (inl e) = inl e
  with_more (Some h) xs ys one (inr i) = inr (one i)

  mutual
    own_form : (form : PlainForm) → In (groups_in form) g → In (groups_in (flat_form kids part form)) g
    own_form Empty i = i
    own_form (Enable h) i = i
    own_form (Seq ss) i = own_all ss i
    own_form (Par ss) i = own_all ss i
    own_form (If test comb a b) i =
        with_more comb (groups_of a ++ groups_of b) (groups_of (flat_statement kids part a) ++ groups_of (flat_statement kids part b))
        (wider (groups_of a) (groups_of b) (groups_of (flat_statement kids part a)) (groups_of (flat_statement kids part b)) (own_one a) (own_one b)) i
    own_form (While test comb a) i = with_more comb (groups_of a) (groups_of (flat_statement kids part a)) (own_one a) i
    own_form (Repeat count a) i = own_one a i
    own_form (StaticSeq written ss) i = own_all ss i
    own_form (StaticPar written ss) i = own_all ss i
    own_form (StaticIf written test a b) i = wider (groups_of a) (groups_of b) (groups_of (flat_statement kids part a)) (groups_of (flat_statement kids part b)) (own_one a) (own_one b) i
    own_form (StaticRepeat written count a) i = own_one a i
    own_form (Timed k) i = absurd i

    pub own_one : (s : PlainStatement) → In (groups_of s) g → In (groups_of (flat_statement kids part s)) g
    own_one (Placed form place) i = own_form form i

    own_all : (ss : PlainStatements) → In (groups_in_all ss) g → In (groups_in_all (flat_statements kids part ss)) g
    own_all no_statements i = i
    own_all (a_statement s ss) i = wider (groups_of s) (groups_in_all ss) (groups_of (flat_statement kids part s)) (groups_in_all (flat_statements kids part ss)) (own_one s) (own_all ss) i

  module _ (j : ℕ) (here : In (groups_in (flat_form kids part (Timed j))) g) where
    either : (xs ys zs ws : List ℕ) → (In xs j → In zs g) → (In ys j → In ws g) → In (xs ++ ys) j → In (zs ++ ws) g
    either xs ys zs ws one other i = ⊎_elim (λ k. in_left zs ws g (one k)) (λ k. in_right zs ws g (other k)) (in_either xs ys j i)

    behind : (comb : Option ℕ) (ys : List ℕ) → In ys g → In (with_comb comb ys) g
    behind None ys i = i
    behind (Some h) ys i = inr i

    mutual
      timed_form : (form : PlainForm) → In (timed_in form) j → In (groups_in (flat_form kids part form)) g
      timed_form Empty i = absurd i
      timed_form (Enable h) i = absurd i
      timed_form (Seq ss) i = timed_every ss i
      timed_form (Par ss) i = timed_every ss i
      timed_form (If test comb a b) i =
          behind comb (groups_of (flat_statement kids part a) ++ groups_of (flat_statement kids part b))
          (either (timed_of a) (timed_of b) (groups_of (flat_statement kids part a)) (groups_of (flat_statement kids part b)) (timed_single a) (timed_single b) i)
      timed_form (While test comb a) i = behind comb (groups_of (flat_statement kids part a)) (timed_single a i)
      timed_form (Repeat count a) i = timed_single a i
      timed_form (StaticSeq written ss) i = timed_every ss i
      timed_form (StaticPar written ss) i = timed_every ss i
      timed_form (StaticIf written test a b) i = either (timed_of a) (timed_of b) (groups_of (flat_statement kids part a)) (groups_of (flat_statement kids part b)) (timed_single a) (timed_single b) i
      timed_form (StaticRepeat written count a) i = timed_single a i
      timed_form (Timed k) (inl e) = subst (λ x. In (groups_in (flat_form kids part (Timed x))) g) (sym e) here
      timed_form (Timed k) (inr i) = absurd i

      pub timed_single : (s : PlainStatement) → In (timed_of s) j → In (groups_of (flat_statement kids part s)) g
      timed_single (Placed form place) i = timed_form form i

      timed_every : (ss : PlainStatements) → In (timed_all ss) j → In (groups_in_all (flat_statements kids part ss)) g
      timed_every no_statements i = absurd i
      timed_every (a_statement s ss) i = either (timed_of s) (timed_all ss) (groups_of (flat_statement kids part s)) (groups_in_all (flat_statements kids part ss)) (timed_single s) (timed_every ss) i

-- the invokes that the rules number are those of the statement
module _ (j : ℕ) where
  mutual
    timed_visited : (context : Context) (form : PlainForm) (v : Visited) → In (visit_parts context form) v → v.form ≡ Timed j → In (timed_in form) j
    timed_visited context Empty v i e = absurd i
    timed_visited context (Enable h) v i e = absurd i
    timed_visited context (Seq ss) v i e = timed_among (below_dynamic context) ss v i e
    timed_visited context (Par ss) v i e = timed_among (below_dynamic context) ss v i e
    timed_visited context (If test comb a b) v i e =
        ⊎_elim (λ k. in_left (timed_of a) (timed_of b) j (timed_there (below_dynamic context) a v k e)) (λ k. in_right (timed_of a) (timed_of b) j (timed_there (below_dynamic context) b v k e))
        (in_either (visit (below_dynamic context) a) (visit (below_dynamic context) b) v i)
    timed_visited context (While test comb a) v i e = timed_there (below_dynamic context) a v i e
    timed_visited context (Repeat count a) v i e = timed_there (below_dynamic context) a v i e
    timed_visited context (StaticSeq written ss) v i e = timed_among InStatic ss v i e
    timed_visited context (StaticPar written ss) v i e = timed_among InStatic ss v i e
    timed_visited context (StaticIf written test a b) v i e =
        ⊎_elim (λ k. in_left (timed_of a) (timed_of b) j (timed_there Branch a v k e)) (λ k. in_right (timed_of a) (timed_of b) j (timed_there Branch b v k e))
        (in_either (visit Branch a) (visit Branch b) v i)
    timed_visited context (StaticRepeat written count a) v i e = timed_there InStatic a v i e
    timed_visited context (Timed k) v i e = absurd i

    pub timed_there : (context : Context) (s : PlainStatement) (v : Visited) → In (visit context s) v → v.form ≡ Timed j → In (timed_of s) j
    timed_there context (Placed form place) v (inl same) e = subst (λ x. In (timed_in x) j) (sym (ap (λ (y : Visited). y.form) same ∙ e)) (inl refl)
    timed_there context (Placed form place) v (inr i) e = timed_visited context form v i e

    timed_among : (context : Context) (ss : PlainStatements) (v : Visited) → In (visit_all context ss) v → v.form ≡ Timed j → In (timed_all ss) j
    timed_among context no_statements v i e = absurd i
    timed_among context (a_statement s ss) v i e =
        ⊎_elim (λ k. in_left (timed_of s) (timed_all ss) j (timed_there context s v k e)) (λ k. in_right (timed_of s) (timed_all ss) j (timed_among context ss v k e))
        (in_either (visit context s) (visit_all context ss) v i)

pub invoke_timed : (s : PlainStatement) (j : ℕ) → In (invokes_of s) j → In (timed_of s) j
invoke_timed s j i = let r = invoke_found (visit Dynamic s) j i in timed_there j Dynamic s r.0 r.1 r.2

-- the number behind a capture, and behind an invoked cell
module _ (part : PlainComponent) where
  named_invoke : (k : ℕ) (w : PlainInvoke) → invoke_at part k ≡ Some w → (k < length part.invokes) × (the_invoke part k ≡ w)
  named_invoke k w e = (there_below part.invokes k w e, get_or_from_slice_get part.invokes k w no_invoke e)

  pub capture_found : (ks : List ℕ) (g : ℕ) → In (captures_of part ks) g → (j : ℕ) × In ks j × (j < length part.invokes) × ((the_invoke part j).captures ≡ Some g)
  capture_found [] g i = absurd i
  capture_found (k ∷ ks) g i =
      ⊎_elim
      (λ m. by (invoke_at part k) refl m)
      (λ m. let r = capture_found ks g m in (r.0, inr r.1, r.2, r.3))
      (in_either (capture_of (invoke_at part k)) (captures_of part ks) g i)
    where
      only : (o : Option ℕ) → In (option_list o) g → o ≡ Some g
      only None m = absurd m
      only (Some h) (inl e) = ap Some e
      only (Some h) (inr m) = absurd m

      by : (o : Option PlainInvoke) → invoke_at part k ≡ o → In (capture_of o) g → (j : ℕ) × In (k ∷ ks) j × (j < length part.invokes) × ((the_invoke part j).captures ≡ Some g)
      by None e m = absurd m
      by (Some w) e m = let r = named_invoke k w e in (k, inl refl, r.0, ap (λ (v : PlainInvoke). v.captures) r.1 ∙ only w.captures m)

  pub cell_found : (ks : List ℕ) (c : ℕ) → invokes_cell part ks c ≡ true → (j : ℕ) × In ks j × (j < length part.invokes) × ((the_invoke part j).cell ≡ c)
  cell_found [] c e = absurd (let f : false ≡ true = e in cc)
  cell_found (k ∷ ks) c e =
      ⊎_elim
      (λ h. by (invoke_at part k) refl h)
      (λ h. let r = cell_found ks c h in (r.0, inr r.1, r.2, r.3))
      (or_either (is_cell_of (invoke_at part k) c) (invokes_cell part ks c) e)
    where
      by : (o : Option PlainInvoke) → invoke_at part k ≡ o → is_cell_of o c ≡ true → (j : ℕ) × In (k ∷ ks) j × (j < length part.invokes) × ((the_invoke part j).cell ≡ c)
      by None f h = absurd (let g : false ≡ true = h in cc)
      by (Some w) f h = let r = named_invoke k w f in (k, inl refl, r.0, ap (λ (v : PlainInvoke). v.cell) r.1 ∙ eqb-true w.cell c h)
