-- FORMS of flat control: a group that it enables is there and no comb group, the group of a with is there and is one, and it has no static
-- invoke, where control of the tree has groups and invokes that are there.
use Rattle.std.proofs.Common.{◌≡◌, ℕ, ◌<◌, inl, inr, ⊎_elim, true, false, List, [], ◌++◌, length, map, Option, Some, None, refl, sym, ap, ◌∙◌, subst, arith}
use Rattle.std.specs.Prelude.{flat_map}
use Rattle.std.proofs.lemmas.List.{get_or_append_left, get_or-map, length-map}
use Rattle.cx_text.proofs.MemberLaws.{in_either, in_left, in_right}
use Rattle.cx_meaning.specs.declared.ports.PortRef.{PortRef}
use Rattle.cx_meaning.specs.declared.kinds.GroupKind.{GroupKind}
use Rattle.cx_meaning.specs.declared.kinds.GroupKind.TheVariants as kinds
use Rattle.cx_meaning.specs.Designs.{PlainForm, Empty, Enable, Seq, Par, If, While, Repeat, StaticSeq, StaticPar, StaticIf, StaticRepeat, Timed, PlainStatement, Placed, PlainStatements, no_statements, a_statement, PlainComponent, PlainGroup, group_at, no_group}
use Rattle.cx_meaning.specs.Instances.{Instance, Node, Cells, OfInstance, cell_at}
use Rattle.cx_meaning.specs.Control.{with_comb, groups_in, groups_of, groups_in_all}
use Rattle.cx_meaning.specs.Islands.{kind_length}
use Rattle.cx_text.specs.Members.{In}
use Rattle.cx_rules.specs.Items.{is_comb, Context, Dynamic, InStatic, Branch, below_dynamic, Visited, visit, visit_parts, visit_all}
use Rattle.cx_rules.specs.Wellformed.{IsEnable, IsWith, IsForm}
use Rattle.cx_rewrites.specs.Moving.{moved_group}
use Rattle.cx_flattening.specs.Events.{the_invoke}
use Rattle.cx_flattening.specs.Whole.{is_static}
use Rattle.cx_flattening.specs.Copies.{copied_comb, copied_form, copied_statement, copied_statements}
use Rattle.cx_flattening.specs.Flattened.{Kids, kid_at, own_port, invoke_port, copies, copy_of, with_capture, inlined, flat_form, flat_statement, flat_statements, flat_kids, flat_part}
use Rattle.cx_flattening.specs.Controlled.{IsControlled}
use Rattle.cx_flattening.proofs.FlatGroups.{in_one_of, copy-is}
use Rattle.cx_flattening.proofs.FlatOrigins.{copy_there, own_there}
use Rattle.cx_flattening.proofs.FlatSafe.{kid_from}
use Rattle.cx_flattening.proofs.Ruled.{IsRuled}

module _ (part : PlainComponent) where
  -- a statement all of whose parts have groups and invokes that are there
  abbrev mutual
    pub FormShaped : PlainForm → Type 0
    FormShaped Empty = Unit {0}
    FormShaped (Enable g) = IsEnable part g
    FormShaped (Seq ss) = AllShaped ss
    FormShaped (Par arms) = AllShaped arms
    FormShaped (If test comb a b) = IsWith part comb × (Shaped a × Shaped b)
    FormShaped (While test comb a) = IsWith part comb × Shaped a
    FormShaped (Repeat count a) = Shaped a
    FormShaped (StaticSeq written ss) = AllShaped ss
    FormShaped (StaticPar written arms) = AllShaped arms
    FormShaped (StaticIf written test a b) = Shaped a × Shaped b
    FormShaped (StaticRepeat written count a) = Shaped a
    FormShaped (Timed k) = k < length part.invokes

    pub Shaped : PlainStatement → Type 0
    Shaped (Placed form place) = FormShaped form

    pub AllShaped : PlainStatements → Type 0
    AllShaped no_statements = Unit {0}
    AllShaped (a_statement s ss) = Shaped s × AllShaped ss

  abbrev Visits : List Visited → Type 0
  Visits vs = (v : Visited) → In vs v → IsForm part v.form

  visits_both : (xs ys : List Visited) → Visits xs → Visits ys → Visits (xs ++ ys)
  visits_both xs ys h g v i = ⊎_elim (λ j. h v j) (λ j. g v j) (in_either xs ys v i)

  -- each of them
  mutual
    form_visits : (context : Context) (form : PlainForm) → FormShaped form → Visits (visit_parts context form)
    form_visits context Empty h v i = absurd i
    form_visits context (Enable g) h v i = absurd i
    form_visits context (Seq ss) h v i = all_visits (below_dynamic context) ss h v i
    form_visits context (Par arms) h v i = all_visits (below_dynamic context) arms h v i
    form_visits context (If test comb a b) h v i =
        visits_both (visit (below_dynamic context) a) (visit (below_dynamic context) b) (one_visits (below_dynamic context) a h.1.0) (one_visits (below_dynamic context) b h.1.1) v i
    form_visits context (While test comb a) h v i = one_visits (below_dynamic context) a h.1 v i
    form_visits context (Repeat count a) h v i = one_visits (below_dynamic context) a h v i
    form_visits context (StaticSeq written ss) h v i = all_visits InStatic ss h v i
    form_visits context (StaticPar written arms) h v i = all_visits InStatic arms h v i
    form_visits context (StaticIf written test a b) h v i = visits_both (visit Branch a) (visit Branch b) (one_visits Branch a h.0) (one_visits Branch b h.1) v i
    form_visits context (StaticRepeat written count a) h v i = one_visits InStatic a h v i
    form_visits context (Timed k) h v i = absurd i

    pub one_visits : (context : Context) (s : PlainStatement) → Shaped s → Visits (visit context s)
    one_visits context (Placed form place) h v (inl same) = subst (λ (x : Visited). IsForm part x.form) same (head form h)
    one_visits context (Placed form place) h v (inr i) = form_visits context form h v i

    all_visits : (context : Context) (ss : PlainStatements) → AllShaped ss → Visits (visit_all context ss)
    all_visits context no_statements h v i = absurd i
    all_visits context (a_statement s ss) h v i = visits_both (visit context s) (visit_all context ss) (one_visits context s h.0) (all_visits context ss h.1) v i

    head : (form : PlainForm) → FormShaped form → IsForm part form
    head Empty h = tt
    head (Enable g) h = h
    head (Seq ss) h = tt
    head (Par arms) h = tt
    head (If test comb a b) h = h.0
    head (While test comb a) h = h.0
    head (Repeat count a) h = tt
    head (StaticSeq written ss) h = tt
    head (StaticPar written arms) h = tt
    head (StaticIf written test a b) h = tt
    head (StaticRepeat written count a) h = tt
    head (Timed k) h = h

  -- and back
  mutual
    shaped_form : (context : Context) (form : PlainForm) → IsForm part form → Visits (visit_parts context form) → FormShaped form
    shaped_form context Empty own h = tt
    shaped_form context (Enable g) own h = own
    shaped_form context (Seq ss) own h = shaped_all (below_dynamic context) ss h
    shaped_form context (Par arms) own h = shaped_all (below_dynamic context) arms h
    shaped_form context (If test comb a b) own h =
        (own, (shaped (below_dynamic context) a (λ v i. h v (in_left (visit (below_dynamic context) a) (visit (below_dynamic context) b) v i)), shaped (below_dynamic context) b (λ v i. h v (in_right (visit (below_dynamic context) a) (visit (below_dynamic context) b) v i))))
    shaped_form context (While test comb a) own h = (own, shaped (below_dynamic context) a h)
    shaped_form context (Repeat count a) own h = shaped (below_dynamic context) a h
    shaped_form context (StaticSeq written ss) own h = shaped_all InStatic ss h
    shaped_form context (StaticPar written arms) own h = shaped_all InStatic arms h
    shaped_form context (StaticIf written test a b) own h =
        (shaped Branch a (λ v i. h v (in_left (visit Branch a) (visit Branch b) v i)), shaped Branch b (λ v i. h v (in_right (visit Branch a) (visit Branch b) v i)))
    shaped_form context (StaticRepeat written count a) own h = shaped InStatic a h
    shaped_form context (Timed k) own h = own

    pub shaped : (context : Context) (s : PlainStatement) → Visits (visit context s) → Shaped s
    shaped context (Placed form place) h = shaped_form context form (h (record { context = context; form = form; place = place }) (inl refl)) (λ v i. h v (inr i))

    shaped_all : (context : Context) (ss : PlainStatements) → Visits (visit_all context ss) → AllShaped ss
    shaped_all context no_statements h = tt
    shaped_all context (a_statement s ss) h =
        (shaped context s (λ v i. h v (in_left (visit context s) (visit_all context ss) v i)), shaped_all context ss (λ v i. h v (in_right (visit context s) (visit_all context ss) v i)))

-- A COPY of control without static invokes
abbrev Among : List ℕ → (ℕ → Type 0) → Type 0
Among gs P = (g : ℕ) → In gs g → P g

module _ (kid K : PlainComponent) (bare : kid.invokes ≡ []) (f : PortRef → PortRef) (copy : ℕ → ℕ) where
  -- what is said of the copies of these groups
  abbrev Copied : List ℕ → Type 0
  Copied gs = Among gs (λ g. (copy g < length K.groups) × (is_comb (group_at K (copy g)).kind ≡ is_comb (group_at kid g).kind))

  left : (xs ys : List ℕ) → Copied (xs ++ ys) → Copied xs
  left xs ys h g i = h g (in_left xs ys g i)

  right : (xs ys : List ℕ) → Copied (xs ++ ys) → Copied ys
  right xs ys h g i = h g (in_right xs ys g i)

  behind : (comb : Option ℕ) (gs : List ℕ) → Copied (with_comb comb gs) → Copied gs
  behind None gs h g i = h g i
  behind (Some x) gs h g i = h g (inr i)

  comb_copied : (comb : Option ℕ) (gs : List ℕ) → Copied (with_comb comb gs) → IsWith kid comb → IsWith K (copied_comb copy comb)
  comb_copied None gs h own = tt
  comb_copied (Some g) gs h own = let r = h g (inl refl) in (r.0, r.1 ∙ own.1)

  mutual
    form_copied : (form : PlainForm) → Copied (groups_in form) → FormShaped kid form → FormShaped K (copied_form f copy form)
    form_copied Empty there h = tt
    form_copied (Enable g) there h = let r = there g (inl refl) in (r.0, r.1 ∙ h.1)
    form_copied (Seq ss) there h = all_copied ss there h
    form_copied (Par arms) there h = all_copied arms there h
    form_copied (If test comb a b) there h =
        let inner = behind comb (groups_of a ++ groups_of b) there in
        (comb_copied comb (groups_of a ++ groups_of b) there h.0, (shaped_copied a (left (groups_of a) (groups_of b) inner) h.1.0, shaped_copied b (right (groups_of a) (groups_of b) inner) h.1.1))
    form_copied (While test comb a) there h = (comb_copied comb (groups_of a) there h.0, shaped_copied a (behind comb (groups_of a) there) h.1)
    form_copied (Repeat count a) there h = shaped_copied a there h
    form_copied (StaticSeq written ss) there h = all_copied ss there h
    form_copied (StaticPar written arms) there h = all_copied arms there h
    form_copied (StaticIf written test a b) there h = (shaped_copied a (left (groups_of a) (groups_of b) there) h.0, shaped_copied b (right (groups_of a) (groups_of b) there) h.1)
    form_copied (StaticRepeat written count a) there h = shaped_copied a there h
    form_copied (Timed k) there h = absurd (let none = ap length bare in omega (arith, h, none))

    pub shaped_copied : (s : PlainStatement) → Copied (groups_of s) → Shaped kid s → Shaped K (copied_statement f copy s)
    shaped_copied (Placed form place) there h = form_copied form there h

    all_copied : (ss : PlainStatements) → Copied (groups_in_all ss) → AllShaped kid ss → AllShaped K (copied_statements f copy ss)
    all_copied no_statements there h = tt
    all_copied (a_statement s ss) there h = (shaped_copied s (left (groups_of s) (groups_in_all ss) there) h.0, all_copied ss (right (groups_of s) (groups_in_all ss) there) h.1)

-- FLAT CONTROL, where its invokes become such
module _ (kids : Kids) (part K : PlainComponent) (own : (g : ℕ) → g < length part.groups → (g < length K.groups) × (is_comb (group_at K g).kind ≡ is_comb (group_at part g).kind))
    (invokes : (k : ℕ) → k < length part.invokes → FormShaped K (inlined kids part (kid_at kids (the_invoke part k).cell) k (the_invoke part k))) where
  own_comb : (comb : Option ℕ) → IsWith part comb → IsWith K comb
  own_comb None h = tt
  own_comb (Some g) h = let r = own g h.0 in (r.0, r.1 ∙ h.1)

  mutual
    form_flat : (form : PlainForm) → FormShaped part form → FormShaped K (flat_form kids part form)
    form_flat Empty h = tt
    form_flat (Enable g) h = let r = own g h.0 in (r.0, r.1 ∙ h.1)
    form_flat (Seq ss) h = all_flat ss h
    form_flat (Par arms) h = all_flat arms h
    form_flat (If test comb a b) h = (own_comb comb h.0, (shaped_flat a h.1.0, shaped_flat b h.1.1))
    form_flat (While test comb a) h = (own_comb comb h.0, shaped_flat a h.1)
    form_flat (Repeat count a) h = shaped_flat a h
    form_flat (StaticSeq written ss) h = all_flat ss h
    form_flat (StaticPar written arms) h = all_flat arms h
    form_flat (StaticIf written test a b) h = (shaped_flat a h.0, shaped_flat b h.1)
    form_flat (StaticRepeat written count a) h = shaped_flat a h
    form_flat (Timed k) h = invokes k h

    shaped_flat : (s : PlainStatement) → Shaped part s → Shaped K (flat_statement kids part s)
    shaped_flat (Placed form place) h = form_flat form h

    all_flat : (ss : PlainStatements) → AllShaped part ss → AllShaped K (flat_statements kids part ss)
    all_flat no_statements h = tt
    all_flat (a_statement s ss) h = (shaped_flat s h.0, all_flat ss h.1)

timed_no_comb : (kind : GroupKind) (n : ℕ) → kind_length kind ≡ Some n → is_comb kind ≡ false
timed_no_comb kinds.Plain n e = refl
timed_no_comb kinds.Comb n e = absurd (let clash : ◌≡◌ {A = Option ℕ} None (Some n) = e in cc)
timed_no_comb (kinds.Timed m) n e = refl

captured : (K : PlainComponent) (o : Option ℕ) (s : PlainStatement) → ((g : ℕ) → o ≡ Some g → IsEnable K g) → Shaped K s → FormShaped K (with_capture o s)
captured K None (Placed form place) own h = h
captured K (Some g) s own h = (h, (own g refl, tt))

-- of an instance
abbrev pub HasShape : Instance → Type 0
HasShape i = Shaped (flat_part i) (flat_part i).control

bare : (i : Instance) → (flat_part i).invokes ≡ []
bare (Node part cells) = refl

pub part_shaped : (part : PlainComponent) (cells : Cells) → IsRuled part (Node part cells) → IsControlled (Node part cells)
    → ((c : ℕ) (child : Instance) → cell_at cells c ≡ OfInstance child → is_static child ≡ true → HasShape child)
    → ((c : ℕ) (child : Instance) (g : ℕ) → cell_at cells c ≡ OfInstance child → is_static child ≡ true → In (groups_of (flat_part child).control) g → g < length (flat_part child).groups)
    → HasShape (Node part cells)
part_shaped part cells ruled controlled below there =
    shaped_flat kids part K own invoked part.control (shaped part Dynamic part.control (λ v i. (ruled.statements v i).form))
  where
    kids : Kids
    kids = flat_kids cells

    K : PlainComponent
    K = flat_part (Node part cells)

    own : (g : ℕ) → g < length part.groups → (g < length K.groups) × (is_comb (group_at K g).kind ≡ is_comb (group_at part g).kind)
    own g less = (
      own_there kids part g less,
      ap (λ (x : PlainGroup). is_comb x.kind)
          (get_or_append_left (map (moved_group (own_port kids part)) part.groups) (flat_map (copies kids part) part.invokes) no_group g (let same = length-map part.groups (moved_group (own_port kids part)) in omega (arith, less, same))
          ∙ get_or-map (moved_group (own_port kids part)) part.groups g no_group no_group less),
    )

    of_kid : (k : ℕ) → k < length part.invokes → (o : Option PlainComponent) → kid_at kids (the_invoke part k).cell ≡ o → FormShaped K (inlined kids part o k (the_invoke part k))
    of_kid k less None its = tt
    of_kid k less (Some kid) its =
        let v = the_invoke part k in
        let r = kid_from cells v.cell kid its in
        captured K v.captures (copied_statement (invoke_port kids part kid v) (copy_of kids part kid k) kid.control)
        (λ g e.
        let c = (controlled.invokes k less).captures g e in
        let o = own g c.0 in
        (o.0, o.1 ∙ timed_no_comb (group_at part g).kind 1 c.1))
        (shaped_copied kid K (ap (λ (x : PlainComponent). x.invokes) (sym r.3) ∙ bare r.0) (invoke_port kids part kid v) (copy_of kids part kid k) kid.control
        (λ g i.
        let inside : g < length kid.groups = subst (λ (x : PlainComponent). In (groups_of x.control) g → g < length x.groups) r.3 (there v.cell r.0 g r.1 r.2) i in
        (copy_there kids part k g kid less its i inside, ap (λ (x : PlainGroup). is_comb x.kind) (copy-is kids part k g kid less its (in_one_of g (groups_of kid.control) i) inside)))
        (subst (λ (x : PlainComponent). Shaped x x.control) r.3 (below v.cell r.0 r.1 r.2)))

    invoked : (k : ℕ) → k < length part.invokes → FormShaped K (inlined kids part (kid_at kids (the_invoke part k).cell) k (the_invoke part k))
    invoked k less = of_kid k less (kid_at kids (the_invoke part k).cell) refl
