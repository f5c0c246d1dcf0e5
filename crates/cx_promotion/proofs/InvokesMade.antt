-- STATIC INVOKES STAY: made control has the same ones, which bind and capture the same, and last as long.
use Rattle.std.proofs.Common.{◌≡◌, ℕ, ◌+◌, ◌*◌, max, inl, ◌&&◌, ◌||◌, List, [], ◌∷◌, ◌++◌, refl, sym, ap, ap₂, ◌∙◌, subst, append_assoc, length}
use Rattle.std.proofs.lemmas.Grind.{flat_map-append}
use Rattle.std.proofs.lemmas.List.{append-nil}
use Rattle.std.specs.Prelude.{◌<◌, flat_map, is_some, slice_get}
use Rattle.cx_text.specs.Members.{In}
use Rattle.cx_meaning.specs.Designs.{PlainInvoke, PlainComponent, PlainForm, Empty, Enable, Seq, Par, If, While, Repeat, StaticSeq, StaticPar, StaticIf, StaticRepeat, Timed, PlainStatement, Placed, PlainStatements, no_statements, a_statement}
use Rattle.cx_meaning.specs.Instances.{Instance, part_of}
use Rattle.cx_meaning.specs.Control.{groups_in, groups_of, groups_in_all, groups_drive}
use Rattle.cx_meaning.specs.Islands.{or_zero}
use Rattle.cx_rules.specs.Items.{Context, Dynamic, InStatic, Branch, Visited, visit, visit_parts, visit_all}
use Rattle.cx_rules.specs.Invokes.{invoke_at, invoke_length, form_lasts, lasts, sum_lasts, max_lasts, invoke_in, invokes_of, capture_of, captures_of, is_cell_of, invokes_cell, drives_all}
use Rattle.cx_rules.specs.InvokeShape.{LeadsToCell, itself, through, InvokeBreak, another_kind, unbound, restless, fed_back}
use Rattle.cx_rules.specs.StaticControl.{is_timed, form_has_length, has_length, all_have_length}
use Rattle.cx_rewrites.specs.Beside.{joined}
use Rattle.cx_promotion.specs.Made.{IsRun, no_more, one_more, FormMade, empty, enable, seq, collapsed, par, if_made, while_made, repeat_made, static, timed, StatementMade, placed, PartsMade, no_parts, a_part, a_run, ArmsMade, no_arms, an_arm, PartMade}
use Rattle.cx_promotion.proofs.MadeControl.{groups_drive-made}
use Rattle.cx_promotion.proofs.StaticStays.{Same, same_left, same_right}
use Rattle.cx_promotion.proofs.Twins.{Twins}
use Rattle.cx_promotion.proofs.PortsMade.{SameSignature, old_child}
use Rattle.cx_promotion.proofs.LeadsMade.{rests_made}

-- BY THEIR NUMBERS, in the order in which they stand
abbrev listed : List Visited → List ℕ
listed vs = flat_map (λ v. invoke_in v.form) vs

both_listed : (xs ys zs ws : List Visited) → listed xs ≡ listed zs → listed ys ≡ listed ws → listed (xs ++ ys) ≡ listed (zs ++ ws)
both_listed xs ys zs ws e f =
    flat_map-append (λ (v : Visited). invoke_in v.form) xs ys ∙ ap₂ (λ ks ns. ks ++ ns) e f ∙ sym (flat_map-append (λ (v : Visited). invoke_in v.form) zs ws)

visited_joined : (ss later : PlainStatements) → visit_all Dynamic (joined ss later) ≡ visit_all Dynamic ss ++ visit_all Dynamic later
visited_joined no_statements later = refl
visited_joined (a_statement s ss) later =
    ap (λ vs. visit Dynamic s ++ vs) (visited_joined ss later) ∙ sym (append_assoc (visit Dynamic s) (visit_all Dynamic ss) (visit_all Dynamic later))

module _ (promoted : ℕ → Type 0) where
  run_has_none : (context : Context) {ss : PlainStatements} → IsRun promoted ss → listed (visit_all context ss) ≡ []
  run_has_none context no_more = refl
  run_has_none context (one_more is later) = run_has_none context later

  mutual
    form_invokes : {form other : PlainForm} → FormMade promoted form other → invoke_in other ++ listed (visit_parts Dynamic other) ≡ invoke_in form ++ listed (visit_parts Dynamic form)
    form_invokes empty = refl
    form_invokes enable = refl
    form_invokes (seq parts) = parts_invokes parts
    form_invokes (collapsed {form = form} parts) = ap (λ vs. invoke_in form ++ listed vs) (sym (append-nil (visit_parts Dynamic form))) ∙ parts_invokes parts
    form_invokes (par arms) = arms_invokes arms
    form_invokes (if_made {a = a} {b = b} {x = x} {y = y} one two) = both_listed (visit Dynamic x) (visit Dynamic y) (visit Dynamic a) (visit Dynamic b) (made_invokes one) (made_invokes two)
    form_invokes (while_made one) = made_invokes one
    form_invokes (repeat_made one) = made_invokes one
    form_invokes (static is) = refl
    form_invokes timed = refl

    pub made_invokes : {s t : PlainStatement} → StatementMade promoted s t → invokes_of t ≡ invokes_of s
    made_invokes (placed form) = form_invokes form

    parts_invokes : {ss tt : PlainStatements} → PartsMade promoted ss tt → listed (visit_all Dynamic tt) ≡ listed (visit_all Dynamic ss)
    parts_invokes no_parts = refl
    parts_invokes (a_part {s = s} {t = t} {ss = ss} {tt = tt} first later) = both_listed (visit Dynamic t) (visit_all Dynamic tt) (visit Dynamic s) (visit_all Dynamic ss) (made_invokes first) (parts_invokes later)
    parts_invokes (a_run {s = s} {run = run} {ss = ss} {tt = tt} is later) =
        both_listed (visit_all InStatic (a_statement s run)) (visit_all Dynamic tt) (visit_all Dynamic (a_statement s run)) (visit_all Dynamic ss)
        (run_has_none InStatic is ∙ sym (run_has_none Dynamic is)) (parts_invokes later)
        ∙ ap listed (sym (visited_joined (a_statement s run) ss))

    arms_invokes : {ss tt : PlainStatements} → ArmsMade promoted ss tt → listed (visit_all Dynamic tt) ≡ listed (visit_all Dynamic ss)
    arms_invokes no_arms = refl
    arms_invokes (an_arm {s = s} {t = t} {ss = ss} {tt = tt} first later) = both_listed (visit Dynamic t) (visit_all Dynamic tt) (visit Dynamic s) (visit_all Dynamic ss) (made_invokes first) (arms_invokes later)

-- WHAT HANGS ON THE INVOKES, and on the lengths of the groups that are enabled
module _ (part other : PlainComponent) (invoked : part.invokes ≡ other.invokes) where
  pub invoke_same : (k : ℕ) → invoke_at other k ≡ invoke_at part k
  invoke_same k = ap (λ vs. slice_get vs k) (sym invoked)

  invokes_cell-same : (ks : List ℕ) (c : ℕ) → invokes_cell other ks c ≡ invokes_cell part ks c
  invokes_cell-same [] c = refl
  invokes_cell-same (k ∷ ks) c = ap₂ (λ v b. is_cell_of v c || b) (invoke_same k) (invokes_cell-same ks c)

  pub captures-same : (ks : List ℕ) → captures_of other ks ≡ captures_of part ks
  captures-same [] = refl
  captures-same (k ∷ ks) = ap₂ (λ v gs. capture_of v ++ gs) (invoke_same k) (captures-same ks)

  abbrev Kept : List ℕ → Type 0
  Kept gs = Same part other gs

  mutual
    pub form_lasts_same : (form : PlainForm) → Kept (groups_in form) → form_lasts other form ≡ form_lasts part form
    form_lasts_same Empty same = refl
    form_lasts_same (Enable g) same = ap or_zero (same g (inl refl))
    form_lasts_same (Seq parts) same = refl
    form_lasts_same (Par arms) same = refl
    form_lasts_same (If test comb a b) same = refl
    form_lasts_same (While test comb a) same = refl
    form_lasts_same (Repeat count a) same = refl
    form_lasts_same (StaticSeq length parts) same = sum_lasts_same parts same
    form_lasts_same (StaticPar length arms) same = max_lasts_same arms same
    form_lasts_same (StaticIf length test a b) same = ap₂ max (lasts_same a (same_left part other (groups_of a) (groups_of b) same)) (lasts_same b (same_right part other (groups_of a) (groups_of b) same))
    form_lasts_same (StaticRepeat length count a) same = ap (λ n. count * n) (lasts_same a same)
    form_lasts_same (Timed k) same = ap invoke_length (invoke_same k)

    pub lasts_same : (s : PlainStatement) → Kept (groups_of s) → lasts other s ≡ lasts part s
    lasts_same (Placed form place) same = form_lasts_same form same

    sum_lasts_same : (ss : PlainStatements) → Kept (groups_in_all ss) → sum_lasts other ss ≡ sum_lasts part ss
    sum_lasts_same no_statements same = refl
    sum_lasts_same (a_statement s ss) same =
        ap₂ (λ m n. m + n) (lasts_same s (same_left part other (groups_of s) (groups_in_all ss) same)) (sum_lasts_same ss (same_right part other (groups_of s) (groups_in_all ss) same))

    max_lasts_same : (ss : PlainStatements) → Kept (groups_in_all ss) → max_lasts other ss ≡ max_lasts part ss
    max_lasts_same no_statements same = refl
    max_lasts_same (a_statement s ss) same = ap₂ max (lasts_same s (same_left part other (groups_of s) (groups_in_all ss) same)) (max_lasts_same ss (same_right part other (groups_of s) (groups_in_all ss) same))

  mutual
    pub form_has_length_same : (context : Context) (form : PlainForm) → Kept (groups_in form) → form_has_length other context form ≡ form_has_length part context form
    form_has_length_same context Empty same = refl
    form_has_length_same context (Enable g) same = ap is_some (same g (inl refl))
    form_has_length_same context (Seq parts) same = refl
    form_has_length_same context (Par arms) same = refl
    form_has_length_same context (If test comb a b) same = refl
    form_has_length_same context (While test comb a) same = refl
    form_has_length_same context (Repeat count a) same = refl
    form_has_length_same context (StaticSeq length parts) same = all_have_length_same parts same
    form_has_length_same context (StaticPar length arms) same = all_have_length_same arms same
    form_has_length_same context (StaticIf length test a b) same =
        ap₂ (λ x y. x && y) (has_length_same Branch a (same_left part other (groups_of a) (groups_of b) same)) (has_length_same Branch b (same_right part other (groups_of a) (groups_of b) same))
    form_has_length_same context (StaticRepeat length count a) same = has_length_same InStatic a same
    form_has_length_same context (Timed k) same = ap is_timed (invoke_same k)

    has_length_same : (context : Context) (s : PlainStatement) → Kept (groups_of s) → has_length other context s ≡ has_length part context s
    has_length_same context (Placed form place) same = form_has_length_same context form same

    all_have_length_same : (ss : PlainStatements) → Kept (groups_in_all ss) → all_have_length other ss ≡ all_have_length part ss
    all_have_length_same no_statements same = refl
    all_have_length_same (a_statement s ss) same =
        ap₂ (λ x y. x && y) (has_length_same InStatic s (same_left part other (groups_of s) (groups_in_all ss) same)) (all_have_length_same ss (same_right part other (groups_of s) (groups_in_all ss) same))

-- DRIVES the same, where the groups and the invokes of two statements are the same
pub drives_all-made : (i : Instance) (old new : PlainComponent) → PartMade i old new → (s t : PlainStatement) → groups_of t ≡ groups_of s → invokes_of t ≡ invokes_of s → (c : ℕ) → drives_all new t c ≡ drives_all old s c
drives_all-made i old new made s t groups invokes c =
    ap₂ (λ gs ks. groups_drive new gs c || (invokes_cell new ks c || groups_drive new (captures_of new ks) c)) groups invokes
    ∙ ap₂ (λ d b. d || b) (groups_drive-made i old new made (groups_of s) c)
    (ap₂ (λ d b. d || b) (invokes_cell-same old new made.invokes (invokes_of s) c)
    (ap (λ gs. groups_drive new gs c) (captures-same old new made.invokes (invokes_of s)) ∙ groups_drive-made i old new made (captures_of old (invokes_of s)) c))

-- WHAT IS WRONG with a static invoke of the new design is wrong with it in the old one
module _ (i j : Instance) (t : Twins SameSignature i j) (made : PartMade i (part_of i) (part_of j)) where
  to_cell_back : {e c : ℕ} → LeadsToCell (part_of j) e c → LeadsToCell (part_of i) e c
  to_cell_back itself = itself
  to_cell_back (through m p q a leads stands target names) = through m p q a (to_cell_back leads) (subst (λ list. In list a) (sym made.always) stands) target names

  pub invoke_break_back : (w : PlainInvoke) → InvokeBreak j w → InvokeBreak i w
  invoke_break_back w (another_kind none) = another_kind none
  invoke_break_back w (unbound kid n at few undriven) =
      let r = old_child i j t w.cell kid at in
      unbound r.child n r.at (subst (λ list. n < length list) (sym r.same.inputs) few) undriven
  invoke_break_back w (restless a q input names wrong) = restless a q input names (λ rests. wrong (rests_made i i j t made rests))
  invoke_break_back w (fed_back a e p input names leads) = fed_back a e p input names (to_cell_back leads)
