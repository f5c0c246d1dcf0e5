-- Guards and assignments: what each adds is read by its production as an equal part apart from places.
use Rattle.std.proofs.Common.{◌≡◌, ℕ, zero, suc, true, false, List, [], ◌∷◌, ◌++◌, Option, Some, None, option_map, refl, ap, ◌∙◌, map, inl, inr, ⊎_elim, append_assoc}
use Rattle.std.specs.List.{AllByRecursion}
use Rattle.cx_ast.specs.declared.signs.Sign.TheVariants as signs
use Rattle.cx_ast.specs.declared.tokens.Token.{Token}
use Rattle.cx_ast.specs.declared.components.Attribute.{Attribute}
use Rattle.cx_ast.specs.declared.guards.Comparison.{Comparison}
use Rattle.cx_ast.specs.declared.guards.Comparison.TheVariants as comparisons
use Rattle.cx_ast.specs.declared.operands.OperandItem.{OperandItem}
use Rattle.cx_ast.specs.PlainGuards.{PlainGuard, PlainGuards, NoGuards, GuardThen, guards_of}
use Rattle.cx_ast.specs.PlainGuards as guards
use Rattle.cx_ast.specs.PlainTree.{PlainAssign}
use Rattle.cx_grammar.specs.declared.terminals.Terminal.TheVariants as t
use Rattle.cx_grammar.specs.Grammar.{Nest, Negation, Parens, Nested, Grammar, Spelling, Spells}
use Rattle.cx_grammar.specs.Calyx.{spelled_within}
use Rattle.cx_grammar.specs.Calyx as calyx
use Rattle.cx_print.specs.declared.guards.Binding.{Binding}
use Rattle.cx_print.specs.declared.guards.Binding.TheVariants.{Whole, OrPart, AndPart, NotPart}
use Rattle.cx_print.specs.declared.pieces.Gap.{Gap}
use Rattle.cx_print.specs.declared.pieces.Gap.TheVariants.{Tight, Space, Line}
use Rattle.cx_print.specs.Pieces.{Pieces, put_sign, kinds_in, add_lines, add_operand, comparison_sign, needs_parens, wrapped, add_inside, add_parts, add_guard, add_condition, behind_attributes, add_assign}
use Rattle.cx_print.specs.Places.{bare_operand, bare_guard, bare_guards, bare_assign}
use Rattle.cx_print.specs.Printable.{IsOperand, IsNumber, IfThere, OneDeeper, IsWrapped, HasTwo, IsInside, AreParts, IsAssign}
use Rattle.cx_print.proofs.Adding.{Adds, AddsMany, adds_nothing, adds_pair, adds_left, adds_right, adds_deeper, many_none, many_more, adds_several, adds_both}
use Rattle.cx_print.proofs.HeaderSpelling.{number_added, sign_added, behind_added, before_added, mapped_added, within_added, attributes_added, target_added, operand_added}

-- equal apart from places
abbrev pub Like : PlainGuard → PlainGuard → Type 0
Like g h = bare_guard h ≡ bare_guard g

abbrev AllLike : PlainGuards → List PlainGuard → Type 0
AllLike gs hs = bare_guards (guards_of hs) ≡ bare_guards gs

-- the production of a guard as a part of another
abbrev grammar_at : Binding → Grammar PlainGuard
grammar_at Whole = calyx.guard
grammar_at OrPart = calyx.conj
grammar_at AndPart = calyx.comp
grammar_at NotPart = calyx.unary

module _ {n : ℕ} {P : PlainGuard → Type 0} {add : Pieces → Pieces} where
  comp_of_prefixed : Adds n calyx.prefixed P add → Adds n calyx.comp P add
  unfolding calyx.comp
  comp_of_prefixed a = adds_left _ a

  unary_of_prefixed : Adds n calyx.prefixed P add → Adds n calyx.unary P add
  unfolding calyx.unary
  unary_of_prefixed a = adds_left _ a

  conj_of_comp : Adds n calyx.comp P add → Adds n calyx.conj P add
  unfolding calyx.conj calyx.more_comps
  conj_of_comp a = adds_pair a (adds_several (λ xs. xs) (many_none calyx.next_comp (λ gs. gs ≡ []) refl) (λ gs. gs ≡ []) (λ xs p. p)) P (λ g gs p e. alone g gs p e) where
    alone : (g : PlainGuard) (gs : List PlainGuard) → P g → gs ≡ [] → P (calyx.and_of (g ∷ gs))
    alone g [] p e = p
    alone g (h ∷ gs) p e = absurd (cc)

  guard_of_conj : Adds n calyx.conj P add → Adds n calyx.guard P add
  unfolding calyx.guard calyx.more_conjs
  guard_of_conj a = adds_pair a (adds_several (λ xs. xs) (many_none calyx.next_conj (λ gs. gs ≡ []) refl) (λ gs. gs ≡ []) (λ xs p. p)) P (λ g gs p e. alone g gs p e) where
    alone : (g : PlainGuard) (gs : List PlainGuard) → P g → gs ≡ [] → P (calyx.or_of (g ∷ gs))
    alone g [] p e = p
    alone g (h ∷ gs) p e = absurd (cc)

  -- in parentheses, a level deeper
  parens_of_guard : (gap : Gap) → Adds n calyx.guard P add → Adds (suc n) calyx.prefixed P (λ before. put_sign Tight signs.CloseParen (add (put_sign gap signs.OpenParen before)))
  unfolding calyx.prefixed calyx.nest
  parens_of_guard gap a = adds_right _ (adds_left calyx.window (adds_deeper {m = Parens} (within_added gap signs.OpenParen t.OpenParen refl a Tight signs.CloseParen t.CloseParen refl)))

-- left compared with something that is like the right
abbrev IsCompared : Comparison → OperandItem → (OperandItem → PlainGuard) → Type 0
IsCompared c right f = (left : OperandItem) → bare_guard (f left) ≡ guards.Compare c (bare_operand left) (bare_operand right)

module _ {n : ℕ} where
  -- an operand, a comparison, and cycles of a static group
  operand_comp : (gap : Gap) (o : OperandItem) → IsOperand o → Adds n calyx.comp (Like (guards.Operand o)) (add_operand gap o)
  unfolding calyx.comp calyx.compared
  operand_comp gap o h = adds_right _ (adds_pair (operand_added gap o h) (adds_right _ (adds_nothing (λ left. guards.Operand left) (λ f. (x : OperandItem) → f x ≡ guards.Operand x) (λ x. refl))) _ (λ x f p q. ap bare_guard (q x) ∙ ap (λ form. guards.Operand (record { form = form; place = (bare_operand x).place })) p))

  operand_unary : (gap : Gap) (o : OperandItem) → IsOperand o → Adds n calyx.unary (Like (guards.Operand o)) (add_operand gap o)
  unfolding calyx.unary
  operand_unary gap o h = adds_right _ (mapped_added (λ x. guards.Operand x) (operand_added gap o h) _ (λ x p. ap (λ form. guards.Operand (record { form = form; place = (bare_operand x).place })) p))

  cmp_added : (c : Comparison) → Adds n calyx.cmp (λ d. d ≡ c) (put_sign Space (comparison_sign c))
  unfolding calyx.cmp
  cmp_added comparisons.Equal = adds_left _ (mapped_added (λ _. comparisons.Equal) (sign_added Space signs.EqualEqual t.EqualEqual refl) _ (λ _ _. refl))
  cmp_added comparisons.NotEqual = adds_right _ (adds_left _ (mapped_added (λ _. comparisons.NotEqual) (sign_added Space signs.NotEqual t.NotEqual refl) _ (λ _ _. refl)))
  cmp_added comparisons.Less = adds_right _ (adds_right _ (adds_left _ (mapped_added (λ _. comparisons.Less) (sign_added Space signs.Less t.Less refl) _ (λ _ _. refl))))
  cmp_added comparisons.Greater = adds_right _ (adds_right _ (adds_right _ (adds_left _ (mapped_added (λ _. comparisons.Greater) (sign_added Space signs.Greater t.Greater refl) _ (λ _ _. refl)))))
  cmp_added comparisons.LessEqual = adds_right _ (adds_right _ (adds_right _ (adds_right _ (adds_left _ (mapped_added (λ _. comparisons.LessEqual) (sign_added Space signs.LessEqual t.LessEqual refl) _ (λ _ _. refl))))))
  cmp_added comparisons.GreaterEqual = adds_right _ (adds_right _ (adds_right _ (adds_right _ (adds_right _ (mapped_added (λ _. comparisons.GreaterEqual) (sign_added Space signs.GreaterEqual t.GreaterEqual refl) _ (λ _ _. refl))))))

  compare_comp : (gap : Gap) (c : Comparison) (left right : OperandItem) → IsOperand left → IsOperand right
      → Adds n calyx.comp (Like (guards.Compare c left right)) (λ before. add_operand Space right (put_sign Space (comparison_sign c) (add_operand gap left before)))
  unfolding calyx.comp calyx.compared
  compare_comp gap c left right h k =
      adds_right _ (adds_pair (operand_added gap left h)
      (adds_left _ (adds_pair (cmp_added c) (operand_added Space right k) (IsCompared c right) (λ d y p q. λ x. cc)))
      _ (λ x f p q. q x ∙ ap (λ form. guards.Compare c (record { form = form; place = (bare_operand x).place }) (bare_operand right)) p))

  at_prefixed : (gap : Gap) (m : ℕ) → IsNumber m → Adds n calyx.prefixed (Like (guards.At m)) (add_inside (guards.At m) gap)
  unfolding calyx.prefixed calyx.window
  at_prefixed gap m h = adds_right _ (adds_right _ (behind_added gap signs.Percent t.Percent refl (adds_left _ (mapped_added (λ x. guards.At x) (number_added Tight m h) _ (λ x p. ap (λ y. guards.At y) p)))))

  during_prefixed : (gap : Gap) (from to : ℕ) → IsNumber from → IsNumber to → Adds n calyx.prefixed (Like (guards.During from to)) (add_inside (guards.During from to) gap)
  unfolding calyx.prefixed calyx.window calyx.window_range
  during_prefixed gap from to h k =
      adds_right _ (adds_right _ (behind_added gap signs.Percent t.Percent refl (adds_right _ (behind_added Tight signs.OpenBracket t.OpenBracket refl
      (adds_pair (number_added Tight from h) (behind_added Tight signs.Colon t.Colon refl (before_added (number_added Tight to k) Tight signs.CloseBracket t.CloseBracket refl)) _ (λ x y p q. cc))))))

-- the production of a guard of this form, where it needs no parentheses
abbrev own : PlainGuard → Grammar PlainGuard
own (guards.Or gs) = calyx.guard
own (guards.And gs) = calyx.conj
own (guards.Compare c left right) = calyx.comp
own (guards.Not g) = calyx.prefixed
own (guards.Operand o) = calyx.comp
own (guards.At n) = calyx.prefixed
own (guards.During from to) = calyx.prefixed

abbrev Natural : PlainGuard → Type 0
Natural g = (n : ℕ) (gap : Gap) → IsInside g n → Adds n (own g) (Like g) (add_inside g gap)

abbrev AllNatural : PlainGuards → Type 0
AllNatural NoGuards = Unit {0}
AllNatural (GuardThen g gs) = Natural g × AllNatural gs

guard_added_of : (g : PlainGuard) → Natural g → (n : ℕ) (gap : Gap) → IsInside g n → Adds n calyx.guard (Like g) (add_inside g gap)
guard_added_of (guards.Or gs) natural n gap h = natural n gap h
guard_added_of (guards.And gs) natural n gap h = guard_of_conj (natural n gap h)
guard_added_of (guards.Compare c left right) natural n gap h = guard_of_conj (conj_of_comp (natural n gap h))
guard_added_of (guards.Not g) natural n gap h = guard_of_conj (conj_of_comp (comp_of_prefixed (natural n gap h)))
guard_added_of (guards.Operand o) natural n gap h = guard_of_conj (conj_of_comp (natural n gap h))
guard_added_of (guards.At m) natural n gap h = guard_of_conj (conj_of_comp (comp_of_prefixed (natural n gap h)))
guard_added_of (guards.During from to) natural n gap h = guard_of_conj (conj_of_comp (comp_of_prefixed (natural n gap h)))

-- in parentheses
wrapped_added : (g : PlainGuard) → Natural g → (n : ℕ) (gap : Gap) → OneDeeper (IsInside g) n → Adds n calyx.prefixed (Like g) (wrapped true (add_inside g) gap)
wrapped_added g natural zero gap h = absurd h
wrapped_added g natural (suc n) gap h = parens_of_guard gap (guard_added_of g natural n Tight h)

abbrev AddedAt : Binding → PlainGuard → Type 0
AddedAt binding g = (n : ℕ) (gap : Gap) → IsWrapped (needs_parens binding g) (IsInside g) n → Adds n (grammar_at binding) (Like g) (add_guard binding g gap)

comp_added : (g : PlainGuard) → Natural g → AddedAt AndPart g
comp_added (guards.Or gs) natural n gap h = comp_of_prefixed (wrapped_added (guards.Or gs) natural n gap h)
comp_added (guards.And gs) natural n gap h = comp_of_prefixed (wrapped_added (guards.And gs) natural n gap h)
comp_added (guards.Compare c left right) natural n gap h = natural n gap h
comp_added (guards.Not g) natural n gap h = comp_of_prefixed (natural n gap h)
comp_added (guards.Operand o) natural n gap h = natural n gap h
comp_added (guards.At m) natural n gap h = comp_of_prefixed (natural n gap h)
comp_added (guards.During from to) natural n gap h = comp_of_prefixed (natural n gap h)

conj_added : (g : PlainGuard) → Natural g → AddedAt OrPart g
conj_added (guards.Or gs) natural n gap h = conj_of_comp (comp_of_prefixed (wrapped_added (guards.Or gs) natural n gap h))
conj_added (guards.And gs) natural n gap h = natural n gap h
conj_added (guards.Compare c left right) natural n gap h = conj_of_comp (natural n gap h)
conj_added (guards.Not g) natural n gap h = conj_of_comp (comp_of_prefixed (natural n gap h))
conj_added (guards.Operand o) natural n gap h = conj_of_comp (natural n gap h)
conj_added (guards.At m) natural n gap h = conj_of_comp (comp_of_prefixed (natural n gap h))
conj_added (guards.During from to) natural n gap h = conj_of_comp (comp_of_prefixed (natural n gap h))

unary_added : (g : PlainGuard) → Natural g → AddedAt NotPart g
unary_added (guards.Or gs) natural n gap h = unary_of_prefixed (wrapped_added (guards.Or gs) natural n gap h)
unary_added (guards.And gs) natural n gap h = unary_of_prefixed (wrapped_added (guards.And gs) natural n gap h)
unary_added (guards.Compare c left right) natural n gap h = unary_of_prefixed (wrapped_added (guards.Compare c left right) natural n gap h)
unary_added (guards.Not g) natural n gap h = unary_of_prefixed (natural n gap h)
unary_added (guards.Operand o) natural n gap h = operand_unary gap o h
unary_added (guards.At m) natural n gap h = unary_of_prefixed (natural n gap h)
unary_added (guards.During from to) natural n gap h = unary_of_prefixed (natural n gap h)

-- two parts or more
and_like : (x g : PlainGuard) (xs : List PlainGuard) (h : PlainGuard) (gs : PlainGuards) → Like g x → AllLike (GuardThen h gs) xs → Like (guards.And (GuardThen g (GuardThen h gs))) (calyx.and_of (x ∷ xs))
and_like x g [] h gs p q = absurd (cc)
and_like x g (y ∷ xs) h gs p q = cc

or_like : (x g : PlainGuard) (xs : List PlainGuard) (h : PlainGuard) (gs : PlainGuards) → Like g x → AllLike (GuardThen h gs) xs → Like (guards.Or (GuardThen g (GuardThen h gs))) (calyx.or_of (x ∷ xs))
or_like x g [] h gs p q = absurd (cc)
or_like x g (y ∷ xs) h gs p q = cc

module _ {n : ℕ} where
  comps_many : (gs : PlainGuards) → AllNatural gs → AreParts AndPart gs n → AddsMany n calyx.next_comp (AllLike gs) (add_parts AndPart signs.And true gs Space)
  unfolding calyx.next_comp
  comps_many NoGuards natural h = many_none _ _ refl
  comps_many (GuardThen g gs) natural h = many_more (behind_added Space signs.And t.And refl (comp_added g natural.0 n Space h.0)) (comps_many gs natural.1 h.1) _ (λ x xs p q. cc)

  conjs_many : (gs : PlainGuards) → AllNatural gs → AreParts OrPart gs n → AddsMany n calyx.next_conj (AllLike gs) (add_parts OrPart signs.Or true gs Space)
  unfolding calyx.next_conj
  conjs_many NoGuards natural h = many_none _ _ refl
  conjs_many (GuardThen g gs) natural h = many_more (behind_added Space signs.Or t.Or refl (conj_added g natural.0 n Space h.0)) (conjs_many gs natural.1 h.1) _ (λ x xs p q. cc)

  and_added : (gs : PlainGuards) → AllNatural gs → (gap : Gap) → HasTwo gs → AreParts AndPart gs n → Adds n calyx.conj (Like (guards.And gs)) (add_parts AndPart signs.And false gs gap)
  unfolding calyx.conj calyx.more_comps
  and_added NoGuards natural gap two h = absurd two
  and_added (GuardThen g NoGuards) natural gap two h = absurd two
  and_added (GuardThen g (GuardThen k gs)) natural gap two h =
      adds_pair (comp_added g natural.0 n gap h.0) (adds_several (λ xs. xs) (comps_many (GuardThen k gs) natural.1 h.1) (AllLike (GuardThen k gs)) (λ xs p. p)) _ (λ x xs p q. and_like x g xs k gs p q)

  or_added : (gs : PlainGuards) → AllNatural gs → (gap : Gap) → HasTwo gs → AreParts OrPart gs n → Adds n calyx.guard (Like (guards.Or gs)) (add_parts OrPart signs.Or false gs gap)
  unfolding calyx.guard calyx.more_conjs
  or_added NoGuards natural gap two h = absurd two
  or_added (GuardThen g NoGuards) natural gap two h = absurd two
  or_added (GuardThen g (GuardThen k gs)) natural gap two h =
      adds_pair (conj_added g natural.0 n gap h.0) (adds_several (λ xs. xs) (conjs_many (GuardThen k gs) natural.1 h.1) (AllLike (GuardThen k gs)) (λ xs p. p)) _ (λ x xs p q. or_like x g xs k gs p q)

  not_added : (g : PlainGuard) → Natural g → (gap : Gap) → IsWrapped (needs_parens NotPart g) (IsInside g) n → Adds (suc n) calyx.prefixed (Like (guards.Not g)) (add_inside (guards.Not g) gap)
  unfolding calyx.prefixed calyx.nest
  not_added g natural gap h = adds_left _ (adds_deeper {m = Negation} (adds_pair (sign_added gap signs.Not t.Not refl) (unary_added g natural n Tight h) _ (λ x y p q. ap (λ z. guards.Not z) q)))

not_natural : (g : PlainGuard) → Natural g → Natural (guards.Not g)
not_natural g natural zero gap h = absurd h
not_natural g natural (suc n) gap h = not_added g natural gap h

mutual
  natural_of : (g : PlainGuard) → Natural g
  natural_of (guards.Or gs) n gap h = or_added gs (all_natural gs) gap h.0 h.1
  natural_of (guards.And gs) n gap h = and_added gs (all_natural gs) gap h.0 h.1
  natural_of (guards.Compare c left right) n gap h = compare_comp gap c left right h.0 h.1
  natural_of (guards.Not g) n gap h = not_natural g (natural_of g) n gap h
  natural_of (guards.Operand o) n gap h = operand_comp gap o h
  natural_of (guards.At m) n gap h = at_prefixed gap m h
  natural_of (guards.During from to) n gap h = during_prefixed gap from to h.0 h.1

  all_natural : (gs : PlainGuards) → AllNatural gs
  all_natural NoGuards = tt
  all_natural (GuardThen g gs) = (natural_of g, all_natural gs)

pub guard_added : {n : ℕ} (gap : Gap) (g : PlainGuard) → IsInside g n → Adds n calyx.guard (Like g) (add_guard Whole g gap)
guard_added {n = n} gap (guards.Or gs) h = guard_added_of (guards.Or gs) (natural_of (guards.Or gs)) n gap h
guard_added {n = n} gap (guards.And gs) h = guard_added_of (guards.And gs) (natural_of (guards.And gs)) n gap h
guard_added {n = n} gap (guards.Compare c left right) h = guard_added_of (guards.Compare c left right) (natural_of (guards.Compare c left right)) n gap h
guard_added {n = n} gap (guards.Not g) h = guard_added_of (guards.Not g) (natural_of (guards.Not g)) n gap h
guard_added {n = n} gap (guards.Operand o) h = guard_added_of (guards.Operand o) (natural_of (guards.Operand o)) n gap h
guard_added {n = n} gap (guards.At m) h = guard_added_of (guards.At m) (natural_of (guards.At m)) n gap h
guard_added {n = n} gap (guards.During from to) h = guard_added_of (guards.During from to) (natural_of (guards.During from to)) n gap h

-- a guard and what follows it, as the value of an assignment is read
abbrev pub valued : PlainGuard → OperandItem → calyx.Value
valued g o = (Some g, o)

value_same : (a : PlainGuard) (more : List PlainGuard) (c : PlainGuard) (cs : List PlainGuard) (g : PlainGuard) (o : OperandItem) → calyx.and_of (a ∷ more) ≡ c → calyx.or_of (c ∷ cs) ≡ g → calyx.guarded_of more (cs, o) a ≡ valued g o
value_same a more c cs g o p q = ap (λ d. valued (calyx.or_of (d ∷ cs)) o) p ∙ ap (λ d. valued d o) q

value_spelled : (spelled : (n : Nest) → Spelling (Nested n)) (ts mid rest : List Token) (g : PlainGuard) (o : OperandItem) → Spells spelled calyx.guard ts g mid → Spells spelled (calyx.behind t.Question calyx.operand) mid o rest
    → Spells spelled calyx.value ts (valued g o) rest
unfolding calyx.guard calyx.conj calyx.comp calyx.value calyx.guarded calyx.guard_value calyx.after_operand
value_spelled spelled ts mid rest g o s q =
    let (after_conj, c, cs, conj, conjs, same) = s in
    let (after_comp, a, more, comp, comps, same_conj) = conj in
    ⊎_elim
    (λ k. inl (after_comp, a, calyx.guarded_of more (cs, o), k, (after_conj, more, (cs, o), comps, (mid, cs, o, conjs, q, refl), refl), value_same a more c cs g o same_conj same))
    (λ k. let (after_left, left, f, l, compared, same_comp) = k in
    inr (
      after_left,
      left,
      (λ x. calyx.guarded_of more (cs, o) (f x)),
      l,
      inl (after_comp, f, calyx.guarded_of more (cs, o), compared, (after_conj, more, (cs, o), comps, (mid, cs, o, conjs, q, refl), refl), refl),
      ap (λ d. calyx.guarded_of more (cs, o) d) same_comp ∙ value_same a more c cs g o same_conj same,
    ))
    comp

abbrev LikeValue : Option PlainGuard → OperandItem → calyx.Value → Type 0
LikeValue g o v = (option_map bare_guard v.0 ≡ option_map bare_guard g) × (v.1.form ≡ o.form)

abbrev pub unguarded : OperandItem → calyx.Value
unguarded o = (None, o)

module _ {n : ℕ} where
  guarded_added : (g : PlainGuard) (o : OperandItem) → IsInside g n → IsOperand o → Adds n calyx.value (LikeValue (Some g) o) (λ before. add_operand Space o (add_condition (Some g) before))
  guarded_added g o h k =
      let a : Adds n calyx.guard (Like g) (add_guard Whole g Space) = guard_added Space g h in
      let b : Adds n (calyx.behind t.Question calyx.operand) (λ x. x.form ≡ o.form) (λ before. add_operand Space o (put_sign Space signs.Question before)) = behind_added Space signs.Question t.Question refl (operand_added Space o k) in
      record {
        kinds = a.kinds ++ b.kinds;
        added = λ before. b.added (add_guard Whole g Space before) ∙ ap (λ ks. ks ++ b.kinds) (a.added before) ∙ append_assoc (kinds_in before) a.kinds b.kinds;
        writable = adds_both a.kinds b.kinds a.writable b.writable;
        begun = λ ts after e.
            let first = a.begun ts (b.kinds ++ after) (e ∙ append_assoc a.kinds b.kinds after) in
            let second = b.begun first.rest after first.left in
            record { value = valued first.value second.value; rest = second.rest; spelled = value_spelled (spelled_within n) ts first.rest second.rest first.value second.value first.spelled second.spelled; is = (ap (λ x. Some x) first.is, second.is); left = second.left };
      }

  value_added : (g : Option PlainGuard) (o : OperandItem) → IfThere (λ x. IsInside x n) g → IsOperand o → Adds n calyx.value (LikeValue g o) (λ before. add_operand Space o (add_condition g before))
  unfolding calyx.value calyx.after_operand
  value_added None o h k =
      adds_right _ (adds_pair (operand_added Space o k) (adds_right _ (adds_nothing (λ x. unguarded x) (λ f. (x : OperandItem) → f x ≡ unguarded x) (λ x. refl))) _ (λ x f p q. let same : f x ≡ unguarded x = q x in (ap (λ (v : calyx.Value). option_map bare_guard v.0) same, ap (λ (v : calyx.Value). v.1.form) same ∙ p)))
  value_added (Some g) o h k = guarded_added g o h k

-- assignments, whose attributes are read before
abbrev pub LikeAssign : PlainAssign → (List Attribute → PlainAssign) → Type 0
LikeAssign a f = (attrs : List Attribute) → attrs ≡ a.attributes → bare_assign (f attrs) ≡ bare_assign a

-- what is added behind the attributes
abbrev pub add_bare_assign : Gap → PlainAssign → Pieces → Pieces
add_bare_assign gap a before = put_sign Tight signs.Semicolon (add_operand Space a.source (add_condition a.guard (put_sign Space signs.Equal (add_operand gap a.target before))))

pub bare_assign_added : (gap : Gap) (a : PlainAssign) → IsAssign a → Adds 64 calyx.bare_assign (LikeAssign a) (add_bare_assign gap a)
unfolding calyx.bare_assign
bare_assign_added gap a h =
    adds_pair (target_added gap a.target h.1.0 h.1.1) (behind_added Space signs.Equal t.Equal refl (before_added (value_added a.guard a.source h.2 h.3) Tight signs.Semicolon t.Semicolon refl)) _ (λ o v p q. λ attrs e. cc)

assign_added : (gap : Gap) (a : PlainAssign) → IsAssign a → Adds 64 calyx.assign (λ x. bare_assign x ≡ bare_assign a) (add_assign gap a)
unfolding calyx.assign
assign_added gap a h = adds_pair (attributes_added gap a.attributes h.0) (bare_assign_added (behind_attributes gap a.attributes) a h) _ (λ attrs f p q. q attrs p)

assigns_many : (items : List PlainAssign) → AllByRecursion IsAssign items → AddsMany 64 calyx.assign (λ xs. map bare_assign xs ≡ map bare_assign items) (add_lines add_assign items)
assigns_many [] h = many_none _ _ refl
assigns_many (a ∷ items) h = many_more (assign_added Line a h.0) (assigns_many items h.1) _ (λ x xs p q. cc)

pub assigns_added : (items : List PlainAssign) → AllByRecursion IsAssign items → Adds 64 calyx.assigns (λ xs. map bare_assign xs ≡ map bare_assign items) (add_lines add_assign items)
unfolding calyx.assigns
assigns_added items h = adds_several (λ xs. xs) (assigns_many items h) _ (λ xs p. p)
