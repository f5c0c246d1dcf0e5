-- What the grammar gives for guards and assignments is printable.
use Rattle.std.proofs.Common.{◌≡◌, ℕ, zero, suc, Bool, true, false, List, [], ◌∷◌, refl, ap, ◌∙◌, subst, inl, inr, ⊎_elim, ◌⊎◌}
use Rattle.std.specs.List.{AllByRecursion}
use Rattle.cx_ast.specs.declared.tokens.Token.{Token}
use Rattle.cx_ast.specs.declared.components.Attribute.{Attribute}
use Rattle.cx_ast.specs.declared.guards.Comparison.TheVariants as comparisons
use Rattle.cx_ast.specs.declared.operands.OperandItem.{OperandItem}
use Rattle.cx_ast.specs.PlainGuards.{PlainGuard, PlainGuards, NoGuards, GuardThen, guards_of}
use Rattle.cx_ast.specs.PlainGuards as guards
use Rattle.cx_ast.specs.PlainTree.{PlainAssign}
use Rattle.cx_grammar.specs.declared.terminals.Terminal.TheVariants as t
use Rattle.cx_grammar.specs.Grammar.{Nest, Negation, Parens, Nested, Spelling, Spells}
use Rattle.cx_grammar.specs.Calyx.{spelled_within}
use Rattle.cx_grammar.specs.Calyx as calyx
use Rattle.cx_print.specs.declared.guards.Binding.{Binding}
use Rattle.cx_print.specs.declared.guards.Binding.TheVariants.{OrPart, AndPart, NotPart}
use Rattle.cx_print.specs.Pieces.{needs_parens}
use Rattle.cx_print.specs.Printable.{IsOperand, IfThere, IsAttribute, OneDeeper, IsWrapped, IsInside, AreParts, IsAssign}
use Rattle.cx_print.proofs.Adding.{Any}
use Rattle.cx_print.proofs.GuardSpelling.{valued, unguarded}
use Rattle.cx_print.proofs.Giving.{Gives, gives_nothing, gives_choice, gives_so, gives_pair, gives_many, gives_deeper, gives_none, gives_behind, gives_before, gives_mapped, gives_within, sign_given}
use Rattle.cx_print.proofs.HeaderGiven.{number_given, attributes_given, target_given, operand_given}

-- a part of this binding that fits in n levels
abbrev Fits : Binding → ℕ → PlainGuard → Type 0
Fits binding n g = IsWrapped (needs_parens binding g) (IsInside g) n

-- what fits in n levels fits in more
deeper_more : (P Q : ℕ → Type 0) → ((n : ℕ) → P n → Q (suc n)) → (n : ℕ) → OneDeeper P n → OneDeeper Q (suc n)
deeper_more P Q more zero h = absurd h
deeper_more P Q more (suc n) h = more n h

wrapped_more : (b : Bool) (P : ℕ → Type 0) → ((n : ℕ) → P n → P (suc n)) → (n : ℕ) → IsWrapped b P n → IsWrapped b P (suc n)
wrapped_more true P more n h = deeper_more P P more n h
wrapped_more false P more n h = more n h

mutual
  inside_more : (g : PlainGuard) (n : ℕ) → IsInside g n → IsInside g (suc n)
  inside_more (guards.Or gs) n h = (h.0, parts_more gs OrPart n h.1)
  inside_more (guards.And gs) n h = (h.0, parts_more gs AndPart n h.1)
  inside_more (guards.Compare c left right) n h = h
  inside_more (guards.Not g) n h = deeper_more (IsWrapped (needs_parens NotPart g) (IsInside g)) (IsWrapped (needs_parens NotPart g) (IsInside g)) (λ m k. wrapped_more (needs_parens NotPart g) (IsInside g) (inside_more g) m k) n h
  inside_more (guards.Operand o) n h = h
  inside_more (guards.At m) n h = h
  inside_more (guards.During from to) n h = h

  parts_more : (gs : PlainGuards) (binding : Binding) (n : ℕ) → AreParts binding gs n → AreParts binding gs (suc n)
  parts_more NoGuards binding n h = tt
  parts_more (GuardThen g gs) binding n h = (wrapped_more (needs_parens binding g) (IsInside g) (inside_more g) n h.0, parts_more gs binding n h.1)

-- without its parentheses it fits too
unwrapped : (b : Bool) (g : PlainGuard) (n : ℕ) → IsWrapped b (IsInside g) n → IsInside g n
unwrapped false g n h = h
unwrapped true g zero h = absurd h
unwrapped true g (suc n) h = inside_more g n h

-- in parentheses it fits everywhere
fits_wrapped : (b : Bool) (g : PlainGuard) (n : ℕ) → IsInside g n → IsWrapped b (IsInside g) (suc n)
fits_wrapped true g n h = h
fits_wrapped false g n h = inside_more g n h

-- what fits where a place binds more fits where it binds less
fits_and : (n : ℕ) (g : PlainGuard) → Fits NotPart n g → Fits AndPart n g
fits_and n (guards.Or gs) h = h
fits_and n (guards.And gs) h = h
fits_and n (guards.Compare c left right) h = unwrapped true (guards.Compare c left right) n h
fits_and n (guards.Not g) h = h
fits_and n (guards.Operand o) h = h
fits_and n (guards.At m) h = h
fits_and n (guards.During from to) h = h

fits_or : (n : ℕ) (g : PlainGuard) → Fits AndPart n g → Fits OrPart n g
fits_or n (guards.Or gs) h = h
fits_or n (guards.And gs) h = unwrapped true (guards.And gs) n h
fits_or n (guards.Compare c left right) h = h
fits_or n (guards.Not g) h = h
fits_or n (guards.Operand o) h = h
fits_or n (guards.At m) h = h
fits_or n (guards.During from to) h = h

all_parts : (binding : Binding) (n : ℕ) (gs : List PlainGuard) → AllByRecursion (Fits binding n) gs → AreParts binding (guards_of gs) n
all_parts binding n [] h = tt
all_parts binding n (g ∷ gs) h = (h.0, all_parts binding n gs h.1)

and_fits : (n : ℕ) (g : PlainGuard) (gs : List PlainGuard) → Fits AndPart n g → AllByRecursion (Fits AndPart n) gs → Fits OrPart n (calyx.and_of (g ∷ gs))
and_fits n g [] h k = fits_or n g h
and_fits n g (f ∷ gs) h k = (tt, (h, (k.0, all_parts AndPart n gs k.1)))

or_fits : (n : ℕ) (g : PlainGuard) (gs : List PlainGuard) → Fits OrPart n g → AllByRecursion (Fits OrPart n) gs → IsInside (calyx.or_of (g ∷ gs)) n
or_fits n g [] h k = unwrapped (needs_parens OrPart g) g n h
or_fits n g (f ∷ gs) h k = (tt, (h, (k.0, all_parts OrPart n gs k.1)))

gives_cmp : (n : ℕ) → Gives n calyx.cmp Any
unfolding calyx.cmp
gives_cmp n =
    gives_choice (gives_mapped (λ _. comparisons.Equal) (sign_given t.EqualEqual) Any (λ x p. tt))
    (gives_choice (gives_mapped (λ _. comparisons.NotEqual) (sign_given t.NotEqual) Any (λ x p. tt))
    (gives_choice (gives_mapped (λ _. comparisons.Less) (sign_given t.Less) Any (λ x p. tt))
    (gives_choice (gives_mapped (λ _. comparisons.Greater) (sign_given t.Greater) Any (λ x p. tt))
    (gives_choice (gives_mapped (λ _. comparisons.LessEqual) (sign_given t.LessEqual) Any (λ x p. tt)) (gives_mapped (λ _. comparisons.GreaterEqual) (sign_given t.GreaterEqual) Any (λ x p. tt))))))

-- behind an operand
abbrev IsCompared : ℕ → (OperandItem → PlainGuard) → Type 0
IsCompared n f = (left : OperandItem) → IsOperand left → Fits AndPart n (f left)

module _ {n : ℕ} where
  window_given : Gives n calyx.window (Fits NotPart n)
  unfolding calyx.window calyx.window_range
  window_given =
      gives_behind t.Percent (gives_choice (gives_mapped (λ x. guards.At x) number_given (Fits NotPart n) (λ x p. p))
      (gives_behind t.OpenBracket (gives_pair number_given (gives_behind t.Colon (gives_before number_given t.CloseBracket)) (Fits NotPart n) (λ x y p q. (p, q)))))

  compared_given : Gives n calyx.compared (IsCompared n)
  unfolding calyx.compared
  compared_given = gives_choice (gives_pair (gives_cmp n) operand_given (IsCompared n) (λ c y p q. λ left h. (h, q))) (gives_nothing (λ left. guards.Operand left) (IsCompared n) (λ left h. h))

  comp_given : Gives n calyx.prefixed (Fits NotPart n) → Gives n calyx.comp (Fits AndPart n)
  unfolding calyx.comp
  comp_given a = gives_choice (gives_so a (Fits AndPart n) (fits_and n)) (gives_pair operand_given compared_given (Fits AndPart n) (λ o f p q. q o p))

  comps_given : Gives n calyx.prefixed (Fits NotPart n) → Gives n calyx.more_comps (AllByRecursion (Fits AndPart n))
  unfolding calyx.more_comps calyx.next_comp
  comps_given a = gives_many (gives_behind t.And (comp_given a))

  conj_given : Gives n calyx.prefixed (Fits NotPart n) → Gives n calyx.conj (Fits OrPart n)
  unfolding calyx.conj
  conj_given a = gives_pair (comp_given a) (comps_given a) (Fits OrPart n) (λ g gs p q. and_fits n g gs p q)

  conjs_given : Gives n calyx.prefixed (Fits NotPart n) → Gives n calyx.more_conjs (AllByRecursion (Fits OrPart n))
  unfolding calyx.more_conjs calyx.next_conj
  conjs_given a = gives_many (gives_behind t.Or (conj_given a))

  guard_given_of : Gives n calyx.prefixed (Fits NotPart n) → Gives n calyx.guard (λ g. IsInside g n)
  unfolding calyx.guard
  guard_given_of a = gives_pair (conj_given a) (conjs_given a) (λ g. IsInside g n) (λ g gs p q. or_fits n g gs p q)

  unary_given : Gives n calyx.prefixed (Fits NotPart n) → Gives n calyx.unary (Fits NotPart n)
  unfolding calyx.unary
  unary_given a = gives_choice a (gives_mapped (λ o. guards.Operand o) operand_given (Fits NotPart n) (λ o p. p))

  not_given : Gives n calyx.unary (Fits NotPart n) → Gives n (calyx.nest Negation) (Fits NotPart (suc n))
  unfolding calyx.nest
  not_given a = gives_pair (sign_given t.Not) a (Fits NotPart (suc n)) (λ x g p q. q)

  parens_given : Gives n calyx.guard (λ g. IsInside g n) → Gives n (calyx.nest Parens) (Fits NotPart (suc n))
  unfolding calyx.nest
  parens_given a = gives_so (gives_within t.OpenParen a t.CloseParen) (Fits NotPart (suc n)) (λ g h. fits_wrapped (needs_parens NotPart g) g n h)

prefixed_given : (n : ℕ) → Gives n calyx.prefixed (Fits NotPart n)
unfolding calyx.prefixed
prefixed_given zero = gives_choice (gives_none Negation (Fits NotPart zero)) (gives_choice (gives_none Parens (Fits NotPart zero)) window_given)
prefixed_given (suc n) =
    gives_choice (gives_deeper {m = Negation} (not_given (unary_given (prefixed_given n)))) (gives_choice (gives_deeper {m = Parens} (parens_given (guard_given_of (prefixed_given n)))) window_given)

guard_given : (n : ℕ) → Gives n calyx.guard (λ g. IsInside g n)
guard_given n = guard_given_of (prefixed_given n)

-- the value of an assignment is an operand, or a guard and what follows it
record Guarded (spelled : (n : Nest) → Spelling (Nested n)) (ts : List Token) (v : calyx.Value) (rest : List Token) : Type 0 where
  pub mid : List Token
  pub guard : PlainGuard
  pub source : OperandItem
  pub first : Spells spelled calyx.guard ts guard mid
  pub second : Spells spelled (calyx.behind t.Question calyx.operand) mid source rest
  pub same : valued guard source ≡ v

record Unguarded (spelled : (n : Nest) → Spelling (Nested n)) (ts : List Token) (v : calyx.Value) (rest : List Token) : Type 0 where
  pub source : OperandItem
  pub first : Spells spelled calyx.operand ts source rest
  pub same : unguarded source ≡ v

abbrev both_of : List PlainGuard → OperandItem → List PlainGuard × OperandItem
both_of cs o = (cs, o)

split_same : (a : PlainGuard) (more cs : List PlainGuard) (o : OperandItem) (others : List PlainGuard × OperandItem) (k : PlainGuard → calyx.Value) (v : calyx.Value)
    → both_of cs o ≡ others → calyx.guarded_of more others ≡ k → k a ≡ v → valued (calyx.or_of (calyx.and_of (a ∷ more) ∷ cs)) o ≡ v
split_same a more cs o others k v p q r = ap (λ (x : List PlainGuard × OperandItem). calyx.guarded_of more x a) p ∙ ap (λ (f : PlainGuard → calyx.Value). f a) q ∙ r

module _ (spelled : (n : Nest) → Spelling (Nested n)) where
  -- the rest of a guard behind its first part
  guarded_split : (ts mid rest : List Token) (a : PlainGuard) (k : PlainGuard → calyx.Value) (v : calyx.Value) → Spells spelled calyx.comp ts a mid → Spells spelled calyx.guarded mid k rest → k a ≡ v → Guarded spelled ts v rest
  unfolding calyx.guarded calyx.guard calyx.conj
  guarded_split ts mid rest a k v s q same =
      let (after_conj, more, others, comps, both, join) = q in
      let (behind_guard, cs, o, conjs, source, join_both) = both in
      record {
        mid = behind_guard;
        guard = calyx.or_of (calyx.and_of (a ∷ more) ∷ cs);
        source = o;
        first = (after_conj, calyx.and_of (a ∷ more), cs, (mid, a, more, s, comps, refl), conjs, refl);
        second = source;
        same = split_same a more cs o others k v join_both join same;
      }

  value_split : (ts rest : List Token) (v : calyx.Value) → Spells spelled calyx.value ts v rest → Unguarded spelled ts v rest ⊎ Guarded spelled ts v rest
  unfolding calyx.value calyx.after_operand calyx.guard_value calyx.comp
  value_split ts rest v s = ⊎_elim
      (λ p. inr (guarded_split ts p.0 rest p.1 p.2 v (inl p.3) p.4 p.5))
      (λ p. ⊎_elim
      (λ q. inr (guarded_split ts q.0 rest (q.1 p.1) q.2 v (inr (p.0, p.1, q.1, p.3, q.3, refl)) q.4 (ap (λ (f : OperandItem → calyx.Value). f p.1) q.5 ∙ p.5)))
      (λ q. inl (record { source = p.1; first = subst (λ us. Spells spelled calyx.operand ts p.1 us) q.0 p.3; same = ap (λ (f : OperandItem → calyx.Value). f p.1) q.1 ∙ p.5 }))
      p.4)
      s

abbrev IsValue : ℕ → calyx.Value → Type 0
IsValue n v = IfThere (λ g. IsInside g n) v.0 × IsOperand v.1

value_given : (n : ℕ) → Gives n calyx.value (IsValue n)
value_given n = record {
  gives = λ ts rest v w s. ⊎_elim
      (λ u. let source = operand_given.gives ts rest u.source w u.first in (subst (IsValue n) u.same (tt, source.0), source.1))
      (λ u.
      let first = (guard_given n).gives ts u.mid u.guard w u.first in
      let second = (gives_behind t.Question operand_given).gives u.mid rest u.source first.1 u.second in
      (subst (IsValue n) u.same (first.0, second.0), second.1))
      (value_split (spelled_within n) ts rest v s);
}

-- behind the attributes
abbrev pub IsBareAssign : (List Attribute → PlainAssign) → Type 0
IsBareAssign f = (attrs : List Attribute) → AllByRecursion IsAttribute attrs → IsAssign (f attrs)

pub bare_assign_given : Gives 64 calyx.bare_assign IsBareAssign
unfolding calyx.bare_assign
bare_assign_given = gives_pair target_given (gives_behind t.Equal (gives_before (value_given 64) t.Semicolon)) IsBareAssign (λ o v p q. λ attrs h. (h, p, q.0, q.1))

assign_given : Gives 64 calyx.assign IsAssign
unfolding calyx.assign
assign_given = gives_pair attributes_given bare_assign_given IsAssign (λ attrs f p q. q attrs p)

pub assigns_given : Gives 64 calyx.assigns (AllByRecursion IsAssign)
unfolding calyx.assigns
assigns_given = gives_many assign_given
