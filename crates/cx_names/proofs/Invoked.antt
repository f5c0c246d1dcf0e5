-- The assignments of an invoke's group: of two that are no sources and stand at one place the ports are one.
use Rattle.std.proofs.Common.{◌≡◌, ℕ, true, List, [], ◌∷◌, ◌++◌, map, flat_map, slice_get, Some, inl, inr, ⊎_elim, refl, sym, ap, ◌∙◌, subst, true≢false}
use Rattle.cx_text.proofs.MemberLaws.{flat_in, image_in, in_either}
use Rattle.cx_ast.specs.declared.statements.BindItem.{BindItem}
use Rattle.cx_ast.specs.PlainTree as ast
use Rattle.cx_ast.specs.PlainTree.{PlainTree}
use Rattle.cx_meaning.specs.declared.ports.PlacedPort.{PlacedPort}
use Rattle.cx_meaning.specs.Designs.{Atom, PlainAssign, guards_of}
use Rattle.cx_text.specs.Members.{In}
use Rattle.cx_rules.specs.Items.{sources_of, operands_of, operands_in}
use Rattle.cx_rules.specs.Ports.{component_of as instance_of, is_target_only}
use Rattle.cx_numbering.specs.DesignOf.{Invoke, at, one, register_done, input_assign, go_guard, go_assign, capture_assigns, static_capture, capture_group, done_assign, invoke_group, design_of}
use Rattle.cx_numbering.specs.NameRules.{is_register_in}
use Rattle.cx_names.proofs.Circles.{KeptCell}
use Rattle.cx_names.proofs.Registers.{register_source}
use Rattle.cx_names.proofs.InvokeGroups.{atoms}

alone : (s p q : PlacedPort) → In (s ∷ []) p → In (s ∷ []) q → p.port ≡ q.port
alone s p q (inl e) (inl f) = ap (λ (r : PlacedPort). r.port) (sym e ∙ f)
alone s p q (inl e) (inr j) = absurd j
alone s p q (inr i) j = absurd i

module _ (tree : PlainTree) (k : ℕ) (part : ast.PlainComponent) (stands : slice_get tree.components k ≡ Some part) where
  abbrev NoSource : PlacedPort → Type 0
  NoSource p = is_target_only (instance_of (design_of tree) k) p.port ≡ true

  -- a place tells a port where there is no source
  abbrev pub Tells : PlainAssign → Type 0
  Tells a = (p q : PlacedPort) → In (sources_of a) p → In (sources_of a) q → NoSource p → NoSource q → p.place ≡ q.place → p.port ≡ q.port

  module _ (kept : (cell : ast.PlainCell) → In part.cells cell → KeptCell tree part cell) (v : Invoke) (registers : (b : BindItem) → In v.outputs b → is_register_in tree part b.value.form ≡ true) where
    go_tells : Tells (go_assign tree part v)
    go_tells p q i j tp tq e = by v.outputs i j
      where
        source : (r : PlacedPort) → at tree part v.place (one tree part) ≡ r → NoSource r → ⊥
        source r s t = true≢false (sym t ∙ ap (λ (x : PlacedPort). is_target_only (instance_of (design_of tree) k) x.port) (sym s))

        by : (outputs : List BindItem) → In (at tree part v.place (one tree part) ∷ operands_of (go_guard tree part v outputs)) p → In (at tree part v.place (one tree part) ∷ operands_of (go_guard tree part v outputs)) q → p.port ≡ q.port
        by outputs (inl s) j = absurd (source p s tp)
        by outputs (inr i) (inl s) = absurd (source q s tq)
        by [] (inr i) (inr j) = absurd i
        by (b ∷ bs) (inr i) (inr j) = alone _ p q i j

    every_register : (outputs : List BindItem) → ((b : BindItem) → In outputs b → In v.outputs b) → (p : PlacedPort) → In (operands_in (guards_of (map (λ b. Atom (register_done tree part v b)) outputs))) p → NoSource p → ⊥
    every_register outputs among p i t =
        let found = image_in (register_done tree part v) outputs p (subst (λ ps. In ps p) (atoms (register_done tree part v) outputs) i) in
        let no = register_source tree k part stands kept found.0 (registers found.0 (among found.0 found.1)) in
        true≢false (sym t ∙ ap (λ (x : PlacedPort). is_target_only (instance_of (design_of tree) k) x.port) (sym found.2) ∙ no)

    done_tells : (g : ℕ) (outputs : List BindItem) → ((b : BindItem) → In outputs b → In v.outputs b) → Tells (done_assign tree part v g outputs)
    done_tells g [] among p q i j tp tq e = alone _ p q i j
    done_tells g (b ∷ []) among p q i j tp tq e = alone _ p q i j
    done_tells g (b ∷ c ∷ bs) among p q (inl s) j tp tq e = absurd (true≢false (sym tp ∙ ap (λ (x : PlacedPort). is_target_only (instance_of (design_of tree) k) x.port) (sym s)))
    done_tells g (b ∷ c ∷ bs) among p q (inr i) j tp tq e = absurd (every_register (b ∷ c ∷ bs) among p i tp)

    capture_tells : (b : BindItem) (a : PlainAssign) → In (capture_assigns tree part v b) a → Tells a
    capture_tells b a (inl s) = subst Tells s (λ p q i j tp tq e. alone _ p q i j)
    capture_tells b a (inr (inl s)) = subst Tells s (λ p q i j tp tq e. alone _ p q i j)
    capture_tells b a (inr (inr n)) = absurd n

    pub invoke_tells : (g : ℕ) (a : PlainAssign) → In (invoke_group tree part g v).assigns a → Tells a
    invoke_tells g a i = ⊎_elim input (λ j. rest j) (in_either (map (input_assign tree part v) v.inputs) _ a i)
      where
        input : In (map (input_assign tree part v) v.inputs) a → Tells a
        input j = (let found = image_in (input_assign tree part v) v.inputs a j in subst Tells found.2 (λ p q i j tp tq e. alone _ p q i j))

        capture : In (flat_map (capture_assigns tree part v) v.outputs) a → Tells a
        capture j = (let found = flat_in (capture_assigns tree part v) v.outputs a j in capture_tells found.0 a found.2)

        last : In (done_assign tree part v g v.outputs ∷ []) a → Tells a
        last (inl e) = subst Tells e (done_tells g v.outputs (λ b j. j))
        last (inr n) = absurd n

        rest : In (go_assign tree part v ∷ (flat_map (capture_assigns tree part v) v.outputs ++ (done_assign tree part v g v.outputs ∷ []))) a → Tells a
        rest (inl e) = subst Tells e go_tells
        rest (inr j) = ⊎_elim capture last (in_either (flat_map (capture_assigns tree part v) v.outputs) (done_assign tree part v g v.outputs ∷ []) a j)

    -- and in the group that captures
    static_tells : (b : BindItem) (a : PlainAssign) → In (static_capture tree part v b) a → Tells a
    static_tells b a (inl s) = subst Tells s (λ p q i j tp tq e. alone _ p q i j)
    static_tells b a (inr (inl s)) = subst Tells s (λ p q i j tp tq e. alone _ p q i j)
    static_tells b a (inr (inr n)) = absurd n

    pub captures_tell : (a : PlainAssign) → In (capture_group tree part v).assigns a → Tells a
    captures_tell a j = (let found = flat_in (static_capture tree part v) v.outputs a j in static_tells found.0 a found.2)

  -- what a static invoke binds
  pub bind_tells : (v : Invoke) (b : BindItem) → Tells (input_assign tree part v b)
  bind_tells v b p q i j tp tq e = alone _ p q i j
