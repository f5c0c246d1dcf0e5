-- AN INSTRUMENTED DESIGN has guards with parts, few static ifs around a statement and words for the names of its memories, where its design has.
use Rattle.std.proofs.Common.{◌≡◌, ℕ, ◌+◌, ◌^◌, ◌<◌, inl, inr, ◌⊎◌, Bool, true, false, if◌then◌else◌, length, refl, sym, ap, ◌∙◌, subst}
use Rattle.std.specs.Prelude.{nat_eq}
use Rattle.cx_meaning.specs.Active.{Owned}
use Rattle.cx_meaning.specs.Designs.{PlainAssign, PlainCell, PlainComponent, PlainDesign, component_at}
use Rattle.cx_text.specs.Members.{In}
use Rattle.cx_rules.specs.Sizes.{design_size}
use Rattle.cx_rules.specs.Wellformed.{IsDesign}
use Rattle.cx_vtree.specs.Layout.{is_word}
use Rattle.cx_wiring.specs.Nesting.{HasParts}
use Rattle.cx_emitted.specs.ByteLaws.{HasGuards}
use Rattle.cx_emitted.specs.Shallow.{Shallow, IsShallow}
use Rattle.cx_compiler.specs.Words.{HasWords}
use Rattle.cx_rewrites.specs.Moving.{moved_statement}
use Rattle.cx_profiling.specs.Counters.{entry_count}
use Rattle.cx_profiling.specs.FreeNames.{profile_name}
use Rattle.cx_profiling.specs.Instrumented.{moved_in, instrumented, with_counts}
use Rattle.cx_profiling.proofs.GainedLemmas.{components-length}
use Rattle.cx_profiling.proofs.MemoryNames.{memories_named}
use Rattle.cx_profiling.proofs.PartTable.{OwnedMade, old_owned, showing, counting, storing, owned_made}
use Rattle.cx_profiling.proofs.RoleLemmas.{Role, as_main, as_child, as_kept, role}
use Rattle.cx_profiling.proofs.ShapesKept.{counter_bare, store_bare}
use Rattle.cx_compiler.proofs.FlatGuards.{guard_moved}
use Rattle.cx_compiler.proofs.DepthLemmas.{statement_moved, stores_shallow}
use Rattle.cx_compiler.proofs.WordLemmas.{profile_word}

-- of a design without an entry it is the design
pub by_entries : (P : PlainDesign → Type 0) (d : PlainDesign) → P d → P (with_counts d) → P (instrumented d)
by_entries P d old new = by (nat_eq (entry_count d) 0)
  where
    by : (b : Bool) → P (if b then d else with_counts d)
    by true = old
    by false = new

module _ (d : PlainDesign) (design : IsDesign d) where
  there : (k : ℕ) → k < length (with_counts d).components → k < length d.components
  there k less = subst (λ n. k < n) (components-length d) less

  -- GUARDS
  guard_kept : HasGuards d → (k : ℕ) (within : k < length d.components) (o : Owned) → OwnedMade d design k within o → HasParts o.assign.guard
  guard_kept guards k within o (old_owned w stands is) = subst (λ (x : Owned). HasParts x.assign.guard) is (guard_moved (λ p. moved_in d (component_at d k) p) w.assign.guard (guards k within w stands))
  guard_kept guards k within o (showing none n x main reached at is) = subst (λ (a : PlainAssign). HasParts a.guard) is tt
  guard_kept guards k within o (counting g r some own reached few is inside) = subst HasParts (sym (counter_bare (component_at d k).place r o.assign inside)) tt
  guard_kept guards k within o (storing n x main at some inside) = subst HasParts (sym (store_bare (component_at d k).place _ _ (length (component_at d k).groups + n) n x.port o.assign inside)) tt

  pub keeps_guards : HasGuards d → HasGuards (instrumented d)
  keeps_guards guards = by_entries HasGuards d guards (λ k less o stands. guard_kept guards k (there k less) o (owned_made d design k (there k less) o stands))

  -- STATIC IFS
  control_shallow : IsShallow d → (k : ℕ) → k < length d.components → Shallow 64 (component_at (with_counts d) k).control
  control_shallow shallow k within = by (role d k within)
    where
      moved : Shallow 64 (moved_statement (moved_in d (component_at d k)) (component_at d k).control)
      moved = statement_moved (moved_in d (component_at d k)) 64 (component_at d k).control (shallow k within)

      by : Role d k → Shallow 64 (component_at (with_counts d) k).control
      by (as_main names is e) = subst (λ (x : PlainComponent). Shallow 64 x.control) (sym e) (moved, stores_shallow 64 (component_at d k).place (length (component_at d k).groups) _)
      by (as_child names is reached e) = subst (λ (x : PlainComponent). Shallow 64 x.control) (sym e) moved
      by (as_kept is none e) = subst (λ (x : PlainComponent). Shallow 64 x.control) (sym e) moved

  pub is_shallow : IsShallow d → IsShallow (instrumented d)
  is_shallow shallow = by_entries IsShallow d shallow (λ k less. control_shallow shallow k (there k less))

  -- NAMES OF MEMORIES
  word_kept : HasWords d → (cell : PlainCell) → cell.external ≡ true → In (component_at d d.main).cells cell ⊎ ((n : ℕ) × (n < 2 ^ 64) × (cell.name ≡ profile_name n)) → is_word cell.name ≡ true
  word_kept words cell external (inl i) = words cell i external
  word_kept words cell external (inr (n, small, is)) = ap is_word is ∙ profile_word n small

  pub keeps_words : design_size (instrumented d) < 2 ^ 32 → HasWords d → HasWords (instrumented d)
  keeps_words few words = by (nat_eq (entry_count d) 0) refl few
    where
      by : (b : Bool) → nat_eq (entry_count d) 0 ≡ b → design_size (if b then d else with_counts d) < 2 ^ 32 → HasWords (if b then d else with_counts d)
      by true e small = words
      by false e small = λ cell i external. word_kept words cell external (memories_named d design small cell i external)
