-- Before words are loaded all is 0.
use Rattle.std.proofs.Common.{◌≡◌, ℕ, List, [], ◌∷◌, refl, subst}
use Rattle.std.proofs.Math.Path.{fun_ext}
use Rattle.cx_vtree.specs.Plain.{PlainExternal, PlainSource}
use Rattle.cx_vtree.specs.InstanceTree.{Placed, instances_of}
use Rattle.cx_vtree.specs.Meaning.{Moment}
use Rattle.cx_vtree.specs.SimRun.{loaded_word}
use Rattle.cx_vnets.specs.declared.nets.Stored.{Stored}
use Rattle.cx_vnets.specs.Memory.{StoredStands}
use Rattle.cx_velab.specs.Zeros.{zero_moment}
use Rattle.cx_vsim.specs.Stands.{start_moment}

loaded_none : (tree : List Placed) (es : List PlainExternal) (i : ℕ) (name : List ℕ) (index : ℕ) → 0 ≡ loaded_word tree es [] i name index
loaded_none tree [] i name index = refl
loaded_none tree (e ∷ es) i name index = refl

abbrev moment_of : (ℕ → List ℕ → ℕ → ℕ) → Moment
moment_of word = record { state = record { register = λ i name. 0; word = word }; reset = 0; go = 0 }

pub zeros_start : (s : PlainSource) (x : Stored) → StoredStands (instances_of s) zero_moment x → StoredStands (instances_of s) (start_moment s []) x
zeros_start s x stands =
    let words : ◌≡◌ {A = ℕ → List ℕ → ℕ → ℕ} (λ i name index. 0) (loaded_word (instances_of s) s.externals [])
    = fun_ext (λ i. fun_ext (λ name. fun_ext (λ index. loaded_none (instances_of s) s.externals i name index))) in
    subst (λ (w : ℕ → List ℕ → ℕ → ℕ). StoredStands (instances_of s) (moment_of w) x) words stands
