-- What is stored by numbers, against what a cycle of a tree of instances has stored by names.
use Rattle.std.specs.Prelude.{◌≡◌, ℕ, ◌+◌, List, Some, length, slice_get}
use Rattle.cx_vtree.specs.Plain.{PlainDecl}
use Rattle.cx_vtree.specs.InstanceTree.{Placed, decls_at, nets_at, Outside, Held, origin_of, arrays_at}
use Rattle.cx_vtree.specs.Meaning.{Moment, outside_value, word_in}
use Rattle.cx_vtree.specs.Edges.{array_size}
use Rattle.cx_vnets.specs.declared.arrays.Words.{Words}
use Rattle.cx_vnets.specs.declared.nets.Stored.{Stored}
use Rattle.cx_vnets.specs.Arrays.{word_of}
use Rattle.cx_vnets.specs.Numbers.{nets_before, arrays_before}

-- an array has as many words as its declaration says, and these words
pub record WordsStand (words : List ℕ → ℕ → ℕ) (decls : List PlainDecl) (name : List ℕ) (x : Words) : Type 0 where
  pub size : length x.words.items ≡ array_size decls name
  pub each : (index : ℕ) → word_of x index ≡ word_in words decls name index

-- registers, inputs of `main` and arrays have the values of the cycle, and there are no other arrays
pub record StoredStands (tree : List Placed) (m : Moment) (s : Stored) : Type 0 where
  pub registers : (i k w : ℕ) (name : List ℕ) → slice_get (nets_at tree i) k ≡ Some name
      → origin_of tree i name ≡ Some (Held w)
      → slice_get s.nets.items (nets_before tree i + k) ≡ Some (record { width = w; value = m.state.register i name })
  pub inputs : (i k : ℕ) (name : List ℕ) → slice_get (nets_at tree i) k ≡ Some name
      → origin_of tree i name ≡ Some Outside
      → slice_get s.nets.items (nets_before tree i + k) ≡ Some (outside_value m name)
  pub arrays : (i a : ℕ) (name : List ℕ) → slice_get (arrays_at tree i) a ≡ Some name
      → (x : Words) × (slice_get s.arrays.items (arrays_before tree i + a) ≡ Some x)
      × WordsStand (m.state.word i) (decls_at tree i) name x
  pub count : length s.arrays.items ≡ arrays_before tree (length tree)
