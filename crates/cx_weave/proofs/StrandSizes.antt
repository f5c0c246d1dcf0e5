-- The size of a strand, which falls from a strand to what is open in it.
use Rattle.std.proofs.Common.{ℕ, ◌+◌}
use Rattle.cx_weave.specs.Strands.{PlainStrand, AnIdling, AGroup, AChoice, ATest, AnIsland, ACapture, AClosing, AWaiting, ASeq, APar, ALoop, ARepeat, ACall, PlainArms, one_arm, both_arms}

abbrev mutual
  pub size_of : PlainStrand → ℕ
  size_of AnIdling = 1
  size_of (AGroup g) = 1
  size_of (AChoice port comb a b) = 1
  size_of (ATest port comb body) = 1
  size_of (AnIsland form t left samples cells) = 1
  size_of (ACapture g c) = 1
  size_of (AClosing g) = 1
  size_of AWaiting = 1
  size_of (ASeq first later) = 1 + size_of first
  size_of (APar arms) = 1 + sizes_of arms
  size_of (ALoop run port comb body) = 1 + size_of run
  size_of (ARepeat run left body) = 1 + size_of run
  size_of (ACall g c inputs child) = 1 + size_of child

  pub sizes_of : PlainArms → ℕ
  sizes_of (one_arm arm) = 1 + size_of arm
  sizes_of (both_arms leaves one other) = 1 + sizes_of one + sizes_of other
