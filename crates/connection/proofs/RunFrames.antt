-- Frames as bytes, for the recorded runs. Assumes nothing.
use Prim.Native.Nat.{ℕ}
use mathlib.Core.List.{List, [], ◌∷◌, ◌++◌}
use lib.ListN.{length}

-- a frame, its check left out
abbrev frame : List ℕ → List ℕ → ℕ → ℕ → List ℕ → List ℕ
frame letters magic a b bytes = letters ++ a ∷ 0 ∷ 0 ∷ 0 ∷ b ∷ 0 ∷ 0 ∷ 0 ∷ length bytes ∷ 0 ∷ 0 ∷ 0 ∷ 0 ∷ 0 ∷ 0 ∷ 0 ∷ magic ++ bytes

abbrev pub OPEN : ℕ → ℕ → List ℕ → List ℕ
OPEN = frame (0x4f ∷ 0x50 ∷ 0x45 ∷ 0x4e ∷ []) (0xb0 ∷ 0xaf ∷ 0xba ∷ 0xb1 ∷ [])

abbrev pub OKAY : ℕ → ℕ → List ℕ → List ℕ
OKAY = frame (0x4f ∷ 0x4b ∷ 0x41 ∷ 0x59 ∷ []) (0xb0 ∷ 0xb4 ∷ 0xbe ∷ 0xa6 ∷ [])

abbrev pub WRTE : ℕ → ℕ → List ℕ → List ℕ
WRTE = frame (0x57 ∷ 0x52 ∷ 0x54 ∷ 0x45 ∷ []) (0xa8 ∷ 0xad ∷ 0xab ∷ 0xba ∷ [])

abbrev pub CLSE : ℕ → ℕ → List ℕ → List ℕ
CLSE = frame (0x43 ∷ 0x4c ∷ 0x53 ∷ 0x45 ∷ []) (0xbc ∷ 0xb3 ∷ 0xac ∷ 0xba ∷ [])
