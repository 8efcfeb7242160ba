-- Writing bytes into a slice from an index on.
use Rattle.std.specs.Prelude.{ℕ, ◌+◌, ◌≤◌, ◌≡◌, ◌++◌, length, take, drop}
use Rattle.text_numbers.specs.Bytes.{Bytes}

-- out with bs from index at on, and the rest as it was
unfoldable pub written : Bytes → ℕ → Bytes → Bytes
written out at bs = take at out ++ bs ++ drop (at + length bs) out

-- bs has room there
abbrev pub HasRoom : Bytes → ℕ → Bytes → Type 0
HasRoom out at bs = at + length bs ≤ length out

-- what a function that writes bs leaves, and the next index, which it answers
pub record Wrote (out : Bytes) (at : ℕ) (bs : Bytes) (next : ℕ) (left : Bytes) : Type 0 where
  pub here : next ≡ at + length bs
  pub there : left ≡ written out at bs
