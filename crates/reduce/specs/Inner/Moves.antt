-- What stands at a buffer's front.
use Rattle.std.specs.Prelude.{ℕ, ◌≤◌, ◌≡◌, List, length, take}

-- the buffer's first n bytes are this text; that they are n follows, and lending them asks for it
abbrev pub Front : ℕ → List ℕ → List ℕ → Type 0
Front n buffer text = (n ≤ length buffer) × (n ≡ length (take n buffer)) × (take n buffer ≡ text)
