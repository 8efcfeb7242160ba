-- Calls on single numbers: what the pointers hold at the end.
use Rattle.std.specs.Prelude.{Float, Option, Some, None}
use Rattle.complex.specs.declared.Complex.{Complex}

-- what the pointers hold, by the answer: it, or what was there
unfoldable pub pair_after : Option Complex → Complex → Complex
pair_after (Some z) held = z
pair_after None held = held

unfoldable pub real_after : Option Float → Float → Float
real_after (Some x) held = x
real_after None held = held
