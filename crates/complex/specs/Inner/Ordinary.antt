-- Numbers of ordinary size: where all that is given is below 2^200 and a divisor's squared magnitude is at least 2^-400, no removal
-- overflows.
use Rattle.std.specs.Prelude.{Bool, ◌&&◌, List, Float}
use Rattle.std.specs.List.{list_all}
use Rattle.std.specs.Float.{binary64}
use Rattle.std.specs.Float.Ieee.{of_bits, lt, neg}

-- 2^200
unfoldable pub ordinary_limit : Float
ordinary_limit = of_bits binary64 0x4c70000000000000

-- 2^-400
unfoldable pub ordinary_square : Float
ordinary_square = of_bits binary64 0x26f0000000000000

-- below 2^200 in absolute value
unfoldable pub ordinary : Float → Bool
ordinary x = lt x ordinary_limit && lt (neg ordinary_limit) x

abbrev pub all_ordinary : List Float → Bool
all_ordinary xs = list_all ordinary xs
