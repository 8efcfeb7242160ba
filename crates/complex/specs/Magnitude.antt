-- The magnitude of a complex number, and the sign cleared.
use Rattle.std.specs.Prelude.{false, Float}
use Rattle.std.specs.Float.{nan, inf, fin}
use Rattle.complex.specs.declared.Complex.{Complex}
use Rattle.complex.specs.Arithmetic.{sqmag}
use Rattle.binary64.specs.Root.{root}

-- the sign cleared, of a zero too
unfoldable pub abs : Float → Float
abs nan = nan
abs (inf s) = inf false
abs (fin s m e) = fin false m e

-- the root of re re + im im, each step rounded
unfoldable pub magnitude : Complex → Float
magnitude c = root (sqmag c)
