-- `binary64::digits::parts` meets its contract.
use Rattle.binary64.proofs.RootDigits.{not-nan, own-digits, field-digits}
use Rattle.binary64.proofs.digits.parts.Goals as goal

pub float_to_bits-b : goal.float_to_bits-b
float_to_bits-b c = not-nan c.args.x c.requires

pub returns-then-b-lt9007199254740992 : goal.returns-then-b-lt9007199254740992
returns-then-b-lt9007199254740992 c = own-digits c.args.x c.requires (rw c.well_formed.0.1 tt) c.if-b-lt9007199254740992.true

pub returns-else-b-lt9007199254740992 : goal.returns-else-b-lt9007199254740992
returns-else-b-lt9007199254740992 c = field-digits c.args.x c.requires (rw c.well_formed.0.1 tt) c.if-b-lt9007199254740992.false
