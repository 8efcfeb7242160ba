-- What a list looked through tells, in the words of the definitions: whether a number stands twice in it, and what its end is.
use Rattle.lists.proofs.Chains.{repeats-is, rest-is}

pub ruleset by = (repeats-is, rest-is)
