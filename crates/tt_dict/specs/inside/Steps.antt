-- What a change does to the outermost dictionary: a word of the code's own contracts.
use Rattle.tt_pairs.specs.Pairs.{Pairs, with_pair, without_key}
use Rattle.tt_dict.specs.declared.edit.Step.{Step}
use Rattle.tt_dict.specs.declared.edit.Step.TheVariants.{Stays, Puts, Removes}

-- the pairs then
abbrev pub after_step : Step → Pairs → Pairs
after_step Stays pairs = pairs
after_step (Puts key text) pairs = with_pair pairs key text
after_step (Removes key) pairs = without_key pairs key
