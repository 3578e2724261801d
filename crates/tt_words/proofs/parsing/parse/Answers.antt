use Rattle.std.proofs.Common.{map, string_bytes, ◌∙◌}
use Rattle.clap.specs.Simple.{app_of}
use Rattle.tt_words.proofs.ParseLemmas.{all_utf8, parsed, unparsed}
use Rattle.tt_words.proofs.parsing.parse.Goals as goal

pub returns-in-Ok-try_get_matches_from : goal.returns-in-Ok-try_get_matches_from
returns-in-Ok-try_get_matches_from c =
    parsed (app_of c.in-Ok.command) (map string_bytes c.args.words.now) c.in-Ok-try_get_matches_from.matches c.in-Ok.ensures
    (all_utf8 c.args.words.now) c.in-Ok-try_get_matches_from.ensures.matches c.in-Ok-try_get_matches_from.ensures.kinds

pub returns : goal.returns
returns c =
    unparsed (app_of c.in-Ok.command) (map string_bytes c.args.words.now) c.in-Err.error c.in-Ok.ensures
    c.in-Err.ensures.kinds (λ memory. c.in_default-kind.not-OutOfMemory (c.kind.ensures ∙ memory))
