-- Dictionaries around others: a word of the code's own contracts.
use Rattle.std.specs.Prelude.{List, [], ◌∷◌}
use Rattle.tt_pairs.specs.Reading.{Reading}
use Rattle.tt_dict.specs.Paths.{put_back}
use Rattle.tt_dict.specs.declared.edit.Level.{Level}

-- what becomes of the outermost, the first, once the innermost is this
abbrev pub around : List Level → Reading → Reading
around [] inner = inner
around (level ∷ levels) inner = put_back level.pairs level.key (around levels inner)
