-- Ids (thread(n), tpool(n), chan(n), after(n)): the letters of the kind and then the number, in decimal without leading
-- zeros.
use Rattle.std.specs.Prelude.{◌≡◌, ◌<◌, ◌^◌, ℕ, ◌==◌, ◌&&◌, nat_lt, List, [], ◌∷◌, ◌++◌, codes, bytes_eq, Option}
use Rattle.std.specs.Prelude.{Some, None, option_and_then, if◌then◌else◌}
use Rattle.std.specs.Fmt.{decimal}
use Rattle.tt_ids.specs.Digits.{number_after}
use Rattle.tt_ids.specs.declared.id.IdKind.{IdKind}
use Rattle.tt_ids.specs.declared.id.IdKind.TheVariants.{Thread, Exclusive, Recursive, ReadWrite, Condition, Pool}
use Rattle.tt_ids.specs.declared.id.IdKind.TheVariants.{Channel, Timer}

abbrev pub letters : IdKind → List ℕ
letters Thread = codes "tid"
letters Exclusive = codes "mid"
letters Recursive = codes "rid"
letters ReadWrite = codes "wid"
letters Condition = codes "cid"
letters Pool = codes "tpool"
letters Channel = codes "chan"
letters Timer = codes "after#"

-- the id of the one of this kind that has this number
abbrev pub id : IdKind → ℕ → List ℕ
id kind number = letters kind ++ decimal number

-- the number that a text writes in decimal, as `decimal` does; none if it writes none below 2^64
abbrev pub number_named : List ℕ → Option ℕ
number_named text =
    if nat_lt (number_after 0 text) (2 ^ 64) && bytes_eq text (decimal (number_after 0 text))
    then Some (number_after 0 text)
    else None

-- a text without the letters at its front
abbrev pub after_letters : (front text : List ℕ) → Option (List ℕ)
after_letters [] text = Some text
after_letters (letter ∷ front) [] = None
after_letters (letter ∷ front) (b ∷ text) = if letter == b then after_letters front text else None

-- the number of the one of this kind that has this id
abbrev pub id_named : IdKind → List ℕ → Option ℕ
id_named kind text = option_and_then number_named (after_letters (letters kind) text)

-- two numbers below 2^64 have two ids
abbrev pub IdLaw : Type 0
IdLaw = (kind : IdKind) (m n : ℕ) → m < 2 ^ 64 → n < 2 ^ 64 → id kind m ≡ id kind n → m ≡ n
