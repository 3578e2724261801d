-- The subcommands of string(n): for each its name, its usage and its meaning.
use Rattle.std.specs.Prelude.{◌≡◌, ℕ, bytes_eq, List, [], ◌∷◌, codes, Option, Some, None}
use Rattle.std.specs.List.{find}
use Rattle.tt_lists.specs.declared.answer.ListAnswer.{ListAnswer}
use Rattle.tt_pure.specs.Rows.{Row, is, row}
use Rattle.tt_pure.specs.Strings.{IsFirstAnswer, IsLastAnswer, IsMapAnswer, IsMatchAnswer, IsRepeatAnswer}
use Rattle.tt_pure.specs.Strings.{compare_answer, equal_answer, index_answer, length_answer, lower_answer}
use Rattle.tt_pure.specs.Strings.{range_answer, reverse_answer, trim_answer, upper_answer}
use Rattle.tt_pure.specs.Usages.{bad_option, wrong_number}
use Rattle.tt_strings.specs.declared.trimming.Side.TheVariants.{Left, Right, Both}
use Rattle.tt_pure.specs.declared.subcommand.Subcommand.{Subcommand}
use Rattle.tt_pure.specs.declared.subcommand.Subcommand.TheVariants as string

-- the table
abbrev pub string_row : Subcommand → Row
string_row string.Length = row (codes "length") (codes "string length s") (is length_answer)
string_row string.Index = row (codes "index") (codes "string index s i") (is index_answer)
string_row string.Range = row (codes "range") (codes "string range s first last") (is range_answer)
string_row string.Reverse = row (codes "reverse") (codes "string reverse s") (is reverse_answer)
string_row string.Compare = row (codes "compare") (codes "string compare a b") (is compare_answer)
string_row string.Equal = row (codes "equal") (codes "string equal a b") (is equal_answer)
string_row string.Match = row (codes "match") (codes "string match pattern s") IsMatchAnswer
string_row string.First = row (codes "first") (codes "string first needle s") IsFirstAnswer
string_row string.Last = row (codes "last") (codes "string last needle s") IsLastAnswer
string_row string.Repeat = row (codes "repeat") (codes "string repeat s count") IsRepeatAnswer
string_row string.Map = row (codes "map") (codes "string map list s") IsMapAnswer
string_row string.Tolower = row (codes "tolower") (codes "string tolower s") (is lower_answer)
string_row string.Toupper = row (codes "toupper") (codes "string toupper s") (is upper_answer)
string_row string.Trim = row (codes "trim") (codes "string trim s ?chars?") (is (trim_answer Both))
string_row string.Trimleft = row (codes "trimleft") (codes "string trimleft s ?chars?") (is (trim_answer Left))
string_row string.Trimright = row (codes "trimright") (codes "string trimright s ?chars?") (is (trim_answer Right))

-- the subcommands of the table
abbrev pub subcommands : List Subcommand
subcommands =
    string.Length ∷ string.Index ∷ string.Range ∷ string.Reverse ∷ string.Compare ∷ string.Equal ∷ string.Match ∷
    string.First ∷ string.Last ∷ string.Repeat ∷ string.Map ∷ string.Tolower ∷ string.Toupper ∷ string.Trim ∷
    string.Trimleft ∷ string.Trimright ∷ []

-- the first of these that has a name
abbrev pub first_subcommand : List Subcommand → (name : List ℕ) → Option Subcommand
first_subcommand subcommands name = find (λ subcommand. bytes_eq name (string_row subcommand).name) subcommands

-- the answer of a subcommand to words
abbrev pub IsSubcommandAnswer : Subcommand → (words : List (List ℕ)) → ListAnswer → Type 0
IsSubcommandAnswer subcommand words answer =
    (string_row subcommand).meaning (wrong_number (string_row subcommand).usage) words answer

-- the answer to a word that names a subcommand, and the words after it
abbrev pub IsNamedAnswer : Option Subcommand → (name : List ℕ) → (words : List (List ℕ)) → ListAnswer → Type 0
IsNamedAnswer None name words answer = answer ≡ bad_option name
IsNamedAnswer (Some subcommand) name words answer = IsSubcommandAnswer subcommand words answer

-- string(n)
abbrev pub IsString : (wrong : ListAnswer) → (words : List (List ℕ)) → ListAnswer → Type 0
IsString wrong [] answer = answer ≡ wrong
IsString wrong (name ∷ words) answer = IsNamedAnswer (first_subcommand subcommands name) name words answer
