-- Arrays are read: `array exists`, `size`, `names` and `get` always come to something.
use Rattle.std.proofs.Common.{◌++◌, ℕ, Bool, true, false, List, [], ◌∷◌, Option, Some, None, refl, sym, subst}
use Rattle.std.specs.Prelude.{unwrap_or}
use Rattle.laws_answers.proofs.Holding.{finds, indices, size}
use Rattle.laws_answers.proofs.Scalars.{refuses}
use Rattle.laws_answers.proofs.Totals.{Good, Total, reported}
use Rattle.tt_calls.specs.Outcomes.{fine}
use Rattle.tt_lists.specs.Spelling.{list_of}
use Rattle.tt_store.specs.Held.{Held}
use Rattle.tt_store.specs.Spots.{spot}
use Rattle.tt_variable_commands.specs.ArrayReading as reading
use Rattle.tt_variable_commands.specs.ArrayReading.{Counts, Gets, HasIndicesIf, HasSizeIf, Lists, Names, PairsOf}
use Rattle.tt_variable_commands.specs.ArrayReading.{TellsSize, exists_report, more, names_like, none}
use Rattle.tt_variable_commands.specs.ArrayReading.{pair_of, size_report}
use Rattle.tt_variable_commands.specs.Vocabulary.{is_element}
use Rattle.tt_vars.specs.Variables.{Name}

pub lists : (held : Held) (name : Name) → Good held → (names : List Name) × Lists held name names
lists held name good = let some = by (is_element name) in (unwrap_or some.0 [], (some.0, some.1, refl))
  where
    by : (element : Bool) → (names : Option (List Name)) × HasIndicesIf element held name names
    by true = (None, refl)
    by false = indices held name good

pub counts : (held : Held) (name : Name) → Good held → (count : Option ℕ) × Counts held name count
counts held name good = by (is_element name)
  where
    by : (element : Bool) → (count : Option ℕ) × HasSizeIf element held name count
    by true = (None, refl)
    by false = size held name good

tells_size : (tell : Option ℕ → List ℕ) (name : Name) (old : Held) → Good old → Total (λ outcome new. TellsSize tell name old outcome new)
tells_size tell name old good = reported old good (λ count. fine (tell count)) (counts old name good)

pub exists_total : (usage : List ℕ) (words : List (List ℕ)) (old : Held) → Good old → Total (λ outcome new. reading.exists usage words old outcome new)
exists_total usage [] old good = refuses usage old good
exists_total usage (name ∷ []) old good = tells_size exists_report name old good
exists_total usage (name ∷ next ∷ words) old good = refuses usage old good

pub size_total : (usage : List ℕ) (words : List (List ℕ)) (old : Held) → Good old → Total (λ outcome new. reading.size usage words old outcome new)
size_total usage [] old good = refuses usage old good
size_total usage (name ∷ []) old good = tells_size size_report name old good
size_total usage (name ∷ next ∷ words) old good = refuses usage old good

-- ---- indices and values ----

names_told : (pattern : Option (List ℕ)) (name : Name) (old : Held) → Good old → Total (λ outcome new. Names pattern name old outcome new)
names_told pattern name old good = reported old good (λ names. fine (list_of (names_like pattern names))) (lists old name good)

pub names_total : (usage : List ℕ) (words : List (List ℕ)) (old : Held) → Good old → Total (λ outcome new. reading.names usage words old outcome new)
names_total usage [] old good = refuses usage old good
names_total usage (name ∷ []) old good = names_told None name old good
names_total usage (name ∷ pattern ∷ []) old good = names_told (Some pattern) name old good
names_total usage (name ∷ pattern ∷ next ∷ words) old good = refuses usage old good

pairs : (held : Held) (name : Name) → Good held → (names : List Name) → (items : List (List ℕ)) × PairsOf held name names items
pairs held name good [] = ([], none)
pairs held name good (index ∷ names) =
    let read = finds held (spot name (Some index)) good in
    let rest = pairs held name good names in
    (pair_of index read.0 ++ rest.0, more read.1 rest.1)

gets : (pattern : Option (List ℕ)) (name : Name) (old : Held) → Good old → Total (λ outcome new. Gets pattern name old outcome new)
gets pattern name old good =
    let names = lists old name good in
    let items = pairs old name good (names_like pattern names.0) in record {
      gives = (fine (list_of items.0), old, (names.0, items.0, names.1, items.1, refl, refl));
      keeps = λ outcome new is. subst Good (sym is.5) good;
    }

pub get_total : (usage : List ℕ) (words : List (List ℕ)) (old : Held) → Good old → Total (λ outcome new. reading.get usage words old outcome new)
get_total usage [] old good = refuses usage old good
get_total usage (name ∷ []) old good = gets None name old good
get_total usage (name ∷ pattern ∷ []) old good = gets (Some pattern) name old good
get_total usage (name ∷ pattern ∷ next ∷ words) old good = refuses usage old good
