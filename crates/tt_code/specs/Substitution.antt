-- How words are substituted, from left to right (Tcl(n), rules 5 and 7 to 11).
use Rattle.std.specs.Prelude.{ℕ, Bool, true, false, List, [], ◌∷◌, ◌++◌, Some, None}
use Rattle.tt_script.specs.Words.{PlainPart, letters, variable, element, script, PlainParts, none, more, PlainWord}
use Rattle.tt_code.specs.Needs.{Needs, Variable, Script, Values, Use, UseAll, expansion_needs}

abbrev mutual
  -- what a part stands for; an element's index is substituted before its value is read
  pub part : PlainPart → Use → Needs
  part (letters text) go = go text
  part (variable name) go = Variable name None go
  part (element name index) go = parts [] index (λ i. Variable name (Some i) go)
  part (script text) go = Script text go

  -- parts, each joined to what is done
  pub parts : (done : List ℕ) → PlainParts → Use → Needs
  parts done none go = go done
  parts done (more first later) go = part first (λ v. parts (done ++ v) later go)

-- what the value of a word's parts stands for: the items of a list, or itself
abbrev pub word_values : (expand : Bool) → List ℕ → UseAll → Needs
word_values true value go = expansion_needs value go
word_values false value go = go (value ∷ [])

-- words, each after the values of those that are done
abbrev pub words : (done : List (List ℕ)) → List PlainWord → Needs
words done [] = Values done
words done (word ∷ later) = parts [] word.parts (λ v. word_values word.expand v (λ vs. words (done ++ vs) later))

-- the words of a command
abbrev pub words_needs : List PlainWord → Needs
words_needs command = words [] command
