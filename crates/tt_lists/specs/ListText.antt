-- The grammar of list text (Tcl(n), lists; list(n)): which items a text lists, and what is wrong with one that
-- lists none.
use Rattle.std.specs.Prelude.{◌≡◌, ◌≢◌, ℕ, Bool, false, not, ◌==◌, IsTrue, List, [], ◌∷◌, ◌++◌, drop, take, take_while}
use Rattle.tt_text.specs.Backslash.{backslash}
use Rattle.tt_text.specs.Braces.{IsBalanced, IsClosedAt}
use Rattle.tt_text.specs.Characters.{is_white_space}
use Rattle.tt_lists.specs.declared.items.ListFault.{ListFault}
use Rattle.tt_lists.specs.declared.items.ListFault.TheVariants.{OpenBrace, OpenQuote, AfterBrace, AfterQuote}

-- a byte `"`
abbrev pub is_quote : ℕ → Bool
is_quote b = b == 34

abbrev pub is_no_white_space : ℕ → Bool
is_no_white_space b = not (is_white_space b)

-- The text begins with bytes that stand for this value, each backslash sequence replaced, up to a byte that stops
-- them or the end, where the rest begins.
pub data IsRun (stops : ℕ → Bool) : (text value rest : List ℕ) → Type 0 where
  at_end : IsRun stops [] [] []
  stopped : {b : ℕ} {text : List ℕ} → IsTrue (stops b) → IsRun stops (b ∷ text) [] (b ∷ text)
  letter : {b : ℕ} {text value rest : List ℕ} →
      stops b ≡ false →
      b ≢ 92 →
      IsRun stops text value rest →
      IsRun stops (b ∷ text) (b ∷ value) rest
  -- a backslash stands for what its sequence says
  escape : {b : ℕ} {text whole value rest : List ℕ} →
      stops b ≡ false →
      b ≡ 92 →
      IsRun stops (drop (backslash text).takes text) value rest →
      whole ≡ (backslash text).value ++ value →
      IsRun stops (b ∷ text) whole rest

-- the end of an item: white space, or the end of the text
pub data IsSeparated : List ℕ → Type 0 where
  at_end : IsSeparated []
  white : {b : ℕ} {text : List ℕ} → IsTrue (is_white_space b) → IsSeparated (b ∷ text)

-- the text begins with this item as written in a list, and the rest follows
pub data IsItem : (text item rest : List ℕ) → Type 0 where
  -- in braces, as it is
  braced : {text item rest : List ℕ} →
      text ≡ 123 ∷ (item ++ (125 ∷ rest)) →
      IsBalanced item →
      IsSeparated rest →
      IsItem text item rest
  quoted : {text item rest : List ℕ} {quote : ℕ} →
      IsTrue (is_quote quote) →
      IsRun is_quote text item (quote ∷ rest) →
      IsSeparated rest →
      IsItem (34 ∷ text) item rest
  bare : {b : ℕ} {text item rest : List ℕ} →
      is_white_space b ≡ false →
      b ≢ 123 →
      b ≢ 34 →
      IsRun is_white_space (b ∷ text) item rest →
      IsItem (b ∷ text) item rest

-- the text lists these items
pub data IsListText : (text : List ℕ) (items : List (List ℕ)) → Type 0 where
  none : IsListText [] []
  space : {b : ℕ} {text : List ℕ} {items : List (List ℕ)} →
      IsTrue (is_white_space b) →
      IsListText text items →
      IsListText (b ∷ text) items
  first : {text item rest : List ℕ} {items : List (List ℕ)} →
      IsItem text item rest →
      IsListText rest items →
      IsListText text (item ∷ items)

-- what follows an item in place of a separator: the bytes up to the next white space, at most 20 of them
pub data IsFollowed : (text follower : List ℕ) → Type 0 where
  by : {b : ℕ} {text : List ℕ} →
      is_white_space b ≡ false →
      IsFollowed (b ∷ text) (take 20 (take_while is_no_white_space (b ∷ text)))

-- what is wrong with a text: the first item that can't be read
pub data IsFaulty : (text : List ℕ) (fault : ListFault) → Type 0 where
  space : {b : ℕ} {text : List ℕ} {fault : ListFault} →
      IsTrue (is_white_space b) →
      IsFaulty text fault →
      IsFaulty (b ∷ text) fault
  later : {text item rest : List ℕ} {fault : ListFault} →
      IsItem text item rest →
      IsFaulty rest fault →
      IsFaulty text fault
  open_brace : {text : List ℕ} → ((n : ℕ) → ¬ IsClosedAt text n) → IsFaulty (123 ∷ text) OpenBrace
  after_brace : {text item rest follower : List ℕ} →
      text ≡ 123 ∷ (item ++ (125 ∷ rest)) →
      IsBalanced item →
      IsFollowed rest follower →
      IsFaulty text (AfterBrace follower)
  open_quote : {text item : List ℕ} → IsRun is_quote text item [] → IsFaulty (34 ∷ text) OpenQuote
  after_quote : {text item rest follower : List ℕ} {quote : ℕ} →
      IsTrue (is_quote quote) →
      IsRun is_quote text item (quote ∷ rest) →
      IsFollowed rest follower →
      IsFaulty (34 ∷ text) (AfterQuote follower)
