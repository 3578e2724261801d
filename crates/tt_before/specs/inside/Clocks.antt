-- What clocks tell: words of the code's own contracts. A clock has, at a thread, how many of its first steps it knows.
use Rattle.std.specs.Prelude.{◌≡◌, ◌<◌, ◌≤◌, ◌+◌, ◌==◌, ℕ, zero, suc, ◌⊎◌, ◌↔◌, List, [], ◌∷◌, Option, Some, None}
use Rattle.std.specs.Prelude.{if◌then◌else◌}
use Rattle.std.specs.List.{Contains}
use Rattle.tt_before.specs.Orders.{IsBefore, Link, LinkAt}
use Rattle.tt_before.specs.declared.object.Object.{Object}
use Rattle.tt_before.specs.declared.object.Object.TheVariants.{Line}

abbrev pub Links : Type 0
Links = List (Option Link)

-- whether an entry is a step of a thread, as 1 or 0
abbrev pub is_of : (thread : ℕ) → Option Link → ℕ
is_of thread None = 0
is_of thread (Some link) = if link.thread == thread then 1 else 0

-- how many steps a thread has taken
abbrev pub steps_of : (thread : ℕ) → Links → ℕ
steps_of thread [] = 0
steps_of thread (one ∷ all) = is_of thread one + steps_of thread all

-- how many of them stand up to a place, that of the place among them
abbrev pub rank : (thread : ℕ) → Links → (place : ℕ) → ℕ
rank thread [] place = 0
rank thread (one ∷ all) zero = is_of thread one
rank thread (one ∷ all) (suc place) = is_of thread one + rank thread all place

-- a step is another, or before it
abbrev pub IsUpTo : Links → ℕ → ℕ → Type 0
IsUpTo all i j = (i ≡ j) ⊎ IsBefore all i j

-- a step is, or is before, one that released an object
pub record IsKnownTo (all : Links) (object : Object) (place : ℕ) : Type 0 where
  pub by : ℕ
  pub link : Link
  pub stands : LinkAt all by link
  pub gives : Contains link.gives object
  pub reaches : IsUpTo all place by

-- each step releases its thread's line
abbrev pub AreLined : Links → Type 0
AreLined all = (i : ℕ) (link : Link) → LinkAt all i link → Contains link.gives (Line link.thread)

-- the clock of each object has the steps that are known to it
pub record AreClocks (all : Links) (clock : Object → ℕ → ℕ) : Type 0 where
  pub exact :
      (object : Object) (i : ℕ) (link : Link) →
      LinkAt all i link →
      rank link.thread all i ≤ clock object link.thread ↔ IsKnownTo all object i
  pub bounded : (object : Object) (thread : ℕ) → clock object thread ≤ steps_of thread all
  pub lines : (thread : ℕ) → clock (Line thread) thread ≡ steps_of thread all

-- a row has the steps that are before a place
abbrev pub IsRowOf : Links → (place : ℕ) → (row : ℕ → ℕ) → Type 0
IsRowOf all place row =
    (i : ℕ) (link : Link) →
    i < place →
    LinkAt all i link →
    rank link.thread all i ≤ row link.thread ↔ IsBefore all i place

-- a row that has what two others have, and one that has what the clocks of objects have
abbrev pub IsJoin : (row one other : ℕ → ℕ) → Type 0
IsJoin row one other = (thread n : ℕ) → n ≤ row thread ↔ (n ≤ one thread ⊎ n ≤ other thread)

pub record IsOneKnowing (clock : Object → ℕ → ℕ) (objects : List Object) (thread n : ℕ) : Type 0 where
  pub object : Object
  pub listed : Contains objects object
  pub knows : n ≤ clock object thread

abbrev pub IsJoinOf : (row : ℕ → ℕ) → (clock : Object → ℕ → ℕ) → List Object → Type 0
IsJoinOf row clock objects =
    (thread n : ℕ) → (0 < n) → n ≤ row thread ↔ IsOneKnowing clock objects thread n

-- a row with one step more of a thread
pub record IsOneMore (thread : ℕ) (before after : ℕ → ℕ) : Type 0 where
  pub more : after thread ≡ before thread + 1
  pub others : (other : ℕ) → (other ≡ thread → ⊥) → after other ≡ before other

-- clocks of which those of some objects are joined with a row
abbrev pub AreJoined : (after before : Object → ℕ → ℕ) → List Object → (row : ℕ → ℕ) → Type 0
AreJoined after before objects row =
    (object : Object) (thread n : ℕ) →
    n ≤ after object thread ↔ (n ≤ before object thread ⊎ (Contains objects object × (n ≤ row thread)))

-- what the clocks tell of a step
pub record IsTold (before after : Object → ℕ → ℕ) (thread : ℕ) (takes gives : List Object) (count : ℕ) (row : ℕ → ℕ) :
    Type 0 where
  pub joined : ℕ → ℕ
  pub join : IsJoinOf joined before takes
  pub more : IsOneMore thread joined row
  pub counts : count ≡ row thread
  pub gave : AreJoined after before gives row
