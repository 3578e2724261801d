-- What a step touches of shared arrays (tsv(n)): by the first words of its command.
use Rattle.std.specs.Prelude.{ℕ, Bool, true, false, ◌||◌, List, [], ◌∷◌, Option, Some, None, bytes_eq, codes}
use Rattle.std.specs.Prelude.{if◌then◌else◌}
use Rattle.std.specs.List.{list_any}
use Rattle.tt_calls.specs.declared.request.Request.{Request}
use Rattle.tt_calls.specs.declared.request.Request.TheVariants as ask
use Rattle.tt_calls.specs.declared.tsv_call.TsvCall.{TsvCall}
use Rattle.tt_calls.specs.declared.tsv_call.TsvCall.TheVariants as tsv
use Rattle.tt_before.specs.Steps.{Step, is_done}
use Rattle.tt_before.specs.declared.touched.Touched.{Touched}

abbrev pub is_one_of : (key : List ℕ) → List (List ℕ) → Bool
is_one_of key keys = list_any (λ other. bytes_eq other key) keys

-- commands that write, whatever their words; tsv::set writes if it has a value
abbrev pub writes_element : (name : List ℕ) → Bool
writes_element name =
    bytes_eq name (codes "tsv::unset") || bytes_eq name (codes "tsv::pop") || bytes_eq name (codes "tsv::move") ||
    bytes_eq name (codes "tsv::incr") || bytes_eq name (codes "tsv::append")

abbrev pub writes_list : (name : List ℕ) → Bool
writes_list name =
    bytes_eq name (codes "tsv::lappend") || bytes_eq name (codes "tsv::linsert") ||
    bytes_eq name (codes "tsv::lreplace") || bytes_eq name (codes "tsv::lpush") || bytes_eq name (codes "tsv::lpop")

abbrev pub has_value : (words : List (List ℕ)) → Bool
has_value (key ∷ value ∷ words) = true
has_value words = false

abbrev pub writes : (name : List ℕ) → (words : List (List ℕ)) → Bool
writes name words =
    if bytes_eq name (codes "tsv::set") then has_value words else writes_element name || writes_list name

-- the keys after the array's name: none is the whole array, and tsv::move has two
abbrev pub keys_in : (words : List (List ℕ)) → Option (List (List ℕ))
keys_in [] = None
keys_in (key ∷ words) = Some (key ∷ [])

abbrev pub moved_keys : (words : List (List ℕ)) → Option (List (List ℕ))
moved_keys (key ∷ new ∷ words) = Some (key ∷ new ∷ [])
moved_keys words = keys_in words

abbrev pub keys_of : (name : List ℕ) → (words : List (List ℕ)) → Option (List (List ℕ))
keys_of name words = if bytes_eq name (codes "tsv::move") then moved_keys words else keys_in words

-- tsv::array: the whole array
abbrev pub touched_whole : (words : List (List ℕ)) → Option Touched
touched_whole (name ∷ array ∷ words) = Some (record {
  array = array;
  keys = None;
  writes = bytes_eq name (codes "set") || bytes_eq name (codes "reset");
})
touched_whole words = None

abbrev pub touched_by : (name : List ℕ) → (words : List (List ℕ)) → Option Touched
touched_by name [] = None
touched_by name (array ∷ words) =
    Some (record { array = array; keys = keys_of name words; writes = writes name words })

-- tsv::names touches none
abbrev pub touched_in : (words : List (List ℕ)) → Option Touched
touched_in [] = None
touched_in (name ∷ words) =
    if bytes_eq name (codes "tsv::array") then touched_whole words else
    if bytes_eq name (codes "tsv::names") then None else touched_by name words

abbrev pub touched_by_call : TsvCall → Option Touched
touched_by_call (tsv.Run words) = touched_in words
touched_by_call call = None

abbrev pub touched_by_request : Request → Option Touched
touched_by_request (ask.Tsv call) = touched_by_call call
touched_by_request request = None

-- what a step touches: nothing if it was refused or cancelled
abbrev pub touched : Step → Option Touched
touched step = if is_done step.reply then touched_by_request step.request else None

-- a key that both touch: the first of the second one's; none if one of them touches the whole array
abbrev pub first_shared : (keys others : List (List ℕ)) → Option (List ℕ)
first_shared [] others = None
first_shared (key ∷ keys) others = if is_one_of key others then Some key else first_shared keys others

abbrev pub shared_in : (keys others : Option (List (List ℕ))) → Option (List ℕ)
shared_in (Some keys) (Some others) = first_shared keys others
shared_in keys others = None

abbrev pub shared_key : (first second : Touched) → Option (List ℕ)
shared_key first second = shared_in second.keys first.keys
