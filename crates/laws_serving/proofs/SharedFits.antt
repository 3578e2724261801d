-- What the words of commands on shared variables ask fits.
use Rattle.std.proofs.Common.{◌≡◌, ℕ, true, List, [], ◌∷◌, length, refl}
use Rattle.laws_serving.proofs.Cases.{by_found, by_if}
use Rattle.laws_serving.proofs.Fitting.{Fits, FitsThen}
use Rattle.laws_serving.proofs.Fitting.{is_commanded}
use Rattle.tt_calls.specs.declared.request.Request.TheVariants as ask
use Rattle.tt_calls.specs.declared.request.Request.{Request}
use Rattle.tt_calls.specs.declared.tsv_call.TsvCall.TheVariants as tsv
use Rattle.tt_command_tables.specs.Usages.{bad_option}
use Rattle.tt_command_tables.specs.declared.call.Call.{Call}
use Rattle.tt_shared_commands.specs.Shared as shared_words
use Rattle.tt_shared_commands.specs.declared.command.SharedCommand.TheVariants as shared
use Rattle.tt_shared_commands.specs.declared.command.SharedCommand.{SharedCommand}

after_reply : (request : Request) → is_commanded request ≡ true → (command : SharedCommand) (words : List (List ℕ))
    → FitsThen request (shared_words.after_reply command words)
after_reply request is shared.Get (array ∷ key ∷ variable ∷ words) = is
after_reply request is command words = is

elements : (command : SharedCommand) (name : List ℕ) (words : List (List ℕ)) → Fits (shared_words.elements command name words)
elements command name words =
    by_if (shared_words.fits (shared_words.shared_row command) words) _ _ (after_reply (ask.Tsv (tsv.Run (name ∷ words))) refl command words) tt

searches_by : (name : List ℕ) (words modes : List (List ℕ)) → Fits (shared_words.searches_by name words modes)
searches_by name words [] = elements shared.Lsearch name words
searches_by name words (mode ∷ []) = by_if (shared_words.is_mode mode) _ _ refl tt
searches_by name words (mode ∷ next ∷ modes) = tt

searches : (name : List ℕ) (words : List (List ℕ)) → Fits (shared_words.searches name words)
searches name words =
    by_found (shared_words.unknown_mode (shared_words.modes words)) bad_option (shared_words.searches_by name words (shared_words.modes words))
    (λ word. tt) (searches_by name words (shared_words.modes words))

locks : (wrong : Call) → Fits wrong → (words : List (List ℕ)) → Fits (shared_words.locks wrong words)
unfolding shared_words.locks
locks wrong so (array ∷ arg ∷ args) = refl
locks wrong so words = so

arrays : (name : List ℕ) (words : List (List ℕ)) → Fits (shared_words.arrays name words)
arrays name [] = tt
arrays name (sub ∷ words) =
    by_found (shared_words.array_command sub) (λ one. shared_words.array_runs one name (sub ∷ words) (length words)) (bad_option sub)
    (λ one. by_if (shared_words.is_between (shared_words.array_row one).least (shared_words.array_row one).most (length words)) _ _ refl tt) tt

pub shared_fits : (command : SharedCommand) (name : List ℕ) (words : List (List ℕ)) → Fits (shared_words.shared_meaning command name words)
shared_fits shared.Array name words = arrays name words
shared_fits shared.Lock name words = locks _ tt words
shared_fits shared.Lsearch name words = searches name words
shared_fits command name words = elements command name words
