-- What is answered fits the request, row by row.
use Rattle.std.proofs.Common.{◌≡◌, ◌∙◌, ℕ, true, false, List, [], ◌∷◌, Option, Some, None, is_some, ap, refl, sym}
use Rattle.laws_tables.proofs.ArrayFits.{array_fits}
use Rattle.laws_tables.proofs.ChannelFits.{channel_fits}
use Rattle.laws_tables.proofs.LockFits.{lock_fits}
use Rattle.laws_tables.proofs.PoolFits.{pool_fits}
use Rattle.laws_tables.proofs.Shapes.{first, second, third}
use Rattle.laws_tables.proofs.ThreadRows.{by_awaits, by_configures, by_counts, by_creates, by_delivers, by_exits, by_joins, by_names, by_reads, by_reports}
use Rattle.laws_tables.proofs.ThreadRows.{by_sends, by_takes}
use Rattle.laws_tables.specs.Fitting.{Fits, FittingLaw}
use Rattle.tt_calls.specs.declared.request.Request.{Request}
use Rattle.tt_calls.specs.declared.request.Request.TheVariants as ask
use Rattle.tt_shared.specs.Acts.{act, target_of}
use Rattle.tt_shared.specs.Enabled.{enabled}
use Rattle.tt_shared.specs.Mail.{first_of}
use Rattle.tt_shared.specs.State.{State}
use Rattle.tt_shared.specs.declared.applied.Line.{Line}
use Rattle.tt_threads.specs.Requests as threads
use Rattle.tt_threads.specs.Rows.{linked_thread, row_of, thread_of_id}

not_none : {X : Type 0} (found : Option X) → is_some found ≡ true → found ≡ None → ⊥
not_none found some none = let both : false ≡ true = sym (ap is_some none) ∙ some in cc both

reports_fit : (text : List ℕ) (words : List (List ℕ)) (now : _) → Fits (ask.Configure text words) (threads.settings_report now words)
reports_fit text [] now = (0, first, refl)
reports_fit text (name ∷ words) now = go (threads.setting_of now name) refl
  where
    go : (found : Option (List ℕ)) → threads.setting_of now name ≡ found → Fits (ask.Configure text (name ∷ words)) (threads.settings_report now (name ∷ words))
    go None is = rw (is, threads.settings_report) (2, third, refl)
    go (Some value) is = rw (is, threads.settings_report) (0, first, refl)

pub fits : (state : State) (t : ℕ) (request : Request) (line : Line) → enabled state t request ≡ true → Fits request (act state t request line).gives.reply
fits state t (ask.WriteOut text) line can = (0, first, refl)
fits state t (ask.WriteErr text) line can = (0, first, refl)
fits state t ask.ReadLine line can =
    by_reads (Fits ask.ReadLine) state line (λ text. (0, first, refl)) (1, second, refl) (λ b text. (2, third, refl)) (λ is. (2, third, refl))
fits state t ask.StdinEof line can = (0, first, refl)
fits state t (ask.Create joinable preserved script) line can =
    by_creates (Fits (ask.Create joinable preserved script)) state joinable preserved script (λ text. (0, first, refl)) (λ b text. (1, second, refl))
fits state t (ask.Preserve text) line can =
    by_counts (Fits (ask.Preserve text)) state.rows (λ b rest. (1, second, refl)) threads.with_reference text (threads.thread_named state.rows t text)
    (λ value. (0, first, refl)) (λ n is none. (1, second, refl))
fits state t (ask.Release text) line can =
    by_counts (Fits (ask.Release text)) state.rows (λ b rest. (1, second, refl)) threads.without_reference text (threads.thread_named state.rows t text)
    (λ value. (0, first, refl)) (λ n is none. (1, second, refl))
fits state t ask.Names line can = (0, first, refl)
fits state t (ask.Exists text) line can = (0, first, refl)
fits state t (ask.Join text) line can =
    by_joins (Fits (ask.Join text)) state.rows (λ b rest. (1, second, refl)) t text (thread_of_id state.rows text) (λ n. (0, first, refl))
    (λ n is none. (1, second, refl))
fits state t (ask.AwaitEnd thread) line can =
    by_exits (Fits (ask.AwaitEnd thread)) state.rows (λ b rest. (1, second, refl)) (row_of state.rows thread) (λ value. (0, first, refl)) (1, second, refl)
fits state t (ask.Configure text words) line can =
    by_configures (Fits (ask.Configure text words)) state.rows (λ b rest. (2, third, refl)) text words (linked_thread state.rows text) (1, second, refl)
    (λ n is none. (2, third, refl)) (λ now few. reports_fit text words now) (λ now many is. (2, third, refl))
fits state t (ask.ErrorProc name) line can = by_names (Fits (ask.ErrorProc name)) state t name (λ text. (0, first, refl)) (1, second, refl)
fits state t (ask.Send text script mode variable head) line can =
    by_sends (Fits (ask.Send text script mode variable head)) state t text script mode variable head (λ n. (0, first, refl)) (λ b rest. (1, second, refl))
    (λ is. (1, second, refl)) (λ waits target is me. (1, second, refl))
fits state t (ask.Await n) line can = by_awaits (Fits (ask.Await n)) state t n (λ outcome. (0, first, refl)) (1, second, refl) (2, third, refl)
fits state t ask.Take line can = by_takes (Fits ask.Take) state t (λ event. (0, first, refl)) (λ none. absurd (not_none (first_of state.queues t) can none))
fits state t ask.TakeReady line can = by_takes (Fits ask.TakeReady) state t (λ event. (0, first, refl)) (λ none. (1, second, refl))
fits state t (ask.Deliver n outcome) line can = by_delivers (Fits (ask.Deliver n outcome)) state t n outcome (λ stops. (0, first, refl)) (1, second, refl)
fits state t (ask.Report trace plain) line can = by_reports (Fits (ask.Report trace plain)) state t trace plain (λ stops. (0, first, refl))
fits state t (ask.Broadcast script) line can = (0, first, refl)
fits state t (ask.Tsv call) line can = array_fits state.arrays t call can
fits state t (ask.Lock call) line can = lock_fits state.locks t call can
fits state t (ask.Pool call) line can = pool_fits state t call can
fits state t (ask.Chan call) line can = channel_fits state.channels t (target_of state call) call can
fits state t (ask.AddTimer after script) line can = (1, second, refl)
fits state t (ask.DropTimer number) line can = (0, first, refl)
fits state t (ask.Sleep after) line can = (1, second, refl)
fits state t ask.AwaitTime line can = (0, first, refl)
fits state t (ask.Cancel text unwind) line can = (1, second, refl)
fits state t ask.Pause line can = (0, first, refl)
fits state t (ask.End code) line can = (0, first, refl)
fits state t (ask.Exit code) line can = (0, first, refl)

pub answers_fit : FittingLaw
answers_fit = fits
