-- From what the parts of a search leave to what it answers.
use Rattle.std.proofs.Common.{◌≡◌, ◌∙◌, ◌≤◌, ℕ, List, Option, None, Some, sym, subst, arith}
use Rattle.tt_core.specs.Stage.{Began}
use Rattle.tt_devices.specs.Memory.{Supply}
use Rattle.tt_devices.specs.Names.{Names}
use Rattle.tt_devices.specs.declared.files.Files.{Ghosts as OfFiles}
use Rattle.tt_devices.specs.declared.sink.Sink.{Ghosts as OfSink}
use Rattle.tt_search.specs.Searched.{in_memory}
use Rattle.tt_search.specs.inside.Shown.{HasShown, IsInRange}
use Rattle.tt_search.specs.declared.searched.Searched.{Searched}
use Rattle.tt_search_words.specs.Asked.{Search, WordsAskFor}
use Rattle.tt_session.proofs.CloseLemmas.{records-after}
use Rattle.tt_session.specs.Answer.{HasRun}
use Rattle.tt_session.specs.Asking.{BeginsPlain}
use Rattle.tt_session.specs.Choosing.{Freely}
use Rattle.tt_session.specs.declared.ended.Ended.{Ended}
use Rattle.tt_session.specs.declared.status.Status.{Status}
use Rattle.tt_words.specs.Asked.{HasNumber, Plain, plain}

-- ---- the numbers of a search

number-least : (least most default : ℕ) (value : Option (List ℕ)) (number : ℕ) → least ≤ default → HasNumber least most default value number → least ≤ number
number-least least most default None number within is = rw is within
number-least least most default (Some text) number within is = is.at_least

number-most : (least most default : ℕ) (value : Option (List ℕ)) (number : ℕ) → default ≤ most → HasNumber least most default value number → number ≤ most
number-most least most default None number within is = rw is within
number-most least most default (Some text) number within is = is.at_most

pub in-range : (words : List (List ℕ)) (search : Search) → WordsAskFor words search → IsInRange search
in-range words search asks = record {
  workers = number-least 1 64 4 _ search.plain.workers (omega arith) asks.asks.plain.workers;
  steps = number-most 1 16777216 100000 _ search.plain.steps (omega arith) asks.asks.plain.steps;
  runs = number-most 1 1000000 1000 _ search.runs (omega arith) asks.asks.runs;
}

-- ---- files that were read before the run

pub begins-after : (named : Plain) (old middle : Option Names) (setup : _) → middle ≡ old → BeginsPlain named old setup (Freely named.steps)
    → BeginsPlain named middle setup (Freely named.steps)
begins-after named old middle setup same is = subst (λ (names : Option Names). BeginsPlain named names setup (Freely named.steps)) (sym same) is

module _ {F K E : Type 0} (files : OfFiles F) (output : OfSink K) (errors : OfSink E) where
  run-after : (named : Plain) (old middle new : F) (began : Began Supply K E) (ended : Ended Supply K E) → files.map middle ≡ files.map old
      → files.write_fault_count middle ≡ files.write_fault_count old → files.read_fault_count middle ≡ files.read_fault_count old
      → HasRun files in_memory output errors (plain named) middle new began ended → HasRun files in_memory output errors (plain named) old new began ended
  run-after named old middle new began ended same writes reads is = record {
    setup = is.setup;
    mode = is.mode;
    finish = is.finish;
    asks = tt;
    begins = rw (← same) is.begins;
    leaves = is.leaves;
    records = records-after files named.kept is.finish.end is.finish.schedule.threads old middle new ended.status same writes is.records;
    more = is.more;
    report = is.report;
    line = is.line;
    schedule = is.schedule;
    input = is.input;
    output = is.output;
    reads_steady = is.reads_steady ∙ reads;
  }

  pub shown-after : {S : Type 0} (search : Search) (bytes : List ℕ) (old middle new : F) (out : K) (err : E) (left : Searched S K E) (end : Status)
      → files.map middle ≡ files.map old
      → files.write_fault_count middle ≡ files.write_fault_count old → files.read_fault_count middle ≡ files.read_fault_count old
      → HasShown files output errors search bytes middle new out err left end → HasShown files output errors search bytes old new out err left end
  shown-after search bytes old middle new out err left end same writes reads is = record {
    supply = is.supply;
    ended = is.ended;
    input_is = is.input_is;
    ran = run-after search.plain old middle new _ is.ended same writes reads is.ran;
    ends = is.ends;
    output_is = is.output_is;
    after = is.after;
  }
