-- What a search answers and leaves, by its words, its files and its streams.
use Rattle.std.specs.Prelude.{◌≡◌, ℕ, List, [], Option, Some, IfSome}
use Rattle.tt_core.specs.Stage.{Began}
use Rattle.tt_devices.specs.Memory.{Supply}
use Rattle.tt_devices.specs.Streams.{Grows}
use Rattle.tt_devices.specs.declared.files.Files.{Ghosts as OfFiles}
use Rattle.tt_devices.specs.declared.sink.Sink.{Ghosts as OfSink}
use Rattle.tt_devices.specs.declared.source.Source.{Ghosts as OfSource}
use Rattle.tt_search.specs.declared.searched.SearchEnd.{SearchEnd}
use Rattle.tt_search.specs.declared.searched.SearchEnd.TheVariants.{Sound, Found, Refused}
use Rattle.tt_search.specs.declared.searched.Searched.{Searched}
use Rattle.tt_search_words.specs.Asked.{Search, WordsAskFor}
use Rattle.tt_session.specs.Answer.{HasRun, IsRefusal}
use Rattle.tt_session.specs.Lines.{PutsLine}
use Rattle.tt_session.specs.Recording.{IsUnwritten}
use Rattle.tt_session.specs.Status.{exit_of, refused_status}
use Rattle.tt_session.specs.declared.ended.Ended.{Ended}
use Rattle.tt_session.specs.declared.status.Refusal.{Refusal}
use Rattle.tt_session.specs.declared.status.Status.{Status}
use Rattle.tt_session.specs.declared.status.Status.TheVariants as status
use Rattle.tt_words.specs.Asked.{plain}

-- the exit code: 0 if nothing was found, 1 after a find that was kept, and else that of the status
abbrev pub exit_of_search : SearchEnd → ℕ
exit_of_search Sound = 0
exit_of_search (Found status.WriteFault) = exit_of status.WriteFault
exit_of_search (Found status.NoMemory) = exit_of status.NoMemory
exit_of_search (Found end) = 1
exit_of_search (Refused end) = exit_of end

-- reports were put on standard error, or the parts of them that it took
pub record IsReported (old new : Option (List ℕ)) : Type 0 where
  pub text : List ℕ
  pub grew : Grows old new text

-- all of standard input, if it shows its bytes, as a source in memory
abbrev pub IsWholeInput : Option (List ℕ) → Supply → Type 0
IsWholeInput known supply = IfSome known (λ bytes. supply.left ≡ bytes)

-- a source in memory, as runs see it
abbrev pub in_memory : OfSource Supply
in_memory = record { held = λ source. Some source.left; fault_count = λ source. source.plan.faults }

-- what is put for a refusal: how the program is called, or the status line of `tclthread`
abbrev pub PutsRefusal : {E : Type 0} → OfSink E → Status → (old new : E) → Type 0
PutsRefusal errors status.Usage old new = IsReported (errors.got old) (errors.got new)
PutsRefusal errors end old new = PutsLine errors (errors.fault_count old) end [] old new

module _ {F S K E : Type 0} (files : OfFiles F) (source : OfSource S) (output : OfSink K) (errors : OfSink E) where
  -- The find: after the reports so far, a run of the script as its words say, over all of standard input, which is
  -- recorded as any run is; and the reports after it.
  pub record HasFind (search : Search) (old new : F) (began : Began S K E) (left : Searched S K E)
      (end : Status) : Type 0 where
    pub supply : Supply
    pub middle : E
    pub ended : Ended Supply K E
    pub whole : IsWholeInput (source.held began.input) supply
    pub before : IsReported (errors.got began.errors) (errors.got middle)
    pub ran : HasRun files in_memory output errors (plain search.plain) old new
        (record { input = supply; output = began.output; errors = middle }) ended
    pub ends : end ≡ ended.status
    pub output_is : left.output ≡ ended.output
    pub after : IsReported (errors.got ended.errors) (errors.got left.errors)

  -- nothing was put on standard output, no file was written, and reports alone were put on standard error
  pub record IsIdle (old new : F) (began : Began S K E) (left : Searched S K E) : Type 0 where
    pub output_is : left.output ≡ began.output
    pub reported : IsReported (errors.got began.errors) (errors.got left.errors)
    pub unwritten : IsUnwritten files old new

  -- what is answered and left if the words ask for this search
  pub data AnswersSearch (search : Search) (old new : F) (began : Began S K E) (left : Searched S K E) : Type 0 where
    -- the script is missing or can't be read, or memory for it was refused
    refused : (why : Refusal) → IsRefusal files (plain search.plain) why old new →
        left.end ≡ Refused (refused_status why) → IsIdle old new began left →
        PutsRefusal errors (refused_status why) began.errors left.errors →
        AnswersSearch search old new began left
    -- standard input can't be read, or is too long
    unread : left.end ≡ Refused status.ReadFault → IsIdle old new began left →
        PutsRefusal errors status.ReadFault began.errors left.errors →
        AnswersSearch search old new began left
    no_memory : left.end ≡ Refused status.NoMemory → IsIdle old new began left →
        AnswersSearch search old new began left
    sound : left.end ≡ Sound → IsIdle old new began left →
        AnswersSearch search old new began left
    found : (end : Status) → left.end ≡ Found end → HasFind search old new began left end →
        AnswersSearch search old new began left

  -- what is answered and left, by the words
  pub data IsSearched (words : List (List ℕ)) (old new : F) (began : Began S K E) (left : Searched S K E) : Type 0 where
    wrong : ((search : Search) → ¬ WordsAskFor words search) → left.end ≡ Refused status.Usage →
        IsIdle old new began left → IsSearched words old new began left
    no_memory : left.end ≡ Refused status.NoMemory → IsIdle old new began left →
        IsSearched words old new began left
    read : (search : Search) → WordsAskFor words search → AnswersSearch search old new began left →
        IsSearched words old new began left
