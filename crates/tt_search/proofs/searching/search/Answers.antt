use Rattle.std.proofs.Common.{map, refl, string_bytes, subst}
use Rattle.std.specs.Option.{option_map}
use Rattle.tt_search.proofs.SearchLemmas.{in-range}
use Rattle.tt_search.specs.Searched.{no_memory, read, wrong}
use Rattle.tt_search_words.specs.Asked.{IsReading}
use Rattle.tt_search_words.specs.CodeValues.{search_as_text}
use Rattle.tt_search.proofs.searching.search.Goals as goal

pub returns-in-Ok-Some : goal.returns-in-Ok-Some
returns-in-Ok-Some g c =
    let asks = subst (λ found. IsReading (map string_bytes c.args.words.now) (option_map search_as_text found)) c.in-Ok-Some.field-0-is c.in-Ok-Some.ensures in
    record { answer = read _ asks c.look.ensures }

pub look-requires : goal.look-requires
look-requires g c =
    let asks = subst (λ found. IsReading (map string_bytes c.args.words.now) (option_map search_as_text found)) c.in-Ok-Some.field-0-is c.in-Ok-Some.ensures in
    (c.type_bounds.sync-R, in-range _ _ asks)

pub returns-in-Ok-None : goal.returns-in-Ok-None
returns-in-Ok-None g c =
    let asks = subst (λ found. IsReading (map string_bytes c.args.words.now) (option_map search_as_text found)) c.in-Ok-None.field-0-is c.in-Ok-None.ensures in
    record {
      answer = wrong asks c.refuse_words.ensures.end (record {
        output_is = c.refuse_words.ensures.output;
        reported = c.refuse_words.ensures.reported;
        unwritten = record { same = refl; steady = refl };
      });
    }

pub returns-in-Err : goal.returns-in-Err
returns-in-Err g c = record {
  answer = no_memory c.refuse.ensures.end (record {
    output_is = c.refuse.ensures.output;
    reported = c.refuse.ensures.reported;
    unwritten = record { same = refl; steady = refl };
  });
}
