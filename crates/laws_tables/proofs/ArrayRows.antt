-- What calls on shared variables are answered: a property of replies holds of each row's.
use Rattle.std.proofs.Common.{◌%◌, ◌==◌, ℕ, List, [], length, Option, Some, None, is_some}
use Rattle.laws_tables.proofs.Cases.{Empty, Refuses, Values, by_if}
use Rattle.tt_calls.specs.Replies.{Answered, answers, refuses as refusal}
use Rattle.tt_calls.specs.declared.reply.Reply.{Reply}
use Rattle.tt_calls.specs.declared.reply.Reply.TheVariants as reply
use Rattle.tt_lists.specs.Messages.{list_message}
use Rattle.tt_lists.specs.Reading.{split_of}
use Rattle.tt_lists.specs.declared.items.ListFault.{ListFault}
use Rattle.tt_lists.specs.declared.items.ListFault.TheVariants.{OpenBrace, OpenQuote, AfterBrace, AfterQuote}
use Rattle.tt_lists.specs.declared.items.Split.{Split}
use Rattle.tt_lists.specs.declared.items.Split.TheVariants as split
use Rattle.tt_tsv.specs.Arrays.{Table, array_of, element_of, table_with_change, array_without_hold}
use Rattle.tt_tsv.specs.Calls as arrays

-- why a text is no list is said
pub by_fault : (P : Reply → Type 0) → Refuses P → (fault : ListFault) → P (reply.Refused (list_message fault))
by_fault P refuses OpenBrace = refuses _ _
by_fault P refuses OpenQuote = refuses _ _
by_fault P refuses (AfterBrace next) = refuses _ _
by_fault P refuses (AfterQuote next) = refuses _ _

module _ (P : Reply → Type 0) (table : Table) where
  abbrev pub Tells : Answered Table → Type 0
  Tells answered = P answered.reply

  pub by_unholds : (t : ℕ) (name : List ℕ) → P reply.Go → Empty P → Tells (arrays.unholds table t name)
  by_unholds t name goes none =
      by_if Tells (arrays.is_own t (array_of table name)) (answers (table_with_change array_without_hold table name) reply.Go) (refusal table []) goes none

  module _ (values : Values P) (refuses : Refuses P) where
    pub by_moves : (name key new : List ℕ) → Tells (arrays.moves table name key new)
    by_moves name key new = go (element_of table name key)
      where
        go : (found : Option (List ℕ)) → Tells (arrays.moves_of table name key new found)
        go None = refuses _ _
        go (Some value) = by_if Tells (is_some (element_of table name new)) _ _ (refuses _ _) (values _)

    pub by_fills : (name list : List ℕ) → Tells (arrays.fills table name (split_of list))
    by_fills name list = go (split_of list)
      where
        go : (found : Split) → Tells (arrays.fills table name found)
        go (split.Items items) = by_if Tells (length items % 2 == 0) _ _ (values _) (refuses _ _)
        go (split.Bad fault) = by_fault P refuses fault

    pub by_refills : (name list : List ℕ) → Tells (arrays.refills table name (split_of list))
    by_refills name list = go (split_of list)
      where
        go : (found : Split) → Tells (arrays.refills table name found)
        go (split.Items items) = by_if Tells (length items % 2 == 0) _ _ (values _) (refuses _ _)
        go (split.Bad fault) = by_fault P refuses fault
