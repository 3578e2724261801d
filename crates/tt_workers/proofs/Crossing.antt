-- A world crosses threads if its devices do.
use denote.RattleType.{RattleType}
use denote.Exit.{no}
use denote.Param.{arg, param}
use denote.Param.Send.{IsSend, IsSync, arg_send, param_send, plain_send, recorded_send, recorded_sync, sendable, shr_sync, struct_send, struct_sync, view_send}
use mathlib.Core.List.{[], ◌∷◌}
use mir.Syntax.{Ty, named}
use base.Fml.{Lft}
use Rattle.std.proofs.Crossing.{Box-send}
use Rattle.std.specs.contracts.boxed.Box as Box
use Rattle.std.specs.contracts.alloc.Global as Global
use Rattle.std.specs.contracts.impls.GlobalAllocator.TheImpl as allocator
use denote.Ref.{ShrRef}
use denote.Struct.Declared.{shape}
use denote.Struct.Struct.{Struct}
use denote.Struct.Tuple.{TupleAt, type_at}
use Rattle.std.proofs.alloc.Global.TheSendSync as global
use Rattle.tt_devices.specs.declared.sink.Sink.{Ghosts as OfSink}
use Rattle.tt_devices.specs.declared.source.Source.{Ghosts as OfSource}
use Rattle.std.proofs.option.Option.TheSendSync as option
use Rattle.std.specs.contracts.option.Option as Option
use Rattle.tt_core.specs.contracts.began.Began as Began
use Rattle.tt_run.specs.contracts.desk.Desk as Desk
use Rattle.tt_kept.proofs.setup.Setup.TheSendSync as setup
use Rattle.tt_workers.proofs.next.RunEnd.TheSendSync as run_end
use Rattle.tt_workers.proofs.roster.Roster.TheSendSync as roster
use Rattle.tt_run.proofs.desk.Desk.TheSendSync as desk
use Rattle.tt_workers.specs.contracts.next.RunEnd as RunEnd
use Rattle.tt_noted.proofs.noted.Noted.TheSendSync as noted
use Rattle.tt_noted.proofs.pass.Pass.TheSendSync as pass
use Rattle.tt_noted.specs.contracts.noted.Noted as Noted
use Rattle.tt_noted.specs.declared.tie.Tie.{Ghosts as OfTie}
use Rattle.tt_noted.specs.contracts.pass.Pass as Pass
use Rattle.tt_workers.specs.contracts.note.Held as Held
use Rattle.tt_workers.specs.contracts.tied.Tied as Tied
use Rattle.tt_workers.specs.contracts.tied.TiedTie.TheImpl as tie
use Rattle.tt_workers.specs.contracts.world.World.TheInside as inside
use Rattle.tt_workers.specs.contracts.world.World.{the_row}

end-send : IsSend (Option.the_field RunEnd.the_row).row
end-send = option.the_field_send RunEnd.the_row run_end.the_send

captured-sync : (A B C : RattleType) → IsSync A → IsSync B → IsSync C → IsSync (TupleAt [] (A ∷ B ∷ C ∷ []))
captured-sync A B C a b c = let T = type_at [] (A ∷ B ∷ C ∷ []) in
    recorded_sync (Struct (shape T)) _ T.to T.to_one (struct_sync (shape T) (a, (b, (c, tt))))

module _ (S K E : RattleType) (source : OfSource S.Denot) (output : OfSink K.Denot) (errors : OfSink E.Denot) where
  began-send : IsSend S → IsSend K → IsSend E → IsSend (Began.the_row S K E)
  began-send s k e = search sendable depth 12

  desk-send : IsSend S → IsSend K → IsSend E → IsSend (Desk.the_row S K E source output errors)
  desk-send s k e = desk.the_send S K E source output errors s k e

  pub world-send : IsSend S → IsSend K → IsSend E → IsSend (the_row S K E source output errors)
  world-send s k e =
      view_send (inside.the_row S K E source output errors) _ _ _ _
      (recorded_send (inside.the_field S K E source output errors).row _ _ (inside.the_type S K E source output errors).to_one
      (struct_send (shape (inside.the_type S K E source output errors)) (
        setup.the_field_send,
        (plain_send _ _ _ _ _, (began-send s k e, (desk-send s k e, (roster.the_send, (plain_send _ _ _ _ _, (end-send, (global.the_field_send, tt))))))),
      )))

  -- the rows of the state of the lock, of a pass's note and of the tie
  abbrev state : RattleType
  state = Box.the_row (the_row S K E source output errors) Global.the_row allocator.ghosts

  abbrev note : RattleType
  note = Held.the_row S K E

  abbrev tied : RattleType
  tied = Tied.the_row S K E

  abbrev ties : OfTie tied.Denot state.Denot note.Denot
  ties = tie.ghosts S K E source tie.no_dict output tie.no_dict errors tie.no_dict

  abbrev lock : RattleType
  lock = Noted.the_row tied state note ties

  pub state-send : (layout : Ty) → IsSend S → IsSend K → IsSend E → IsSend (param 1 (arg layout no state))
  state-send layout s k e = param_send 1 _ (arg_send layout no _ (Box-send _ (world-send s k e)))

  pub pass-send : (layout : Ty) → IsSend S → IsSend K → IsSend E → IsSend (param 1 (arg layout no (Pass.the_row tied state note ties)))
  pass-send layout s k e = param_send 1 _ (arg_send layout no _ (pass.the_send tied state note ties (Box-send _ (world-send s k e))))

  -- threads may share what a worker's closure captures: the runtime, the lock and the gate
  pub worker-sync : (R G : RattleType) (r l g : Lft) → IsSync R → IsSync G → IsSend S → IsSend K → IsSend E
      → IsSync (TupleAt [] (ShrRef (named 0) r R ∷ ShrRef (named 0) l lock ∷ ShrRef (named 0) g G ∷ []))
  worker-sync R G r l g runtime gate s k e =
      captured-sync _ _ _ (shr_sync (named 0) r R runtime)
      (shr_sync (named 0) l lock (noted.the_sync tied state note ties (Box-send _ (world-send s k e)))) (shr_sync (named 0) g G gate)
