-- A step and a close of a device in recovery mode, which do nothing, and what a step that goes on leaves in the others.
use Rattle.std.proofs.Common.{◌≡◌, ◌<◌, List, IfOk, Result, Ok, Err, refl, sym, subst, arith}
use Rattle.disk_model.specs.Disk.{Content}
use Rattle.device_model.specs.Actors.{actor_of}
use Rattle.device_model.specs.Progress as Model
use Rattle.recalculation.specs.declared.recalculating.Recalculation.{Recalculation}
use Rattle.recalculation.specs.Recalculation.{fields_then}
use Rattle.device_model.specs.declared.actor.Actor.{Actor}
use Rattle.device_model.specs.declared.actor.Actor.TheVariants as Actors
use Rattle.device_parts.specs.declared.parts.Parts.{Parts}
use Rattle.device_parts.specs.declared.answers.Moved.{Moved}
use Rattle.device_parts.specs.declared.answers.Moved.TheVariants as Moves
use Rattle.device_parts.specs.declared.condition.Condition.TheVariants.{Working}
use Rattle.device_parts.specs.Answers.{StepsNext, moved_answer}
use Rattle.device_parts.specs.Device.{Ends, IsDone, Standing}
use Rattle.direct_device.specs.Answers as InDirect
use Rattle.journal_device.specs.Answers as InJournal
use Rattle.journal_device.specs.declared.parts.JournalState.{JournalState}
use Rattle.journal_device.specs.Answers.{AdvancesAs}
use Rattle.journal_device.specs.Telling.{LeavesDue, MovesAs}
use Rattle.journal_device.specs.Journal.{PlacedRing}
use Rattle.bitmap_mode.specs.States.{States}
use Rattle.bitmap_device.specs.Answers as InBitmap
use Rattle.recovery_device.specs.Device.{in_recovery}
use Rattle.recovery_device.proofs.EventLemmas.{end_law as recovery_end_law, rest_law as recovery_rest_law}
use Rattle.device_model.specs.Mode as Modes
use Rattle.device.specs.declared.mode.DeviceParts.{DeviceParts}
use Rattle.device.specs.declared.mode.Mode.{Mode}
use Rattle.device.specs.declared.mode.Mode.TheVariants.{Bitmap, Direct, Journal, Recovery}
use Rattle.device.specs.Answers.{FindsNothing, GoesOn}
use Rattle.device.specs.Telling.{IsDoneIn, IsDueIn}
use Rattle.device.specs.Device.{IsDevice, IsDeviceIn, any_mode}
use Rattle.device.proofs.ModeLemmas.{ended_plain, in_recovery_mode, only_done, plain_recovery}

pub not_did : Moves.Idle ≡ Moves.Did → ⊥
not_did same = cc

module _ (parts : DeviceParts) (a : List Content) (actor : Actor) where
  -- What is idle for each device is a step of it.
  rests : {E : Type 0} → ((w : Standing) → IsDevice w Working parts a
      → Model.event_result w.format w.state (Model.Step (actor_of actor)) ≡ Model.only_answers w.state.progress Model.Idle)
      → (moved : Moved) → moved ≡ Moves.Idle → StepsNext {E = E} any_mode actor parts parts a a (Ok moved)
  rests law moved idle = record {
    done = λ w is.
        subst (λ (m : Moved). IsDone any_mode w (Model.Step (actor_of actor)) (moved_answer m) Working parts a a) (sym idle)
        (only_done w Working parts a (Model.Step (actor_of actor)) Model.Idle is (law w is) refl);
    err = tt;
  }

  pub rests_recovery : {E : Type 0} → parts.mode ≡ Recovery → (moved : Moved) → moved ≡ Moves.Idle
      → StepsNext {E = E} any_mode actor parts parts a a (Ok moved)
  rests_recovery recovery =
      rests (λ w is. recovery_rest_law w parts.common a (actor_of actor) (subst (λ (m : Mode). IsDeviceIn m w Working parts.common a) recovery is))

-- ---- a step that goes on

-- One that recalculated a region has moved the position, in direct mode. No other actor does anything there.
direct_advances : (actor : Actor) (old new : Recalculation) → InDirect.steps_left actor new < InDirect.steps_left actor old → new.position ≡ fields_then old new → AdvancesAs actor Moves.Did old new
direct_advances Actors.Commit old new fewer fields = absurd (omega (arith, fewer))
direct_advances Actors.Place old new fewer fields = absurd (omega (arith, fewer))
direct_advances Actors.Settle old new fewer fields = absurd (omega (arith, fewer))
direct_advances Actors.Clean old new fewer fields = absurd (omega (arith, fewer))
direct_advances Actors.Recalc old new fewer fields = fields

pub direct_goes_on : {E : Type 0} (actor : Actor) (common later : Parts) (old new : Recalculation) (result : Result Moved E)
    → IfOk result (λ moved. moved ≡ Moves.Did → InDirect.steps_left actor new < InDirect.steps_left actor old) → IfOk result (λ moved. moved ≡ Moves.Did → new.position ≡ fields_then old new)
    → IfOk result (λ moved. moved ≡ Moves.Did → GoesOn actor (Direct old) (Direct new))
direct_goes_on actor common later old new (Ok moved) fewer fields = λ did. record {
  fewer = fewer did;
  advances = direct_advances actor old new (fewer did) (fields did);
  due = λ due. tt;
}
direct_goes_on actor common later old new (Err fault) fewer fields = tt

-- In journal mode it is told of each actor.
pub journal_goes_on : {E : Type 0} (actor : Actor) (old new : JournalState) (result : Result Moved E)
    → IfOk result (λ moved. moved ≡ Moves.Did → InJournal.steps_left actor new < InJournal.steps_left actor old)
    → IfOk result (λ moved. MovesAs actor moved old new)
    → IfOk result (λ moved. moved ≡ Moves.Did → GoesOn actor (Journal old) (Journal new))
journal_goes_on actor old new (Ok moved) fewer moves = λ did. record {
  fewer = fewer did;
  advances = subst (λ (m : Moved). AdvancesAs actor m old.recalculation new.recalculation) did moves.advances;
  due = subst (λ (m : Moved). LeavesDue actor m old.journal new.journal) did moves.due;
}
journal_goes_on actor old new (Err fault) fewer moves = tt

pub bitmap_goes_on : {E : Type 0} (actor : Actor) (old new : States) (result : Result Moved E)
    → IfOk result (λ moved. moved ≡ Moves.Did → InBitmap.steps_left actor new < InBitmap.steps_left actor old)
    → IfOk result (λ moved. moved ≡ Moves.Did → GoesOn actor (Bitmap old) (Bitmap new))
bitmap_goes_on actor old new (Ok moved) fewer = λ did. record { fewer = fewer did; advances = tt; due = λ due. tt }
bitmap_goes_on actor old new (Err fault) fewer = tt

-- One that finds nothing to do has all done: in journal mode it is told so.
pub finds_nothing : {D E : Type 0} (actor : Actor) (old new : DeviceParts) (first last : D) (result : Result Moved E)
    → IfOk result (λ moved. moved ≡ Moves.Idle → (new ≡ old) × (last ≡ first))
    → IfOk result (λ moved. moved ≡ Moves.Idle → IsDueIn actor new.mode → IsDoneIn actor new.mode)
    → IfOk result (λ moved. moved ≡ Moves.Idle → FindsNothing actor old new first last)
finds_nothing actor old new first last (Ok moved) idle done = λ none. record { parts = (idle none).0; disk = (idle none).1; done = done none }
finds_nothing actor old new first last (Err fault) idle done = tt

pub always_done : {E : Type 0} (result : Result Moved E) (due done : Type 0) → done → IfOk result (λ moved. moved ≡ Moves.Idle → due → done)
always_done (Ok moved) due done is = λ none was. is
always_done (Err fault) due done is = tt

pub journal_done : {E : Type 0} (actor : Actor) (old new : JournalState) (result : Result Moved E)
    → IfOk result (λ moved. moved ≡ Moves.Idle → new ≡ old) → IfOk result (λ moved. MovesAs actor moved old new)
    → IfOk result (λ moved. moved ≡ Moves.Idle → IsDueIn actor (Journal new) → IsDoneIn actor (Journal new))
journal_done actor old new (Ok moved) idle moves = λ none due.
    subst (λ (m : Moved). LeavesDue actor m old.journal new.journal) none moves.due
    (subst (λ (s : JournalState). IsDueIn actor (Journal s)) (idle none) due)
journal_done actor old new (Err fault) idle moves = tt

-- ---- a close

-- A close in recovery mode is one of the device, and leaves all as it is.
pub ends_recovery : {T E : Type 0} (parts : DeviceParts) (a : List Content) → parts.mode ≡ Recovery → {done : T}
    → Ends {E = E} any_mode parts a a (Ok done)
ends_recovery parts a recovery = record {
  done = λ w is.
      let own = subst (λ (m : Mode). IsDeviceIn m w Working parts.common a) recovery is in
      let ended = recovery_end_law w parts.common a own in
      ended_plain in_recovery Modes.Recovery in_recovery_mode plain_recovery w Working parts.common a own Model.Close Model.IsClosed a a tt (record {
        answers = ended.answers;
        through = ended.through;
        left = record { opens = λ c told image of. tt; left = λ c told image of. tt };
      });
  err = tt;
}
