-- A step and the end of a device in direct mode, whatever the calls answer.
use Rattle.std.proofs.Common.{ℕ, List, OnOk, Result, Ok, Err, ap}
use Rattle.disk_model.specs.Disk.{Content}
use Rattle.device_model.specs.Actors.{actor_of}
use Rattle.device_model.specs.Progress as Model
use Rattle.device_model.specs.declared.actor.Actor.{Actor}
use Rattle.device_parts.specs.declared.answers.Moved.TheVariants as Moves
use Rattle.device_parts.specs.declared.condition.Condition.TheVariants as Conditions
use Rattle.device_parts.specs.declared.parts.Parts.{Parts}
use Rattle.device_parts.specs.Answers.{StepsNext}
use Rattle.device_parts.specs.Device.{Ends, Standing}
use Rattle.tag_store.specs.Store.{given_tags}
use Rattle.recalculation.specs.declared.recalculating.Recalculation.{Recalculation}
use Rattle.recalculation.specs.Position.{MayMove}
use Rattle.recalculation.specs.Recalculation.{HasFields, SettlesPosition, SettlesPositionIn, fields_left}
use Rattle.direct_device.specs.Answers.{HasNoWork}
use Rattle.direct_device.specs.Device.{IsDirect, in_direct, kept, standing_on}
use Rattle.direct_device.proofs.EventLemmas.{idle_done, rest_law}
use Rattle.direct_device.proofs.OverDisk.{done_on, ended_on}
use Rattle.direct_device.proofs.StepLemmas.{close_done, close_failed}

-- An actor without work is idle.
pub rests_next : (actor : Actor) (parts : Parts) (recalculation : Recalculation) (a : List Content) {E : Type 0} → HasNoWork (actor_of actor)
    → StepsNext {E = E} in_direct actor (kept parts recalculation) (kept parts recalculation) a a (Ok Moves.Idle)
rests_next actor parts recalculation a none = record {
  done = λ w is.
      let result = rest_law w (kept parts recalculation) a (actor_of actor) none is in
      record {
        answers = ap (λ (x : Model.EventResult). x.answer) result;
        done = done_on w is.disk is.format (Model.Step (actor_of actor)) a a Conditions.Working parts recalculation
            (idle_done (standing_on w is.disk) parts recalculation a is.over (actor_of actor) result);
      };
  err = tt;
}

-- ---- a close

module _ (parts : Parts) (recalculation last : Recalculation) (a b : List Content) (now : Content → ℕ → List ℕ) (may : MayMove recalculation.position) {T E : Type 0} where
  pub ends_direct : (result : Result T E) → SettlesPositionIn recalculation parts.tags.geometry (given_tags parts.tags) a b
      → OnOk result (SettlesPosition recalculation last parts.tags.geometry (given_tags parts.tags) now a b) → Ends in_direct (kept parts recalculation) a b result
  ends_direct (Ok done) through settled = record {
    done = λ w is.
        ended_on w is.disk is.format Model.Close a b Model.IsClosed
        (close_done (standing_on w is.disk) parts recalculation a is.over may last now b settled).0;
    err = tt;
  }
  ends_direct (Err fault) through settled = record {
    done = tt;
    err = λ w is.
        ended_on w is.disk is.format Model.FailedClose a b Model.DiskFailed
        (close_failed (standing_on w is.disk) parts recalculation a is.over may b through);
  }

pub ends_fields : (parts : Parts) (recalculation last : Recalculation) (a b : List Content) (now : Content → ℕ → List ℕ) → MayMove recalculation.position
    → SettlesPosition recalculation last parts.tags.geometry (given_tags parts.tags) now a b → (w : Standing) → IsDirect w Conditions.Working (kept parts recalculation) a → HasFields (fields_left recalculation) b
ends_fields parts recalculation last a b now may settled w is = (close_done (standing_on w is.disk) parts recalculation a is.over may last now b settled).1
