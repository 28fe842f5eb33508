-- What the close of a run leaves.
use Rattle.std.proofs.Common.{Option, Result, Ok, Err, OnOk, is_err, ◌≡◌, ℕ, false, List, [], refl, sym, ap, subst}
use Rattle.std.proofs.lemmas.Result.{on_ok_weaker}
use Rattle.disk_model.specs.Disk.{Content, Image}
use Rattle.disk_model.specs.Identity.{DiskIdentity}
use Rattle.disk_model.specs.Moments.{HasNow}
use Rattle.image_model.specs.Geometry.{Geometry}
use Rattle.device_model.specs.Device.{DeviceKind}
use Rattle.device_model.specs.Mode.{DeviceFormat}
use Rattle.device_model.specs.Mode as Modes
use Rattle.device_model.specs.Progress.{DeviceState}
use Rattle.place_model.specs.Format.{DiskFormat}
use Rattle.device_parts.specs.declared.answers.StepFault.{StepFault}
use Rattle.device_parts.specs.declared.condition.Condition.{Condition}
use Rattle.device_parts.specs.declared.condition.Condition.TheVariants.{Working}
use Rattle.device_parts.specs.declared.parts.Parts.{Parts}
use Rattle.device_parts.specs.Device.{Standing}
use Rattle.recalculation.specs.Recalculation.{HasFields, fields_left}
use Rattle.direct_device.specs.declared.parts.DirectParts.{DirectParts}
use Rattle.direct_device.specs.Device.{IsDirect, kept as direct_kept}
use Rattle.journal_device.specs.declared.parts.JournalParts.{JournalParts}
use Rattle.journal_device.specs.Device.{IsJournaled, kept}
use Rattle.device.specs.declared.mode.DeviceParts.{DeviceParts}
use Rattle.device.specs.declared.mode.Mode.{Mode}
use Rattle.device.specs.declared.mode.Mode.TheVariants.{Bitmap, Direct, Journal, Recovery}
use Rattle.device.specs.Answers.{IsAtRest}
use Rattle.device.specs.Calls.{LeavesAtRest}
use Rattle.device.specs.Device.{IsDevice, IsDeviceIn}
use Rattle.device.proofs.ModeLemmas.{plain_bitmap, plain_recovery}
use Rattle.command_task.specs.declared.asked.Task.{Task}
use Rattle.command_task.specs.Closed.{ClosesTask, ComesTo, IsClosedAt}
use Rattle.command_model.specs.Closed.{HasPositionOf, IsClosedBehind, IsClosedIn, state_behind}
use Rattle.command_task.proofs.PositionLemmas.{position_left}

-- A close that answers well leaves each image as the mode has it.
pub rests_closed : {T : Type 0} (result : Result T StepFault) → is_err result ≡ false → (condition : Condition) (parts : DeviceParts)
    (a b : List Content) → LeavesAtRest result condition parts a b
    → (w : Standing) → IsDevice w condition parts a → IsAtRest parts.mode w b
rests_closed (Ok done) not condition parts a b rests = rests
rests_closed (Err fault) not condition parts a b rests = absurd (cc)

-- What a close leaves in a device's state it leaves in the state behind all lines of a script, which leads there.
left_behind : (there here : Standing) (b : List Content) → HasNow (IsClosedIn here.format.mode here.on here.format.blocks.tag here.state) b
    → (script : List ℕ) (comes : ComesTo there script here [])
    → HasNow (IsClosedIn there.format.mode there.on there.format.blocks.tag (state_behind there.format there.state comes.all)) b
left_behind there here b left script comes =
    subst (λ (s : DeviceState). HasNow (IsClosedIn there.format.mode there.on there.format.blocks.tag s) b) comes.comes
    (subst (λ (w : Standing). HasNow (IsClosedIn w.format.mode w.on w.format.blocks.tag here.state) b) comes.same left)

-- ---- by mode

-- In direct mode it leaves the position,
position_direct : (here : Standing) (device : DirectParts) (a b : List Content) → IsDirect here Working device a
    → HasFields (fields_left device.recalculation) b → HasNow (HasPositionOf here.on.geometry here.state) b
position_direct here device a b is fields =
    let works = is.over.works refl in
    let formed = (works.cells.now is.over.told is.over.is_told).stands.formed in
    subst (λ (g : Geometry). HasNow (HasPositionOf g here.state) b) is.format.geometry
    (position_left device.recalculation is.disk.superblock is.disk.geometry here.state.progress.regions.awaiting works.recalculation_ formed.no_bitmap
    (λ region waits. let has = is.over.device.awaiting region waits in (has.block, has.inside, has.is, has.to_recalculate))
    formed.is_geometry.spb.0 formed.is_geometry.blocks b fields)

-- and so it does in journal mode.
position_journal : (here : Standing) (device : JournalParts) (a b : List Content) → IsJournaled here Working device a
    → HasFields (fields_left device.state.recalculation) b → HasNow (HasPositionOf here.on.geometry here.state) b
position_journal here device a b is fields =
    let works = is.over.works refl in
    let formed = works.stands.device.sound.formed in
    subst (λ (g : Geometry). HasNow (HasPositionOf g here.state) b) is.format.geometry
    (position_left device.state.recalculation is.disk.superblock is.disk.geometry here.state.progress.regions.awaiting works.recalc_ formed.no_bitmap
    (λ region waits. let has = works.work region waits in (has.block, has.inside, has.is, has.to_recalculate))
    formed.is_geometry.spb.0 formed.is_geometry.blocks b fields)

-- A close leaves each image as the mode has it.
module _ (here : Standing) (common : Parts) (a b : List Content) where
  in_mode : (m : Modes.Mode) → m ≡ here.format.mode → HasNow (IsClosedIn m here.on here.format.blocks.tag here.state) b
      → HasNow (IsClosedIn here.format.mode here.on here.format.blocks.tag here.state) b
  in_mode m is left = subst (λ (x : Modes.Mode). HasNow (IsClosedIn x here.on here.format.blocks.tag here.state) b) is left

  pub closed_here : (mode : Mode) → IsDeviceIn mode here Working common a → IsAtRest mode here b
      → HasNow (IsClosedIn here.format.mode here.on here.format.blocks.tag here.state) b
  closed_here (Direct recalculation) is rests =
      in_mode Modes.Direct (sym (ap (λ (f : DeviceFormat). f.mode) is.direct.over.device.format))
      (λ c told. (position_direct here (direct_kept common recalculation) a b is.direct rests.0 c told, rests.1 c told))
  closed_here (Journal state) is rests =
      in_mode Modes.Journal (sym (ap (λ (f : DeviceFormat). f.mode) is.journaled.over.format))
      (λ c told. (
        rests.0.placed c told,
        position_journal here (kept common state) a b is.journaled rests.0.fields_ c told,
        rests.1 c told,
      ))
  closed_here (Bitmap regions) is rests =
      in_mode Modes.Bitmap (plain_bitmap.own here Working _ a is)
      (λ c told. record { opens = rests.opens c told; bits = rests.bits c told })
  closed_here Recovery is rests = in_mode Modes.Recovery (plain_recovery.own here Working common a is) (λ c told. tt)

-- So is the device of a run that came to its close, where it was opened on an image.
pub closed_behind : (kind : DeviceKind) (image : Image) (d : DiskFormat) (script : List ℕ) (w here : Standing) (parts : DeviceParts)
    (a b : List Content) → w.format ≡ kind.format image → w.state ≡ kind.opened image → w.on ≡ d
    → IsDevice here Working parts a → IsAtRest parts.mode here b → ComesTo w script here []
    → HasNow (IsClosedBehind kind image d script) b
closed_behind kind image d script w here parts a b format state on is rests comes c told = record {
  lines = comes.all;
  read = comes.read;
  closed = subst (λ (f : DeviceFormat). IsClosedIn f.mode d f.blocks.tag (state_behind f (kind.opened image) comes.all) c) format
      (subst (λ (s : DeviceState). IsClosedIn w.format.mode d w.format.blocks.tag (state_behind w.format s comes.all) c) state
      (subst (λ (y : DiskFormat). IsClosedIn w.format.mode y w.format.blocks.tag (state_behind w.format w.state comes.all) c) on
      (left_behind w here b (closed_here here parts.common a b parts.mode is rests) script comes c told)));
}

-- What holds anyhow holds where all went well.
pub ok_holds : {T E : Type 0} (P : Type 0) → P → (result : Result T E) → OnOk result P
ok_holds P holds (Ok done) = holds
ok_holds P holds (Err ended) = tt

-- What a task leaves closed stays so where nothing is done behind it.
pub closes_kept : {T E D S : Type 0} (identity : D → DiskIdentity) (moments : D → List Content) (left : S → Option (List ℕ))
    (task : Task) (key : Option (List ℕ)) (result : Result T E) (first mid last : D) (script : S)
    → ClosesTask identity moments left task key result first mid script → moments last ≡ moments mid
    → ClosesTask identity moments left task key result first last script
closes_kept identity moments left task key result first mid last script closes same =
    on_ok_weaker result
    (λ closed bytes told c now. subst (λ (m : List Content). HasNow (IsClosedAt task key (identity first).sectors c bytes) m)
    (sym same) (closed bytes told c now))
    closes
