-- What a session does on each device that had just been opened, and how far it came where something ended it.
-- Own.
use Rattle.std.specs.Prelude.{◌≡◌, ◌≢◌, ◌⊎◌, ℕ, suc, ◌+◌, ◌≤◌, Bool, List, [], ◌∷◌, ◌++◌, length, take, flat_map, Option, Result, Err, All, IfErr, IfOk}
use Rattle.std.specs.Option.{ForSome, option_map}
use Rattle.disk_model.specs.Causes.{Rose}
use Rattle.disk_model.specs.Disk.{Content}
use Rattle.image_model.specs.Cells.{Cell}
use Rattle.device_model.specs.Progress.{Close, DiskFailed, FailedClose, IsClosed, opened_device}
use Rattle.device_parts.specs.declared.condition.Condition.TheVariants.{Working}
use Rattle.device_parts.specs.Device.{HasEnded, Standing}
use Rattle.device.specs.declared.mode.DeviceParts.{DeviceParts}
use Rattle.device.specs.Answers.{IsAtRest}
use Rattle.device.specs.Device.{IsDevice, any_mode}
use Rattle.device.specs.Tags.{LeavesIn}
use Rattle.stream_io.specs.Stream.{TakesAtMost}
use Rattle.nbd_model.specs.Stream as streams
use Rattle.nbd_model.specs.Stream.{most_stream, requests_of}
use Rattle.nbd_model.specs.Session.{Deed, ending_in, most_piece, opened_session, take_pieces}
use Rattle.nbd_model.specs.Deeds.{tells_eio, text_in}
use Rattle.nbd_command.specs.ServedRun.{IsClosing}
use Rattle.nbd_flight.specs.declared.stop.Stop.{Stop}
use Rattle.nbd_flight.specs.declared.stop.Stop.TheVariants as stops
use Rattle.nbd_flight.specs.Deeds.{HasDone, HasStopped, Scene, behind, held_with}
use Rattle.nbd_session.specs.declared.ended.Ended.{Ended}
use Rattle.nbd_session.specs.declared.ended.Ended.TheVariants.{Closed, Wrong, Long}
use Rattle.nbd_session.specs.declared.ended.SessionFault.{SessionFault}
use Rattle.nbd_session.specs.declared.ended.SessionFault.TheVariants as faults

-- The device has just been opened, and its journal has a section.
pub record IsNew (w : Standing) : Type 0 where
  pub some : 1 ≤ w.format.sections
  pub base : ℕ → Cell
  pub next : ℕ
  pub set_bits : ℕ → Bool
  pub awaiting : ℕ → Bool
  pub is : w.state ≡ opened_device base next set_bits awaiting

-- A stream and its pieces, up to the bound: the bytes that the source had left, where it tells them.
pub record Course (left : Option (List ℕ)) : Type 0 where
  pub stream : List ℕ
  pub is : ForSome left (λ bytes. stream ≡ bytes)
  pub pieces : List (List ℕ)
  pub cut : flat_map (λ piece. piece) pieces ≡ take most_stream stream
  pub small : All (λ piece. length piece ≤ most_piece) pieces

-- What the session does up to its end, the close apart.
abbrev pub deeds_over : Standing → List (List ℕ) → List Deed
deeds_over w pieces = (take_pieces w.format (opened_session w.state) (ending_in [] 0 pieces)).deeds

abbrev pub ending_of : {left : Option (List ℕ)} → Course left → streams.StreamEnd
ending_of course = (requests_of course.stream).ending

-- What the disk tells and what the sink holds once the device is given back.
pub record Outside : Type 0 where
  pub moments : List Content
  pub held : Option (List ℕ)

abbrev pub outside_of : {D O : Type 0} → (D → List Content) → (O → Option (List ℕ)) → D → O → Outside
outside_of moments held disk sink = record { moments = moments disk; held = held sink }

abbrev pub scene_at : DeviceParts → Outside → Scene
scene_at parts out = record { parts = parts; moments = out.moments; held = out.held }

-- ---- what is read

-- So many bytes of a stream are read at most: those within its bound, and one piece.
abbrev pub most_read : ℕ
most_read = most_stream + most_piece

abbrev pub joined : List (List ℕ) → List ℕ
joined pieces = flat_map (λ piece. piece) pieces

-- These pieces of the stream are read. All that is asked in those before the last one is replied to, and nothing in them ends the
-- requests; so it is in all of them where the source failed, which is read only then.
pub record HasReadPieces (w : Standing) (left later : Option (List ℕ)) (failed : Type 0) (held_before held : Option (List ℕ)) : Type 0 where
  pub pieces : List (List ℕ)
  pub small : All (λ piece. length piece ≤ most_piece) pieces
  pub read : left ≡ option_map (λ rest. joined pieces ++ rest) later
  pub done : ℕ
  pub but_one : length pieces ≤ suc done
  pub more : List ℕ
  pub told : held ≡ held_with (text_in (deeds_over w (take done pieces)) ++ more) held_before
  pub within : length (joined (take done pieces)) ≤ most_stream
  pub unended : (requests_of (joined (take done pieces))).ending ≡ streams.Ended
  pub asked : failed → length pieces ≤ done

-- ---- it came to its end

-- All its deeds are done.
pub record HasServedAll (w : Standing) (pieces : List (List ℕ)) (old : Scene) (new : Outside) : Type 0 where
  pub parts : DeviceParts
  pub done : HasDone w (deeds_over w pieces) old (scene_at parts new)

-- And the device was closed, so that each image is as its mode has it; or it was not.
pub record HasClosed (w : Standing) (left : Option (List ℕ)) (eio : Bool) (old : Scene) (new : Outside) : Type 0 where
  pub course : Course left
  pub closes : IsClosing (ending_of course)
  pub between : List Content
  pub served : HasServedAll w course.pieces old (record { moments = between; held = new.held })
  pub closed : HasEnded any_mode (behind w (deeds_over w course.pieces)) Close IsClosed between new.moments
  pub leaves : LeavesIn (behind w (deeds_over w course.pieces)) (Close ∷ []) between new.moments
  pub rests : IsAtRest served.parts.mode (behind w (deeds_over w course.pieces)) new.moments
  pub damage : eio ≡ tells_eio (deeds_over w course.pieces)

pub record HasRefused (w : Standing) (left : Option (List ℕ)) (ending : streams.StreamEnd) (old : Scene) (new : Outside) : Type 0 where
  pub course : Course left
  pub ends : ending_of course ≡ ending
  pub served : HasServedAll w course.pieces old new

abbrev pub HasEndedSo : Standing → (left : Option (List ℕ)) → Ended → Scene → Outside → Type 0
HasEndedSo w left (Closed eio) old new = HasClosed w left eio old new
HasEndedSo w left (Wrong magic) old new = HasRefused w left (streams.WrongMagic magic) old new
HasEndedSo w left Long old new = HasRefused w left streams.TooLong old new

-- ---- something ended it before

-- Something stopped it among its requests.
pub record HasStoppedIn (w : Standing) (left : Option (List ℕ)) (stop : Stop) (old : Scene) (new : Outside) : Type 0 where
  pub course : Course left
  pub parts : DeviceParts
  pub stopped : HasStopped w (deeds_over w course.pieces) stop old (scene_at parts new)

-- The disk failed in the close, behind all else.
pub record HasFailedClose (w : Standing) (left : Option (List ℕ)) (old : Scene) (new : Outside) : Type 0 where
  pub course : Course left
  pub closes : IsClosing (ending_of course)
  pub between : List Content
  pub served : HasServedAll w course.pieces old (record { moments = between; held = new.held })
  pub failed : HasEnded any_mode (behind w (deeds_over w course.pieces)) FailedClose DiskFailed between new.moments
  pub leaves : LeavesIn (behind w (deeds_over w course.pieces)) (Close ∷ []) between new.moments

-- The source failed, which is read only between two pieces: all that is asked in those before is replied to, and nothing in them ends
-- the requests.
pub record HasLostSource (w : Standing) (left : Option (List ℕ)) (old : Scene) (new : Outside) : Type 0 where
  pub course : Course left
  pub count : ℕ
  pub served : HasServedAll w (take count course.pieces) old new
  pub unended : (requests_of (flat_map (λ piece. piece) (take count course.pieces))).ending ≡ streams.Ended

abbrev pub HasStoppedSo : Standing → (left : Option (List ℕ)) → SessionFault → Scene → Outside → Type 0
HasStoppedSo w left faults.Memory old new = HasStoppedIn w left stops.Memory old new
HasStoppedSo w left faults.Disk old new = HasStoppedIn w left stops.Disk old new ⊎ HasFailedClose w left old new
HasStoppedSo w left faults.Source old new = HasLostSource w left old new
HasStoppedSo w left faults.Sink old new = HasStoppedIn w left stops.Sink old new

-- ---- on each device

abbrev pub ForNew : Scene → (Standing → Type 0) → Type 0
ForNew old P = (w : Standing) → IsDevice w Working old.parts old.moments → IsNew w → P w

abbrev pub ServesSession : {E : Type 0} → Result Ended E → (left : Option (List ℕ)) → Scene → Outside → Type 0
ServesSession result left old new = IfOk result (λ ended. ForNew old (λ w. HasEndedSo w left ended old new))

abbrev pub StopsSession : {T : Type 0} → Result T SessionFault → (left : Option (List ℕ)) → Scene → Outside → Type 0
StopsSession result left old new = IfErr result (λ fault. ForNew old (λ w. HasStoppedSo w left fault old new))

-- So much of the stream is read: no more than its bound and a piece, and one piece behind those that are replied to.
pub record ReadsStream (left later : Option (List ℕ)) (failed : Type 0) (old : Scene) (held : Option (List ℕ)) : Type 0 where
  pub most : TakesAtMost most_read left later
  pub pieces : ForNew old (λ w. HasReadPieces w left later failed old.held held)

-- A close of a device that works writes what its mode does, and leaves these tags.
abbrev pub LeavesClosed : DeviceParts → (before after : List Content) → Type 0
LeavesClosed parts before after = (w : Standing) → IsDevice w Working parts before → LeavesIn w (Close ∷ []) before after

-- The counts of faults never fall; what is outside ends a session only where its count rose, and else that is as it was.
pub record HasSessionCauses {T : Type 0} (disk disk_now source source_now sink sink_now : ℕ) (result : Result T SessionFault)
    : Type 0 where
  pub disk_later : disk ≤ disk_now
  pub source_later : source ≤ source_now
  pub sink_later : sink ≤ sink_now
  pub disk_failed : result ≡ Err faults.Disk → Rose disk disk_now
  pub source_failed : result ≡ Err faults.Source → Rose source source_now
  pub sink_failed : result ≡ Err faults.Sink → Rose sink sink_now
  pub disk_passed : result ≢ Err faults.Disk → disk_now ≡ disk
  pub source_passed : result ≢ Err faults.Source → source_now ≡ source
  pub sink_passed : result ≢ Err faults.Sink → sink_now ≡ sink
