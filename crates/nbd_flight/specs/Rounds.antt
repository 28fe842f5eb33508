-- What the calls of a round do, on each device that works and with each requests in flight that these may be.
use Rattle.std.specs.Prelude.{◌≡◌, ◌≢◌, ◌⊎◌, ℕ, ◌+◌, ◌-◌, ◌^◌, ◌≤◌, ◌||◌, List, [], ◌∷◌, ◌++◌, length, Result, Err, IfErr, IfOk, OnOk}
use Rattle.std.specs.List.{remove}
use Rattle.disk_model.specs.Causes.{Rose}
use Rattle.disk_model.specs.Disk.{Content}
use Rattle.disk_model.specs.Identity.{DiskIdentity}
use Rattle.device_parts.specs.declared.condition.Condition.{Condition}
use Rattle.device_parts.specs.declared.condition.Condition.TheVariants.{Working}
use Rattle.device_parts.specs.Device.{Standing}
use Rattle.device.specs.declared.mode.DeviceParts.{DeviceParts}
use Rattle.device.specs.Calls.{Works}
use Rattle.device.specs.Device.{IsDevice, mode_of}
use Rattle.nbd_model.specs.Session.{Deed, Flying, Moment, Part, rounds, serve_each, taken_of}
use Rattle.nbd_model.specs.Deeds.{tells_eio}
use Rattle.nbd_flight.specs.declared.stop.Stop.{Stop}
use Rattle.nbd_flight.specs.declared.stop.Stop.TheVariants as Faults
use Rattle.nbd_flight.specs.declared.flight.Flight.{Flight}
use Rattle.nbd_flight.specs.declared.flight.Waiting.{Waiting}
use Rattle.nbd_flight.specs.declared.rounds.Turn.{Turn}
use Rattle.nbd_flight.specs.declared.rounds.Turn.TheVariants.{Waits, Over}
use Rattle.nbd_flight.specs.Deeds.{HasDone, HasStopped, Scene}
use Rattle.nbd_flight.specs.Flight.{AreHeld, AreThose, flying_of}

-- The session at a moment, by the device that it is.
abbrev pub moment_of : Standing → List Flying → (taken : ℕ) → Moment
moment_of w flying taken = record { state = w.state; flying = flying; taken = taken }

-- A damaged block was told where it was before, or one of the deeds tells one.
abbrev pub CountsDamage : List Deed → (old new : Flight) → Type 0
CountsDamage deeds old new = new.eio ≡ (old.eio || tells_eio deeds)

-- ---- one request in flight

-- What a service of one request in flight is.
abbrev pub one_service : Standing → (taken : ℕ) → Flying → Part
one_service w taken r = serve_each w.format taken w.state (r ∷ [])

abbrev pub left_by : Turn → Flying → List Flying
left_by Waits r = r ∷ []
left_by Over r = []

-- How many places behind it the next one is.
abbrev pub places_behind : Turn → ℕ
places_behind Waits = 1
places_behind Over = 0

abbrev pub waiting_after : Turn → (at : ℕ) → List Waiting → List Waiting
waiting_after Waits at waiting = waiting
waiting_after Over at waiting = remove waiting at

-- It is served once, and stays in flight or not.
pub record HasServed (w : Standing) (taken : ℕ) (r : Flying) (turn : Turn) (flight flight_now : Flight) (old new : Scene)
    : Type 0 where
  pub done : HasDone w (one_service w taken r).deeds old new
  pub left : (one_service w taken r).behind.flying ≡ left_by turn r
  pub damage : CountsDamage (one_service w taken r).deeds flight flight_now

-- Its reply is taken and written.
pub record HasReplied (w : Standing) (r : Flying) (flight flight_now : Flight) (old new : Scene) : Type 0 where
  pub done : HasDone w (taken_of w.format r w.state) old new
  pub damage : CountsDamage (taken_of w.format r w.state) flight flight_now

-- So it is for the one at a place, whatever its number is among those of the stream.
abbrev pub ForOwn : List Waiting → (at : ℕ) → Scene → (Standing → Flying → Type 0) → Type 0
ForOwn waiting at old P = (w : Standing) → IsDevice w Working old.parts old.moments → (before : List Waiting) (own : Waiting)
    (rest : List Waiting) → waiting ≡ before ++ own ∷ rest → length before ≡ at → (number : ℕ) → P w (flying_of number own)

abbrev pub Serves : {E : Type 0} → (at : ℕ) → Result Turn E → (flight flight_now : Flight) → (old new : Scene) → Type 0
Serves at result flight flight_now old new = IfOk result (λ turn. ForOwn flight.waiting.items at old
    (λ w r. (taken : ℕ) → HasServed w taken r turn flight flight_now old new))

abbrev pub StopsServing : {T : Type 0} → (at : ℕ) → Result T Stop → (flight : Flight) → (old new : Scene) → Type 0
StopsServing at result flight old new = IfErr result (λ fault. ForOwn flight.waiting.items at old
    (λ w r. (taken : ℕ) → HasStopped w (one_service w taken r).deeds fault old new))

abbrev pub RepliesTo : {T E : Type 0} → (at : ℕ) → Result T E → (flight flight_now : Flight) → (old new : Scene) → Type 0
RepliesTo at result flight flight_now old new = OnOk result (ForOwn flight.waiting.items at old
    (λ w r. HasReplied w r flight flight_now old new))

abbrev pub StopsReplying : {T : Type 0} → (at : ℕ) → Result T Stop → (flight : Flight) → (old new : Scene) → Type 0
StopsReplying at result flight old new = IfErr result (λ fault. ForOwn flight.waiting.items at old
    (λ w r. HasStopped w (taken_of w.format r w.state) fault old new))

-- ---- a part of a session

-- A part of a session is done.
pub record HasMade (w : Standing) (p : Part) (flight flight_now : Flight) (old new : Scene) : Type 0 where
  pub done : HasDone w p.deeds old new
  pub flying : AreThose flight_now.waiting.items p.behind.flying
  pub damage : CountsDamage p.deeds flight flight_now

-- So it is for each requests in flight that these may be, and however many were taken.
abbrev pub ForMoment : List Waiting → Scene → (Standing → Moment → Type 0) → Type 0
ForMoment waiting old P = (w : Standing) → IsDevice w Working old.parts old.moments → (flying : List Flying)
    → AreThose waiting flying → (taken : ℕ) → P w (moment_of w flying taken)

abbrev pub Makes : {T E : Type 0} → (Standing → Moment → Part) → Result T E → (flight flight_now : Flight) → (old new : Scene)
    → Type 0
Makes part result flight flight_now old new = OnOk result (ForMoment flight.waiting.items old
    (λ w m. HasMade w (part w m) flight flight_now old new))

abbrev pub StopsIn : {T : Type 0} → (Standing → Moment → Part) → Result T Stop → (flight : Flight) → (old new : Scene)
    → Type 0
StopsIn part result flight old new = IfErr result (λ fault. ForMoment flight.waiting.items old
    (λ w m. HasStopped w (part w m).deeds fault old new))

-- A round.
abbrev pub one_round : Standing → Moment → Part
one_round w m = serve_each w.format m.taken m.state m.flying

-- Some rounds are made, as long as more than so many are in flight; or more of them than any session needs.
pub record HasMadeRounds (w : Standing) (most : ℕ) (m : Moment) (flight flight_now : Flight) (old new : Scene) : Type 0 where
  pub count : ℕ
  pub made : HasMade w (rounds w.format most count m) flight flight_now old new
  pub ends : (length flight_now.waiting.items ≤ most) ⊎ (count ≡ 2 ^ 64 - 1)

abbrev pub MakesRounds : {T E : Type 0} → (most : ℕ) → Result T E → (flight flight_now : Flight) → (old new : Scene) → Type 0
MakesRounds most result flight flight_now old new = OnOk result (ForMoment flight.waiting.items old
    (λ w m. HasMadeRounds w most m flight flight_now old new))

-- Something stopped them in one of the first.
pub record HasStoppedRounds (w : Standing) (most : ℕ) (m : Moment) (fault : Stop) (old new : Scene) : Type 0 where
  pub count : ℕ
  pub within : count ≤ 2 ^ 64 - 1
  pub stopped : HasStopped w (rounds w.format most count m).deeds fault old new

abbrev pub StopsRounds : {T : Type 0} → (most : ℕ) → Result T Stop → (flight : Flight) → (old new : Scene) → Type 0
StopsRounds most result flight old new = IfErr result (λ fault. ForMoment flight.waiting.items old
    (λ w m. HasStoppedRounds w most m fault old new))

-- ---- what stays

-- The counts of faults never fall; what is outside stops a call only where its count rose, and else that is as it was.
pub record HasCauses {T : Type 0} (disk disk_now sink sink_now : ℕ) (result : Result T Stop) : Type 0 where
  pub disk_later : disk ≤ disk_now
  pub sink_later : sink ≤ sink_now
  pub disk_failed : result ≡ Err Faults.Disk → Rose disk disk_now
  pub sink_failed : result ≡ Err Faults.Sink → Rose sink sink_now
  pub disk_passed : result ≢ Err Faults.Disk → disk_now ≡ disk
  pub sink_passed : result ≢ Err Faults.Sink → sink_now ≡ sink

-- A call that answers well leaves a device that works, in the same mode, with the same blocks, with these in flight; so many
-- requests more were submitted at most.
pub record Stays {D : Type 0} (more : ℕ) (identity : D → DiskIdentity) (moments : D → List Content) (condition : Condition)
    (old new : DeviceParts) (disk : D) (flight : Flight) : Type 0 where
  pub works : Works identity moments condition new disk
  pub held : AreHeld 0 flight.waiting.items new.common.slots
  pub same_mode : mode_of new.mode ≡ mode_of old.mode
  pub blocks : new.common.slots.blocks ≡ old.common.slots.blocks
  pub block_size : new.common.slots.block_size ≡ old.common.slots.block_size
  pub submitted : new.common.slots.submitted ≤ old.common.slots.submitted + more
