-- What the calls of a mirror tell of each mirror that its legs are, by what each leg is before and behind a call.
use Rattle.std.specs.Prelude.{◌≡◌, ℕ, ◌+◌, ◌^◌, ◌<◌, ◌≤◌, Bool, false, true, List, length, Option, Result, Err, IfErr, IfOk, IfSome, OnOk}
use Rattle.disk_model.specs.Disk.{Content, Image}
use Rattle.device_model.specs.History.{History}
use Rattle.device_model.specs.Submission.{blocks_in}
use Rattle.device_model.specs.Transcript.{Session}
use Rattle.mirror_model.specs.Calls as Model
use Rattle.mirror_model.specs.Mirror.{MirrorChange, MirrorFormat, MirrorState, changes_on_first, changes_on_second, with_mirror_changes}
use Rattle.mirror_calls.specs.declared.block.BlockGiven.{BlockGiven}
use Rattle.mirror_calls.specs.declared.fault.MirrorFault.{MirrorFault}
use Rattle.mirror_calls.specs.declared.fault.MirrorFault.TheVariants.{Broken, Memory}
use Rattle.mirror_calls.specs.declared.reading.MirrorReply.{MirrorReply}
use Rattle.mirror_calls.specs.Faults.{IsOfDisk}
use Rattle.mirror_calls.specs.Given.{given_as, reply_as, rest_as}
use Rattle.mirror_calls.specs.Leg.{IsLeftSince, KeepsBlocks, LegDisk, LegOn}
use Rattle.mirror_calls.specs.State.{AreLegs, AreReady, HasDone, format_of}

-- Both legs are ready, unless the mirror is broken, and have equal blocks.
abbrev pub IsReady : {A B : Type 0} → (a_ready : A → Type 0) → (a_blocks a_size : A → ℕ) → (b_ready : B → Type 0)
    → (b_blocks b_size : B → ℕ) → (broken : Bool) → A → B → Type 0
IsReady a_ready a_blocks a_size b_ready b_blocks b_size broken a b =
    AreReady broken (a_ready a) (b_ready b) (a_blocks a) (a_size a) (b_blocks b) (b_size b)

-- So they are, and the mirror is whole.
pub record Works {A B : Type 0} (a_ready : A → Type 0) (a_blocks a_size : A → ℕ) (b_ready : B → Type 0)
    (b_blocks b_size : B → ℕ) (broken : Bool) (a : A) (b : B) : Type 0 where
  pub ready : IsReady a_ready a_blocks a_size b_ready b_blocks b_size broken a b
  pub whole : broken ≡ false

-- So they are, and each has the blocks that it had, on the same disk.
pub record StaysReady {A B : Type 0} (a_ready : A → Type 0) (a_blocks a_size : A → ℕ) (a_name : A → LegDisk)
    (b_ready : B → Type 0) (b_blocks b_size : B → ℕ) (b_name : B → LegDisk) (a_old : A) (b_old : B) (broken : Bool)
    (a : A) (b : B) : Type 0 where
  pub ready : IsReady a_ready a_blocks a_size b_ready b_blocks b_size broken a b
  pub same : KeepsBlocks a_blocks a_size a_name a_old a
  pub same_second : KeepsBlocks b_blocks b_size b_name b_old b

-- Each leg may be asked so many requests more,
pub record MayAsk {A B : Type 0} (a_asked : A → ℕ) (b_asked : B → ℕ) (more : ℕ) (a : A) (b : B) : Type 0 where
  pub first : a_asked a + more < 2 ^ 64
  pub second : b_asked b + more < 2 ^ 64

-- and as many as a call asks that goes over all blocks;
pub record MayAskAll {A B : Type 0} (a_asked : A → ℕ) (b_asked : B → ℕ) (a : A) (b : B) : Type 0 where
  pub first : a_asked a + 2 ^ 50 ≤ 2 ^ 64
  pub second : b_asked b + 2 ^ 50 ≤ 2 ^ 64

-- and so many were asked of each at most.
pub record HasAsked {A B : Type 0} (a_asked : A → ℕ) (b_asked : B → ℕ) (most : ℕ) (a_old : A) (b_old : B) (a_new : A)
    (b_new : B) : Type 0 where
  pub first : a_asked a_new ≤ a_asked a_old + most
  pub second : b_asked b_new ≤ b_asked b_old + most

-- The block is one of the leg, and these are as many bytes as it has.
pub record TakesBlock {A : Type 0} (blocks size : A → ℕ) (block : ℕ) (buffer : List ℕ) (leg : A) : Type 0 where
  pub there : block < blocks leg
  pub buffer_ : length buffer ≡ size leg

-- The mirror is whole behind a call that did its work; and what else ended it is a disk, which has broken the mirror.
pub record TurnsBy {T : Type 0} (broken : Bool) (result : Result T MirrorFault) : Type 0 where
  pub whole : OnOk result (broken ≡ false)
  pub err : IfErr result IsOfDisk
  pub breaks : IfErr result (λ fault. broken ≡ true)

-- It is whole behind a call that did its work, and broken behind one that a disk ended.
pub record BreaksBy {T : Type 0} (broken : Bool) (result : Result T MirrorFault) : Type 0 where
  pub whole : OnOk result (broken ≡ false)
  pub breaks : IfErr result (λ fault. IsOfDisk fault → broken ≡ true)

-- Neither a mirror that is broken nor the want of memory changes anything.
pub record StaysUndone {T M : Type 0} (result : Result T MirrorFault) (old new : M) : Type 0 where
  pub broken : result ≡ Err Broken → new ≡ old
  pub memory : result ≡ Err Memory → new ≡ old

-- A call that is refused for this, if it is, changes nothing.
abbrev pub Refuses : {T M : Type 0} → Option MirrorFault → Result T MirrorFault → (old new : M) → Type 0
Refuses refusal result old new = IfSome refusal (λ fault. (result ≡ Err fault) × (new ≡ old))

-- ---- what is done

-- A block is read where it matches,
abbrev pub ReadsBlock : {A B E : Type 0} → (A → LegOn → Session → Type 0) → (B → LegOn → Session → Type 0) → (block : ℕ)
    → Result BlockGiven E → A → B → A → B → Type 0
ReadsBlock a_stands b_stands block result a_old b_old a_new b_new = IfOk result (λ given. (a b : LegOn) (m : MirrorState)
    → AreLegs (a_stands a_old) (b_stands b_old) a b m
    → HasDone (a_stands a_new) (b_stands b_new) a b m (Model.read_block (format_of a b) m block) (given_as block given))

-- so many are,
abbrev pub ReadsBlocks : {A B E : Type 0} → (A → LegOn → Session → Type 0) → (B → LegOn → Session → Type 0)
    → (first count : ℕ) → Result MirrorReply E → A → B → A → B → Type 0
ReadsBlocks a_stands b_stands first count result a_old b_old a_new b_new = IfOk result (λ reply. (a b : LegOn)
    (m : MirrorState) → AreLegs (a_stands a_old) (b_stands b_old) a b m
    → HasDone (a_stands a_new) (b_stands b_new) a b m (Model.mirror_read (format_of a b) m first count) (reply_as reply))

-- the rest of them is, into the buffer from this byte on,
abbrev pub ReadsRest : {A B E : Type 0} → (A → LegOn → Session → Type 0) → (B → LegOn → Session → Type 0)
    → (first count from : ℕ) → Result MirrorReply E → A → B → A → B → Type 0
ReadsRest a_stands b_stands first count from result a_old b_old a_new b_new = IfOk result (λ reply. (a b : LegOn)
    (m : MirrorState) → AreLegs (a_stands a_old) (b_stands b_old) a b m
    → HasDone (a_stands a_new) (b_stands b_new) a b m (Model.mirror_read (format_of a b) m first count)
    (rest_as from reply))

-- all are levelled,
abbrev pub LevelsAll : {A B E : Type 0} → (A → LegOn → Session → Type 0) → (B → LegOn → Session → Type 0)
    → Result ℕ E → A → B → A → B → Type 0
LevelsAll a_stands b_stands result a_old b_old a_new b_new = IfOk result (λ written. (a b : LegOn) (m : MirrorState)
    → AreLegs (a_stands a_old) (b_stands b_old) a b m
    → HasDone (a_stands a_new) (b_stands b_new) a b m (Model.mirror_level (format_of a b) m) written)

-- one is, which took so many writes,
abbrev pub LevelsBlock : {A B : Type 0} → (A → LegOn → Session → Type 0) → (B → LegOn → Session → Type 0) → (block : ℕ)
    → (written : ℕ) → A → B → A → B → Type 0
LevelsBlock a_stands b_stands block written a_old b_old a_new b_new = (a b : LegOn) (m : MirrorState)
    → AreLegs (a_stands a_old) (b_stands b_old) a b m
    → HasDone (a_stands a_new) (b_stands b_new) a b m (Model.level_block (format_of a b) m block) written

-- so many are, which took so many,
abbrev pub LevelsBlocks : {A B : Type 0} → (A → LegOn → Session → Type 0) → (B → LegOn → Session → Type 0)
    → (first count written : ℕ) → A → B → A → B → Type 0
LevelsBlocks a_stands b_stands first count written a_old b_old a_new b_new = (a b : LegOn) (m : MirrorState)
    → AreLegs (a_stands a_old) (b_stands b_old) a b m
    → HasDone (a_stands a_new) (b_stands b_new) a b m (Model.level_blocks (format_of a b) m first count) written

-- at most one a block, and both buffers are as long as a block,
pub record IsLevelled (count written : ℕ) (buffer other : List ℕ) (size : ℕ) : Type 0 where
  pub few : written ≤ count
  pub buffer_ : length buffer ≡ size
  pub other_ : length other ≡ size

-- these bytes are written to both legs,
abbrev pub WritesBoth : {A B : Type 0} → (A → LegOn → Session → Type 0) → (B → LegOn → Session → Type 0) → (A → ℕ)
    → (first count : ℕ) → List ℕ → (fua : Bool) → A → B → A → B → Type 0
WritesBoth a_stands b_stands size first count bytes fua a_old b_old a_new b_new = (a b : LegOn) (m : MirrorState)
    → AreLegs (a_stands a_old) (b_stands b_old) a b m
    → AreLegs (a_stands a_new) (b_stands b_new) a b
    (with_mirror_changes (Model.write_changes m first (blocks_in (size a_old) count bytes) fua) m)

-- and both are flushed.
abbrev pub FlushesBoth : {A B : Type 0} → (A → LegOn → Session → Type 0) → (B → LegOn → Session → Type 0)
    → A → B → A → B → Type 0
FlushesBoth a_stands b_stands a_old b_old a_new b_new = (a b : LegOn) (m : MirrorState)
    → AreLegs (a_stands a_old) (b_stands b_old) a b m
    → AreLegs (a_stands a_new) (b_stands b_new) a b (with_mirror_changes (Model.flush_changes m) m)

-- ---- what is left at each moment

-- The changes of the read of a block,
abbrev pub reading_block : (block : ℕ) → MirrorFormat → MirrorState → List MirrorChange
reading_block block f m = (Model.read_block f m block).changes

-- of that of so many blocks,
abbrev pub reading_blocks : (first count : ℕ) → MirrorFormat → MirrorState → List MirrorChange
reading_blocks first count f m = (Model.mirror_read f m first count).changes

-- of the levelling of one,
abbrev pub levelling_block : (block : ℕ) → MirrorFormat → MirrorState → List MirrorChange
levelling_block block f m = (Model.level_block f m block).changes

-- of that of so many,
abbrev pub levelling_blocks : (first count : ℕ) → MirrorFormat → MirrorState → List MirrorChange
levelling_blocks first count f m = (Model.level_blocks f m first count).changes

-- and of that of all.
abbrev pub levelling_all : MirrorFormat → MirrorState → List MirrorChange
levelling_all f m = (Model.mirror_level f m).changes

-- Some of the changes of such a call are made on the first leg,
abbrev pub LeavesFirst : {A B : Type 0} → (A → LegOn → Session → Type 0) → (B → LegOn → Session → Type 0)
    → (LegOn → History → Image → Type 0) → (A → List Content) → (MirrorFormat → MirrorState → List MirrorChange)
    → A → B → A → Type 0
LeavesFirst a_stands b_stands may_be_left moments changes a_old b_old a_new = (a b : LegOn) (m : MirrorState)
    → AreLegs (a_stands a_old) (b_stands b_old) a b m
    → IsLeftSince (may_be_left a) m.a.history (changes_on_first (changes (format_of a b) m)) (moments a_old)
    (moments a_new)

-- and on the second.
abbrev pub LeavesSecond : {A B : Type 0} → (A → LegOn → Session → Type 0) → (B → LegOn → Session → Type 0)
    → (LegOn → History → Image → Type 0) → (B → List Content) → (MirrorFormat → MirrorState → List MirrorChange)
    → A → B → B → Type 0
LeavesSecond a_stands b_stands may_be_left moments changes a_old b_old b_new = (a b : LegOn) (m : MirrorState)
    → AreLegs (a_stands a_old) (b_stands b_old) a b m
    → IsLeftSince (may_be_left b) m.b.history (changes_on_second (changes (format_of a b) m)) (moments b_old)
    (moments b_new)
