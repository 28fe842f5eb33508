-- Where a mirror stands in the run of a script: its legs and its state, and what its legs show of themselves.
use Rattle.std.specs.Prelude.{List}
use Rattle.disk_model.specs.Disk.{Content, Image}
use Rattle.device_model.specs.History.{History}
use Rattle.device_model.specs.Transcript.{Session}
use Rattle.mirror_model.specs.Mirror.{MirrorChange, MirrorFormat, MirrorState, with_mirror_changes}
use Rattle.mirror_calls.specs.Leg.{LegOn}
use Rattle.mirror_calls.specs.State.{AreLegs, format_of}

-- The legs of a mirror, and the mirror of `mirror_model` that they are.
pub record Standing : Type 0 where
  pub a : LegOn
  pub b : LegOn
  pub m : MirrorState

abbrev pub format_at : Standing → MirrorFormat
format_at w = format_of w.a w.b

-- The same legs, once these changes are made.
abbrev pub standing_behind : Standing → List MirrorChange → Standing
standing_behind w changes = record w { m = with_mirror_changes changes w.m }

-- ---- what legs show

-- The contents of both disks at all their moments, the newest first.
pub record BothMoments : Type 0 where
  pub first : List Content
  pub second : List Content

-- Which states each leg stands for, and the moments of both disks.
pub record Shown : Type 1 where
  pub first : LegOn → Session → Type 0
  pub second : LegOn → Session → Type 0
  pub moments : BothMoments

abbrev pub shown_by : {A B : Type 0} → (A → LegOn → Session → Type 0) → (B → LegOn → Session → Type 0)
    → (A → List Content) → (B → List Content) → A → B → Shown
shown_by a_stands b_stands a_moments b_moments a b = record {
  first = a_stands a;
  second = b_stands b;
  moments = record { first = a_moments a; second = b_moments b };
}

-- The legs that show this are this mirror.
abbrev pub IsStanding : Standing → Shown → Type 0
IsStanding w now = AreLegs now.first now.second w.a w.b w.m

-- The images that a cut may leave of each leg by a history.
pub record Cuts : Type 1 where
  pub first : LegOn → History → Image → Type 0
  pub second : LegOn → History → Image → Type 0

abbrev pub cuts_by : (a_left b_left : LegOn → History → Image → Type 0) → Cuts
cuts_by a_left b_left = record { first = a_left; second = b_left }
