-- A session under way: the moments that it comes to on a device that had just been opened.
use Rattle.std.specs.Prelude.{◌≡◌, ℕ, ◌≤◌, Bool, List, [], ◌∷◌}
use Rattle.image_model.specs.Cells.{Cell}
use Rattle.device_model.specs.Mode.{DeviceFormat}
use Rattle.device_model.specs.Progress.{opened_device}
use Rattle.nbd_model.specs.Stream.{Message}
use Rattle.nbd_model.specs.Session.{Moment, ask_one, opened_session, until}

-- What a session does: rounds until few requests are in flight, or it takes one more of the stream.
pub data Step : Type 0 where
  Rounds : (most : ℕ) → Step
  Takes : (message : Message) → Step

-- The moment behind some steps, the last of which stands first.
abbrev pub moment_after : DeviceFormat → Moment → List Step → Moment
moment_after f m [] = m
moment_after f m (Rounds most ∷ steps) = (until f most (moment_after f m steps)).behind
moment_after f m (Takes message ∷ steps) = (ask_one f (moment_after f m steps) message).behind

-- A session that began on a device which had just been opened came to it. That device's journal has a section.
pub record IsUnderWay (f : DeviceFormat) (m : Moment) : Type 0 where
  pub some : 1 ≤ f.sections
  pub base : ℕ → Cell
  pub next : ℕ
  pub set_bits : ℕ → Bool
  pub awaiting : ℕ → Bool
  pub steps : List Step
  pub is : m ≡ moment_after f (opened_session (opened_device base next set_bits awaiting)) steps
