-- What has happened to a device since it had all flushed, as a mirror is told of it: by tickets of its own.
use Rattle.std.specs.Prelude.{◌≡◌, List, length, None}
use Rattle.device_model.specs.History.{Change, History, Tagger, cells_now, opened, with_changes}
use Rattle.mirror_core.specs.Untold.{AreLike}

-- What has happened since the start is what was told of a device that had just been opened on what this one held then.
pub record IsSince (tag : Tagger) (h told : History) : Type 0 where
  pub start : History
  pub flushed : start.flushed ≡ length start.writes
  pub pending : start.pending ≡ None
  pub ours : List Change
  pub theirs : List Change
  pub like : AreLike ours theirs
  pub is : h ≡ with_changes ours start
  pub told_is : told ≡ with_changes theirs (opened (cells_now tag start))
