-- What some lines do, one line after the other: so what a line has settled is not lost by a later one.
-- Own: behind each line all its changes are made, and no moment that comes later goes back behind them.
use Rattle.std.specs.Prelude.{◌≡◌, List, [], ◌∷◌, ◌++◌}
use Rattle.disk_model.specs.Disk.{Content, EachImage, Image}
use Rattle.disk_model.specs.Moments.{EachMoment, HasNow}
use Rattle.device_model.specs.Device.{DeviceKind, IsLeftWithin}
use Rattle.device_model.specs.History.{Change, History, with_changes}
use Rattle.device_model.specs.Mode.{DeviceFormat}
use Rattle.device_model.specs.Progress.{DeviceState}
use Rattle.device_model.specs.Script.{ScriptLine, line_outcome}

-- ---- changes, line by line

-- What each of some lines does to the history.
abbrev pub changes_by_line : DeviceFormat → DeviceState → List ScriptLine → List (List Change)
changes_by_line f s [] = []
changes_by_line f s (line ∷ lines) =
    let outcome = line_outcome f s line in
    outcome.changes ∷ changes_by_line f outcome.after lines

-- The history behind the changes of some lines.
abbrev pub history_behind : List (List Change) → History → History
history_behind [] h = h
history_behind (changes ∷ more) h = history_behind more (with_changes changes h)

-- The changes of the first line, if there is one.
abbrev pub first_changes : List (List Change) → List Change
first_changes [] = []
first_changes (changes ∷ more) = changes

-- ---- one line after the other

-- Each image can be opened, and may be left by this history.
pub record IsLeftAs (kind : DeviceKind) (entry : Image) (h : History) (c : Content) : Type 0 where
  pub opens : EachImage kind.CanOpen c
  pub left : EachImage (kind.MayBeLeft entry h) c

-- At each moment some of the first of a line's changes are made, and at its end all are.
pub record IsLineMade (kind : DeviceKind) (entry : Image) (h : History) (changes : List Change)
    (before after : List Content) : Type 0 where
  pub since : EachMoment before after (IsLeftWithin kind entry h changes)
  pub now : HasNow (IsLeftAs kind entry (with_changes changes h)) after

-- So are some lines made, each behind the one before.
abbrev pub AreLinesMade : DeviceKind → (entry : Image) → History → List (List Change) → (before after : List Content)
    → Type 0
AreLinesMade kind entry h [] before after = after ≡ before
AreLinesMade kind entry h (changes ∷ more) before after =
    (between : List Content)
    × (IsLineMade kind entry h changes before between
    × AreLinesMade kind entry (with_changes changes h) more between after)

-- Of some lines the first are made so, and of the next one, if there is one, some of the first changes are at each
-- moment behind them.
pub record AreLinesBegun (kind : DeviceKind) (entry : Image) (h : History) (all : List (List Change))
    (before after : List Content) : Type 0 where
  pub done : List (List Change)
  pub rest : List (List Change)
  pub is : all ≡ done ++ rest
  pub between : List Content
  pub made : AreLinesMade kind entry h done before between
  pub next : EachMoment between after (IsLeftWithin kind entry (history_behind done h) (first_changes rest))
