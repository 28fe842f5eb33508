-- What a disk held at each moment of a call, of calls in a row and of a loop.
-- Own: a list of contents, the newest first, grows with each sector that is written and each sync.
use Rattle.std.specs.Prelude.{◌≡◌, ℕ, zero, suc, List, [], ◌∷◌, ◌++◌, Option, Some, None, IsSomeAnd}
use Rattle.std.specs.List.{AllByRecursion}
use Rattle.std.specs.Option.{ForSome, option_map}
use Rattle.disk_model.specs.Disk.{Content}

-- The content now, of the contents of all moments with the newest first. A disk that does not tell its content has none.
abbrev pub content_now : List Content → Option Content
content_now [] = None
content_now (c ∷ cs) = Some c

-- P of the content now, where the disk tells it.
abbrev pub HasNow : (Content → Type 0) → List Content → Type 0
HasNow P moments = ForSome (content_now moments) P

-- The content after a call is this change of the one before it, or the disk tells neither.
abbrev pub IsChangedBy : (Content → Content) → List Content → List Content → Type 0
IsChangedBy change before after = content_now after ≡ option_map change (content_now before)

-- The moments went on from those before, and each content that stood since has P.
pub record EachMoment (before after : List Content) (P : Content → Type 0) : Type 0 where
  pub since : List Content
  pub grows : after ≡ since ++ before
  pub each : AllByRecursion P since

-- P of the content at the start of a call and of one that stood later.
abbrev pub FromStart : List Content → (Content → Content → Type 0) → Content → Type 0
FromStart before P later = IsSomeAnd (content_now before) (λ start. P start later)

-- Each content that stood since the start is related to the one at the start in this way.
abbrev pub EachSince : (Content → Content → Type 0) → List Content → List Content → Type 0
EachSince P before after = EachMoment before after (FromStart before P)

-- Nothing is written, and the disk is not synced: no moment is added. So it is of a run in recovery mode and of a salvage, over
-- every image, also one that is refused.
abbrev pub KeepsMoments : (before after : List Content) → Type 0
KeepsMoments before after = after ≡ before

-- The content after so many turns of a loop, of which turn k does `step k`, counted from 0.
abbrev pub after_turns : (ℕ → Content → Content) → ℕ → Content → Content
after_turns step zero content = content
after_turns step (suc k) content = step k (after_turns step k content)
