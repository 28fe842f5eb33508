-- What a mirror is told of a device holds the same in each block, and leaves the same.
use Rattle.std.proofs.Common.{◌≡◌, ℕ, List, [], ◌++◌, length, map, None, refl, sym, ◌∙◌, ap, subst}
use Rattle.std.proofs.lemmas.List.{map-append}
use Rattle.std.proofs.lemmas.List.Sums.{fold-append}
use Rattle.image_model.specs.Cells.{Cell}
use Rattle.device_model.specs.Cut.{MayBeLeftJournal}
use Rattle.device_model.specs.History.{Change, History, Tagger, cells_now, opened, with_change, with_changes}
use Rattle.mirror_laws.specs.WholeLaws.{IsAfresh}
use Rattle.mirror_laws.proofs.AfreshLemmas.{afresh_law}
use Rattle.mirror_core.specs.Since.{IsSince}
use Rattle.mirror_core.specs.Untold.{AreLike, untold_change}
use Rattle.mirror_core.proofs.UntoldLemmas.{IsLike-changes, MayBeLeftJournal-like, cells_now-like}

AreLike-append : (ours theirs more others : List Change) → AreLike ours theirs → AreLike more others → AreLike (ours ++ more) (theirs ++ others)
AreLike-append ours theirs more others first rest =
    map-append untold_change ours more
    ∙ ap (λ (l : List Change). l ++ map untold_change more) first
    ∙ ap (λ (l : List Change). map untold_change theirs ++ l) rest
    ∙ sym (map-append untold_change theirs others)

-- At the start nothing has happened.
pub IsSince-begin : (tag : Tagger) (h : History) → h.flushed ≡ length h.writes → h.pending ≡ None → IsSince tag h (opened (cells_now tag h))
IsSince-begin tag h flushed pending = record {
  start = h;
  flushed = flushed;
  pending = pending;
  ours = [];
  theirs = [];
  like = refl;
  is = refl;
  told_is = refl;
}

module _ (tag : Tagger) (h told : History) (since : IsSince tag h told) where
  -- Alike changes go on with it.
  pub IsSince-more : (ours theirs : List Change) → AreLike ours theirs → IsSince tag (with_changes ours h) (with_changes theirs told)
  IsSince-more ours theirs like = record {
    start = since.start;
    flushed = since.flushed;
    pending = since.pending;
    ours = since.ours ++ ours;
    theirs = since.theirs ++ theirs;
    like = AreLike-append since.ours since.theirs ours theirs since.like like;
    is = ap (with_changes ours) since.is ∙ sym (fold-append with_change since.start since.ours ours);
    told_is = ap (with_changes theirs) since.told_is ∙ sym (fold-append with_change (opened (cells_now tag since.start)) since.theirs theirs);
  }

  afresh : (blocks : ℕ) → IsAfresh tag blocks since.start since.theirs
  afresh blocks = afresh_law tag blocks since.start since.theirs since.pending since.flushed

  -- Each block holds what was told.
  pub IsSince-cells : (b : ℕ) → cells_now tag told b ≡ cells_now tag h b
  IsSince-cells b =
      ap (λ (x : History). cells_now tag x b) since.told_is
      ∙ (afresh 0).now b
      ∙ cells_now-like tag (with_changes since.theirs since.start) (with_changes since.ours since.start)
      (IsLike-changes since.theirs since.ours since.start since.start (sym since.like) refl) b
      ∙ ap (λ (x : History). cells_now tag x b) (sym since.is)

  -- What may be left by the one may be left by the other.
  pub IsSince-left : (blocks : ℕ) (left : ℕ → Cell) → MayBeLeftJournal tag blocks h left → MayBeLeftJournal tag blocks told left
  IsSince-left blocks left may =
      subst (λ (x : History). MayBeLeftJournal tag blocks x left) (sym since.told_is)
      ((afresh blocks).left left
      (MayBeLeftJournal-like tag blocks (with_changes since.ours since.start) (with_changes since.theirs since.start) left
      (IsLike-changes since.ours since.theirs since.start since.start since.like refl)
      (subst (λ (x : History). MayBeLeftJournal tag blocks x left) since.is may)))
