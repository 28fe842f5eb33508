-- The tags that are left as they were, and the sectors that are written, of one run of events behind another.
use Rattle.std.proofs.Common.{◌≡◌, ◌⊎◌, inl, inr, ℕ, zero, suc, List, [], ◌∷◌, ◌++◌, take, subst, ◌∙◌}
use Rattle.std.specs.List.{Any}
use Rattle.std.specs.Option.{option_to_list}
use Rattle.disk_model.specs.Disk.{Content, Image}
use Rattle.disk_model.specs.Moments.{EachMoment}
use Rattle.disk_model.proofs.MomentsLemmas.{EachMoment-kept, EachMoment-then, EachMoment-weaker}
use Rattle.image_model.specs.Geometry.{Geometry}
use Rattle.device_model.specs.Cut.{all_writes}
use Rattle.device_model.specs.History.{Begun, BlockWrite, Change, Flushed, History, Written, with_change, with_changes}
use Rattle.device_model.specs.Mode as Model
use Rattle.device_model.specs.Progress.{DeviceState}
use Rattle.device_model.proofs.HistoryLemmas.{Any-append, Any-append_left, Any-append_right, Any-cons, Any-cons_first, Any-cons_later, Any-nil}
use Rattle.device_parts.specs.Device.{Standing}
use Rattle.device.specs.Tags.{IsLeftOut, Leaves}
use Rattle.place_model.specs.KeptTags.{IsOfBlock, KeepsStill, KeepsTagsOf}
use Rattle.device.proofs.WritesLemmas.{WritesOnly-kept, WritesOnly-left, WritesOnly-then}

-- ---- which blocks are left out

module _ (block : ℕ) where
  abbrev IsWrite : BlockWrite → Type 0
  IsWrite write = write.block ≡ block

  -- A write that stands last is of the block, or an earlier one is.
  last_write : (writes : List BlockWrite) (write : BlockWrite) (rest : List BlockWrite)
      → Any IsWrite (writes ++ write ∷ []) → Any IsWrite (writes ++ rest) ⊎ (write.block ≡ block)
  last_write writes write rest any = elim (Any-append IsWrite writes (write ∷ []) any) [
    | inl old ↦ inl (Any-append_left IsWrite writes rest old)
    | inr new ↦ elim (Any-cons IsWrite write [] new) [
      | inl is ↦ inr is
      | inr none ↦ absurd (Any-nil IsWrite none)
    ]
  ]

  -- A write that a change adds is one that it is of.
  one_more : (h : History) (change : Change) → Any IsWrite (all_writes (with_change h change))
      → Any IsWrite (all_writes h) ⊎ IsOfBlock block change
  one_more h (Begun write) any = last_write h.writes write (option_to_list h.pending) any
  one_more h (Written write) any = elim (Any-append IsWrite (h.writes ++ write ∷ []) [] any) [
    | inl in_writes ↦ last_write h.writes write (option_to_list h.pending) in_writes
    | inr none ↦ absurd (Any-nil IsWrite none)
  ]
  one_more h Flushed any = inl any

  -- So it is of some changes.
  more_writes : (h : History) (changes : List Change) → Any IsWrite (all_writes (with_changes changes h))
      → Any IsWrite (all_writes h) ⊎ Any (IsOfBlock block) changes
  more_writes h [] any = inl any
  more_writes h (x ∷ xs) any = elim (more_writes (with_change h x) xs any) [
    | inl before ↦ elim (one_more h x before) [
      | inl old ↦ inl old
      | inr is ↦ inr (Any-cons_first (IsOfBlock block) x xs is)
    ]
    | inr later ↦ inr (Any-cons_later (IsOfBlock block) x xs later)
  ]

  -- Some of the first changes are of the block only where some of all are.
  pub among_first : (count : ℕ) (changes : List Change) → Any (IsOfBlock block) (take count changes)
      → Any (IsOfBlock block) changes
  among_first zero changes any = absurd (Any-nil (IsOfBlock block) any)
  among_first (suc count) [] any = absurd (Any-nil (IsOfBlock block) any)
  among_first (suc count) (x ∷ xs) any = elim (Any-cons (IsOfBlock block) x (take count xs) any) [
    | inl first ↦ Any-cons_first (IsOfBlock block) x xs first
    | inr later ↦ Any-cons_later (IsOfBlock block) x xs (among_first count xs later)
  ]

  -- A block that is left out of some changes has no write behind them.
  pub unwritten_behind : (h : History) (changes : List Change) → IsLeftOut h changes block
      → Any IsWrite (all_writes (with_changes changes h)) → ⊥
  unwritten_behind h changes out any = elim (more_writes h changes any) [
    | inl before ↦ out.before before
    | inr since ↦ out.since since
  ]

  -- What is left out of some changes and more is left out of them,
  out_left : (h : History) (xs ys : List Change) → IsLeftOut h (xs ++ ys) block → IsLeftOut h xs block
  out_left h xs ys out = record {
    before = out.before;
    since = λ any. out.since (Any-append_left (IsOfBlock block) xs ys any);
  }

  -- and of those behind them.
  out_right : (h : History) (xs ys : List Change) → IsLeftOut h (xs ++ ys) block → IsLeftOut (with_changes xs h) ys block
  out_right h xs ys out = record {
    before = unwritten_behind h xs (out_left h xs ys out);
    since = λ any. out.since (Any-append_right (IsOfBlock block) xs ys any);
  }

-- ---- their tags

-- What is kept of some blocks is kept of fewer.
pub tags_fewer : (mode : Model.Mode) (More Fewer : ℕ → Type 0) (g : Geometry) (entry : Image)
    → ((block : ℕ) → Fewer block → More block) → (c : Content) → KeepsTagsOf mode More g entry c
    → KeepsTagsOf mode Fewer g entry c
tags_fewer Model.Bitmap More Fewer g entry fewer c keeps =
    λ image of. record { each = λ b below clear is. (keeps image of).each b below clear (fewer b is) }
tags_fewer Model.Journal More Fewer g entry fewer c keeps = keeps
tags_fewer Model.Direct More Fewer g entry fewer c keeps = keeps
tags_fewer Model.Recovery More Fewer g entry fewer c keeps = tt

-- ---- a disk as it was

pub still_kept : (mode : Model.Mode) {a b : List Content} → b ≡ a → KeepsStill mode a b
still_kept Model.Bitmap same = tt
still_kept Model.Journal same = tt
still_kept Model.Direct same = tt
still_kept Model.Recovery same = same

pub still_then : (mode : Model.Mode) (a b c : List Content) → KeepsStill mode a b → KeepsStill mode b c → KeepsStill mode a c
still_then Model.Bitmap a b c first second = tt
still_then Model.Journal a b c first second = tt
still_then Model.Direct a b c first second = tt
still_then Model.Recovery a b c first second = second ∙ first

-- ---- all of it

module _ (w : Standing) where
  abbrev TagsOf : History → List Change → Content → Type 0
  TagsOf h changes c = KeepsTagsOf w.format.mode (IsLeftOut h changes) w.on.geometry w.entry c

  -- Where no moment has passed nothing is done.
  pub leaves_all : (changes : List Change) {a b : List Content} → b ≡ a → Leaves w changes a b
  leaves_all changes same = record {
    sectors = WritesOnly-kept w.format.mode w.on.geometry w.entry changes same;
    tags = EachMoment-kept _ same;
    still = still_kept w.format.mode same;
  }

  -- What some changes leave is left by them and more,
  pub leaves_left : (xs ys : List Change) {a b : List Content} → Leaves w xs a b → Leaves w (xs ++ ys) a b
  leaves_left xs ys leaves = record {
    sectors = WritesOnly-left w.format.mode w.on.geometry w.entry xs ys leaves.sectors;
    tags = EachMoment-weaker
        (tags_fewer w.format.mode (IsLeftOut w.state.history xs) (IsLeftOut w.state.history (xs ++ ys)) w.on.geometry w.entry
        (λ block. out_left block w.state.history xs ys)) leaves.tags;
    still = leaves.still;
  }

  -- and by those behind them, too.
  pub leaves_then : (s : DeviceState) (xs ys : List Change) {a b c : List Content}
      → s.history ≡ with_changes xs w.state.history → Leaves w xs a b → Leaves (record w { state = s }) ys b c
      → Leaves w (xs ++ ys) a c
  leaves_then s xs ys {a} {b} {c} history first second =
      let all = IsLeftOut w.state.history (xs ++ ys) in
      record {
        sectors = WritesOnly-then w.format.mode w.on.geometry w.entry xs ys first.sectors second.sectors;
        tags = EachMoment-then (leaves_left xs ys first).tags
            (EachMoment-weaker
            (tags_fewer w.format.mode (IsLeftOut (with_changes xs w.state.history) ys) all w.on.geometry w.entry
            (λ block. out_right block w.state.history xs ys))
            (subst (λ (h : History). EachMoment b c (TagsOf h ys)) history second.tags));
        still = still_then w.format.mode a b c first.still second.still;
      }
