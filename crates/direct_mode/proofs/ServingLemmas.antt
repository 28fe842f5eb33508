-- The next block of a write, as the laws of direct mode have it.
use Rattle.std.proofs.Common.{◌≡◌, inl, inr, ⊎_elim, ℕ, suc, ◌+◌, ◌<◌, Bool, refl, sym, ◌∙◌, ap, subst, List, Result, Ok, Err, OnErr}
use Rattle.disk_model.specs.Disk.{Content, OnlyAdds}
use Rattle.disk_model.specs.Identity.{DiskIdentity}
use Rattle.disk_model.specs.Moments.{EachSince}
use Rattle.disk_model.proofs.DiskLemmas.{OnlyAdds-wider}
use Rattle.disk_model.proofs.MomentsLemmas.{EachMoment-weaker, FromStart-weaker, adds_then, adds_wider}
use Rattle.image_model.specs.Geometry.{Geometry, IsGeometry, tag_at}
use Rattle.device_model.specs.History.{BlockWrite}
use Rattle.device_model.specs.Progress.{Serve}
use Rattle.direct_model.specs.Steps.{with_write}
use Rattle.direct_laws.specs.CallLaws.{KeepsNow, StandsThrough}
use Rattle.direct_laws.specs.EventLaws.{after_block}
use Rattle.direct_laws.specs.ServeLaws.{KeepsDevice}
use Rattle.direct_laws.proofs.ServeLemmas.{failed_block_law, served_block_law}
use Rattle.tag_store.specs.Store.{IsMarkedTags, IsOfPut, IsStore, Store, given_tags}
use Rattle.place_model.specs.Tags.{HoldsTag}
use Rattle.tag_store.proofs.SpansLemmas.{first_in_span}
use Rattle.tag_store.proofs.StoreLemmas.{HoldsTag-span, tag-span}
use Rattle.direct_mode.specs.Cells.{HasCells, IsOfBlock, IsOfBlockOrTags, block_write}
use Rattle.direct_mode.specs.Serving.{HasFailed, HasServed, ServedWrite, WritesNext, next_of}

-- What holds in any case holds of an error.
pub on_err_always : {T E P : Type 0} (r : Result T E) → P → OnErr r P
on_err_always (Ok x) p = tt
on_err_always (Err e) p = p

module _ (w : ServedWrite) (block : ℕ) (bytes tag : List ℕ) (flushes : Bool) (old : Store) {a : List Content} (writes : WritesNext w block bytes tag flushes old a) where
  write_is : block_write (suc w.place) block bytes ≡ next_of w
  write_is =
      ap (λ (n : ℕ). block_write (suc w.place) n bytes) writes.block_
      ∙ ap (λ (x : List ℕ). block_write (suc w.place) (w.first + w.asked.served) x) writes.bytes_

  pub next_failed : {b : List Content} → StandsThrough (with_write w.disk (block_write (suc w.place) block bytes)) a b → HasFailed w a b
  next_failed {b} through =
      failed_block_law w.format w.state w.disk w.place w.asked w.first w.blocks w.fua w.entry a b writes.device writes.opened writes.served writes.request
      (subst (λ (x : BlockWrite). StandsThrough (with_write w.disk x) a b) write_is through)

  pub next_done : {b : List Content} (new : Store) → StandsThrough (with_write w.disk (block_write (suc w.place) block bytes)) a b
      → HasCells (after_block flushes (block_write (suc w.place) block bytes) w.disk) w.state.progress.regions.awaiting new b → HasServed w flushes new a b
  next_done {b} new through cells =
      let awaiting = w.state.progress.regions.awaiting in
      let next = next_of w in
      let then_ = subst (λ (x : BlockWrite). HasCells (after_block flushes x w.disk) awaiting new b) write_is cells in
      let served = served_block_law w.format w.state w.disk w.place w.asked w.first w.blocks w.fua w.entry awaiting (given_tags new) a b writes.device writes.opened writes.served writes.request
      (subst (λ (x : BlockWrite). StandsThrough (with_write w.disk x) a b) write_is through)
      (subst (λ (t : Bool). KeepsNow (after_block t next w.disk) awaiting (given_tags new) b) writes.flushes_ then_.now) in
      record {
        device = subst (λ (t : Bool). KeepsDevice w.format w.state (Serve (suc w.place)) w.entry w.disk (after_block t next w.disk) a b) (sym writes.flushes_) served;
        cells = then_;
      }

-- ---- what may be written

-- Sectors of tags alone, beside the block's own,
put_in_tags : (store : Store) (sectors block sector : ℕ) (tag x : List ℕ) (start : Content) → IsGeometry store.geometry sectors → block < store.geometry.blocks → IsOfPut block tag store start sector x → HoldsTag store.geometry sector
put_in_tags store sectors block sector tag x start geometry low of =
    let span = tag-span store.geometry sectors block store.geometry.shape.tag_size geometry low refl in
    ⊎_elim (λ out. out.marked.tags)
    (λ first. HoldsTag-span store.geometry block store.geometry.shape.tag_size sector low refl
    (first_in_span (tag_at store.geometry block).sector (tag_at store.geometry block).byte store.geometry.shape.tag_size sector span.begins span.some first.0.is)) of

-- while it is written,
pub writes_in_place : (store : Store) (disk : DiskIdentity) (block : ℕ) (bytes tag : List ℕ) {a b : List Content} → IsStore store disk a → block < store.geometry.blocks
    → EachSince (λ start. OnlyAdds (IsOfBlock block bytes tag store start) start) a b → EachSince (OnlyAdds (IsOfBlockOrTags store.geometry block bytes)) a b
writes_in_place store disk block bytes tag {a} is low moments =
    EachMoment-weaker (FromStart-weaker a (λ start. OnlyAdds (IsOfBlock block bytes tag store start) start) (OnlyAdds (IsOfBlockOrTags store.geometry block bytes))
    (λ start c told adds. OnlyAdds-wider (IsOfBlock block bytes tag store start) (IsOfBlockOrTags store.geometry block bytes)
    (λ sector x of. ⊎_elim inl (λ put. inr (put_in_tags store disk.sectors block sector tag x start is.geometry low put)) of) start c adds)) moments

-- and flushed.
pub flushes_in_place : (old new : Store) (block : ℕ) (bytes : List ℕ) {a m b : List Content} → new.geometry ≡ old.geometry → EachSince (OnlyAdds (IsOfBlockOrTags old.geometry block bytes)) a m → EachSince (OnlyAdds (IsMarkedTags new)) m b
    → EachSince (OnlyAdds (IsOfBlockOrTags old.geometry block bytes)) a b
flushes_in_place old new block bytes same first moments =
    adds_then (IsOfBlockOrTags old.geometry block bytes) first
    (adds_wider (IsMarkedTags new) (IsOfBlockOrTags old.geometry block bytes) (λ sector x marked. inr (subst (λ (g : Geometry). HoldsTag g sector) same marked.tags)) moments)
