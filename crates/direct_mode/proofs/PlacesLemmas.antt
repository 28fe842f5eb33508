-- What a call of direct mode writes, as places; and calls in a row.
use Rattle.std.proofs.Common.{◌≡◌, inl, inr, ⊎_elim, ℕ, ◌+◌, ◌*◌, ◌<◌, ◌≤◌, List, length, refl, sym, ◌∙◌, subst, arith}
use Rattle.disk_model.specs.Disk.{Content, OnlyAdds}
use Rattle.disk_model.specs.Moments.{EachSince}
use Rattle.disk_model.proofs.MomentsLemmas.{EachMoment-kept, adds_then, adds_wider}
use Rattle.image_model.specs.Geometry.{Geometry, IsGeometry, data_at, initial}
use Rattle.image_model.proofs.GeometryLemmas.{data_at-inside}
use Rattle.place_model.proofs.TagsLemmas.{tag_byte-behind}
use Rattle.tag_store.specs.Store.{IsMarkedTags, IsOutForTag, Store}
use Rattle.direct_mode.specs.Cells.{IsBlock, IsOfBlockOrTags}
use Rattle.place_model.specs.Places.{IsOfPlaces, WritesPlaces}

-- ---- one call

module _ (IsWritten : ℕ → Type 0) (old new : Store) {a b : List Content}
    (same : new.geometry ≡ old.geometry) where
  pub read_places : (block : ℕ) → EachSince (OnlyAdds (IsOutForTag block old)) a b
      → WritesPlaces IsWritten old.geometry new.geometry a b
  read_places block moments = record {
    geometry = same;
    each = adds_wider (IsOutForTag block old) (IsOfPlaces old.geometry IsWritten)
        (λ sector x out. inl out.marked.tags) moments;
  }

  pub flush_places : EachSince (OnlyAdds (IsMarkedTags old)) a b
      → WritesPlaces IsWritten old.geometry new.geometry a b
  flush_places moments = record {
    geometry = same;
    each = adds_wider (IsMarkedTags old) (IsOfPlaces old.geometry IsWritten)
        (λ sector x marked. inl marked.tags) moments;
  }

  pub block_places : (block : ℕ) (bytes : List ℕ) → IsBlock old.geometry block bytes → IsWritten block
      → EachSince (OnlyAdds (IsOfBlockOrTags old.geometry block bytes)) a b
      → WritesPlaces IsWritten old.geometry new.geometry a b
  block_places block bytes is written moments = record {
    geometry = same;
    each = adds_wider (IsOfBlockOrTags old.geometry block bytes) (IsOfPlaces old.geometry IsWritten)
        (λ sector x of. ⊎_elim
        (λ run. let size = is.size in let ends = run.ends in inr (record {
          block = block;
          written = written;
          data_ = record { low = is.low; begins = run.begins; ends = omega (arith, size, ends) };
        }))
        inl of) moments;
  }

-- ---- for callers

-- Two calls of which each adds what is allowed to both are joined to one.
pub joined_adds : (First Second Both : ℕ → List ℕ → Type 0) {a b c : List Content}
    → ((sector : ℕ) (x : List ℕ) → First sector x → Both sector x)
    → ((sector : ℕ) (x : List ℕ) → Second sector x → Both sector x)
    → EachSince (OnlyAdds First) a b → EachSince (OnlyAdds Second) b c → EachSince (OnlyAdds Both) a c
joined_adds First Second Both first second before after =
    adds_then Both (adds_wider First Both first before) (adds_wider Second Both second after)

pub IsOfPlaces-wider : (P Q : ℕ → Type 0) (g : Geometry) → ((block : ℕ) → P block → Q block) → (sector : ℕ)
    (x : List ℕ) → IsOfPlaces g P sector x → IsOfPlaces g Q sector x
IsOfPlaces-wider P Q g wider sector x of = ⊎_elim inl
    (λ own. inr (record { block = own.block; written = wider own.block own.written; data_ = own.data_ })) of

-- A call that keeps the moments writes nothing.
pub WritesPlaces-kept : (IsWritten : ℕ → Type 0) (g : Geometry) {a b : List Content} → b ≡ a
    → WritesPlaces IsWritten g g a b
WritesPlaces-kept IsWritten g same = record { geometry = refl; each = EachMoment-kept _ same }

-- Where each block that is written in one of two calls is one of these, these are those of both.
pub WritesPlaces-then : (First Second Both : ℕ → Type 0) (old middle new : Geometry) {a b c : List Content}
    → ((block : ℕ) → First block → Both block) → ((block : ℕ) → Second block → Both block)
    → WritesPlaces First old middle a b → WritesPlaces Second middle new b c → WritesPlaces Both old new a c
WritesPlaces-then First Second Both old middle new {a} {b} {c} first second before after = record {
  geometry = after.geometry ∙ before.geometry;
  each = joined_adds (IsOfPlaces old First) (IsOfPlaces old Second) (IsOfPlaces old Both)
      (IsOfPlaces-wider First Both old first) (IsOfPlaces-wider Second Both old second) before.each
      (subst (λ (g : Geometry). EachSince (OnlyAdds (IsOfPlaces g Second)) b c) before.geometry after.each);
}

-- None of these sectors is one of the superblock or of the journal.
pub IsOfPlaces-behind : (g : Geometry) (sectors : ℕ) (IsWritten : ℕ → Type 0) (sector : ℕ) (x : List ℕ)
    → IsGeometry g sectors → IsOfPlaces g IsWritten sector x → initial g ≤ sector
IsOfPlaces-behind g sectors IsWritten sector x geometry of = ⊎_elim
    (λ tag. subst (λ (s : ℕ). initial g ≤ s) (sym tag.is)
    (tag_byte-behind g sectors tag.block tag.byte geometry tag.block_low))
    (λ own.
    let inside = data_at-inside g sectors own.block geometry own.data_.low in
    let begins = own.data_.begins in
    omega (arith, inside.0, begins)) of
