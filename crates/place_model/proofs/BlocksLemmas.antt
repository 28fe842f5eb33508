-- The cells after some writes of whole blocks.
use Rattle.std.proofs.Common.{◌≡◌, inl, inr, ℕ, ◌≤◌, refl, sym, ap, subst, List, [], ◌∷◌, ◌++◌, length, take, ◌+◌, ◌<◌, ◌∙◌}
use Rattle.std.specs.List.{AllByRecursion}
use Rattle.std.proofs.lemmas.Bool.{cases_eq}
use Rattle.std.proofs.lemmas.List.{take-append-le, take_all}
use Rattle.disk_model.specs.Disk.{Content, last_image}
use Rattle.image_model.specs.Cells.{Cell}
use Rattle.image_model.specs.Geometry.{Geometry, data_at, IsGeometry}
use Rattle.device_model.specs.History.{Tagger, BlockWrite, written_cell, cells_after}
use Rattle.device_model.proofs.HistoryLemmas.{cells_after-append, cells_after-push_same, cells_after-push_other}
use Rattle.place_model.specs.Blocks.{IsBlockWrite, ReadsData}
use Rattle.place_model.specs.Tags.{KeepsOthers}
use Rattle.place_model.proofs.TagsLemmas.{tag_byte-no_data}

module _ (tag : Tagger) (base : ℕ → Cell) where
  -- The first writes are the same with one more,
  pub cells_after-before : (writes : List BlockWrite) (w : BlockWrite) (count b : ℕ) → count ≤ length writes
      → cells_after tag base (take count (writes ++ w ∷ [])) b ≡ cells_after tag base (take count writes) b
  cells_after-before writes w count b low = ap (λ (ws : List BlockWrite). cells_after tag base ws b) (take-append-le count writes (w ∷ []) low)

  -- as many as there are are all,
  pub cells_after-all : (writes : List BlockWrite) (count b : ℕ) → length writes ≤ count → cells_after tag base (take count writes) b ≡ cells_after tag base writes b
  cells_after-all writes count b low = ap (λ (ws : List BlockWrite). cells_after tag base ws b) (take_all count writes low)

  -- and no cell depends on another block's.
  pub cells_after-base : (other : ℕ → Cell) (writes : List BlockWrite) (b : ℕ) → base b ≡ other b → cells_after tag base writes b ≡ cells_after tag other writes b
  cells_after-base other writes b same = rw same refl

-- What holds of the cell at opening, and of that of each write, holds of the cell after some writes.
pub cells_after_tells : (tag : Tagger) (P : Cell → Type 0) (g : Geometry) (base : ℕ → Cell) (writes : List BlockWrite) (b : ℕ) → P (base b)
    → ((w : BlockWrite) → w.block ≡ b → IsBlockWrite g w → P (written_cell tag w)) → AllByRecursion (IsBlockWrite g) writes → P (cells_after tag base writes b)
cells_after_tells tag P g base [] b first later all = first
cells_after_tells tag P g base (w ∷ writes) b first later all =
    let one : P (cells_after tag base (w ∷ []) b) = elim (cases_eq w.block b) [
      | inl same ↦ subst P (sym (cells_after-push_same tag base [] w b same)) (later w same all.0)
      | inr other ↦ subst P (sym (cells_after-push_other tag base [] w b other)) first
    ] in
    subst P (sym (cells_after-append tag base (w ∷ []) writes b)) (cells_after_tells tag P g (cells_after tag base (w ∷ [])) writes b one later all.1)

-- ---- what reads give of the data

-- Where the data read the same, they are as before.
pub ReadsData-same : (g : Geometry) (cells : ℕ → Cell) (first c : Content)
    → ((b k : ℕ) → b < g.blocks → k < g.shape.spb → last_image c (data_at g b + k) ≡ last_image first (data_at g b + k)) → ReadsData g cells first → ReadsData g cells c
ReadsData-same g cells first c same reads = record { each = λ b k low k_low. same b k low k_low ∙ reads.each b k low k_low }

-- Calls that write tags alone leave the data as they read.
pub KeepsOthers-data : (g : Geometry) (sectors : ℕ) (old new : Content) → IsGeometry g sectors → KeepsOthers g old new → (b k : ℕ) → b < g.blocks → k < g.shape.spb
    → last_image new (data_at g b + k) ≡ last_image old (data_at g b + k)
KeepsOthers-data g sectors old new geometry keeps b k low k_low =
    keeps.each (data_at g b + k) (λ c i c_low i_low same. tag_byte-no_data g sectors c b i k geometry i_low k_low (sym same))
