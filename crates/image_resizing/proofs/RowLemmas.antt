-- The data of blocks lie in the order of the blocks, so that the last block of a row tells of all.
use Rattle.std.proofs.Common.{◌≡◌, ℕ, zero, suc, ◌+◌, ◌-◌, ◌*◌, ◌≤◌, ap, arith}
use Rattle.std.proofs.Math.Nat.{add-mul}
use Rattle.image_model.specs.Geometry.{Geometry, IsGeometry, data_at}
use Rattle.image_model.proofs.GeometryLemmas.{data_in_order, placed}

module _ (g : Geometry) (sectors : ℕ) (has : IsGeometry g sectors) where
  -- A block behind another one lies at least as far behind it as the blocks between them take.
  data_behind : (first i : ℕ) → data_at g first + i * g.shape.spb ≤ data_at g (first + i)
  data_behind first zero = let same : data_at g (first + 0) ≡ data_at g first = ap (data_at g) (omega arith) in omega (arith, same)
  data_behind first (suc i) =
      let before = data_behind first i in
      let next = data_in_order g (first + i) (first + suc i) (placed g sectors (first + i) has) (placed g sectors (first + suc i) has) (omega arith) in
      let rows : (1 + i) * g.shape.spb ≡ 1 * g.shape.spb + i * g.shape.spb = add-mul 1 i g.shape.spb in
      omega (arith, before, next, rows)

  -- Where the last block lies as far behind the first one as the blocks before it take, so does each.
  pub row_by_last : (first last : ℕ) → data_at g (first + last) ≡ data_at g first + last * g.shape.spb → (i : ℕ) → i ≤ last → data_at g (first + i) ≡ data_at g first + i * g.shape.spb
  row_by_last first last far i low =
      let before = data_behind first i in
      let rest = data_behind (first + i) (last - i) in
      let end : data_at g (first + i + (last - i)) ≡ data_at g (first + last) = ap (data_at g) (omega (arith, low)) in
      let all : last * g.shape.spb ≡ (i + (last - i)) * g.shape.spb = ap (λ n. n * g.shape.spb) (omega (arith, low)) in
      let rows : (i + (last - i)) * g.shape.spb ≡ i * g.shape.spb + (last - i) * g.shape.spb = add-mul i (last - i) g.shape.spb in
      omega (arith, before, rest, end, all, rows, far)
