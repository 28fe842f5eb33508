-- What the words of the contracts say of an image, and to the laws of the modes.
use Rattle.std.proofs.Common.{◌≡◌, inl, inr, ⊎_elim, ℕ, ◌/◌, ◌<◌, ◌==◌, ◌&&◌, Bool, true, false, nat_le, if◌then◌else◌, List, Option, Some, None, refl, sym, ◌∙◌, ap, subst, arith, slice_index}
use Rattle.std.specs.Option.{option_map}
use Rattle.std.proofs.lemmas.Bool.{and_from, and_parts, cases_eq, le-leb, ne_eqb, true≢false}
use Rattle.disk_model.specs.Disk.{Content, OnlyAdds, last_image}
use Rattle.disk_model.proofs.DiskLemmas.{OnlyAdds-wider}
use Rattle.disk_model.proofs.MomentsLemmas.{EachMoment-weaker, FromStart-weaker}
use Rattle.image_model.specs.Bitmap.{awaits, region_awaits}
use Rattle.image_model.specs.Cells.{placed_cells_of}
use Rattle.image_model.specs.Geometry.{Geometry, region_of}
use Rattle.image_model.proofs.BelowLemmas.{any_same}
use Rattle.image_model.proofs.BitmapLemmas.{awaits-bitmap, awaits-journal}
use Rattle.image_model.proofs.Regions.{region_of-lt}
use Rattle.device_model.specs.History.{Tagger}
use Rattle.place_model.specs.Tags.{IsOfTags}
use Rattle.direct_laws.specs.CallLaws.{AddsTags}
use Rattle.bitmap_laws.specs.CallLaws.{region_tags}
use Rattle.bitmap_laws.specs.ServeLaws.{Recalculates}
use Rattle.dirty_bitmap.specs.Regions.{has_region}
use Rattle.hmac_tag.specs.TagMaker.{TagRule}
use Rattle.recalculation.specs.declared.left.Left.{Left}
use Rattle.recalculation.specs.declared.places.Places.{Places}
use Rattle.recalculation.specs.Rule.{tagger_by}
use Rattle.recalculation.specs.Awaiting.{AwaitingRegions, awaiting_blocks, awaiting_of, is_left, left_blocks, opening_blocks}
use Rattle.recalculation.specs.Places.{awaits_from}
use Rattle.recalculation.specs.Taking.{GivesBetween}
use Rattle.recalculation.proofs.AwaitingLemmas.{position_blocks}
use Rattle.recalculation.specs.Laws.{BitmapBlocksLaw, OpenedBitsLaw, OpenedPositionLaw, PositionBlocksLaw, SameBlocksLaw, SameMomentsLaw}

-- ---- a recalculation

-- The tags are the same by each test that tells the region's blocks alike.
region_tags-same : (tag : Tagger) (g : Geometry) (one other : ℕ → Bool) (region : ℕ) (c : Content) (tags : ℕ → List ℕ) (b : ℕ) → (region_of g b ≡ region → one b ≡ other b)
    → region_tags tag g one region c tags b ≡ region_tags tag g other region c tags b
region_tags-same tag g one other region c tags b same = elim (cases_eq (region_of g b) region) [
  | inl is ↦ ap (λ (t : Bool). if region_of g b == region && t then tag b (placed_cells_of g (last_image c) b).bytes else tags b) (same is)
  | inr out ↦ rw (ne_eqb (region_of g b) region out) refl
]

-- Bytes of the old tags and the new ones are so of equal ones.
of_same : (g : Geometry) (old one other : ℕ → List ℕ) (s : ℕ) (x : List ℕ) → ((b : ℕ) → b < g.blocks → one b ≡ other b) → IsOfTags g old one s x → IsOfTags g old other s x
of_same g old one other s x same of = record {
  whole = of.whole;
  block = of.block;
  byte = of.byte;
  block_low = of.block_low;
  byte_low = of.byte_low;
  is = of.is;
  each = λ b i low i_low there. ⊎_elim inl (λ e. inr (e ∙ ap (λ (t : List ℕ). slice_index t i) (same b low))) (of.each b i low i_low there);
}

-- So is what a recalculation adds,
pub same_moments_law : SameMomentsLaw
same_moments_law tag g one other region tags a b same adds =
    EachMoment-weaker (FromStart-weaker a (λ start. OnlyAdds (IsOfTags g (tags start) (region_tags tag g one region start (tags start))) start)
    (λ start. OnlyAdds (IsOfTags g (tags start) (region_tags tag g other region start (tags start))) start)
    (λ start c told some. OnlyAdds-wider (IsOfTags g (tags start) (region_tags tag g one region start (tags start))) (IsOfTags g (tags start) (region_tags tag g other region start (tags start)))
    (λ s x of. of_same g (tags start) _ _ s x (λ n low. region_tags-same tag g one other region start (tags start) n (same n low)) of) start c some)) adds

-- what a store gives where it fails,
pub between_same : (tag : Tagger) (g : Geometry) (one other : ℕ → Bool) (region : ℕ) (tags now : Content → ℕ → List ℕ) (a b : List Content) → ((n : ℕ) → n < g.blocks → region_of g n ≡ region → one n ≡ other n)
    → GivesBetween g tags (λ c. region_tags tag g one region c (tags c)) now a b → GivesBetween g tags (λ c. region_tags tag g other region c (tags c)) now a b
between_same tag g one other region tags now a b same gives = record {
  each = λ start told c told_c n i low i_low. ⊎_elim inl
      (λ e. inr (e ∙ ap (λ (t : List ℕ). slice_index t i) (region_tags-same tag g one other region start (tags start) n (same n low))))
      (gives.each start told c told_c n i low i_low);
}

-- and the whole.
pub same_blocks_law : SameBlocksLaw
same_blocks_law tag g one other region tags now a b same takes = record {
  image = takes.image;
  adds = same_moments_law tag g one other region tags a b same takes.adds;
  others = takes.others;
  gives = λ start told c told_c n low. takes.gives start told c told_c n low ∙ region_tags-same tag g one other region start (tags start) n (same n low);
}

pub bitmap_blocks_law : BitmapBlocksLaw
bitmap_blocks_law a region b first waits is = and_from _ _ (ap (awaiting_of a) is ∙ waits) (ap (λ n. nat_le n b) first ∙ le-leb 0 b (omega arith))

pub position_blocks_law : PositionBlocksLaw
position_blocks_law s a region b some flag first waits is =
    ap (λ (t : Bool). t && nat_le a.first b) (ap (awaiting_of a) is ∙ waits)
    ∙ ap (λ (n : ℕ). nat_le n b) first
    ∙ sym (ap (λ (t : Bool). t && nat_le (s.recalc_sector / a.geometry.shape.spb) b) flag)
    ∙ sym (position_blocks s a.geometry some b)

-- ---- at opening

pub opened_bits_law : OpenedBitsLaw
unfolding region_awaits
opened_bits_law s g bits image flag same =
    let blocks : (b : ℕ) → b < g.blocks → opening_blocks s g (Some bits) b ≡ awaits s g image b = λ b low. same (region_of g b) (region_of-lt g b low) ∙ sym (awaits-bitmap s g image b flag) in
    (λ region low. any_same g.blocks _ _ (λ b b_low. ap (λ (t : Bool). region_of g b == region && t) (blocks b b_low)), blocks)

pub opened_position_law : OpenedPositionLaw
unfolding region_awaits
opened_position_law s g image flag =
    let blocks : (b : ℕ) → b < g.blocks → opening_blocks s g None b ≡ awaits s g image b = λ b low. sym (awaits-journal s g image b flag) in
    (λ region low. any_same g.blocks _ _ (λ b b_low. ap (λ (t : Bool). region_of g b == region && t) (blocks b b_low)), blocks)

-- ---- what is left

-- Where a region is not left none of its blocks awaits,
pub rests_none : (g : Geometry) (first : ℕ) (left : ℕ → Bool) (region : ℕ) (has : Bool) → has ≡ left region → has ≡ false → (b : ℕ) → b < g.blocks → region_of g b ≡ region → left_blocks g first left b ≡ true → ⊥
rests_none g first left region has e clear b low is waits =
    true≢false (sym (and_parts (left (region_of g b)) (awaits_from first b) waits).0 ∙ ap left is ∙ sym e ∙ clear)

-- and where it is, those do that are not below the first.
pub same_left : (g : Geometry) (first : ℕ) (left : ℕ → Bool) (region : ℕ) (has : Bool) → has ≡ left region → has ≡ true → (b : ℕ) → b < g.blocks → region_of g b ≡ region → awaits_from first b ≡ left_blocks g first left b
same_left g first left region has e set b low is =
    sym (ap (λ (t : Bool). t && awaits_from first b) (ap left is ∙ sym e ∙ set))

-- A recalculation over what is left is one over what a contract sees.
module _ (rule : TagRule) (region : ℕ) (tags : Content → ℕ → List ℕ) (a b : List Content) (places : Places) (left : Option Left) (v : AwaitingRegions)
    (view : let seen : AwaitingRegions = record { geometry = places.geometry; first = places.first; left = option_map (λ (l : Left). l.set) left } in seen ≡ v) where
  pub seen_taken : (now : Content → ℕ → List ℕ) (l : Left) → left ≡ Some l → Recalculates (tagger_by rule places.geometry) places.geometry (left_blocks places.geometry places.first (has_region l.set)) region tags now a b
      → Recalculates (tagger_by rule v.geometry) v.geometry (awaiting_blocks v) region tags now a b
  seen_taken now l is taken =
      subst (λ (x : AwaitingRegions). Recalculates (tagger_by rule x.geometry) x.geometry (awaiting_blocks x) region tags now a b) view
      (subst (λ (o : Option Left). Recalculates (tagger_by rule places.geometry) places.geometry (left_blocks places.geometry places.first (is_left (option_map (λ (k : Left). k.set) o))) region tags now a b) (sym is) taken)

  pub seen_adds : (l : Left) → left ≡ Some l → AddsTags places.geometry tags (λ c. region_tags (tagger_by rule places.geometry) places.geometry (left_blocks places.geometry places.first (has_region l.set)) region c (tags c)) a b
      → AddsTags v.geometry tags (λ c. region_tags (tagger_by rule v.geometry) v.geometry (awaiting_blocks v) region c (tags c)) a b
  seen_adds l is adds =
      subst (λ (x : AwaitingRegions). AddsTags x.geometry tags (λ c. region_tags (tagger_by rule x.geometry) x.geometry (awaiting_blocks x) region c (tags c)) a b) view
      (subst (λ (o : Option Left). AddsTags places.geometry tags (λ c. region_tags (tagger_by rule places.geometry) places.geometry (left_blocks places.geometry places.first (is_left (option_map (λ (k : Left). k.set) o))) region c (tags c)) a b) (sym is) adds)

  pub seen_between : (now : Content → ℕ → List ℕ) (l : Left) → left ≡ Some l → GivesBetween places.geometry tags (λ c. region_tags (tagger_by rule places.geometry) places.geometry (left_blocks places.geometry places.first (has_region l.set)) region c (tags c)) now a b
      → GivesBetween v.geometry tags (λ c. region_tags (tagger_by rule v.geometry) v.geometry (awaiting_blocks v) region c (tags c)) now a b
  seen_between now l is gives =
      subst (λ (x : AwaitingRegions). GivesBetween x.geometry tags (λ c. region_tags (tagger_by rule x.geometry) x.geometry (awaiting_blocks x) region c (tags c)) now a b) view
      (subst (λ (o : Option Left). GivesBetween places.geometry tags (λ c. region_tags (tagger_by rule places.geometry) places.geometry (left_blocks places.geometry places.first (is_left (option_map (λ (k : Left). k.set) o))) region c (tags c)) now a b) (sym is) gives)

  pub seen_nothing : left ≡ None → (n : ℕ) → awaiting_blocks v n ≡ false
  seen_nothing is n =
      subst (λ (x : AwaitingRegions). awaiting_blocks x n ≡ false) view
      (subst (λ (o : Option Left). left_blocks places.geometry places.first (is_left (option_map (λ (k : Left). k.set) o)) n ≡ false) (sym is) refl)
