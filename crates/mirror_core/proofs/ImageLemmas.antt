-- The laws of a mirror at the images of two disks.
use Rattle.std.proofs.Common.{◌≡◌, ℕ, zero, suc, List, [], ◌∷◌, take, refl, sym, ◌∙◌, ap, subst}
use Rattle.disk_model.specs.Disk.{Image}
use Rattle.device_model.specs.Cut.{MayBeLeftJournal}
use Rattle.device_model.specs.History.{Change, History, with_changes}
use Rattle.device_model.specs.Transcript.{BlockFormat}
use Rattle.mirror_model.specs.Calls.{call_changes}
use Rattle.mirror_model.specs.Cut.{MayBeLeftMirror}
use Rattle.mirror_model.specs.Mirror.{Asks, Takes, Does, Keeps, First, Second, MirrorChange, MirrorState, changes_on_first, changes_on_second, with_mirror_changes}
use Rattle.mirror_model.proofs.ChangeLemmas.{changes_on_first-is, changes_on_second-is}
use Rattle.mirror_laws.proofs.LawLemmas.{call_law, first_alone_law, flush_twin_law, level_twin_law, pair_law, second_alone_law, some_law}
use Rattle.place_model.specs.Format.{format_on}
use Rattle.place_model.specs.Opened.{blocks_of}
use Rattle.mirror_calls.specs.Leg.{LegOn}
use Rattle.mirror_calls.specs.State.{format_of}
use Rattle.mirror_core.specs.ImageLaws.{AreLeftOf, AreOnImages, FirstImageLaw, FlushImageLaw, LevelImageLaw, MomentsImageLaw, PairImageLaw, SecondImageLaw, SomeImageLaw, leg_cells}
use Rattle.mirror_core.specs.Stands.{MayBeLeftOf}

-- ---- an image of a leg

left_journal : (on : LegOn) (h : History) (image : Image) → on.format ≡ blocks_of (format_on on.key on.sectors on.entry) → MayBeLeftOf on h image
    → MayBeLeftJournal on.format.tag on.format.blocks h (leg_cells on image)
left_journal on h image own may =
    let same : blocks_of (format_on on.key on.sectors image) ≡ on.format = may.blocks ∙ sym own in
    subst (λ (f : BlockFormat). MayBeLeftJournal f.tag f.blocks h (leg_cells on image)) same may.left_is.left

first_left : (a b : LegOn) (h : History) (x : Image) → AreOnImages a b → MayBeLeftOf a h x → MayBeLeftJournal a.format.tag a.format.blocks h (leg_cells a x)
first_left a b h x on may = left_journal a h x on.first may

second_left : (a b : LegOn) (h : History) (y : Image) → AreOnImages a b → MayBeLeftOf b h y → MayBeLeftJournal b.format.tag a.format.blocks h (leg_cells b y)
second_left a b h y on may =
    subst (λ (n : ℕ). MayBeLeftJournal b.format.tag n h (leg_cells b y)) on.blocks (left_journal b h y on.second may)

both_left : (a b : LegOn) (m : MirrorState) (x y : Image) → AreLeftOf a b m x y → MayBeLeftMirror (format_of a b) m (leg_cells a x) (leg_cells b y)
both_left a b m x y are = record {
  a_left = first_left a b m.a.history x are.on are.first;
  b_left = second_left a b m.b.history y are.on are.second;
}

-- ---- some of the first changes of a leg

take_none : (made : ℕ) → take {A = Change} made [] ≡ []
take_none zero = refl
take_none (suc made) = refl

-- They are those of some of the first changes of the mirror.
pub record IsFrontOn (on : List MirrorChange → List Change) (changes : List MirrorChange) (made : ℕ) : Type 0 where
  pub count : ℕ
  pub is : on (take count changes) ≡ take made (on changes)

front_first : (changes : List MirrorChange) (made : ℕ) → IsFrontOn changes_on_first changes made
front_first [] made = record { count = 0; is = sym (take_none made) }
front_first (Does First change ∷ changes) zero = record { count = 0; is = refl }
front_first (Does First change ∷ changes) (suc made) =
    let rest = front_first changes made in
    record { count = suc rest.count; is = ap (λ (l : List Change). change ∷ l) rest.is }
front_first (Does Second change ∷ changes) made = let rest = front_first changes made in record { count = suc rest.count; is = rest.is }
front_first (Asks write ∷ changes) made = let rest = front_first changes made in record { count = suc rest.count; is = rest.is }
front_first (Takes leg ∷ changes) made = let rest = front_first changes made in record { count = suc rest.count; is = rest.is }
front_first (Keeps ∷ changes) made = let rest = front_first changes made in record { count = suc rest.count; is = rest.is }

front_second : (changes : List MirrorChange) (made : ℕ) → IsFrontOn changes_on_second changes made
front_second [] made = record { count = 0; is = sym (take_none made) }
front_second (Does Second change ∷ changes) zero = record { count = 0; is = refl }
front_second (Does Second change ∷ changes) (suc made) =
    let rest = front_second changes made in
    record { count = suc rest.count; is = ap (λ (l : List Change). change ∷ l) rest.is }
front_second (Does First change ∷ changes) made = let rest = front_second changes made in record { count = suc rest.count; is = rest.is }
front_second (Asks write ∷ changes) made = let rest = front_second changes made in record { count = suc rest.count; is = rest.is }
front_second (Takes leg ∷ changes) made = let rest = front_second changes made in record { count = suc rest.count; is = rest.is }
front_second (Keeps ∷ changes) made = let rest = front_second changes made in record { count = suc rest.count; is = rest.is }

first_history : (m : MirrorState) (changes : List MirrorChange) (made : ℕ) → (let front = front_first changes made in
    with_changes (take made (changes_on_first changes)) m.a.history ≡ (with_mirror_changes (take front.count changes) m).a.history)
first_history m changes made =
    let front = front_first changes made in
    ap (λ (l : List Change). with_changes l m.a.history) (sym front.is) ∙ sym (changes_on_first-is (take front.count changes) m)

second_history : (m : MirrorState) (changes : List MirrorChange) (made : ℕ) → (let front = front_second changes made in
    with_changes (take made (changes_on_second changes)) m.b.history ≡ (with_mirror_changes (take front.count changes) m).b.history)
second_history m changes made =
    let front = front_second changes made in
    ap (λ (l : List Change). with_changes l m.b.history) (sym front.is) ∙ sym (changes_on_second-is (take front.count changes) m)

-- ---- the laws

pub first_image_law : FirstImageLaw
first_image_law a b m x on within may block below kept =
    first_alone_law (format_of a b) m (leg_cells a x) within (first_left a b m.a.history x on may) block below kept

pub second_image_law : SecondImageLaw
second_image_law a b m y on within may block below kept =
    second_alone_law (format_of a b) m (leg_cells b y) within (second_left a b m.b.history y on may) block below kept

pub pair_image_law : PairImageLaw
pair_image_law a b m x y within are block below =
    pair_law (format_of a b) m (leg_cells a x) (leg_cells b y) within (both_left a b m x y are) block below

pub some_image_law : SomeImageLaw
some_image_law a b m x y within are block below some =
    some_law (format_of a b) m (leg_cells a x) (leg_cells b y) within (both_left a b m x y are) block below some

pub moments_image_law : MomentsImageLaw
moments_image_law a b m call a_made b_made x y on is a_may b_may block below =
    let f = format_of a b in
    let changes = call_changes f m call in
    (call_law f m call is).of (front_first changes a_made).count (front_second changes b_made).count (leg_cells a x) (leg_cells b y)
    (first_left a b _ x on (subst (λ (h : History). MayBeLeftOf a h x) (first_history m changes a_made) a_may))
    (second_left a b _ y on (subst (λ (h : History). MayBeLeftOf b h y) (second_history m changes b_made) b_may)) block below

pub flush_image_law : FlushImageLaw
flush_image_law a b m x y is are block below touched =
    flush_twin_law (format_of a b) m (leg_cells a x) (leg_cells b y) is (both_left a b _ x y are) block below touched

pub level_image_law : LevelImageLaw
level_image_law a b m x y is are block below some =
    level_twin_law (format_of a b) m (leg_cells a x) (leg_cells b y) is (both_left a b _ x y are) block below some
