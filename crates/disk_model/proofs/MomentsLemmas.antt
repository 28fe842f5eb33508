-- Calls in a row and turns of a loop: what each adds, joined to what all add.
use Rattle.std.proofs.Common.{◌≡◌, ◌⊎◌, inl, inr, ⊎_elim, ℕ, ◌+◌, ◌<◌, List, [], ◌∷◌, ◌++◌, length, take, get_or, refl, sym, ◌∙◌, ap, subst, append_assoc, add-one, Option, Some, None}
use Rattle.std.specs.List.{Contains, AllByRecursion, fold}
use Rattle.std.specs.Option.{ForSome, option_map}
use Rattle.std.proofs.lemmas.Option.{same_Some}
use Rattle.std.proofs.lemmas.List.Sums.{fold_more}
use Rattle.disk_model.specs.Disk.{Content, Image, IsImage, EachImage, last_image, AddsSome, newest_only, OnlyAdds, IsOfRun}
use Rattle.disk_model.specs.Moments.{content_now, EachMoment, FromStart, after_turns}
use Rattle.disk_model.proofs.DiskLemmas.{OnlyAdds-join, OnlyAdds-wider, OnlyAdds-image, AddsSome-adds, newest_only-adds}

all_append : (P : Content → Type 0) (xs ys : List Content) → AllByRecursion P xs → AllByRecursion P ys → AllByRecursion P (xs ++ ys)
all_append P [] ys p q = q
all_append P (x ∷ xs) ys p q = (p.0, all_append P xs ys p.1 q)

all_weaker : (P Q : Content → Type 0) → ((c : Content) → P c → Q c) → (xs : List Content) → AllByRecursion P xs → AllByRecursion Q xs
all_weaker P Q f [] p = tt
all_weaker P Q f (x ∷ xs) p = (f x p.0, all_weaker P Q f xs p.1)

-- ---- any fact on the contents

-- No moment has passed.
pub no_moment : (h : List Content) (P : Content → Type 0) → EachMoment h h P
no_moment h P = record { since = []; grows = refl; each = tt }

-- A call that keeps the moments, as a read does, has added none.
pub EachMoment-kept : {a b : List Content} (P : Content → Type 0) → b ≡ a → EachMoment a b P
EachMoment-kept P e = record { since = []; grows = e; each = tt }

-- One call after the other.
pub EachMoment-then : {a b c : List Content} {P : Content → Type 0} → EachMoment a b P → EachMoment b c P → EachMoment a c P
EachMoment-then {a} {b} {c} {P} first second = record {
  since = second.since ++ first.since;
  grows = second.grows ∙ ap (λ h. second.since ++ h) first.grows ∙ sym (append_assoc second.since first.since a);
  each = all_append P second.since first.since second.each first.each;
}

pub EachMoment-weaker : {a b : List Content} {P Q : Content → Type 0} → ((c : Content) → P c → Q c) → EachMoment a b P → EachMoment a b Q
EachMoment-weaker {a} {b} {P} {Q} f m = record { since = m.since; grows = m.grows; each = all_weaker P Q f m.since m.each }

-- What every moment has, and the start too, the content now has.
pub content_at_end : {a b : List Content} {P : Content → Type 0} → EachMoment a b P → ForSome (content_now a) P → ForSome (content_now b) P
content_at_end {a} {b} {P} m start c told = last m.since m.each (subst (λ (h : List Content). content_now h ≡ Some c) m.grows told)
  where
    last : (since : List Content) → AllByRecursion P since → content_now (since ++ a) ≡ Some c → P c
    last [] each e = start c e
    last (x ∷ since) each e = subst P (same_Some _ _ e) each.0

-- ---- facts on the content at the start and a later one

-- What follows, where the content at the start is told.
pub FromStart-weaker : (h : List Content) (P Q : Content → Content → Type 0) → ((start c : Content) → content_now h ≡ Some start → P start c → Q start c) → (c : Content) → FromStart h P c → FromStart h Q c
FromStart-weaker [] P Q f c p = p
FromStart-weaker (start ∷ h) P Q f c p = f start c refl p

-- A call that speaks of the content at its own start, after one that speaks of that at the start of both. A write that depends
-- on what was read before joins by this: the bytes that it adds are a function of `start`.
module _ (P Q : Content → Content → Type 0) where
  joined : (a since b : List Content) → b ≡ since ++ a → AllByRecursion (FromStart a P) since
      → ((start middle c : Content) → content_now a ≡ Some start → content_now b ≡ Some middle → (middle ≡ start) ⊎ P start middle → Q middle c → P start c)
      → (c : Content) → FromStart b Q c → FromStart a P c
  joined [] [] b e each joins c q = absurd (subst (λ (h : List Content). FromStart h Q c) e q)
  joined [] (x ∷ since) b e each joins c q = absurd each.0
  joined (start ∷ a) [] b e each joins c q = joins start start c refl (ap content_now e) (inl refl) (subst (λ (h : List Content). FromStart h Q c) e q)
  joined (start ∷ a) (x ∷ since) b e each joins c q = joins start x c refl (ap content_now e) (inr each.0) (subst (λ (h : List Content). FromStart h Q c) e q)

  pub EachMoment-join : {a b c : List Content} → EachMoment a b (FromStart a P) → EachMoment b c (FromStart b Q)
      → ((start middle later : Content) → content_now a ≡ Some start → content_now b ≡ Some middle → (middle ≡ start) ⊎ P start middle → Q middle later → P start later)
      → EachMoment a c (FromStart a P)
  EachMoment-join {a} {b} {c} first second joins = EachMoment-then first (EachMoment-weaker (joined a first.since b first.grows first.each joins) second)

-- ---- what may be added, for callers

-- A write adds nothing but what its sectors are.
pub write_adds : {a b : List Content} (W : ℕ → List ℕ → Type 0) (at : ℕ) (bytes : List ℕ) → EachMoment a b (FromStart a (AddsSome at bytes)) → ((s : ℕ) (x : List ℕ) → IsOfRun at bytes s x → W s x) → EachMoment a b (FromStart a (OnlyAdds W))
write_adds {a} W at bytes m f =
    EachMoment-weaker (FromStart-weaker a (AddsSome at bytes) (OnlyAdds W) (λ start c told some. OnlyAdds-wider (IsOfRun at bytes) W f start c (AddsSome-adds at bytes start c some))) m

-- A sync adds nothing.
pub sync_adds : {a b : List Content} (W : ℕ → List ℕ → Type 0) → ((c : Content) → content_now a ≡ Some c → IsImage c (last_image c)) → EachMoment a b (FromStart a (λ start c. c ≡ newest_only start)) → EachMoment a b (FromStart a (OnlyAdds W))
sync_adds {a} W reads m =
    EachMoment-weaker (FromStart-weaker a (λ start c. c ≡ newest_only start) (OnlyAdds W) (λ start c told is. subst (λ (d : Content). OnlyAdds W start d) (sym is) (newest_only-adds W start (reads start told)))) m

-- One call after the other, and one turn of a loop after those before.
pub adds_then : {a b c : List Content} (W : ℕ → List ℕ → Type 0) → EachMoment a b (FromStart a (OnlyAdds W)) → EachMoment b c (FromStart b (OnlyAdds W)) → EachMoment a c (FromStart a (OnlyAdds W))
adds_then W first second = EachMoment-join (OnlyAdds W) (OnlyAdds W) first second
    (λ start middle later told told_middle so_far adds. ⊎_elim
    (λ e. subst (λ (c : Content). OnlyAdds W c later) e adds)
    (λ p. OnlyAdds-join W start middle later p adds) so_far)

-- What is allowed to a part is allowed to the whole.
pub adds_wider : {a b : List Content} (W V : ℕ → List ℕ → Type 0) → ((s : ℕ) (x : List ℕ) → W s x → V s x) → EachMoment a b (FromStart a (OnlyAdds W)) → EachMoment a b (FromStart a (OnlyAdds V))
adds_wider {a} W V f m = EachMoment-weaker (FromStart-weaker a (OnlyAdds W) (OnlyAdds V) (λ start c told adds. OnlyAdds-wider W V f start c adds)) m

-- What may be added depends on the content at the start, as where a sector is read, changed and written.
pub adds_told : {a b : List Content} (W : Content → ℕ → List ℕ → Type 0) (V : ℕ → List ℕ → Type 0) → ((start : Content) → content_now a ≡ Some start → (s : ℕ) (x : List ℕ) → V s x → W start s x)
    → EachMoment a b (FromStart a (OnlyAdds V)) → EachMoment a b (FromStart a (λ start. OnlyAdds (W start) start))
adds_told {a} W V f m = EachMoment-weaker (FromStart-weaker a (OnlyAdds V) (λ start. OnlyAdds (W start) start) (λ start c told adds. OnlyAdds-wider V (W start) (f start told) start c adds)) m

-- Each moment's content has what each content has that only adds what W allows to the one at the start.
pub each_content : {a b : List Content} (W : ℕ → List ℕ → Type 0) (P : Content → Type 0) → ForSome (content_now a) (λ start. (c : Content) → OnlyAdds W start c → P c) → EachMoment a b (FromStart a (OnlyAdds W)) → EachMoment a b P
each_content {a} W P f m = EachMoment-weaker (λ c. at_once a f c) m
  where
    at_once : (h : List Content) → ForSome (content_now h) (λ start. (c : Content) → OnlyAdds W start c → P c) → (c : Content) → FromStart h (OnlyAdds W) c → P c
    at_once [] f c p = absurd p
    at_once (start ∷ h) f c p = f start refl c p

-- Each image of each moment has what each image has that takes a candidate of the start, or what W allows, at every sector.
pub each_image : {a b : List Content} (W : ℕ → List ℕ → Type 0) (P : Image → Type 0) → ForSome (content_now a) (λ start. (image : Image) → ((s : ℕ) → Contains (start s) (image s) ⊎ W s (image s)) → P image)
    → EachMoment a b (FromStart a (OnlyAdds W)) → EachMoment a b (EachImage P)
each_image W P f m = each_content W (EachImage P) (λ start told c adds image is. f start told image (OnlyAdds-image W start c image adds is)) m

-- ---- the content after a call and after turns of a loop, for callers

-- What a call did to the content, where it is the same only for the content that is told, as where the call wrote what it had read.
pub option_map-told : (f g : Content → Content) (now : Option Content) → ForSome now (λ c. f c ≡ g c) → option_map f now ≡ option_map g now
option_map-told f g None same = refl
option_map-told f g (Some c) same = ap (λ (x : Content). Some x) (same c refl)

-- One turn more of a loop over a list.
pub turn_of_list : {X : Type 0} (step : Content → X → Content) (xs : List X) (i : ℕ) (d : X) (start so_far now : Option Content) → i < length xs
    → so_far ≡ option_map (λ c. fold step c (take i xs)) start → now ≡ option_map (λ c. step c (get_or xs i d)) so_far
    → now ≡ option_map (λ c. fold step c (take (i + 1) xs)) start
turn_of_list step xs i d None so_far now below e f = f ∙ ap (option_map (λ c. step c (get_or xs i d))) e
turn_of_list step xs i d (Some start) so_far now below e f =
    f ∙ ap (option_map (λ c. step c (get_or xs i d))) e ∙ ap (λ (c : Content). Some c) (sym (fold_more step start xs i d below))

-- The same, told by the item that the turn was given.
pub turn_of_item : {X : Type 0} (step : Content → X → Content) (xs : List X) (i : ℕ) (x : X) (start so_far now : Option Content) → i < length xs → x ≡ get_or xs i x
    → so_far ≡ option_map (λ c. fold step c (take i xs)) start → now ≡ option_map (λ c. step c x) so_far
    → now ≡ option_map (λ c. fold step c (take (i + 1) xs)) start
turn_of_item {X} step xs i x start so_far now below is e f = turn_of_list step xs i x start so_far now below e (f ∙ ap (λ (y : X). option_map (λ c. step c y) so_far) is)

-- One turn more of a loop over a range from 0 on.
pub turn_of_range : (step : ℕ → Content → Content) (k : ℕ) (start so_far now : Option Content) → so_far ≡ option_map (after_turns step k) start → now ≡ option_map (step k) so_far
    → now ≡ option_map (after_turns step (k + 1)) start
turn_of_range step k None so_far now e f = f ∙ ap (option_map (step k)) e
turn_of_range step k (Some start) so_far now e f = rw add-one (f ∙ ap (option_map (step k)) e)
