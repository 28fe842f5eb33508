use Rattle.std.proofs.Common.{◌≡◌, ℕ, ◌*◌, ◌-◌, List, ap, subst, sym, ◌∙◌, arith, rules}
use Rattle.std.proofs.lemmas.Bool.{false≢true}
use Rattle.std.proofs.lemmas.Slice.Eq.{bytes_eq-Decides}
use Rattle.disk_model.specs.Disk.{Content, Reads}
use Rattle.disk_model.specs.Moments.{HasNow}
use Rattle.image_model.specs.Geometry.{Geometry, Shape, data_at}
use Rattle.image_model.specs.Sectors.{piece}
use Rattle.replay.proofs.InPlaceLemmas.{read_there}
use Rattle.replay.proofs.ReadPlacesLemmas.{shown_place}
use Rattle.replay.proofs.place_run.PlaceRun.is_in_place.Goals as goal

pub returns-clause-told : goal.returns-clause-told
returns-clause-told g c =
    let own = c.args.tags.now.geometry in
    let old = g.D.Disk.moments c.args.disk.now in
    let new = c.show.new.self in
    let spb : c.shape-spb.result.spb ≡ own.shape.spb = ap (λ (x : Shape). x.spb) c.shape-spb.ensures.shape ∙ ap (λ (x : Geometry). x.shape.spb) c.requires.geometry in
    let at : c.data_at-at.result ≡ data_at own c.args.block = c.data_at-at.ensures ∙ ap (λ (x : Geometry). data_at x c.args.block) c.requires.geometry in
    let found : List ℕ = piece new.bytes (512 * (data_at own c.args.block - new.first)) (512 * own.shape.spb) in
    let found_is : c.run.result.now ≡ found = c.run.ensures ∙ ap (λ (n : ℕ). piece new.bytes (512 * (n - new.first)) (512 * c.shape-spb.result.spb)) at ∙ ap (λ (n : ℕ). piece new.bytes (512 * (data_at own c.args.block - new.first)) (512 * n)) spb in
    let shown = shown_place own (g.D.Disk.identity c.args.disk.now).sectors c.args.block new (g.D.Disk.moments c.show.new.disk) c.requires.store.geometry c.in_ok-show.ensures.shown c.show.ensures.run in
    let reads : HasNow (Reads (data_at own c.args.block) found) old = subst (λ (m : List Content). HasNow (Reads (data_at own c.args.block) found) m) c.show.ensures.kept shown.1 in
    record {
      there = λ is.
          let same : c.run.result.now ≡ c.args.bytes.now = let e = c.eq-is.ensures in search rules in
          subst (λ (xs : List ℕ). HasNow (Reads (data_at own c.args.block) xs) old) (sym found_is ∙ same) reads;
      elsewhere = λ is start told there.
          let same : found ≡ c.args.bytes.now = read_there own c.args.block c.args.bytes.now found start shown.0 there (λ k low. reads start told k (omega (arith, low, shown.0))) in
          absurd (false≢true (sym is ∙ c.eq-is.ensures ∙ (bytes_eq-Decides c.run.result.now c.args.bytes.now).1 (found_is ∙ same)));
    }
